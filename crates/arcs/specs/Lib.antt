pub mod CommonArcs
pub mod Clipping
pub mod Kinds
pub mod Arrays
pub mod Inside
