pub mod Boxes
pub mod Texts
