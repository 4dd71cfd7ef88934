pub mod Rects
pub mod Points
pub mod Refused
