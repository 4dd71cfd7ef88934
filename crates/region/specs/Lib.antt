pub mod CommonRegion
pub mod Region
pub mod Answers
pub mod Inside
