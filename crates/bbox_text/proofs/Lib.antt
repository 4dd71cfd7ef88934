pub mod Digits
pub mod Grown
pub mod Written
pub mod Fewest
pub mod Room
pub mod Answers
pub mod Examples
pub mod Spaces
