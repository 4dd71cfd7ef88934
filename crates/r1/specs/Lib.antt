pub mod Line
pub mod Reading
pub mod Answers
pub mod Places
