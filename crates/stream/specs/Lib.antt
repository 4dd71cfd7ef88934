pub mod Stream
pub mod Answers
pub mod Bytes
pub mod Inside
