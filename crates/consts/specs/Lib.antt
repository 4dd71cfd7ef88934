pub mod Refusal
pub mod Answer
pub mod Reading
pub mod Constants
pub mod Remainder
