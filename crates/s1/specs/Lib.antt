pub mod Circle
pub mod Reading
pub mod Answers
pub mod Places
pub mod Refusals
pub mod Devices
pub mod Rests
