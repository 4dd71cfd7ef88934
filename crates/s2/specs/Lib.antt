pub mod Zone
pub mod Reading
pub mod Answers
pub mod Places
pub mod Devices
pub mod Refusals
