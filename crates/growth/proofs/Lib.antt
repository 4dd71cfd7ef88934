pub mod RunningBox
pub mod Turns
pub mod Held
pub mod Laws
pub mod Made
pub mod Examples
pub mod Promises
pub mod Determined
