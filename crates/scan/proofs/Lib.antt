pub mod Boxes
pub mod Laws
pub mod Examples
pub mod Promises
