pub mod Relative
pub mod Angles
pub mod Heights
pub mod Rises
pub mod Boxes
pub mod Promises
