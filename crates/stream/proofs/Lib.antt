pub mod Streams
pub mod Answers
pub mod Laws
pub mod Settled
pub mod Every
pub mod Promises
