pub mod RectLists
pub mod PointLists
pub mod Doubles
pub mod Promises
