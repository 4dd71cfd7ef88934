pub mod Entries
pub mod Lengths
pub mod FirstLaws
pub mod Inputs
pub mod Written
pub mod Told
