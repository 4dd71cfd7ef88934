pub mod Forms
pub mod Trials
