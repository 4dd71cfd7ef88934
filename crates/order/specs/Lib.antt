pub mod Key
pub mod Choice
