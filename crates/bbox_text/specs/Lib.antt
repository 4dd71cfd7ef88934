pub mod Grammar
pub mod Text
