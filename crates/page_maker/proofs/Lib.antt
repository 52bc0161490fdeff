pub mod Rows
pub mod Items
pub mod Underway
pub mod Making
