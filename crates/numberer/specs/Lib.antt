pub mod Letters
pub mod Rows
pub mod Numbering
pub mod Answered
pub mod Printing
