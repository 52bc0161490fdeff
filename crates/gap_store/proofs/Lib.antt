pub mod Steps
pub mod Moved
pub mod Written
