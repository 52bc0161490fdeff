pub mod Splits
pub mod Loads
