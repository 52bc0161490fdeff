pub mod Splitting
pub mod Loading
