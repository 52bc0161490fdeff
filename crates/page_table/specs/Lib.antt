pub mod Indexes
pub mod Sound
pub mod Free
pub mod Settled
pub mod Changes
