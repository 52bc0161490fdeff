pub mod Views
pub mod Counting
pub mod Bodies
pub mod Shape
pub mod Head
pub mod Tail
pub mod Marking
