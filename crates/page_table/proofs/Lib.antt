pub mod Elements
pub mod Held
pub mod Users
pub mod Settling
pub mod Changing
pub mod Editing
pub mod Room
