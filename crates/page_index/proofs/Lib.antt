mod Sounds
mod Frees
mod Faults
mod Meeting
