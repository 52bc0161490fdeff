pub mod TowardZero
