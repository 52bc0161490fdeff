pub mod ByDigit
pub mod RightAligned
