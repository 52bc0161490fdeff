pub mod Records
pub mod Gaps
pub mod GapsLemmas
pub mod RecordsLemmas
pub mod Stored
