pub mod Records
pub mod RecordsLemmas
