pub mod Onward
pub mod Times
pub mod RecordFinds
pub mod SizesRead
pub mod FileStages
pub mod FileChecks
pub mod FileAccepted
pub mod Spans
