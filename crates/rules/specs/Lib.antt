pub mod Plans
pub mod Bytes
pub mod Numbers
pub mod Results
pub mod Given
