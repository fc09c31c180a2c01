pub mod Offsets
pub mod Fields
pub mod Soundness
pub mod Changes
pub mod MapRows
pub mod Given
