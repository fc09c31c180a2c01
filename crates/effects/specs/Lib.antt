pub mod Changes
pub mod Given
