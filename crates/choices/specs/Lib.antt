pub mod Choices
pub mod Given
