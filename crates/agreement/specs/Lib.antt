pub mod Given
pub mod Ends
pub mod Met
pub mod Agreed
