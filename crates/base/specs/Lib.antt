pub mod Choice
pub mod Lists
pub mod Regions
pub mod Puts
