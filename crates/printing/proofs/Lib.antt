pub mod Texts
pub mod Bounds
pub mod Lines
pub mod MapText
