pub mod KeptBytes
pub mod Reaching
pub mod Fixed
pub mod Derived
pub mod Alike
pub mod Sentences
pub mod UselessBodies
