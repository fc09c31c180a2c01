pub mod FromFiles
pub mod Demands
pub mod Sentences
pub mod UselessBodies
