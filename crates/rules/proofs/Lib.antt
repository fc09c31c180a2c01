pub mod Planned
pub mod Bridge
pub mod CarryLaws
pub mod TakeLaws
pub mod SoundItems
pub mod CallLaws
