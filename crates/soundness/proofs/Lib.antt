pub mod SoundMemos
pub mod SoundRegions
pub mod SoundZeros
