pub mod EffectLaws
pub mod StoreLaws
