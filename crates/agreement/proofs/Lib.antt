pub mod Ranges
pub mod Chains
pub mod MetTable
pub mod AgreementLaws
