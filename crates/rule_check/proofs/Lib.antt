pub mod EvidenceLemmas
pub mod FileWeights
pub mod Refusals
pub mod Trials
