pub mod SetLemmas
pub mod WalkLemmas
pub mod SourceLemmas
pub mod LinkLemmas
pub mod ClassLemmas
pub mod OptionLemmas
