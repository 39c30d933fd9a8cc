pub mod MatchLemmas
pub mod WalkLemmas
pub mod WeightLemmas
pub mod ShapedLemmas
pub mod FirstLemmas
