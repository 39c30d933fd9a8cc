pub mod BuildLemmas
pub mod RoundsLemmas
