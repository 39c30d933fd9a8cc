pub mod EditedLemmas
pub mod ListedLemmas
pub mod OpcodeLemmas
pub mod UsersLemmas
