pub mod CommuteLemmas
pub mod CopyLemmas
pub mod SideLemmas
