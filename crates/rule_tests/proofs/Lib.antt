pub mod BuildLemmas
pub mod NodesLemmas
