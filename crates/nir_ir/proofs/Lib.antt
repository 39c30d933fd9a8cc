pub mod FindLemmas
