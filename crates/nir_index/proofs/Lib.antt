pub mod PlaceLemmas
pub mod TallyLemmas
pub mod NotedLemmas
pub mod IndexLemmas
pub mod ExchangeLemmas
