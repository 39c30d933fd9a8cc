pub mod Lending
pub mod Faults
pub mod Told
pub mod InMemory
pub mod Whole
pub mod formers
