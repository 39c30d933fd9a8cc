pub mod Meant
pub mod Options
pub mod Grown
pub mod FoundFor
pub mod SizeFaults
pub mod SizeFaultsLaws
