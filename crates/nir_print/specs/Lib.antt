pub mod BlockGroups
pub mod Naming
pub mod Renumber
pub mod RenumberedItems
pub mod RoundTrip
pub mod Sample
pub mod Text
