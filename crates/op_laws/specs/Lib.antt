pub mod Bits
pub mod Orders
pub mod Powers
pub mod Sums
