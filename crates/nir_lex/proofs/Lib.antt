pub mod Order
pub mod Pulled
pub mod Sound
pub mod Spelled
pub mod Steps
pub mod Values
