pub mod Lookup
pub mod Names
pub mod Opcodes
pub mod Width
