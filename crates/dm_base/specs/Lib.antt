pub mod Hexadecimal
pub mod Limits
pub mod Naming
pub mod Prefix
