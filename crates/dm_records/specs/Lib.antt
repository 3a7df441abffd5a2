pub mod Names
pub mod NamesOnce
pub mod Steps
pub mod Rows
pub mod LentRows
pub mod Payloads
pub mod Limits
