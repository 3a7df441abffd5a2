pub mod Logs
pub mod Payloads
