pub mod Along
pub mod Reads
pub mod There
