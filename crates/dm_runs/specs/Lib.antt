pub mod Images
pub mod Reads
pub mod Journals
pub mod There
