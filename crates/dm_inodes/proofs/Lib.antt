pub mod Namings
pub mod Sizes
pub mod Entries
pub mod Seeking
