pub mod Bitfiles
pub mod Steps
