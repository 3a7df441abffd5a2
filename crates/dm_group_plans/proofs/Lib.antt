pub mod Lists
pub mod Written
pub mod Merging
pub mod Spelled
