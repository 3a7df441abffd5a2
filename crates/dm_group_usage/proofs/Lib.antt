pub mod Lists
pub mod Layouts
pub mod Summing
pub mod ByWeight
pub mod Nearest
pub mod Listed
pub mod Ranges
