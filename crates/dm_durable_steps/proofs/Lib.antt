pub mod Lists
pub mod Sets
pub mod Ends
pub mod Made
pub mod Begun
pub mod Dropping
pub mod Reading
pub mod Freed
