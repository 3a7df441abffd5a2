pub mod Words
pub mod Grammar
pub mod Stream
pub mod Session
pub mod Reading
pub mod Found
pub mod Holding
