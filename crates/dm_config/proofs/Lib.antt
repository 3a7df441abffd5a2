pub mod Views
pub mod Serials
pub mod Rows
pub mod Growing
pub mod Reading
pub mod OneAnswer
