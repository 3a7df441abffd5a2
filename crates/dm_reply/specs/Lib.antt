pub mod Calendar
pub mod Text
pub mod Took
pub mod Sends
pub mod Fatal
