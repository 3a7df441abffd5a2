pub mod CivilDays
pub mod Taking
pub mod Sending
