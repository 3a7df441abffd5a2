pub mod Every
pub mod Openings
