pub mod Closed
pub mod FirstConf
pub mod Example
