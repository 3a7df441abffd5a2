pub mod Anew
pub mod Places
pub mod Zones
