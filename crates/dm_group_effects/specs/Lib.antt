pub mod OfGroup
pub mod OnVolume
