-- general facts
pub mod Options
pub mod Lists
pub mod LookUps
pub mod Counts
pub mod Texts
pub mod Times
-- files and entries
pub mod Held
pub mod LettingGo
-- zones in hand
pub mod DoubtedZones
-- copies, and what is published
pub mod AskedGroups
pub mod Assembled
pub mod KeptSound
