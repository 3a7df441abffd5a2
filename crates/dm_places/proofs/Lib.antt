pub mod Order
pub mod Heap
pub mod Found
pub mod First
pub mod Queued
pub mod Texts
pub mod OfVolumes
