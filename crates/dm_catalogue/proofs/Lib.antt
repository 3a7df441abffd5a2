mod Texts
mod Summing
mod Placing
mod Loops
mod Moving
mod Weighing
pub mod Queueing
