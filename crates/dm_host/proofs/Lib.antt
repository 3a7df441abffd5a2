pub mod Moments
pub mod Outside
pub mod Told
mod Contents
mod Overlay
mod Kept
mod Either
mod Rotting
