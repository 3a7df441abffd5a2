pub mod Entering
pub mod Pasts
mod Looking
