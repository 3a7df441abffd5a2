mod Told
mod Outcome
mod Measured
mod Bodies
pub mod Four
mod Gates
pub mod Standing
mod Turning
mod Logging
mod Headers
pub mod Settling
mod Choosing
mod Rowing
pub mod Writing
pub mod Once
pub mod Meaning
pub mod Lending
