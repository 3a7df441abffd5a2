pub mod Moments
pub mod Calling
pub mod Accepted
pub mod Always
pub mod Alike
pub mod Beginning
