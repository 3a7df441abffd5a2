pub mod Comes
pub mod Begun
pub mod Rise
