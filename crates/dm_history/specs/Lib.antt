pub mod History
pub mod Alike
