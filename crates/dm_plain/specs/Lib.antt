pub mod Namespace
pub mod Patching
pub mod Steps
