pub mod Session
pub mod Stages
