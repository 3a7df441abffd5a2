pub mod Tables
pub mod Prepared
