pub mod Mounting
