pub mod Agreement
pub mod Scripts
pub mod Tables
pub mod Talking
pub mod Words
