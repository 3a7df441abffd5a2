pub mod Value
pub mod Rows
pub mod Groups
pub mod Config
pub mod Top
pub mod Misses
pub mod Numbers
pub mod Space
