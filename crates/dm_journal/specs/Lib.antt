pub mod Grammar
pub mod State
pub mod Load
pub mod Pair
