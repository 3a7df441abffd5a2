pub mod Plans
pub mod Looked
pub mod Taken
pub mod Follows
pub mod Events
pub mod Settled
