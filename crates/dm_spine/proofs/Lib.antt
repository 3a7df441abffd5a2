pub mod Lists
pub mod Portions
pub mod Legality
pub mod Counts
pub mod Seats
pub mod Draws
pub mod Shares
pub mod Uses
