pub mod WasLive
pub mod Missing
pub mod Away
