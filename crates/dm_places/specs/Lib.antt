pub mod Order
pub mod Queue
pub mod Chunks
pub mod Queues
