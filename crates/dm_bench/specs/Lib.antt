pub mod Systems
pub mod Named
pub mod Answers
pub mod Entries
pub mod Drawing
pub mod Looks
