pub mod Laws
pub mod Entries
pub mod NamespaceEntries
pub mod Patching
