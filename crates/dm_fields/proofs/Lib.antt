pub mod Bytes
pub mod CopyForms
pub mod Puts
pub mod Absent
pub mod Items
pub mod Tagged
pub mod PartsAbsent
pub mod Whole
