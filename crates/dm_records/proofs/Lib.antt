pub mod StepForms
pub mod StepOnce
pub mod NameForms
pub mod LogForms
pub mod RowForms
pub mod RowOnce
pub mod Lengths
