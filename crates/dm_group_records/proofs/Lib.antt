pub mod KindForms
pub mod StepForms
pub mod StepOnce
pub mod OldForms
pub mod LogForms
pub mod Lengths
pub mod RowForms
pub mod PayloadForms
