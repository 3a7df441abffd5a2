pub mod EveryLawful
pub mod NamesSame
pub mod OpeningsBegin
