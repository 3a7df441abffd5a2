pub mod Spans
pub mod TokensRise
