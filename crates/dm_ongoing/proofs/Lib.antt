-- What stays while something is open.
pub mod SpansMoved
pub mod SpansParts
pub mod SpansAlong
pub mod TakenGrows
pub mod SpansStay
pub mod TokensLeft
pub mod TokensMade
pub mod TokensAlong
