mod BufferLemmas
mod EndingLemmas
pub mod MatchedLemmas
mod NumberLemmas
mod ServingLemmas
mod TextLemmas
pub mod ValueLemmas
pub mod TurnLemmas
