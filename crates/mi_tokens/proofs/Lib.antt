pub mod LexemeLemmas
pub mod MeaningLemmas
pub mod ReadingLemmas
pub mod RunLemmas
mod SameLemmas
pub mod TokenLemmas
pub mod WholeLemmas
