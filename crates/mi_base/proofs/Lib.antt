pub mod TextLemmas
pub mod LineLemmas
pub mod FlatLemmas
pub mod ArrayLemmas
pub mod TableLemmas
pub mod ReadLemmas
pub mod ImageLemmas
pub mod BaseLemmas
mod KnownLemmas
