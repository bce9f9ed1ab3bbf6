pub mod CellLemmas
pub mod NameLemmas
pub mod ReadLemmas
pub mod EditLemmas
pub mod RowLemmas
pub mod CallLemmas
pub mod CursorLemmas
mod AsLinesLaws
mod LookedLaws
