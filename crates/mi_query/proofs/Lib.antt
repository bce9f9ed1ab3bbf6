pub mod ShownLemmas
pub mod LookUpLemmas
pub mod PageLemmas
