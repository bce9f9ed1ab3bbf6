pub mod ChangeLemmas
pub mod EndLemmas
pub mod FrameLemmas
pub mod OrderLemmas
