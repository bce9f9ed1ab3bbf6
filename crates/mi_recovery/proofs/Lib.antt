pub mod OpeningLemmas
pub mod SegmentLemmas
mod RollingLemmas
mod HashLemmas
