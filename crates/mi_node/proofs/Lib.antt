pub mod EntryLemmas
pub mod ChunkLemmas
pub mod KeepingLemmas
pub mod ColumnLemmas
pub mod MapLemmas
pub mod NeighbourLemmas
pub mod RefLemmas
mod SpareLemmas
mod RowSteps
mod SlotCalls
mod BlockSteps
