pub mod HashLemmas
pub mod KeyLemmas
