pub mod SevenNodeLemmas
pub mod StockLemmas
pub mod TakeLemmas
pub mod ThreeNodeLemmas
