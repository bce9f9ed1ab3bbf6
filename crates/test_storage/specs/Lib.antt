pub mod Keyed
pub mod KeyedLaws
pub mod Numbered
pub mod OneKey
pub mod Stock
