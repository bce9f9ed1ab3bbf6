pub mod ExampleLemmas
pub mod HolderLemmas
pub mod KnownLemmas
pub mod RunLemmas
pub mod SettledLemmas
pub mod StepLemmas
pub mod TakenLemmas
pub mod ToldLemmas
