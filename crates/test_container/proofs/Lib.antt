pub mod UndoneLemmas
pub mod JournaledLemmas
