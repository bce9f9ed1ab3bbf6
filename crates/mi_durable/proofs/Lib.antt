pub mod JournalLemmas
mod ReplayLemmas
mod TakenLemmas
