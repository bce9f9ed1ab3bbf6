mod TurnLemmas
mod OverflowLemmas
mod WordsLemmas
mod ServedLemmas
mod EventLemmas
mod MovedLemmas
