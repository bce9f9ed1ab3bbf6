pub mod StepLemmas
pub mod ClientsLemmas
mod SinceLemmas
pub mod ServedLemmas
pub mod StreamLemmas
pub mod TellLemmas
mod BesideLemmas
mod SilenceLemmas
mod InputLemmas
mod HeardLemmas
mod UndoneLemmas
mod HoldingLemmas
mod EndingLemmas
mod DigitLemmas
