mod DigitLemmas
mod PlaceLemmas
mod PlainLemmas
