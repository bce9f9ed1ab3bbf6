mod AloneLaws
mod AnswerLemmas
mod ReadLemmas
pub mod ToldLemmas
mod UndoneLaws
