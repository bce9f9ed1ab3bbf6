mod UndoLemmas
pub mod AnswerLemmas
pub mod JoinLemmas
mod ReplayLemmas
mod FrontLemmas
mod RunActLemmas
mod UndoneBytesLemmas
mod ExampleLemmas
