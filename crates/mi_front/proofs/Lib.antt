mod StandingLemmas
mod UndoneLemmas
mod GivenLemmas
mod NotedLemmas
mod TextLemmas
mod ClosedLemmas
mod FrontLemmas
