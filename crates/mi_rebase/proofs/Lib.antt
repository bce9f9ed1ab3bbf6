mod RebaseLemmas
mod ImageLemmas
