mod LabelLemmas
mod ShownLemmas
