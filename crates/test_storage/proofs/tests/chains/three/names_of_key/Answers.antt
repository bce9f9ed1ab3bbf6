-- The nodes that are asked for stand in the list of the key.
use Rattle.test_storage.proofs.ThreeNodeLemmas.{among_filter}
use Rattle.test_storage.proofs.tests.chains.three.names_of_key.Goals as goal

pub next_if-second-requires : goal.next_if-second-requires
next_if-second-requires c = let h = c.requires in (h.0, h.1, among_filter _ h.0 _ (c.first_of-first.ensures h.0 h.1))

pub next_if-third-requires : goal.next_if-third-requires
next_if-third-requires c =
    let h = c.requires in (h.0, h.1, c.next_if-second.ensures h.0 h.1 (among_filter _ h.0 _ (c.first_of-first.ensures h.0 h.1)))

pub next_if-fourth-requires : goal.next_if-fourth-requires
next_if-fourth-requires c =
    let h = c.requires in let second = c.next_if-second.ensures h.0 h.1 (among_filter _ h.0 _ (c.first_of-first.ensures h.0 h.1)) in
    (h.0, h.1, c.next_if-third.ensures h.0 h.1 second)
