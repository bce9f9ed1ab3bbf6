-- The node that is found stands in the list, so it can be taken out.
use Rattle.std.proofs.Common.{◌≡◌, ◌<◌, ◌∙◌, sym, subst, ap}
use Rattle.mi_node.specs.Pool.{link_of}
use Rattle.test_storage.proofs.ThreeNodeLemmas.{split_found, fits_read}
use Rattle.test_storage.proofs.tests.chains.rooms.pull.Goals as goal

pub remove-requires : goal.remove-requires
remove-requires c = let h = c.requires.list in let i = split_found _ h.1 (c.first_of.ensures h.0 h.1) c.in_ok-node.was in (i.0, i.1, i.2)

pub link-requires-clause-held : goal.link-requires-clause-held
link-requires-clause-held c =
    let h = c.requires.list in let i = split_found _ h.1 (c.first_of.ensures h.0 h.1) c.in_ok-node.was in
    let fits = c.remove.ensures.remembers i.0 i.1 i.2 in fits.placed.held

pub link-requires-clause-slot : goal.link-requires-clause-slot
link-requires-clause-slot c =
    let h = c.requires.list in let i = split_found _ h.1 (c.first_of.ensures h.0 h.1) c.in_ok-node.was in
    let gone = c.remove.ensures.list i.0 i.1 i.2 in subst (λ z. z < c.remove.new.p.slots) (c.remove.ensures.slot ∙ c.requires.slot) gone.buckets.slot

pub returns-clause-list : goal.returns-clause-list
returns-clause-list c rs h =
    let i = split_found _ h (c.first_of.ensures rs h) c.in_ok-node.was in let slot = c.remove.ensures.slot in
    let is : c.link.result ≡ link_of c.remove.new.p c.in_ok-node.node.name c.remove.new.self.slot =
    c.link.ensures ∙ ap (link_of c.remove.new.p c.in_ok-node.node.name) (sym (slot ∙ c.requires.slot)) in
    (i.0, i.1, i.3, c.remove.ensures.list i.0 i.1 i.2, fits_read slot c.requires.slot c.link.ensures (c.remove.ensures.remembers i.0 i.1 i.2), is)

pub returns-clause-alike : goal.returns-clause-alike
returns-clause-alike c =
    let h = c.requires.list in let i = split_found _ h.1 (c.first_of.ensures h.0 h.1) c.in_ok-node.was in
    let keeps = c.remove.ensures.keeps i.0 i.1 i.2 in record { refs = keeps.refs; values = keeps.values; tags = c.remove.ensures.tags }
