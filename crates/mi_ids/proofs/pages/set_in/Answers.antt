-- the page of the id says the same but of the id
use Rattle.std.proofs.Common.{rules, ap, sym, ◌∙◌, ◌/◌}
use Rattle.mi_ids.specs.Pages.{of_pages}
use Rattle.mi_ids.proofs.PagesLemmas.{pages-marked, pages-unmarked, used-put}
use Rattle.mi_ids.proofs.pages.set_in.Goals as goal

pub returns-in-Some-clause-entries : goal.returns-in-Some-clause-entries
returns-in-Some-clause-entries c =
    let there = sym c.in-Some.ensures.value in
    let updates = ((c.get_mut.follows.holds c.set_live.new.self).3 (search rules)).0 in
    pages-marked c.args.pages.now.entries (c.get_mut.follows.lender c.set_live.new.self).entries c.args.id c.args.live c.in-Some.page.now c.set_live.new.self
    there updates c.set_live.ensures.slots

pub returns-in_default-clause-entries : goal.returns-in_default-clause-entries
returns-in_default-clause-entries c =
    ap (λ m. of_pages m.entries) c.get_mut.follows.holds-at-none
    ∙ pages-unmarked c.args.pages.now.entries c.args.id c.args.live (sym c.in_default.ensures.value)

pub returns-in-Some-clause-used : goal.returns-in-Some-clause-used
returns-in-Some-clause-used c =
    let there = sym c.in-Some.ensures.value in
    let updates = ((c.get_mut.follows.holds c.set_live.new.self).3 (search rules)).0 in
    used-put c.args.pages.now.entries (c.get_mut.follows.lender c.set_live.new.self).entries (c.args.id / 64) c.set_live.new.self c.requires
    (c.set_live.ensures.used (c.requires (c.args.id / 64) c.in-Some.page.now there)) updates
