-- the page of the id, or a new one, says the same but of the id
use Rattle.std.proofs.Common.{rules, subst, true, Some, ap, sym, ◌∙◌, ◌==◌, ◌%◌, ◌/◌, cond}
use Rattle.std.specs.Prelude.{is_some}
use Rattle.std.specs.FinMap.{insert}
use Rattle.mi_ids.specs.Pages.{of_pages, NoneIsEmpty}
use Rattle.mi_ids.specs.declared.entry.IdEntry.{IdEntry}
use Rattle.mi_ids.proofs.PagesLemmas.{get-pages, pages-put, used-put, said, at}
use Rattle.mi_ids.proofs.pages.put_in.Goals as goal

pub returns-in-Some-clause-was : goal.returns-in-Some-clause-was
returns-in-Some-clause-was c =
    let there = sym c.in-Some.ensures.value in
    c.put.ensures.was ∙ ap is_some (sym (get-pages c.args.pages.now.entries c.args.id ∙ ap (λ o. said o (c.args.id % 64)) there))

pub returns-in-Some-clause-entries : goal.returns-in-Some-clause-entries
returns-in-Some-clause-entries c =
    let there = sym c.in-Some.ensures.value in
    let entry : IdEntry = record { node = c.args.node; live = true } in
    let updates = ((c.get_mut.follows.holds c.put.new.self).3 (search rules)).0 in
    pages-put c.args.pages.now.entries (c.get_mut.follows.lender c.put.new.self).entries c.args.id (Some c.put.new.self) (Some entry) updates
    (λ k w. c.put.ensures.slots k w ∙ ap (λ o. cond (c.args.id % 64 == k) (Some entry) (said o k)) (sym there))

pub returns-clause-was : goal.returns-clause-was
returns-clause-was c =
    let out = sym c.in_default.ensures.value in
    ap is_some (sym (get-pages c.args.pages.now.entries c.args.id ∙ ap (λ o. said o (c.args.id % 64)) out))

pub returns-clause-entries : goal.returns-clause-entries
returns-clause-entries c =
    let still = c.get_mut.follows.holds-at-none in
    let out = ap (λ m. at (c.args.id / 64) m.entries) still ∙ sym c.in_default.ensures.value in
    let entry : IdEntry = record { node = c.args.node; live = true } in
    pages-put c.get_mut.follows.lender-at-none.entries c.insert-placed.new.self.entries c.args.id (Some c.new.result) (Some entry) (search rules)
    (λ k w. c.new.ensures.slots k w ∙ ap (λ o. cond (c.args.id % 64 == k) (Some entry) (said o k)) (sym out))
    ∙ ap (λ m. insert (of_pages m.entries) c.args.id entry) still

pub returns-in-Some-clause-used : goal.returns-in-Some-clause-used
returns-in-Some-clause-used c =
    let updates = ((c.get_mut.follows.holds c.put.new.self).3 (search rules)).0 in
    used-put c.args.pages.now.entries (c.get_mut.follows.lender c.put.new.self).entries (c.args.id / 64) c.put.new.self c.requires.used c.put.ensures.used updates

pub returns-clause-used : goal.returns-clause-used
returns-clause-used c =
    let still = c.get_mut.follows.holds-at-none in
    used-put c.get_mut.follows.lender-at-none.entries c.insert-placed.new.self.entries (c.args.id / 64) c.new.result
    (subst (λ m. NoneIsEmpty m.entries) (sym still) c.requires.used) c.new.ensures.used (search rules)
