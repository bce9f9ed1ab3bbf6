-- the page of the id says the same but of the id, and is gone where it says nothing
use Rattle.std.proofs.Common.{rules, Some, None, ap, sym, ◌∙◌, ◌==◌, ◌%◌, ◌/◌, cond}
use Rattle.std.specs.Prelude.{is_some}
use Rattle.mi_ids.specs.Pages.{of_pages}
use Rattle.mi_ids.proofs.PagesLemmas.{get-pages, pages-put, pages-without, pages-dropped, used-put, used-dropped, said, at, itself}
use Rattle.mi_ids.proofs.pages.take_out.Goals as goal

pub returns-in_default-clause-was : goal.returns-in_default-clause-was
returns-in_default-clause-was c =
    let out = sym c.in_default.ensures.value in
    ap is_some (sym (get-pages c.args.pages.now.entries c.args.id ∙ ap (λ o. said o (c.args.id % 64)) out))

pub returns-in_default-clause-entries : goal.returns-in_default-clause-entries
returns-in_default-clause-entries c =
    ap (λ m. of_pages m.entries) c.get_mut.follows.holds-at-none
    ∙ pages-without c.args.pages.now.entries c.args.id (sym c.in_default.ensures.value)

pub returns-then-is_empty-clause-was : goal.returns-then-is_empty-clause-was
returns-then-is_empty-clause-was c =
    let there = sym c.in-Some.ensures.value in
    c.take-was.ensures.was ∙ ap is_some (sym (get-pages c.args.pages.now.entries c.args.id ∙ ap (λ o. said o (c.args.id % 64)) there))

pub returns-else-is_empty-clause-was : goal.returns-else-is_empty-clause-was
returns-else-is_empty-clause-was c =
    let there = sym c.in-Some.ensures.value in
    c.take-was.ensures.was ∙ ap is_some (sym (get-pages c.args.pages.now.entries c.args.id ∙ ap (λ o. said o (c.args.id % 64)) there))

pub returns-then-is_empty-clause-entries : goal.returns-then-is_empty-clause-entries
returns-then-is_empty-clause-entries c =
    let there = sym c.in-Some.ensures.value in
    let new = c.take-was.new.self in
    let fs = (c.get_mut.follows.lender new).entries in
    let updates = ((c.get_mut.follows.holds new).3 (search rules)).0 in
    pages-dropped fs c.swap_remove.new.self.entries (c.args.id / 64) new
    (updates (c.args.id / 64) ∙ ap (λ b. cond b (Some new) (at (c.args.id / 64) c.args.pages.now.entries)) (itself (c.args.id / 64)))
    (c.is_empty.ensures.empty (search rules)) c.swap_remove.ensures.updates.0
    ∙ pages-put c.args.pages.now.entries fs c.args.id (Some new) None updates
    (λ k w. c.take-was.ensures.slots k w ∙ ap (λ o. cond (c.args.id % 64 == k) None (said o k)) (sym there))

pub returns-else-is_empty-clause-entries : goal.returns-else-is_empty-clause-entries
returns-else-is_empty-clause-entries c =
    let there = sym c.in-Some.ensures.value in
    let new = c.take-was.new.self in
    let updates = ((c.get_mut.follows.holds new).3 (search rules)).0 in
    pages-put c.args.pages.now.entries (c.get_mut.follows.lender new).entries c.args.id (Some new) None updates
    (λ k w. c.take-was.ensures.slots k w ∙ ap (λ o. cond (c.args.id % 64 == k) None (said o k)) (sym there))

pub returns-then-is_empty-clause-used : goal.returns-then-is_empty-clause-used
returns-then-is_empty-clause-used c =
    let new = c.take-was.new.self in
    let updates = ((c.get_mut.follows.holds new).3 (search rules)).0 in
    used-dropped c.args.pages.now.entries (c.get_mut.follows.lender new).entries c.swap_remove.new.self.entries (c.args.id / 64) new c.requires updates
    c.swap_remove.ensures.updates.0

pub returns-else-is_empty-clause-used : goal.returns-else-is_empty-clause-used
returns-else-is_empty-clause-used c =
    let new = c.take-was.new.self in
    let updates = ((c.get_mut.follows.holds new).3 (search rules)).0 in
    used-put c.args.pages.now.entries (c.get_mut.follows.lender new).entries (c.args.id / 64) new c.requires (c.is_empty.ensures.used (search rules)) updates
