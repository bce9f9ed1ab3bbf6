-- what the page says of the id is what is seen
use Rattle.std.proofs.Common.{sym, ap, ◌∙◌, ◌%◌}
use Rattle.mi_ids.proofs.PagesLemmas.{get-pages, said}
use Rattle.mi_ids.proofs.pages.searched.Goals as goal

pub returns-in-Some : goal.returns-in-Some
returns-in-Some c =
    let there = sym c.in-Some.ensures.value in
    c.get-in-Some.ensures ∙ sym (get-pages c.args.pages.now.entries c.args.id ∙ ap (λ o. said o (c.args.id % 64)) there)

pub returns-in-None : goal.returns-in-None
returns-in-None c =
    let out = sym c.in-None.ensures.value in
    sym (get-pages c.args.pages.now.entries c.args.id ∙ ap (λ o. said o (c.args.id % 64)) out)
