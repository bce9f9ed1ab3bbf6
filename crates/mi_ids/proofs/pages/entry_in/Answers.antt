-- the page that the hint gave has the number that was asked for
use Rattle.std.proofs.Common.{rules, ◌≡◌, Some, sym, ap, ◌∙◌, ◌%◌, ◌/◌}
use Rattle.mi_ids.proofs.PagesLemmas.{get-pages, said, at}
use Rattle.mi_ids.proofs.pages.entry_in.Goals as goal

pub returns-then-number-id : goal.returns-then-number-id
returns-then-number-id c =
    let is : c.in-Some.number.now ≡ c.args.id / 64 = search rules in
    let there : at (c.args.id / 64) c.args.pages.now.entries ≡ Some c.in-Some.page.now = ap (λ n. at n c.args.pages.now.entries) (sym is) ∙ c.in-Some.ensures.value in
    c.get-then-number-id.ensures ∙ sym (get-pages c.args.pages.now.entries c.args.id ∙ ap (λ o. said o (c.args.id % 64)) there)
