-- one id more, where it wasn't there
use Rattle.std.proofs.Common.{rules, true, false, ap, sym, ◌∙◌, ◌+◌, ◌≡◌, cond}
use Rattle.std.specs.FinMap.{len}
use Rattle.mi_ids.specs.Pages.{of_pages}
use Rattle.mi_ids.proofs.EntryLemmas.{len-put}
use Rattle.mi_ids.proofs.ids.Ids.insert.Goals as goal

pub invariant_of-self : goal.invariant_of-self
invariant_of-self c =
    let m = of_pages c.self.inside.pages.entries in
    let is : c.put_in.result ≡ false = search rules in (
      ap (λ n. n + 1) c.self.invariant.0
          ∙ sym (ap len c.put_in.ensures.entries ∙ len-put m c.args.id (record { node = c.args.node; live = true })
          ∙ ap (λ b. cond b (len m) (len m + 1)) (sym c.put_in.ensures.was ∙ is)),
      c.put_in.ensures.used,
    )

pub invariant_of-self-else-not-put_in : goal.invariant_of-self-else-not-put_in
invariant_of-self-else-not-put_in c =
    let m = of_pages c.self.inside.pages.entries in
    let is : c.put_in.result ≡ true = search rules in (
      c.self.invariant.0
          ∙ sym (ap len c.put_in.ensures.entries ∙ len-put m c.args.id (record { node = c.args.node; live = true })
          ∙ ap (λ b. cond b (len m) (len m + 1)) (sym c.put_in.ensures.was ∙ is)),
      c.put_in.ensures.used,
    )
