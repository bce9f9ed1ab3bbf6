-- one id less, where it was there
use Rattle.std.proofs.Common.{rules, arith, true, false, ap, sym, ◌∙◌, ◌-◌, ◌≡◌, cond}
use Rattle.std.specs.FinMap.{len}
use Rattle.mi_ids.specs.Pages.{of_pages}
use Rattle.mi_ids.proofs.EntryLemmas.{len-out, len-some}
use Rattle.mi_ids.proofs.ids.Ids.remove.Goals as goal

pub overflow_sub-self : goal.overflow_sub-self
overflow_sub-self c =
    let m = of_pages c.self.inside.pages.entries in
    let is : c.take_out.result ≡ true = search rules in
    let some = len-some m c.args.id (sym c.take_out.ensures.was ∙ is) in
    let count = c.self.invariant.0 in
    omega (arith, some, count)

pub invariant_of-self : goal.invariant_of-self
invariant_of-self c =
    let m = of_pages c.self.inside.pages.entries in
    let is : c.take_out.result ≡ true = search rules in (
      ap (λ n. n - 1) c.self.invariant.0
          ∙ sym (ap len c.take_out.ensures.entries ∙ len-out m c.args.id
          ∙ ap (λ b. cond b (len m - 1) (len m)) (sym c.take_out.ensures.was ∙ is)),
      c.take_out.ensures.used,
    )

pub invariant_of-self-else-take_out : goal.invariant_of-self-else-take_out
invariant_of-self-else-take_out c =
    let m = of_pages c.self.inside.pages.entries in
    let is : c.take_out.result ≡ false = search rules in (
      c.self.invariant.0
          ∙ sym (ap len c.take_out.ensures.entries ∙ len-out m c.args.id
          ∙ ap (λ b. cond b (len m - 1) (len m)) (sym c.take_out.ensures.was ∙ is)),
      c.take_out.ensures.used,
    )
