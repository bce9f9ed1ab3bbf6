-- The second of the sorted pairs are the list.
use Rattle.std.proofs.Common.{List, ℕ, ◌∙◌, ap, map, subst}
use Rattle.std.specs.List.Sorted.{IsPermutation}
use Rattle.std.proofs.lemmas.Result.{IfOk-weaker}
use Rattle.mi_container.specs.Data.{stamp_of}
use Rattle.mi_multi.proofs.ImagingLemmas.{few_orders, list_of_pairs}
use Rattle.mi_multi.proofs.multi.MultiIndex.list_by_stamps.Goals as goal

pub returns : goal.returns
returns c =
    let d = c.args.self.now.plain in let s = c.args.self.now.shape in let x = c.args.index in let is = c.keeps_rules.ensures in
    IfOk-weaker c.seconds.result _ _
    (λ list same.
    same
    ∙ ap (map (λ (p : ℕ × ℕ). p.1)) c.as_slice.ensures.value
    ∙ list_of_pairs s d is x (few_orders s d is x c.requires.index) c.requires.stamped c.sort_unstable.new.self.items
    (subst (λ (q : List (ℕ × ℕ)). IsPermutation q c.sort_unstable.new.self.items)
    (c.in_ok-pairs.ensures ∙ ap (map (λ e. (stamp_of d.rows x e, e))) c.requires.ids) c.sort_unstable.ensures.permutation)
    c.sort_unstable.ensures.sorted)
    c.seconds.ensures
