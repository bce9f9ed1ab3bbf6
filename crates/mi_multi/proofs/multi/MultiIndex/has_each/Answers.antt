-- A list that is sorted has each id once where it is that of the ids.
use Rattle.std.proofs.Common.{◌∙◌, ap, sym, subst, length, List, ℕ}
use Rattle.std.specs.List.Sorted.{IsPermutation}
use Rattle.std.proofs.lemmas.List.Sorted.{IsNonDecreasingBy-from_sort}
use Rattle.mi_container.proofs.RestoreLemmas.{list_has_ids, list_has_others, list_long}
use Rattle.mi_model.specs.Table.{ListsEach}
use Rattle.mi_container.specs.Data.{as_table}
use Rattle.mi_container.proofs.RestoreLemmas.{ids_each}
use Rattle.mi_multi.proofs.multi.MultiIndex.has_each.Goals as goal

pub returns-then-are_same-clause-yes : goal.returns-then-are_same-clause-yes
returns-then-are_same-clause-yes c h =
    subst (ListsEach (as_table c.args.self.now.plain)) (sym (c.are_same.ensures.yes c.if-are_same.true ∙ c.requires))
    (ids_each c.args.self.now.shape c.args.self.now.plain c.keeps_rules.ensures)

pub returns-then-are_same-clause-long : goal.returns-then-are_same-clause-long
returns-then-are_same-clause-long c h = ap length (c.are_same.ensures.yes c.if-are_same.true)

pub returns-clause-yes : goal.returns-clause-yes
returns-clause-yes c h =
    list_has_ids c.args.self.now.shape c.args.self.now.plain c.keeps_rules.ensures c.args.ids.now c.args.list.now c.sort.new.self.items c.requires
    (subst (λ (q : List ℕ). IsPermutation q c.sort.new.self.items) c.in_ok-copy.ensures.items c.sort.ensures.permutation)
    (sym c.as_slice.ensures.value ∙ c.are_same-2.ensures.yes h)

pub returns-clause-other : goal.returns-clause-other
returns-clause-other c h =
    list_has_others c.args.self.now.shape c.args.self.now.plain c.keeps_rules.ensures c.args.ids.now c.args.list.now c.sort.new.self.items c.requires
    (subst (λ (q : List ℕ). IsPermutation q c.sort.new.self.items) c.in_ok-copy.ensures.items c.sort.ensures.permutation)
    (IsNonDecreasingBy-from_sort (λ x. x) c.sort.new.self.items c.in_ok-sort.ensures.sorted)
    (λ same. c.are_same-2.ensures.no h (c.as_slice.ensures.value ∙ same))

pub returns-clause-long : goal.returns-clause-long
returns-clause-long c h =
    list_long c.args.self.now.shape c.args.self.now.plain c.keeps_rules.ensures c.args.ids.now c.args.list.now c.sort.new.self.items c.requires
    (subst (λ (q : List ℕ). IsPermutation q c.sort.new.self.items) c.in_ok-copy.ensures.items c.sort.ensures.permutation)
    (sym c.as_slice.ensures.value ∙ c.are_same-2.ensures.yes h)
