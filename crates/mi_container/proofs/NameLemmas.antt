-- The names of live nodes differ after each change.
-- Cited by `DataLemmas`, `InverseLemmas` and `RestampLemmas`.
use Rattle.std.proofs.Common.{◌≡◌, ◌≢◌, ℕ, true, false, cond, not, List, [], ◌∷◌, ◌++◌, ap, sym, ◌∙◌}
use Rattle.std.specs.Prelude.{◌==◌}
use Rattle.std.specs.List.{AllByRecursion}
use Rattle.std.proofs.lemmas.Bool.{eqb-false}
use Rattle.std.specs.declared.option.Option.TheVariants.{None, Some}
use Rattle.mi_model.proofs.SortLaws.{both_ways}
use Rattle.mi_container.specs.Data.{Content, Node, NamesDiffer}
use Rattle.mi_container.specs.Changes.{left_out, with_content}
use Rattle.mi_container.specs.Inverse.{id_named}
use Rattle.mi_container.proofs.PairLemmas.{none_some}

others_out : (m e : ℕ) (rows : List (ℕ × Node)) → AllByRecursion (λ (q : ℕ × Node). q.1.at.name ≢ m) rows
    → AllByRecursion (λ (q : ℕ × Node). q.1.at.name ≢ m) (left_out e rows)
others_out m e [] all = tt
others_out m e (r ∷ rows) all =
    elim (r.0 == e) as (λ b. AllByRecursion (λ (q : ℕ × Node). q.1.at.name ≢ m) (cond (not b) (r ∷ left_out e rows) (left_out e rows))) [
      | true ↦ others_out m e rows all.1
      | false ↦ (all.0, others_out m e rows all.1)
    ]

pub names_out : (e : ℕ) (rows : List (ℕ × Node)) → NamesDiffer rows → NamesDiffer (left_out e rows)
names_out e [] differ = tt
names_out e (r ∷ rows) differ =
    elim (r.0 == e) as (λ b. NamesDiffer (cond (not b) (r ∷ left_out e rows) (left_out e rows))) [
      | true ↦ names_out e rows differ.1
      | false ↦ (others_out r.1.at.name e rows differ.0, names_out e rows differ.1)
    ]

others_with : (m e : ℕ) (c : Content) (rows : List (ℕ × Node)) → AllByRecursion (λ (q : ℕ × Node). q.1.at.name ≢ m) rows
    → AllByRecursion (λ (q : ℕ × Node). q.1.at.name ≢ m) (with_content e c rows)
others_with m e c [] all = tt
others_with m e c (r ∷ rows) all =
    elim (r.0 == e)
    as (λ b. AllByRecursion (λ (q : ℕ × Node). q.1.at.name ≢ m) (cond b ((r.0, record { at = r.1.at; content = c }) ∷ rows) (r ∷ with_content e c rows))) [
      | true ↦ all
      | false ↦ (all.0, others_with m e c rows all.1)
    ]

pub names_with : (e : ℕ) (c : Content) (rows : List (ℕ × Node)) → NamesDiffer rows → NamesDiffer (with_content e c rows)
names_with e c [] differ = tt
names_with e c (r ∷ rows) differ =
    elim (r.0 == e) as (λ b. NamesDiffer (cond b ((r.0, record { at = r.1.at; content = c }) ∷ rows) (r ∷ with_content e c rows))) [
      | true ↦ differ
      | false ↦ (others_with r.1.at.name e c rows differ.0, names_with e c rows differ.1)
    ]

others_push : (m e : ℕ) (n : Node) (rows : List (ℕ × Node)) → n.at.name ≢ m → AllByRecursion (λ (q : ℕ × Node). q.1.at.name ≢ m) rows
    → AllByRecursion (λ (q : ℕ × Node). q.1.at.name ≢ m) (rows ++ (e, n) ∷ [])
others_push m e n [] ne all = (ne, tt)
others_push m e n (r ∷ rows) ne all = (all.0, others_push m e n rows ne all.1)

-- a node of a new name
pub names_push : (e : ℕ) (n : Node) (rows : List (ℕ × Node)) → id_named n.at.name rows ≡ None → NamesDiffer rows → NamesDiffer (rows ++ (e, n) ∷ [])
names_push e n [] none differ = (tt, tt)
names_push e n (r ∷ rows) none differ =
    both_ways (r.1.at.name == n.at.name)
    (λ yes. absurd (none_some (sym none ∙ ap (λ t. cond t (Some r.0) (id_named n.at.name rows)) yes)))
    (λ isnt.
    let ne : r.1.at.name ≢ n.at.name = eqb-false r.1.at.name n.at.name isnt in
    let rest : id_named n.at.name rows ≡ None = sym (ap (λ t. cond t (Some r.0) (id_named n.at.name rows)) isnt) ∙ none in
    (others_push r.1.at.name e n rows (λ same. ne (sym same)) differ.0, names_push e n rows rest differ.1))
