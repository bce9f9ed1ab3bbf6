-- What the marks of the indexes in which a key changes say of each index.
-- Cited by `ConflictLemmas`, `OldPlaceLemmas` and `PutCallLemmas`.
use Rattle.std.proofs.Common.{◌≡◌, ℕ, ◌<◌, Bool, true, false, not, List, [], get_or, length, refl, ap, sym, ◌∙◌}
use Rattle.std.specs.Option.{option_map, unwrap_or}
use Rattle.std.proofs.lemmas.List.{get_or-map, length-map}
use Rattle.mi_value.specs.declared.value.Value.{Value}
use Rattle.mi_catalog.specs.declared.index.Index.{Index}
use Rattle.mi_catalog.specs.Shape.{index_at}
use Rattle.mi_model.specs.Table.{row}
use Rattle.mi_container.specs.Data.{Node, Data, content_in, content_of, as_table}
use Rattle.mi_container.specs.Fits.{IsThere}
use Rattle.mi_container.proofs.InvariantLemmas.{lookup_shown}
use Rattle.mi_multi.specs.Seen.{Seen}
use Rattle.mi_multi.specs.Changed.{is_changed, changed_keys, changed_by}

pub not_not : (b : Bool) → not (not b) ≡ b
not_not true = refl
not_not false = refl

-- the record of a row is that of its node
pub values_there : (d : Data) (e : ℕ) → IsThere d.rows e → (row (as_table d) e).1 ≡ (content_of d.rows e).values
values_there d e there =
    ap (λ o. unwrap_or o []) (lookup_shown e d.rows ∙ ap (option_map (λ (n : Node). n.content.values)) there.1) ∙ sym (ap (λ o. (content_in o).values) there.1)

pub mark_of : (is : List Index) (old new : List Value) (k : ℕ) (none : Index) → k < length is
    → get_or (changed_keys is old new) k false ≡ is_changed (get_or is k none).parts old new
mark_of is old new k none few = get_or-map (λ (i : Index). is_changed i.parts old new) is k none false few

module _ (w : Seen) (e : ℕ) (new : List Value) (marks : List Bool) (are : marks ≡ changed_by w e new) where
  pub as_many : length marks ≡ length w.shape.indexes
  as_many = ap length are ∙ length-map w.shape.indexes (λ (i : Index). is_changed i.parts (content_of w.plain.rows e).values new)

  pub mark_is : (k : ℕ) → k < length w.shape.indexes → get_or marks k false ≡ is_changed (index_at w.shape k).parts (content_of w.plain.rows e).values new
  mark_is k few = ap (λ bs. get_or bs k false) are ∙ mark_of w.shape.indexes (content_of w.plain.rows e).values new k _ few
