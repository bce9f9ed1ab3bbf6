-- How a hash goes over a text and over the parts of a key.
-- Cited by `hashing::after_text` and `hashing::hash_key`.
use Rattle.std.proofs.Common.{◌≡◌, ℕ, List, [], ◌∷◌, ◌++◌, fold, slice_get, Some, None, refl, ◌∙◌}
use Rattle.std.specs.List.{cons_option}
use Rattle.std.proofs.lemmas.List.Sums.{fold-append}
use Rattle.mi_value.specs.declared.value.Value.{Value}
use Rattle.mi_value.specs.declared.compare.KeyPart.{KeyPart}
use Rattle.mi_value.specs.Hash.{key_values}
use Rattle.mi_order.specs.Hashing.{after_value, after_if}

-- the first word and the last one beside those between them
pub over_text : (f : ℕ → ℕ → ℕ) (a x z : ℕ) (ws : List ℕ) → fold f a (x ∷ ws ++ z ∷ []) ≡ f (fold f (f a x) ws) z
over_text f a x z ws = fold-append f (f a x) ws (z ∷ [])

-- the values at the parts are gone over part by part
pub over_parts : (factor state : ℕ) (r : List Value) (ps : List KeyPart)
    → fold (λ s (p : KeyPart). after_if factor s (slice_get r p.column)) state ps ≡ fold (after_value factor) state (key_values ps r)
over_parts factor state r [] = refl
over_parts factor state r (p ∷ ps) =
    over_parts factor (after_if factor state (slice_get r p.column)) r ps
    ∙ elim (slice_get r p.column)
    as (λ o. fold (after_value factor) (after_if factor state o) (key_values ps r) ≡ fold (after_value factor) state (cons_option o (key_values ps r))) [
      | None ↦ refl
      | Some v ↦ refl
    ]
