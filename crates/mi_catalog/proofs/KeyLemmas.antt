-- A key against an id.
-- Cited by `key::compare_to_row` and `key::compare_values`.
use Rattle.std.proofs.Common.{◌≡◌, ℕ, pos, true, false, List, [], ◌∷◌, length, refl, arith}
use Rattle.std.proofs.lemmas.Bool.{eqb-true, eqb-false}
use Rattle.std.specs.Prelude.{◌==◌}
use Rattle.mi_value.specs.declared.compare.KeyPart.{KeyPart}
use Rattle.std.specs.Ordering.{ordering_then}
use Rattle.std.specs.declared.cmp.Ordering.{Ordering}
use Rattle.std.specs.declared.cmp.Ordering.TheVariants.{Less, Equal, Greater}
use Rattle.mi_value.specs.declared.value.Value.{Value}
use Rattle.mi_value.specs.declared.value.Value.TheVariants.{Int}
use Rattle.mi_value.specs.Order.{compare_value, compare_prefix}
use Rattle.mi_catalog.specs.Key.{id_part}

then_equal : (o : Ordering) → ordering_then o Equal ≡ o
then_equal Less = refl
then_equal Equal = refl
then_equal Greater = refl

-- a list of no length is empty
pub no_parts : (ps : List KeyPart) → (length ps == 0) ≡ true → ps ≡ []
no_parts [] h = refl
no_parts (p ∷ ps) h = absurd (let e : length (p ∷ ps) ≡ 0 = eqb-true (length (p ∷ ps)) 0 h in omega (arith, e))

-- a key of one value compares as the value, and one of more values is never an id
pub one_value : (first : Value) (rest : List Value) (id : ℕ) → (length rest == 0) ≡ true
    → compare_prefix id_part (first ∷ rest) (Int (pos id) ∷ []) ≡ compare_value first (Int (pos id))
one_value first [] id h = then_equal (compare_value first (Int (pos id)))
one_value first (v ∷ vs) id h = absurd (let e : length (v ∷ vs) ≡ 0 = eqb-true (length (v ∷ vs)) 0 h in omega (arith, e))

pub more_values : (first : Value) (rest : List Value) (id : ℕ) → (length rest == 0) ≡ false
    → compare_prefix id_part (first ∷ rest) (Int (pos id) ∷ []) ≡ ordering_then (compare_value first (Int (pos id))) Greater
more_values first [] id h = absurd (eqb-false 0 0 h refl)
more_values first (v ∷ vs) id h = refl
