-- A key without values is equal to every id.
use Rattle.std.proofs.Common.{◌≡◌, List, [], ◌∷◌, length, refl, arith}
use Rattle.std.specs.declared.cmp.Ordering.TheVariants.{Equal}
use Rattle.mi_value.specs.declared.value.Value.{Value}
use Rattle.mi_value.specs.Order.{compare_prefix}
use Rattle.mi_catalog.specs.Key.{id_part}
use Rattle.mi_catalog.proofs.key.compare_id_key.Goals as goal

no_values : (vs row : List Value) → length vs ≡ 0 → Equal ≡ compare_prefix id_part vs row
no_values [] row h = refl
no_values (v ∷ vs) row h = absurd (omega arith)

pub returns-in-None : goal.returns-in-None
returns-in-None c = no_values c.args.key.now _ c.in-None.ensures.cases
