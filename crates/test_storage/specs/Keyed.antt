-- An order for tests: a value is a key and an id, and keys alone are compared.
--     keyed_order, by_probe      how two values compare; where one stands beside a probe, of which the first value counts
--     keyed_tag      the key, or one tag for all
use Rattle.std.specs.Prelude.{ℕ, Bool, true, false, pos, List, [], ◌∷◌}
use Rattle.std.specs.declared.cmp.Ordering.{Ordering}
use Rattle.std.specs.declared.cmp.Ordering.TheVariants.{Equal}
use Rattle.std.specs.Ordering.{int_cmp, nat_cmp, on}
use Rattle.mi_value.specs.declared.value.Value.{Value}
use Rattle.mi_value.specs.declared.value.Value.TheVariants.{Int, Text, Flag}
use Rattle.mi_value.specs.declared.bound.Probe.{Probe}
use Rattle.mi_value.specs.declared.bound.Probe.TheVariants.{Key, Of}

abbrev pub keyed_order : ℕ × ℕ → ℕ × ℕ → Ordering
keyed_order = on (λ x. x.0) nat_cmp

abbrev pub by_values : ℕ → List Value → Ordering
by_values n [] = Equal
by_values n (Int k ∷ vs) = int_cmp (pos n) k
by_values n (Text t ∷ vs) = Equal
by_values n (Flag b ∷ vs) = Equal

-- a record is no key here: it is at every number
abbrev pub by_probe : ℕ → Probe → Ordering
by_probe n (Key vs) = by_values n vs.now
by_probe n (Of r) = Equal

abbrev pub keyed_tag : Bool → ℕ × ℕ → ℕ
keyed_tag false x = 0
keyed_tag true x = x.0
