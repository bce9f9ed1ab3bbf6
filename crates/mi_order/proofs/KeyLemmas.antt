-- Whether keys are equal says nothing of which is less.
-- Cited by `key::same_part`.
use Rattle.std.proofs.Common.{◌≡◌, Bool, true, false, refl}
use Rattle.std.specs.Ordering.{is_eq, ordering_then}
use Rattle.std.specs.declared.cmp.Ordering.{Ordering}
use Rattle.std.specs.declared.cmp.Ordering.TheVariants.{Less, Equal, Greater}
use Rattle.mi_value.specs.Order.{directed}

pub directed_eq : (b : Bool) (o : Ordering) → is_eq (directed b o) ≡ is_eq o
directed_eq true Less = refl
directed_eq true Equal = refl
directed_eq true Greater = refl
directed_eq false o = refl

pub then_eq : (o : Ordering) → is_eq (ordering_then o Equal) ≡ is_eq o
then_eq Less = refl
then_eq Equal = refl
then_eq Greater = refl
