-- The stamps of a node: as many as indexes, earlier than the next arrival, and 0 where an index has none.
-- Cited by `DataLemmas`, `InvariantLemmas` and `TableLemmas`.
use Rattle.std.proofs.Common.{◌≡◌, ℕ, ◌+◌, ◌<◌, zero, suc, true, false, cond, List, [], ◌∷◌, map, length, get_or, set, refl, ap, arith}
use Rattle.std.specs.Ordering.{is_eq}
use Rattle.std.specs.declared.option.Option.{Option}
use Rattle.std.specs.declared.option.Option.TheVariants.{None, Some}
use Rattle.mi_value.specs.declared.value.Value.{Value}
use Rattle.mi_value.specs.Order.{compare_key}
use Rattle.mi_model.specs.Change.{stand_before, stand}
use Rattle.mi_container.specs.Data.{Order, parts_of, has_stamps, StampFits, StampsFit}
use Rattle.mi_container.specs.Data.Order.{ById, ByKey, ByHash, Listed}
use Rattle.mi_container.specs.Changes.{in_order, new_stamp, restamped, orders_with, moved_order}

pub fits_length : (now : ℕ) (os : List Order) (stamps : List ℕ) → StampsFit now os stamps → length stamps ≡ length os
fits_length now [] [] fit = refl
fits_length now [] (a ∷ stamps) fit = absurd fit
fits_length now (o ∷ os) [] fit = absurd fit
fits_length now (o ∷ os) (a ∷ stamps) fit = ap suc (fits_length now os stamps fit.1)

one_early : (now : ℕ) (o : Order) (a : ℕ) → StampFits now o a → has_stamps o ≡ true → a < now
one_early now ById a fit has = absurd (cc)
one_early now (ByKey ps) a fit has = fit
one_early now (ByHash ps) a fit has = fit
one_early now (Listed ids) a fit has = absurd (cc)

pub fits_early : (now : ℕ) (os : List Order) (stamps : List ℕ) (x : ℕ) → StampsFit now os stamps
    → has_stamps (get_or os x ById) ≡ true → get_or stamps x 0 < now
fits_early now [] stamps x fit has = absurd (cc)
fits_early now (o ∷ os) [] x fit has = absurd fit
fits_early now (o ∷ os) (a ∷ stamps) zero fit has = one_early now o a fit.0 has
fits_early now (o ∷ os) (a ∷ stamps) (suc x) fit has = fits_early now os stamps x fit.1 has

-- a new place

new_fits : (now : ℕ) (o : Order) → StampFits (now + 1) o (new_stamp now o)
new_fits now ById = refl
new_fits now (ByKey ps) = omega arith
new_fits now (ByHash ps) = omega arith
new_fits now (Listed ids) = refl

pub fits_new : (now : ℕ) (os : List Order) → StampsFit (now + 1) os (map (new_stamp now) os)
fits_new now [] = tt
fits_new now (o ∷ os) = (new_fits now o, fits_new now os)

new_is : (now : ℕ) (o : Order) → has_stamps o ≡ true → new_stamp now o ≡ now
new_is now ById has = absurd (cc)
new_is now (ByKey ps) has = refl
new_is now (ByHash ps) has = refl
new_is now (Listed ids) has = absurd (cc)

pub new_at : (now : ℕ) (os : List Order) (x : ℕ) → has_stamps (get_or os x ById) ≡ true → get_or (map (new_stamp now) os) x 0 ≡ now
new_at now [] x has = absurd (cc)
new_at now (o ∷ os) zero has = new_is now o has
new_at now (o ∷ os) (suc x) has = new_at now os x has

one_later : (now : ℕ) (o : Order) (a : ℕ) → StampFits now o a → StampFits (now + 1) o a
one_later now ById a fit = fit
one_later now (ByKey ps) a fit = let l : a < now = fit in omega arith
one_later now (ByHash ps) a fit = let l : a < now = fit in omega arith
one_later now (Listed ids) a fit = fit

pub fits_later : (now : ℕ) (os : List Order) (stamps : List ℕ) → StampsFit now os stamps → StampsFit (now + 1) os stamps
fits_later now [] [] fit = tt
fits_later now [] (a ∷ stamps) fit = absurd fit
fits_later now (o ∷ os) [] fit = absurd fit
fits_later now (o ∷ os) (a ∷ stamps) fit = (one_later now o a fit.0, fits_later now os stamps fit.1)

-- after a put

one_put : (now : ℕ) (o : Order) (old new : List Value) (a : ℕ) → StampFits now o a
    → StampFits (now + 1) o (cond (is_eq (compare_key (parts_of o) old new)) a now)
one_put now ById old new a fit = fit
one_put now (ByKey ps) old new a fit =
    let l : a < now = fit in elim (is_eq (compare_key ps old new)) as (λ b. cond {A = ℕ} b a now < now + 1) [ true ↦ omega arith | false ↦ omega arith ]
one_put now (ByHash ps) old new a fit =
    let l : a < now = fit in elim (is_eq (compare_key ps old new)) as (λ b. cond {A = ℕ} b a now < now + 1) [ true ↦ omega arith | false ↦ omega arith ]
one_put now (Listed ids) old new a fit = fit

pub fits_put : (now : ℕ) (os : List Order) (old new : List Value) (stamps : List ℕ)
    → StampsFit now os stamps → StampsFit (now + 1) os (restamped os old new now stamps)
fits_put now [] old new [] fit = tt
fits_put now [] old new (a ∷ stamps) fit = absurd fit
fits_put now (o ∷ os) old new [] fit = absurd fit
fits_put now (o ∷ os) old new (a ∷ stamps) fit = (one_put now o old new a fit.0, fits_put now os old new stamps fit.1)

-- where lists of the indexes change

one_in_order : (now : ℕ) (f : List ℕ → List ℕ) (o : Order) (a : ℕ) → StampFits now o a → StampFits now (in_order f o) a
one_in_order now f ById a fit = fit
one_in_order now f (ByKey ps) a fit = fit
one_in_order now f (ByHash ps) a fit = fit
one_in_order now f (Listed ids) a fit = fit

pub fits_map : (now : ℕ) (f : List ℕ → List ℕ) (os : List Order) (stamps : List ℕ) → StampsFit now os stamps → StampsFit now (map (in_order f) os) stamps
fits_map now f [] [] fit = tt
fits_map now f [] (a ∷ stamps) fit = absurd fit
fits_map now f (o ∷ os) [] fit = absurd fit
fits_map now f (o ∷ os) (a ∷ stamps) fit = (one_in_order now f o a fit.0, fits_map now f os stamps fit.1)

fits_set : (now : ℕ) (f g : List ℕ → List ℕ) (os : List Order) (x : ℕ) (stamps : List ℕ) → StampsFit now os stamps
    → StampsFit now (set (map (in_order f) os) x (in_order g (get_or os x ById))) stamps
fits_set now f g [] x [] fit = tt
fits_set now f g [] x (a ∷ stamps) fit = absurd fit
fits_set now f g (o ∷ os) x [] fit = absurd fit
fits_set now f g (o ∷ os) zero (a ∷ stamps) fit = (one_in_order now g o a fit.0, fits_map now f os stamps fit.1)
fits_set now f g (o ∷ os) (suc x) (a ∷ stamps) fit = (one_in_order now f o a fit.0, fits_set now f g os x stamps fit.1)

pub fits_with : (now : ℕ) (p : Option (ℕ × ℕ)) (e : ℕ) (os : List Order) (stamps : List ℕ) → StampsFit now os stamps → StampsFit now (orders_with p e os) stamps
fits_with now None e os stamps fit = fits_map now (stand None e) os stamps fit
fits_with now (Some p) e os stamps fit = fits_set now (stand None e) (stand_before p.1 e) os p.0 stamps fit

pub fits_moved : (now : ℕ) (g : List ℕ → List ℕ) (os : List Order) (x : ℕ) (stamps : List ℕ)
    → StampsFit now os stamps → StampsFit now (moved_order x g os) stamps
fits_moved now g [] x [] fit = tt
fits_moved now g [] x (a ∷ stamps) fit = absurd fit
fits_moved now g (o ∷ os) x [] fit = absurd fit
fits_moved now g (o ∷ os) zero (a ∷ stamps) fit = (one_in_order now g o a fit.0, fit.1)
fits_moved now g (o ∷ os) (suc x) (a ∷ stamps) fit = (fit.0, fits_moved now g os x stamps fit.1)

-- whether an index has stamps stays too

stamps_of_one : (f : List ℕ → List ℕ) (o : Order) → has_stamps (in_order f o) ≡ has_stamps o
stamps_of_one f ById = refl
stamps_of_one f (ByKey ps) = refl
stamps_of_one f (ByHash ps) = refl
stamps_of_one f (Listed ids) = refl

pub stamps_map : (f : List ℕ → List ℕ) (os : List Order) (x : ℕ) → has_stamps (get_or (map (in_order f) os) x ById) ≡ has_stamps (get_or os x ById)
stamps_map f [] x = refl
stamps_map f (o ∷ os) zero = stamps_of_one f o
stamps_map f (o ∷ os) (suc x) = stamps_map f os x

stamps_set : (f g : List ℕ → List ℕ) (os : List Order) (y x : ℕ)
    → has_stamps (get_or (set (map (in_order f) os) y (in_order g (get_or os y ById))) x ById) ≡ has_stamps (get_or os x ById)
stamps_set f g [] y x = refl
stamps_set f g (o ∷ os) zero zero = stamps_of_one g o
stamps_set f g (o ∷ os) zero (suc x) = stamps_map f os x
stamps_set f g (o ∷ os) (suc y) zero = stamps_of_one f o
stamps_set f g (o ∷ os) (suc y) (suc x) = stamps_set f g os y x

pub stamps_with : (p : Option (ℕ × ℕ)) (e : ℕ) (os : List Order) (x : ℕ) → has_stamps (get_or (orders_with p e os) x ById) ≡ has_stamps (get_or os x ById)
stamps_with None e os x = stamps_map (stand None e) os x
stamps_with (Some p) e os x = stamps_set (stand None e) (stand_before p.1 e) os p.0 x

pub stamps_moved : (g : List ℕ → List ℕ) (os : List Order) (y x : ℕ) → has_stamps (get_or (moved_order y g os) x ById) ≡ has_stamps (get_or os x ById)
stamps_moved g [] y x = refl
stamps_moved g (o ∷ os) zero zero = stamps_of_one g o
stamps_moved g (o ∷ os) zero (suc x) = refl
stamps_moved g (o ∷ os) (suc y) zero = refl
stamps_moved g (o ∷ os) (suc y) (suc x) = stamps_moved g os y x
