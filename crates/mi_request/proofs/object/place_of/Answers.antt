-- The members behind the place that is reached have other names.
use Rattle.std.proofs.Common.{◌≡◌, ℕ, ◌+◌, ◌-◌, ◌<◌, List, [], ◌∷◌, ◌++◌, length, take, get_or, Bool, true, false, cond, Some, sym, ap, ap₂, ◌∙◌, arith}
use Rattle.std.proofs.lemmas.List.{take_more, length-take-le}
use Rattle.std.specs.Str.{bytes_eq}
use Rattle.mi_request.specs.Places.{last_at}
use Rattle.mi_request.proofs.ObjectLemmas.{last_at-push, Member}
use Rattle.mi_request.proofs.object.place_of.Goals as goal

-- the members up to the one that is looked at
module _ (name : List ℕ) (xs : List Member) (left i : ℕ) (m : Member) where
  step : (b : Bool) → left ≡ i + 1 → i < length xs → m ≡ get_or xs i m → bytes_eq name m.0.now ≡ b → last_at name xs ≡ last_at name (take left xs)
      → last_at name xs ≡ cond b (Some i) (last_at name (take i xs))
  step b next within here same before =
      let front : take left xs ≡ take i xs ++ m ∷ [] = ap (λ k. take k xs) next ∙ take_more xs i m within ∙ ap (λ y. take i xs ++ y ∷ []) (sym here) in
      let long : length (take i xs) ≡ i = length-take-le i xs (omega (arith, within)) in
      before ∙ ap (last_at name) front ∙ last_at-push name (take i xs) m
      ∙ ap₂ (λ t n. cond t (Some n) (last_at name (take i xs))) same long

pub returns-then-eq-clause-found : goal.returns-then-eq-clause-found
returns-then-eq-clause-found c =
    sym (step c.args.name.now c.args.members.now c.places.left (c.places.left - 1) c.index-members-left.result true
    (omega arith) (omega arith) c.index-members-left.is (grind arith) c.places.invariant.0)

pub places-preserved : goal.places-preserved
places-preserved c = (
  step c.args.name.now c.args.members.now c.places.left (c.places.left - 1) c.index-members-left.result false
      (omega arith) (omega arith) c.index-members-left.is (grind arith) c.places.invariant.0,
  omega arith,
)
