-- Places past the end, and answers by whether a record is there.
-- Cited by `pages::list`, `ranks::rank` and `PageLemmas`.
use Rattle.std.proofs.Common.{◌≡◌, ℕ, ◌≤◌, Bool, true, false, inl, inr, get_or, List, length, refl}
use Rattle.std.specs.Prelude.{if◌then◌else◌, slice_get}
use Rattle.std.specs.declared.option.Option.TheVariants.{None, Some}
use Rattle.std.specs.declared.result.Result.TheVariants.{Ok, Err}
use Rattle.std.proofs.lemmas.Bool.{cases_lt}
use Rattle.std.proofs.lemmas.Option.{slice_get-get_or}
use Rattle.mi_value.specs.declared.refusal.Refusal.{Refusal}
use Rattle.mi_value.specs.declared.refusal.Refusal.TheVariants.{NoId}

-- where nothing stands the list has ended
pub none_means_past : (ids : List ℕ) (k : ℕ) → slice_get ids k ≡ None → length ids ≤ k
none_means_past ids k none =
    elim (cases_lt k (length ids)) [
      | inl within ↦ absurd (let some : slice_get ids k ≡ Some (get_or ids k 0) = slice_get-get_or ids k 0 within in cc)
      | inr past ↦ past
    ]

-- the case of an answer that is known
pub ok_then : {A : Type 0} (b : Bool) (x y : A) (e : Refusal) → Ok x ≡ (if b then Ok y else Err e) → (b ≡ true) × (x ≡ y)
ok_then true x y e is = (refl, cc)
ok_then false x y e is = absurd (cc)

-- a rank, or the refusal of one
pub ranked : (b : Bool) (n before : ℕ) → Some before ≡ (if b then Some n else None) → Ok before ≡ (if b then Ok n else Err NoId)
ranked true n before is = let same : before ≡ n = cc in (λ j. Ok (same j))
ranked false n before is = absurd (cc)

pub not_ranked : (b : Bool) (n : ℕ) → None ≡ (if b then Some n else None) → Err NoId ≡ (if b then Ok n else Err NoId)
not_ranked true n is = absurd (cc)
not_ranked false n is = refl
