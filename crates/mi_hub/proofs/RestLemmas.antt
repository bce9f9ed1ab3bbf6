-- What a run leaves of a connection that stays: the rest of all its bytes joined.
-- Cited by `laws::rest_of_all_bytes`.
use Rattle.std.proofs.Common.{◌≡◌, ◌⊎◌, ℕ, List, [], ◌∷◌, ◌++◌, Bool, true, false, cond, nat_eq, Some, refl, sym, ap, ◌∙◌, append-nil, inl, inr, arith}
use Rattle.mi_hub.specs.Ended.{ended}
use Rattle.mi_hub.specs.Lines.{Rest, rest_from}
use Rattle.mi_hub.specs.Connections.{rest_at, with_rest}
use Rattle.mi_hub.specs.Run.{HubState, Event, attach, piece, close, cut, DoneOrRefused, Run}
use Rattle.mi_hub.specs.RunLaws.{bytes_of, Stays, RestOfAllBytes}
use Rattle.mi_hub.proofs.LineLemmas.{cut_in_two, rest_from-nothing}
use Rattle.mi_hub.proofs.ConnectionLemmas.{rest_at-with_rest, rest_at-others, rest_at-with_other, rest_at-append, rest_at-last}
use Rattle.mi_hub.proofs.PieceLemmas.{not_refused}

test_of : (b : Bool) → (b ≡ true) ⊎ (b ≡ false)
test_of true = inl refl
test_of false = inr refl

same : (x y : ℕ) → nat_eq x y ≡ true → x ≡ y
same x y h = grind arith

other : (x y : ℕ) → nat_eq x y ≡ false → x ≡ y → ⊥
other x y h e = grind arith

same_some : {A : Type 0} {x y : A} → Some x ≡ Some y → x ≡ y
same_some h = cc

-- the rest after a piece is one that no more bytes change
after_piece : (r : Rest) (a : List ℕ) → rest_from (rest_from r a) [] ≡ rest_from r a
after_piece r a = sym (cut_in_two r a []).1 ∙ ap (rest_from r) (append-nil a)

-- the pieces of a connection are those in front, and a piece that is its own comes first
pieces_of : (conn c : ℕ) (bytes : List ℕ) (events : List Event) (b : Bool) → nat_eq c conn ≡ b
    → bytes_of conn (piece c bytes ∷ events) ≡ cond b (bytes ++ bytes_of conn events) (bytes_of conn events)
pieces_of conn c bytes events b h = ap (λ t. cond t (bytes ++ bytes_of conn events) (bytes_of conn events)) h

-- one event of another connection, or a refused one, leaves the rest
module _ (conn : ℕ) (r : Rest) where
  own_piece : (c : ℕ) (bytes out : List ℕ) (old mid : HubState) → nat_eq c conn ≡ true
      → rest_at conn old.attached ≡ Some r → DoneOrRefused old (piece c bytes) out mid
      → rest_at conn mid.attached ≡ Some (rest_from r bytes)
  own_piece c bytes out old mid is here (inl p) =
      let e = same c conn is in
      let at : rest_at conn old.attached ≡ Some p.0 = ap (λ k. rest_at k old.attached) (sym e) ∙ p.1 in
      let kept = same_some (sym at ∙ here) in
      ap (rest_at conn) p.3 ∙ ap (λ k. rest_at conn (with_rest k (rest_from p.0 bytes) old.attached)) e
      ∙ rest_at-with_rest conn (rest_from p.0 bytes) p.0 old.attached at ∙ ap (λ q. Some (rest_from q bytes)) kept
  own_piece c bytes out old mid is here (inr p) =
      absurd (not_refused c bytes r p.0 old (ap (λ k. rest_at k old.attached) (same c conn is) ∙ here) p.1)

  unchanged : (old mid : HubState) → mid ≡ old → rest_at conn old.attached ≡ Some r → rest_at conn mid.attached ≡ Some r
  unchanged old mid is here = ap (λ (s : HubState). rest_at conn s.attached) is ∙ here

  other_piece : (c : ℕ) (bytes out : List ℕ) (old mid : HubState) → nat_eq c conn ≡ false
      → rest_at conn old.attached ≡ Some r → DoneOrRefused old (piece c bytes) out mid
      → rest_at conn mid.attached ≡ Some r
  other_piece c bytes out old mid is here (inl p) =
      ap (rest_at conn) p.3 ∙ rest_at-with_other conn c (rest_from p.0 bytes) old.attached (other c conn is) ∙ here
  other_piece c bytes out old mid is here (inr p) = unchanged old mid p.3 here

  any_attach : (c : ℕ) (out : List ℕ) (old mid : HubState) → rest_at conn old.attached ≡ Some r
      → DoneOrRefused old (attach c) out mid → rest_at conn mid.attached ≡ Some r
  any_attach c out old mid here (inl p) =
      ap (λ (s : HubState). rest_at conn s.attached) p.3 ∙ rest_at-append conn r old.attached (record { id = c; rest = Some [] } ∷ []) here
  any_attach c out old mid here (inr p) = unchanged old mid p.3 here

  other_close : (c : ℕ) (out : List ℕ) (old mid : HubState) → (c ≡ conn → ⊥)
      → rest_at conn old.attached ≡ Some r → DoneOrRefused old (close c) out mid → rest_at conn mid.attached ≡ Some r
  other_close c out old mid not here (inl p) =
      ap (λ (s : HubState). rest_at conn s.attached) p.4 ∙ rest_at-others conn c old.attached not ∙ here
  other_close c out old mid not here (inr p) = unchanged old mid p.3 here

  other_cut : (c : ℕ) (out : List ℕ) (old mid : HubState) → (c ≡ conn → ⊥)
      → rest_at conn old.attached ≡ Some r → DoneOrRefused old (cut c) out mid → rest_at conn mid.attached ≡ Some r
  other_cut c out old mid not here (inl p) =
      ap (λ (s : HubState). rest_at conn s.attached) p.2 ∙ rest_at-others conn c old.attached not ∙ here
  other_cut c out old mid not here (inr p) = unchanged old mid p.3 here

-- the same over a run
left_of : (conn : ℕ) (events : List Event) (r : Rest) (old new : HubState) (out : List ℕ) → rest_from r [] ≡ r → rest_at conn old.attached ≡ Some r
    → Stays conn events → Run old events out new → rest_at conn new.attached ≡ Some (rest_from r (bytes_of conn events))
left_of conn [] r old new out fits here stays run = ap (λ (s : HubState). rest_at conn s.attached) run.1 ∙ here ∙ ap Some (sym fits)
left_of conn (attach c ∷ events) r old new out fits here stays run =
    left_of conn events r run.0 new run.2 fits (any_attach conn r c run.1 old run.0 here run.3) stays run.4
left_of conn (piece c bytes ∷ events) r old new out fits here stays run = elim (test_of (nat_eq c conn)) [
  | inl is ↦
      left_of conn events (rest_from r bytes) run.0 new run.2 (after_piece r bytes) (own_piece conn r c bytes run.1 old run.0 is here run.3) stays run.4
      ∙ ap Some (sym (cut_in_two r bytes (bytes_of conn events)).1 ∙ ap (rest_from r) (sym (pieces_of conn c bytes events true is)))
  | inr not ↦
      left_of conn events r run.0 new run.2 fits (other_piece conn r c bytes run.1 old run.0 not here run.3) stays run.4
      ∙ ap (λ bs. Some (rest_from r bs)) (sym (pieces_of conn c bytes events false not))
]
left_of conn (close c ∷ events) r old new out fits here stays run =
    left_of conn events r run.0 new run.2 fits (other_close conn r c run.1 old run.0 stays.0 here run.3) stays.1 run.4
left_of conn (cut c ∷ events) r old new out fits here stays run =
    left_of conn events r run.0 new run.2 fits (other_cut conn r c run.1 old run.0 stays.0 here run.3) stays.1 run.4

pub rest_of_all_bytes : RestOfAllBytes
unfolding ended
rest_of_all_bytes conn events old come new out done stays run =
    left_of conn events (Some []) come new out refl
    (ap (λ (s : HubState). rest_at conn s.attached) done.3 ∙ rest_at-last conn (Some []) old.attached done.0) stays run
    ∙ ap Some (rest_from-nothing (bytes_of conn events))
