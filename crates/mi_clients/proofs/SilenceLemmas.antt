-- Those that are silent in a list.
-- Cited by `silence::give_up_silent`.
use Rattle.std.proofs.Common.{◌≡◌, inl, inr, ◌≤◌, ℕ, List, [], ◌∷◌, length, Option, refl, sym, ap, ◌∙◌, subst}
use Rattle.std.specs.List.{AllZip}
use Rattle.mi_clients.specs.Clients.{ids}
use Rattle.mi_clients.specs.Silence.{IsJudged, EachJudged, limit_of}
use Rattle.mi_clients.specs.declared.client.Client.{Client}
use Rattle.mi_clients.specs.declared.silence.Limits.{Limits}
use Rattle.mi_clients.proofs.ClientsLemmas.{DoneTo, done_all}

module _ {S : Type 0} where
  -- one that is judged keeps its number
  judged_conn : (limit : Option ℕ) (now : ℕ) (a b : Client S) → IsJudged limit now a b → b.conn ≡ a.conn
  judged_conn limit now a b (inl p) = ap (λ (c : Client S). c.conn) p.1
  judged_conn limit now a b (inr p) = elim p.1 [
    | inl gone ↦ ap (λ (c : Client S). c.conn) gone.1.3
    | inr same ↦ ap (λ (c : Client S). c.conn) same.1
  ]

  judged_ids : (limits : Limits) (holder : Option ℕ) (now : ℕ) (a b : List (Client S)) → EachJudged limits holder now a b → ids b ≡ ids a
  judged_ids limits holder now [] [] p = refl
  judged_ids limits holder now [] (y ∷ b) p = absurd p
  judged_ids limits holder now (x ∷ a) [] p = absurd p
  judged_ids limits holder now (x ∷ a) (y ∷ b) p =
      ap (λ k. k ∷ ids b) (judged_conn (limit_of limits holder x.conn) now x y p.0) ∙ ap (λ ks. x.conn ∷ ks) (judged_ids limits holder now a b p.1)

  -- all were judged
  pub judged_all : (limits : Limits) (holder : Option ℕ) (now : ℕ) (olds clients items : List (Client S)) (i : ℕ) → length clients ≤ i → items ≡ clients
      → DoneTo (λ x y. IsJudged (limit_of limits holder x.conn) now x y) i olds clients
      → EachJudged limits holder now olds items × (ids items ≡ ids olds)
  judged_all limits holder now olds clients items i le is done =
      let R : Client S → Client S → Type 0 = λ x y. IsJudged (limit_of limits holder x.conn) now x y in
      let all : EachJudged limits holder now olds items = subst (AllZip R olds) (sym is) (done_all R olds clients i le done) in
      (all, judged_ids limits holder now olds items all)
