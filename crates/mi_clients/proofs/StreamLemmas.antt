-- The streams of connections: each keeps its own, and one that has failed breaks its connection.
-- Cited by `clients::ask_all`, `clients::send_all`, `clients::serve`, `clients::serve_all`, `clients::wake_one`, 2 more and `mi_serving`.
use Rattle.std.proofs.Common.{◌≡◌, inl, inr, ℕ, ℤ, ◌<◌, ◌≤◌, List, [], ◌∷◌, ◌++◌, length, map, Bool, true, false, cond, nat_eq, refl, sym, ap, ◌∙◌, subst, arith}
use Rattle.std.specs.Prelude.{⊤, Option}
use Rattle.std.specs.List.{All, AllZip, Contains}
use Rattle.mi_clients.specs.Client.{Owes, IsAsFar, IsWhole, IsWoken, BreaksWith, IsSame, IsRead, woken, told}
use Rattle.mi_clients.specs.Clients.{ids, IsNoneOf, AllDiffer, EachWoken, EachSame, EachRead, EachUncounted, LetsGo, NoneIsOver, NoneIsWhole, AllBreakWith, NoneHasFailed}
use Rattle.mi_clients.specs.Laws.{NumbersKeepStreams}
use Rattle.mi_clients.specs.Clients.{StayersSame, SameStreams, StayersRead}
use Rattle.mi_clients.specs.declared.client.Client.{Client}
use Rattle.mi_clients.specs.declared.client.Phase.{Phase}
use Rattle.mi_clients.specs.declared.client.Phase.TheVariants.{Ended, Broken}
use Rattle.mi_clients.proofs.ClientsLemmas.{true_false, DoneTo, done_all, zip_weaker, zip_then, zip_all, zip_map}
use Rattle.mi_clients.proofs.ServedLemmas.{IsIn, in_from, in_to, in_join, zip_from, all_left, woken_same}

broken_ended : (p : Phase) → p ≡ Broken → p ≡ Ended → ⊥
broken_ended p h k = cc

equal_test : (x y : ℕ) → x ≡ y → nat_eq x y ≡ true
equal_test x y same = grind arith

module _ {S : Type 0} where
  -- ---- one connection

  pub same_owes : (handle : S → ℤ) (g : List ℕ) (a b : Client S) → Owes g a b → IsSame handle a b
  same_owes handle g a b p = (p.conn, ap handle p.stream)

  pub same_then : (handle : S → ℤ) (a b c : Client S) → IsSame handle a b → IsSame handle b c → IsSame handle a c
  same_then handle a b c p q = (q.0 ∙ p.0, q.1 ∙ p.1)

  pub breaks_owes : (has_failed : S → Bool) (g : List ℕ) (a b : Client S) → Owes g a b → BreaksWith has_failed a → BreaksWith has_failed b
  breaks_owes has_failed g a b p breaks = λ failed. (p.broken (breaks (ap has_failed (sym p.stream) ∙ failed))).0

  -- one that is whole then was whole before
  pub whole_before : (a b : Client S) → IsAsFar a b → b.has_lines ≡ a.has_lines → ¬ IsWhole a → ¬ IsWhole b
  whole_before a b (inl broken) lines other = λ whole. broken_ended b.phase broken whole.0
  whole_before a b (inr same) lines other = λ whole. other (sym same ∙ whole.0, sym lines ∙ whole.1)

  -- what became of one that was served
  abbrev pub Attended : (S → ℤ) → (S → Option ℕ) → (S → Bool) → Client S → Client S → Type 0
  Attended handle reads has_failed old new =
      IsSame handle old new × IsRead reads old new × (BreaksWith has_failed old → BreaksWith has_failed new) × ¬ IsWhole new

  -- and of one whose replies were sent
  abbrev pub Written : (S → ℤ) → (S → Option ℕ) → (S → Bool) → Client S → Client S → Type 0
  Written handle reads has_failed old new =
      IsSame handle old new × (reads new.stream ≡ reads old.stream) × (BreaksWith has_failed old → BreaksWith has_failed new) × (¬ IsWhole old → ¬ IsWhole new)

  -- its replies are handed out, and then sent
  pub written_one : (handle : S → ℤ) (reads : S → Option ℕ) (has_failed : S → Bool) (a b c : Client S) → Owes [] a b → IsAsFar a c
      → c.has_lines ≡ a.has_lines → c.conn ≡ b.conn → handle c.stream ≡ handle b.stream → reads c.stream ≡ reads b.stream
      → (BreaksWith has_failed b → BreaksWith has_failed c) → Written handle reads has_failed a c
  written_one handle reads has_failed a b c owes far lines conn kept counted broken = (
    (conn ∙ owes.conn, kept ∙ ap handle owes.stream),
    counted ∙ ap reads owes.stream,
    λ breaks. broken (breaks_owes has_failed [] a b owes breaks),
    whole_before a c far lines,
  )

  -- ---- a list

  module _ (handle : S → ℤ) (reads : S → Option ℕ) (has_failed : S → Bool) where
    -- all were served
    pub attended_all : (olds clients items : List (Client S)) (i : ℕ) → length clients ≤ i → items ≡ clients
        → DoneTo (λ x y. Attended handle reads has_failed x y) i olds clients
        → NoneIsWhole items × EachSame handle olds items × EachRead reads olds items × (AllBreakWith has_failed olds → AllBreakWith has_failed items)
    attended_all olds clients items i le is done =
        let R : Client S → Client S → Type 0 = λ x y. Attended handle reads has_failed x y in
        let all : AllZip R olds items = subst (AllZip R olds) (sym is) (done_all R olds clients i le done) in (
          zip_all (λ x. ⊤) (λ x. ¬ IsWhole x) olds items (zip_weaker R (λ x y. ⊤ → ¬ IsWhole y) (λ x y p t. p.3) olds items all) (λ k d within. tt),
          zip_weaker R (λ x y. IsSame handle x y) (λ x y p. p.0) olds items all,
          zip_weaker R (λ x y. IsRead reads x y) (λ x y p. p.1) olds items all,
          zip_all (λ x. BreaksWith has_failed x) (λ x. BreaksWith has_failed x) olds items
              (zip_weaker R (λ x y. BreaksWith has_failed x → BreaksWith has_failed y) (λ x y p. p.2) olds items all),
        )

    -- the replies of all were sent
    pub written_all : (olds clients items : List (Client S)) (i : ℕ) → length clients ≤ i → items ≡ clients
        → DoneTo (λ x y. Written handle reads has_failed x y) i olds clients
        → (NoneIsWhole olds → NoneIsWhole items) × EachSame handle olds items × EachUncounted reads olds items
        × (AllBreakWith has_failed olds → AllBreakWith has_failed items)
    written_all olds clients items i le is done =
        let R : Client S → Client S → Type 0 = λ x y. Written handle reads has_failed x y in
        let all : AllZip R olds items = subst (AllZip R olds) (sym is) (done_all R olds clients i le done) in (
          zip_all (λ x. ¬ IsWhole x) (λ x. ¬ IsWhole x) olds items (zip_weaker R (λ x y. ¬ IsWhole x → ¬ IsWhole y) (λ x y p. p.3) olds items all),
          zip_weaker R (λ x y. IsSame handle x y) (λ x y p. p.0) olds items all,
          zip_weaker R (λ x y. reads y.stream ≡ reads x.stream) (λ x y p. p.1) olds items all,
          zip_all (λ x. BreaksWith has_failed x) (λ x. BreaksWith has_failed x) olds items
              (zip_weaker R (λ x y. BreaksWith has_failed x → BreaksWith has_failed y) (λ x y p. p.2) olds items all),
        )

  -- one is told, or isn't
  told_woken : (conn : ℕ) (r w closing : Bool) (c : Client S) → IsWoken c (told conn r w closing c)
  told_woken conn r w closing c = by_test (nat_eq c.conn conn)
    where
      by_test : (b : Bool) → IsWoken c (cond b (woken r w closing c) c)
      by_test true = record { conn = refl; stream = refl; input = refl; held = refl; output = refl; phase = refl; has_lines = refl }
      by_test false = woken_same c

  each_told : (conn : ℕ) (r w closing : Bool) (clients : List (Client S)) → EachWoken clients (map (told conn r w closing) clients)
  each_told conn r w closing [] = tt
  each_told conn r w closing (x ∷ clients) = (told_woken conn r w closing x, each_told conn r w closing clients)

  woken_ids : (a b : List (Client S)) → EachWoken a b → ids b ≡ ids a
  woken_ids [] [] p = refl
  woken_ids [] (y ∷ b) p = absurd p
  woken_ids (x ∷ a) [] p = absurd p
  woken_ids (x ∷ a) (y ∷ b) p = ap (λ k. k ∷ ids b) p.0.conn ∙ ap (λ ks. x.conn ∷ ks) (woken_ids a b p.1)

  -- all were told
  pub told_all : (conn : ℕ) (r w closing : Bool) (olds clients items : List (Client S)) (i : ℕ) → length clients ≤ i → items ≡ clients
      → DoneTo (λ x y. y ≡ told conn r w closing x) i olds clients
      → (items ≡ map (told conn r w closing) olds) × (ids items ≡ ids olds) × EachWoken olds items
  told_all conn r w closing olds clients items i le is done =
      let is_told : items ≡ map (told conn r w closing) olds =
      is ∙ zip_map (told conn r w closing) olds clients (done_all (λ x y. y ≡ told conn r w closing x) olds clients i le done) in
      let all : EachWoken olds items = subst (EachWoken olds) (sym is_told) (each_told conn r w closing olds) in
      (is_told, woken_ids olds items all, all)

  -- ---- those that stay in the list

  module _ (R : Client S → Client S → Type 0) where
    -- all of a list have become so, and some have gone
    stayers : (a d e : List (Client S)) → AllZip R a d → LetsGo d e → (new : Client S) → Contains e new → (old : Client S) × Contains a old × R old new
    stayers a d e each left new here =
        let r = zip_from R a d new each (in_from d new (left.from new here)) in
        (r.0, in_to a r.0 r.1, r.2)

  pub stayers_same : (handle : S → ℤ) (a b d e : List (Client S)) → EachSame handle a b → EachSame handle b d → LetsGo d e → StayersSame handle a e
  stayers_same handle a b d e p q left =
      let same : Client S → Client S → Type 0 = λ x y. IsSame handle x y in
      stayers same a d e (zip_then same same same (same_then handle) a b d p q) left

  pub stayers_read : (handle : S → ℤ) (reads : S → Option ℕ) (a b d e : List (Client S)) → EachSame handle a b → EachRead reads a b → EachSame handle b d
      → EachUncounted reads b d → LetsGo d e → StayersRead reads a e
  stayers_read handle reads a b d e p q r s left = λ new here.
      let kept : Client S → Client S → Type 0 = λ x y. (y.conn ≡ x.conn) × IsRead reads x y in
      let stays : Client S → Client S → Type 0 = λ x y. (y.conn ≡ x.conn) × (reads y.stream ≡ reads x.stream) in
      let first = both (λ x y. IsSame handle x y) (λ x y. IsRead reads x y) kept (λ x y u v. (u.0, v)) a b p q in
      let second = both (λ x y. IsSame handle x y) (λ x y. reads y.stream ≡ reads x.stream) stays (λ x y u v. (u.0, v)) b d r s in
      let r = stayers kept a d e (zip_then kept stays kept (λ x y z u v. (v.0 ∙ u.0, λ wants. v.1 ∙ u.1 wants)) a b d first second) left new here in
      (r.0, r.1, r.2.0, r.2.1)
    where
      both : (P Q W : Client S → Client S → Type 0) (f : (x y : Client S) → P x y → Q x y → W x y) (xs ys : List (Client S)) → AllZip P xs ys → AllZip Q xs ys → AllZip W xs ys
      both P Q W f [] [] p q = tt
      both P Q W f [] (y ∷ ys) p q = absurd p
      both P Q W f (x ∷ xs) [] p q = absurd p
      both P Q W f (x ∷ xs) (y ∷ ys) p q = (f x y p.0 q.0, both P Q W f xs ys p.1 q.1)

  -- of those that aren't over no stream has failed
  pub none_failed : (has_failed : S → Bool) (d e : List (Client S)) → AllBreakWith has_failed d → LetsGo d e → NoneIsOver e → NoneHasFailed has_failed e
  none_failed has_failed d e all left stay =
      let breaks = all_left (λ x. BreaksWith has_failed x) d e left all in
      λ k x within failed. stay k x within (inl (breaks k x within failed))

  -- and where none has failed each breaks with its own
  pub none_failed_break : (has_failed : S → Bool) (clients : List (Client S)) → NoneHasFailed has_failed clients → AllBreakWith has_failed clients
  none_failed_break has_failed clients none = λ k x within failed. absurd (none k x within failed)

  -- ---- over several turns

  module _ (handle : S → ℤ) where
    -- a list that nothing was done to
    pub streams_none : (last : ℕ) (clients : List (Client S)) → SameStreams handle last clients clients
    streams_none last clients = λ new here. inl (new, here, (refl, refl))

    pub streams_then : (last more : ℕ) (a b c : List (Client S)) → last ≤ more → SameStreams handle last a b → SameStreams handle more b c
        → SameStreams handle last a c
    streams_then last more a b c le p q = λ new here. elim (q new here) [
      | inl stood ↦ elim (p stood.0 stood.1) [
        | inl first ↦ inl (first.0, first.1, same_then handle first.0 stood.0 new first.2 stood.2)
        | inr above ↦ inr (subst (λ n. last < n) (sym stood.2.0) above)
      ]
      | inr above ↦ inr (omega (arith, le, above))
    ]

    pub streams_stay : (last : ℕ) (a b : List (Client S)) → StayersSame handle a b → SameStreams handle last a b
    streams_stay last a b p = λ new here. inl (p new here)

    -- readiness is told
    pub streams_woken : (last : ℕ) (a b : List (Client S)) → EachWoken a b → SameStreams handle last a b
    streams_woken last a b p = λ new here.
        let r = zip_from (λ x y. IsWoken x y) a b new p (in_from b new here) in
        inl (r.0, in_to a r.0 r.1, (r.2.conn, ap handle r.2.stream))

    -- one comes, whose number wasn't given yet
    pub streams_comes : (last : ℕ) (clients : List (Client S)) (client : Client S) → last < client.conn → SameStreams handle last clients (clients ++ client ∷ [])
    streams_comes last clients client above = λ new here. elim (in_join clients (client ∷ []) new (in_from (clients ++ client ∷ []) new here)) [
      | inl old ↦ inl (new, in_to clients new old, (refl, refl))
      | inr comer ↦ elim comer [
        | inl is ↦ inr (subst (λ (x : Client S). last < x.conn) is above)
        | inr none ↦ absurd none
      ]
    ]

    none_in : (k : ℕ) (clients : List (Client S)) (c : Client S) → IsNoneOf k (ids clients) → IsIn c clients → nat_eq c.conn k ≡ false
    none_in k [] c none here = absurd here
    none_in k (x ∷ clients) c none (inl is) = subst (λ (y : Client S). nat_eq y.conn k ≡ false) is none.0
    none_in k (x ∷ clients) c none (inr here) = none_in k clients c none.1 here

    -- no two of a list have one number
    alone : (clients : List (Client S)) (b c : Client S) → AllDiffer (ids clients) → IsIn b clients → IsIn c clients → b.conn ≡ c.conn → b ≡ c
    alone [] b c differ h k same = absurd h
    alone (x ∷ clients) b c differ (inl is) (inl also) same = sym is ∙ also
    alone (x ∷ clients) b c differ (inl is) (inr k) same =
        absurd (true_false (nat_eq c.conn x.conn) (equal_test c.conn x.conn (sym same ∙ ap (λ (y : Client S). y.conn) (sym is)))
        (none_in x.conn clients c differ.0 k))
    alone (x ∷ clients) b c differ (inr h) (inl also) same =
        absurd (true_false (nat_eq b.conn x.conn) (equal_test b.conn x.conn (same ∙ ap (λ (y : Client S). y.conn) (sym also)))
        (none_in x.conn clients b differ.0 h))
    alone (x ∷ clients) b c differ (inr h) (inr k) same = alone clients b c differ.1 h k same

    pub numbers_keep : NumbersKeepStreams handle
    numbers_keep = λ last olds news differ given p old new there here same. elim (p new here) [
      | inl stood ↦
          stood.2.1 ∙ ap (λ (x : Client S). handle x.stream)
          (alone olds stood.0 old differ (in_from olds stood.0 stood.1) (in_from olds old there) (sym stood.2.0 ∙ same))
      | inr above ↦ absurd (within last old new same above (old_within last olds old given there))
    ]
      where
        old_within : (last : ℕ) (olds : List (Client S)) (old : Client S) → All (λ x. x.conn ≤ last) olds → Contains olds old → old.conn ≤ last
        old_within last olds old given there = subst (λ (x : Client S). x.conn ≤ last) there.2 (given there.0 old there.1)

        within : (last : ℕ) (old new : Client S) → new.conn ≡ old.conn → last < new.conn → old.conn ≤ last → ⊥
        within last old new same above le = omega (arith, same, above, le)
