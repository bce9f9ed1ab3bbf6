-- Turns one behind another.
-- Cited by `service::accept_one`, `service::serve`, `service::take_turn` and `service::turn`.
use Rattle.std.proofs.Common.{◌≡◌, ◌⊎◌, inl, inr, ◌≤◌, ◌<◌, ℕ, ℤ, List, [], ◌∷◌, ◌++◌, length, map, Option, Some, None, false, cond, nat_eq, arith, refl, sym, ap, subst, ◌∙◌}
use Rattle.std.specs.Prelude.{IsSome}
use Rattle.std.proofs.lemmas.List.{length-map}
use Rattle.std.specs.Io.KnownBytes.{Keeps}
use Rattle.std.proofs.KnownBytes.{Keeps-refl}
use Rattle.mi_hub.specs.Run.{HubState, AttachRefused}
use Rattle.mi_hub.specs.Lines.{Rest}
use Rattle.mi_clients.proofs.StepLemmas.{makes_none, makes_then}
use Rattle.mi_clients.specs.declared.client.Client.{Client}
use Rattle.mi_clients.specs.Client.{IsWoken}
use Rattle.mi_value.specs.declared.limits.TheConstants.{MAX_CONNECTIONS}
use Rattle.mi_hub.specs.Connections.{rest_at}
use Rattle.mi_hub.specs.declared.fault.HubFault.{HubFault}
use Rattle.mi_hub.specs.declared.fault.HubFault.TheVariants as hub
use Rattle.mi_clients.specs.Clients.{ids, fresh, Attends, EachWoken, StayersSame, SameStreams, Admits}
use Rattle.mi_clients.specs.declared.clients.ConnectOutcome.{ConnectOutcome}
use Rattle.mi_clients.specs.declared.clients.ConnectOutcome.TheVariants.{Connected, Refused}
use Rattle.mi_clients.proofs.StreamLemmas.{streams_none, streams_comes}
use Rattle.mi_clients.proofs.ServedLemmas.{IsIn, in_from, in_to, in_join, zip_from}
use Rattle.mi_recovery.specs.declared.device.Keeping.{Keeping}
use Rattle.mi_recovery.specs.declared.place.JournalSchema.{JournalSchema}
use Rattle.mi_recovery.specs.Segments.{IsRolled}
use Rattle.mi_serving.specs.Turns.{Goes, GoesBy, GoesOver, Seam, AllUpTo}

pub goes_none : (s : HubState) (a b : Option (List ℕ)) → Keeps a b → Goes s s a b
goes_none s a b kept = ([], makes_none s a b kept)

pub goes_then : (old mid new : HubState) (a b c : Option (List ℕ)) → Goes old mid a b → Goes mid new b c → Goes old new a c
goes_then old mid new a b c p q = (p.0 ++ q.0, makes_then p.0 q.0 old mid new a b c p.1 q.1)

-- ---- further segments

module _ {F : Type 0} (is_locked : F → Type 0) (contents : F → Option (List ℕ)) (schema : JournalSchema) (keeping : Keeping) (most : ℕ) where
  by_then : (seams : List Seam) (old mid new : HubState) (a b c : Option (List ℕ)) → GoesBy is_locked contents schema keeping most seams old mid a b
      → Goes mid new b c → GoesBy is_locked contents schema keeping most seams old new a c
  by_then [] old mid new a b c p q = goes_then old mid new a b c p q
  by_then (seam ∷ seams) old mid new a b c p q = (p.0, p.1, goes_then seam.hub mid new seam.begun b c p.2 q)

  pub over_then : (old mid new : HubState) (a b c : Option (List ℕ)) → GoesOver is_locked contents schema keeping most old mid a b → Goes mid new b c
      → GoesOver is_locked contents schema keeping most old new a c
  over_then old mid new a b c p q = (p.0, by_then p.0 old mid new a b c p.1 q)

  -- nothing is changed, or the journal goes on in its next segment
  pub over_rolled : {S : Type 0} (hub : S → HubState) (told : S → Option (List ℕ)) (number : S → Option ℕ) (d e : S) (old : HubState) (a : Option (List ℕ))
      → GoesOver is_locked contents schema keeping most old (hub d) a (told d) → hub e ≡ hub d
      → (e ≡ d) ⊎ IsRolled is_locked contents schema keeping most (number d) (told d) (number e) (told e)
      → GoesOver is_locked contents schema keeping most old (hub e) a (told e)
  over_rolled hub told number d e old a p same (inl is) = subst (λ s. GoesOver is_locked contents schema keeping most old (hub s) a (told s)) (sym is) p
  over_rolled hub told number d e old a p same (inr rolled) =
      subst (λ h. GoesOver is_locked contents schema keeping most old h a (told e)) (sym same) (
        record { hub = hub d; before = number d; closed = told d; next = number e; begun = told e } ∷ p.0,
        (p.1, rolled, goes_none (hub d) (told e) (told e) (Keeps-refl (told e))),
      )

-- ---- the numbers of a list

heads : (x y : ℕ) (xs ys : List ℕ) → x ∷ xs ≡ y ∷ ys → x ≡ y
heads x y xs ys e = cc

tails : (x y : ℕ) (xs ys : List ℕ) → x ∷ xs ≡ y ∷ ys → xs ≡ ys
tails x y xs ys e = cc

module _ {S : Type 0} where
  pub up_to_none : (last : ℕ) → AllUpTo {S = S} last []
  up_to_none last = λ c here. absurd (in_from [] c here)

  pub up_to_more : (last more : ℕ) (clients : List (Client S)) → last ≤ more → AllUpTo last clients → AllUpTo more clients
  up_to_more last more clients le all = λ c here. omega (arith, le, all c here)

  pub up_to_stay : (handle : S → ℤ) (last : ℕ) (a b : List (Client S)) → AllUpTo last a → StayersSame handle a b → AllUpTo last b
  up_to_stay handle last a b all p = λ c here. let old = p c here in subst (λ n. n ≤ last) (sym old.2.0) (all old.0 old.1)

  pub up_to_woken : (last : ℕ) (a b : List (Client S)) → AllUpTo last a → EachWoken a b → AllUpTo last b
  up_to_woken last a b all p = λ c here.
      let old = zip_from (λ x y. IsWoken x y) a b c p (in_from b c here) in
      subst (λ n. n ≤ last) (sym old.2.conn) (all old.0 (in_to a old.0 old.1))

  pub up_to_ids : (last : ℕ) (a b : List (Client S)) → AllUpTo last a → ids b ≡ ids a → AllUpTo last b
  up_to_ids last a b all same = λ c here. below c (find c a b same (in_from b c here))
    where
      below : (c : Client S) → (d : Client S) × IsIn d a × (d.conn ≡ c.conn) → c.conn ≤ last
      below c (d, there, is) = subst (λ n. n ≤ last) is (all d (in_to a d there))

      find : (c : Client S) (a b : List (Client S)) → ids b ≡ ids a → IsIn c b → (d : Client S) × IsIn d a × (d.conn ≡ c.conn)
      find c [] [] e here = absurd here
      find c [] (y ∷ b) e here = cc
      find c (x ∷ a) [] e here = absurd here
      find c (x ∷ a) (y ∷ b) e (inl is) = (x, inl refl, sym (heads y.conn x.conn (ids b) (ids a) e) ∙ ap (λ (z : Client S). z.conn) is)
      find c (x ∷ a) (y ∷ b) e (inr here) =
          let old = find c a b (tails y.conn x.conn (ids b) (ids a) e) here in
          (old.0, inr old.1, old.2)

  pub up_to_comes : (last more : ℕ) (clients : List (Client S)) (client : Client S) → AllUpTo last clients → last ≤ more → client.conn ≡ more
      → AllUpTo more (clients ++ client ∷ [])
  up_to_comes last more clients client all le is = λ c here. elim (in_join clients (client ∷ []) c (in_from (clients ++ client ∷ []) c here)) [
    | inl old ↦ omega (arith, le, all c (in_to clients c old))
    | inr comer ↦ elim comer [
      | inl same ↦ subst (λ (x : Client S). x.conn ≤ more) same (omega (arith, is))
      | inr none ↦ absurd none
    ]
  ]

-- ---- a connection that comes, under a number above all of a list

less_test : (x y : ℕ) → x < y → nat_eq x y ≡ false
less_test x y lt = grind arith

module _ {S : Type 0} (handle : S → ℤ) (last conn : ℕ) (above : last < conn) where
  not_attached : (clients : List (Client S)) → AllUpTo last clients → rest_at conn (map fresh (ids clients)) ≡ None
  not_attached [] all = refl
  not_attached (x ∷ clients) all =
      let other : nat_eq x.conn conn ≡ false = less_test x.conn conn (omega (arith, all x (in_to (x ∷ clients) x (inl refl)), above)) in
      ap (λ b. cond b (Some (Some [])) (rest_at conn (map fresh (ids clients)))) other
      ∙ not_attached clients (λ c here. all c (in_to (x ∷ clients) c (inr (in_from clients c here))))

  pub known_after : (stream : S) (old new : HubState) (olds news : List (Client S)) → AllUpTo last olds → (a : ConnectOutcome)
      → Admits conn stream old new olds news a → AllUpTo conn news
  known_after stream old new olds news all Connected p =
      subst (λ clients. AllUpTo conn clients) (sym p.1) (up_to_comes last conn olds p.0 all (omega (arith, above)) p.2)
  known_after stream old new olds news all (Refused fault) p = subst (λ clients. AllUpTo conn clients) (sym p.2) (up_to_more last conn olds (omega (arith, above)) all)

  pub same_after : (stream : S) (old new : HubState) (olds news : List (Client S)) → (a : ConnectOutcome)
      → Admits conn stream old new olds news a → SameStreams handle last olds news
  same_after stream old new olds news Connected p =
      subst (λ clients. SameStreams handle last olds clients) (sym p.1) (streams_comes handle last olds p.0 (omega (arith, above, p.2)))
  same_after stream old new olds news (Refused fault) p = subst (λ clients. SameStreams handle last olds clients) (sym p.2) (streams_none handle last olds)

  pub refused_for : (stream : S) (old new : HubState) (olds news : List (Client S)) → Attends (ids olds) old.attached → AllUpTo last olds
      → length olds < MAX_CONNECTIONS → (a : ConnectOutcome) → Admits conn stream old new olds news a → (fault : HubFault) → Some a ≡ Some (Refused fault)
      → fault ≡ hub.Memory
  refused_for stream old new olds news attends all room Connected p fault is = cc
  refused_for stream old new olds news attends all room (Refused other) p fault is =
      let same : other ≡ fault = cc in
      sym same ∙ reason other p.0
    where
      none : rest_at conn old.attached ≡ None
      none = ap (rest_at conn) attends.there ∙ not_attached olds all

      count : length old.attached ≡ length olds
      count = ap (λ xs. length xs) attends.there ∙ length-map (ids olds) fresh ∙ length-map olds (λ c. c.conn)

      reason : (f : HubFault) → AttachRefused old conn f → f ≡ hub.Memory
      reason hub.Memory q = refl
      reason hub.AlreadyAttached q =
          let bad : IsSome {T = Rest} None = subst (λ o. IsSome o) none q in
          cc
      reason hub.TooMany q = absurd (omega (arith, q.1, count, room))
      reason hub.NotAttached q = absurd q
      reason hub.Write q = absurd q
