-- A list of connections, and what its hub has attached.
-- Cited by `Client::owes_nothing`, `clients::ask_all`, `clients::connect`, `clients::is_any_busy`, `clients::let_go` and 15 more.
use Rattle.std.proofs.Common.{◌≡◌, ◌⊎◌, inl, inr, ℕ, zero, suc, ◌+◌, ◌<◌, ◌≤◌, List, [], ◌∷◌, ◌++◌, length, map, Bool, true, false, cond, nat_eq}
use Rattle.std.proofs.Common.{take, drop, append-nil, MatchBool, Some, None, refl, sym, ap, ◌∙◌, subst, arith}
use Rattle.std.specs.Prelude.{◌↔◌, IsTrue, slice_set, slice_index_or}
use Rattle.std.specs.List.{remove, All, AllZip, Any, AllWithin, HoldsAt}
use Rattle.std.proofs.lemmas.Iterator.Search.{true_from_Any}
use Rattle.std.proofs.Math.ListN.{drop_of_length-le}
use Rattle.std.proofs.lemmas.List.{take_all, get_or_default, get_or-set_same, get_or-set_other, length-set}
use Rattle.std.proofs.Math.Seq.{map-set_same}
use Rattle.std.proofs.lemmas.List.Edits.{get_or-remove_below}
use Rattle.mi_hub.specs.Connections.{rest_at, others}
use Rattle.mi_hub.specs.Run.{HubState, attach, Done}
use Rattle.mi_hub.specs.declared.connection.Connection.{Connection}
use Rattle.mi_clients.specs.Clients.{ids, inputs, fresh, IsNoneOf, AllDiffer, Attends}
use Rattle.mi_clients.specs.declared.client.Client.{Client}

pub test_of : (b : Bool) → (b ≡ true) ⊎ (b ≡ false)
test_of true = inl refl
test_of false = inr refl

pub same_test : (x : ℕ) → nat_eq x x ≡ true
same_test x = grind arith

pub true_false : (b : Bool) → b ≡ true → b ≡ false → ⊥
true_false b is other = cc

pub back_none : {A : Type 0} (xs ys : List A) → xs ++ ys ≡ [] → ys ≡ []
back_none [] ys none = none
back_none (x ∷ xs) ys none = cc

pub front_none : {A : Type 0} (xs ys : List A) → xs ++ ys ≡ [] → xs ≡ []
front_none [] ys none = refl
front_none (x ∷ xs) ys none = cc

pub is_same : (x y : ℕ) → nat_eq x y ≡ true → x ≡ y
is_same x y h = grind arith

pub turned : (x y : ℕ) → nat_eq x y ≡ false → nat_eq y x ≡ false
turned x y h = grind arith

-- a client that keeps its number keeps the row's numbers
pub ids_set : {S : Type 0} (clients : List (Client S)) (i : ℕ) (x d : Client S) → x.conn ≡ (slice_index_or clients i d).conn → ids (slice_set clients i x) ≡ ids clients
ids_set [] i x d h = refl
ids_set (y ∷ clients) zero x d h = ap (λ k. k ∷ ids clients) h
ids_set (y ∷ clients) (suc i) x d h = ap (λ ks. y.conn ∷ ks) (ids_set clients i x d h)

-- one that has sent no more keeps what the list has sent
pub inputs_set : {S : Type 0} (clients : List (Client S)) (i : ℕ) (x d : Client S) → x.input ≡ (slice_index_or clients i d).input
    → inputs (slice_set clients i x) ≡ inputs clients
inputs_set clients i x d h = map-set_same (λ c. c.input) clients i x d h

-- each of the numbers is attached, with no rest
fresh_at : {S : Type 0} (clients : List (Client S)) (i : ℕ) (d : Client S) → i < length clients
    → rest_at (slice_index_or clients i d).conn (map fresh (ids clients)) ≡ Some (Some [])
fresh_at [] i d lt = absurd (omega arith)
fresh_at (y ∷ clients) zero d lt = ap (λ b. cond b (Some (Some [])) (rest_at y.conn (map fresh (ids clients)))) (same_test y.conn)
fresh_at (y ∷ clients) (suc i) d lt =
    let k = (slice_index_or clients i d).conn in
    elim (test_of (nat_eq y.conn k)) [
      | inl is ↦ ap (λ b. cond b (Some (Some [])) (rest_at k (map fresh (ids clients)))) is
      | inr other ↦ ap (λ b. cond b (Some (Some [])) (rest_at k (map fresh (ids clients)))) other ∙ fresh_at clients i d (omega arith)
    ]

pub attends_at : {S : Type 0} (clients : List (Client S)) (i : ℕ) (d : Client S) (attached : List Connection) → Attends (ids clients) attached → i < length clients
    → rest_at (slice_index_or clients i d).conn attached ≡ Some (Some [])
attends_at clients i d attached p lt = ap (rest_at (slice_index_or clients i d).conn) p.there ∙ fresh_at clients i d lt

-- ---- one goes

pub none_at : {S : Type 0} (k : ℕ) (clients : List (Client S)) (i : ℕ) (d : Client S) → i < length clients → IsNoneOf k (ids clients)
    → nat_eq (slice_index_or clients i d).conn k ≡ false
none_at k [] i d lt p = absurd (omega arith)
none_at k (y ∷ clients) zero d lt p = p.0
none_at k (y ∷ clients) (suc i) d lt p = none_at k clients i d (omega arith) p.1

none_less : {S : Type 0} (k : ℕ) (clients : List (Client S)) (i : ℕ) → IsNoneOf k (ids clients) → IsNoneOf k (ids (remove clients i))
none_less k [] zero p = tt
none_less k [] (suc i) p = tt
none_less k (y ∷ clients) zero p = p.1
none_less k (y ∷ clients) (suc i) p = (p.0, none_less k clients i p.1)

differ_less : {S : Type 0} (clients : List (Client S)) (i : ℕ) → AllDiffer (ids clients) → AllDiffer (ids (remove clients i))
differ_less [] zero p = tt
differ_less [] (suc i) p = tt
differ_less (y ∷ clients) zero p = p.1
differ_less (y ∷ clients) (suc i) p = (none_less y.conn clients i p.0, differ_less clients i p.1)

others_less : {S : Type 0} (clients : List (Client S)) (i : ℕ) (d : Client S) → i < length clients → AllDiffer (ids clients)
    → others (slice_index_or clients i d).conn (map fresh (ids clients)) ≡ map fresh (ids (remove clients i))
others_less [] i d lt p = absurd (omega arith)
others_less (y ∷ clients) zero d lt p =
    ap (λ b. cond b (map fresh (ids clients)) (fresh y.conn ∷ others y.conn (map fresh (ids clients)))) (same_test y.conn)
others_less (y ∷ clients) (suc i) d lt p =
    let k = (slice_index_or clients i d).conn in
    let other : nat_eq y.conn k ≡ false = turned k y.conn (none_at y.conn clients i d (omega arith) p.0) in
    ap (λ b. cond b (map fresh (ids clients)) (fresh y.conn ∷ others k (map fresh (ids clients)))) other
    ∙ ap (λ cs. fresh y.conn ∷ cs) (others_less clients i d (omega arith) p.1)

pub attends_less : {S : Type 0} (clients : List (Client S)) (i : ℕ) (d : Client S) (old new : List Connection) → i < length clients → Attends (ids clients) old
    → new ≡ others (slice_index_or clients i d).conn old → Attends (ids (remove clients i)) new
attends_less clients i d old new lt p is = record {
  there = is ∙ ap (others (slice_index_or clients i d).conn) p.there ∙ others_less clients i d lt p.differ;
  differ = differ_less clients i p.differ;
}

-- ---- what holds of the first of a list

-- it holds of each of the first
abbrev pub HoldsTo : {X : Type 0} → (X → Type 0) → ℕ → List X → Type 0
HoldsTo {X} P n clients = (k : ℕ) (d : X) → k < n → k < length clients → P (slice_index_or clients k d)

module _ {X : Type 0} (P : X → Type 0) where
  pub holds_none : (clients : List X) → HoldsTo P 0 clients
  holds_none clients = λ k d below within. absurd (omega (arith, below))

  -- one behind them goes
  pub holds_less : (clients : List X) (i : ℕ) → i < length clients → HoldsTo P i clients → HoldsTo P i (remove clients i)
  holds_less clients i lt p = λ k d below within.
      subst P (sym (get_or-remove_below clients i d k below lt)) (p k d below (omega (arith, below, lt)))

  -- it holds of the next
  pub holds_more : (clients : List X) (i : ℕ) (x : X) → x ≡ slice_index_or clients i x → i < length clients → P x → HoldsTo P i clients → HoldsTo P (i + 1) clients
  holds_more clients i x is lt one p = λ k d below within. elim (test_of (nat_eq k i)) [
    | inl same ↦
        let at : k ≡ i = is_same k i same in
        subst P (is ∙ sym (get_or_default clients i d x lt) ∙ ap (λ n. slice_index_or clients n d) (sym at)) one
    | inr other ↦ p k d (lower k i below other) within
  ]
    where
      lower : (k i : ℕ) → k < i + 1 → nat_eq k i ≡ false → k < i
      lower k i lt other = grind arith

  -- the next becomes one of which it holds
  pub holds_set : (clients : List X) (i : ℕ) (x : X) → i < length clients → P x → HoldsTo P i clients → HoldsTo P (i + 1) (slice_set clients i x)
  holds_set clients i x lt one p =
      let long : length (slice_set clients i x) ≡ length clients = length-set clients i x in
      holds_more (slice_set clients i x) i x (sym (get_or-set_same clients i x x lt)) (omega (arith, lt, long)) one
      (λ k d below within. subst P (sym (get_or-set_other clients i k x d (λ same. unequal k i below same))) (p k d below (omega (arith, within, long))))
    where
      unequal : (k i : ℕ) → k < i → k ≡ i → ⊥
      unequal k i below same = absurd (omega (arith, below, same))

  pub holds_all : (clients : List X) (n : ℕ) → length clients ≤ n → HoldsTo P n clients → All P clients
  holds_all clients n all p = λ k d within. p k d (omega (arith, all, within)) within

-- behind a loop over it a list is what its items have become
pub whole_clients : {X : Type 0} (old cur : List X) (n : ℕ) → n ≡ length old → length cur ≡ length old → take n (cur ++ drop (length cur) old) ≡ cur
whole_clients old cur n is same =
    ap (λ t. take n (cur ++ t)) (drop_of_length-le old (omega arith)) ∙ ap (take n) (append-nil cur) ∙ take_all n cur (omega arith)

-- ---- what is done to one after another

-- the first so many of a list have become so, and the others are as they were
abbrev pub DoneTo : {X : Type 0} → (X → X → Type 0) → ℕ → List X → List X → Type 0
DoneTo R zero olds clients = clients ≡ olds
DoneTo R (suc i) [] [] = Unit {0}
DoneTo R (suc i) [] (y ∷ clients) = ⊥
DoneTo R (suc i) (o ∷ olds) [] = ⊥
DoneTo R (suc i) (o ∷ olds) (y ∷ clients) = R o y × DoneTo R i olds clients

module _ {X : Type 0} where
  pub done_set : (R : X → X → Type 0) (olds clients : List X) (i : ℕ) (d x : X) → i < length clients → R (slice_index_or clients i d) x → DoneTo R i olds clients
      → DoneTo R (i + 1) olds (slice_set clients i x)
  done_set R olds clients i d x lt one p = subst (λ n. DoneTo R n olds (slice_set clients i x)) (next i) (go olds clients i lt one p)
    where
      next : (i : ℕ) → suc i ≡ i + 1
      next i = omega arith

      go : (olds clients : List X) (i : ℕ) → i < length clients → R (slice_index_or clients i d) x → DoneTo R i olds clients → DoneTo R (suc i) olds (slice_set clients i x)
      go olds [] i lt one p = absurd (omega arith)
      go olds (y ∷ clients) zero lt one p = subst (λ os. DoneTo R 1 os (x ∷ clients)) p (one, refl)
      go [] (y ∷ clients) (suc i) lt one p = absurd p
      go (o ∷ olds) (y ∷ clients) (suc i) lt one p = (p.0, go olds clients i (omega arith) one p.1)

  pub done_all : (R : X → X → Type 0) (olds clients : List X) (i : ℕ) → length clients ≤ i → DoneTo R i olds clients → AllZip R olds clients
  done_all R olds [] zero le p = subst (λ os. AllZip R os []) p tt
  done_all R olds (y ∷ clients) zero le p = absurd (omega arith)
  done_all R [] [] (suc i) le p = tt
  done_all R [] (y ∷ clients) (suc i) le p = absurd p
  done_all R (o ∷ olds) [] (suc i) le p = absurd p
  done_all R (o ∷ olds) (y ∷ clients) (suc i) le p = (p.0, done_all R olds clients i (omega arith) p.1)

  -- the next is as it was
  pub done_next : (R : X → X → Type 0) (olds clients : List X) (i : ℕ) (d : X) → i < length clients → DoneTo R i olds clients
      → (i < length olds) × (slice_index_or clients i d ≡ slice_index_or olds i d)
  done_next R olds [] i d lt p = absurd (omega arith)
  done_next R olds (y ∷ clients) zero d lt p =
      (subst (λ os. 0 < length os) p lt, ap (λ os. slice_index_or os 0 d) p)
  done_next R [] (y ∷ clients) (suc i) d lt p = absurd p
  done_next R (o ∷ olds) (y ∷ clients) (suc i) d lt p = let q = done_next R olds clients i d (omega arith) p.1 in (omega (arith, q.0), q.1)

  -- what follows place by place
  pub zip_weaker : (R Q : X → X → Type 0) (f : (x y : X) → R x y → Q x y) (xs ys : List X) → AllZip R xs ys → AllZip Q xs ys
  zip_weaker R Q f [] [] p = tt
  zip_weaker R Q f [] (y ∷ ys) p = absurd p
  zip_weaker R Q f (x ∷ xs) [] p = absurd p
  zip_weaker R Q f (x ∷ xs) (y ∷ ys) p = (f x y p.0, zip_weaker R Q f xs ys p.1)

  pub zip_then : (R Q W : X → X → Type 0) (f : (x y z : X) → R x y → Q y z → W x z) (xs ys zs : List X) → AllZip R xs ys → AllZip Q ys zs → AllZip W xs zs
  zip_then R Q W f [] [] [] p q = tt
  zip_then R Q W f [] [] (z ∷ zs) p q = absurd q
  zip_then R Q W f [] (y ∷ ys) zs p q = absurd p
  zip_then R Q W f (x ∷ xs) [] zs p q = absurd p
  zip_then R Q W f (x ∷ xs) (y ∷ ys) [] p q = absurd q
  zip_then R Q W f (x ∷ xs) (y ∷ ys) (z ∷ zs) p q = (f x y z p.0 q.0, zip_then R Q W f xs ys zs p.1 q.1)

  -- what then holds of all
  pub zip_all : (P Q : X → Type 0) (xs ys : List X) → AllZip (λ x y. P x → Q y) xs ys → All P xs → All Q ys
  zip_all P Q xs ys p all = λ k d within. at xs ys k d within p all
    where
      at : (xs ys : List X) (k : ℕ) (d : X) → k < length ys → AllZip (λ x y. P x → Q y) xs ys → All P xs → Q (slice_index_or ys k d)
      at [] [] k d lt p all = absurd (omega arith)
      at [] (y ∷ ys) k d lt p all = absurd p
      at (x ∷ xs) [] k d lt p all = absurd p
      at (x ∷ xs) (y ∷ ys) zero d lt p all = p.0 (all 0 d (omega arith))
      at (x ∷ xs) (y ∷ ys) (suc k) d lt p all = at xs ys k d (omega arith) p.1 (λ j e within. all (suc j) e (omega (arith, within)))

  pub zip_map : (f : X → X) (xs ys : List X) → AllZip (λ x y. y ≡ f x) xs ys → ys ≡ map f xs
  zip_map f [] [] p = refl
  zip_map f [] (y ∷ ys) p = absurd p
  zip_map f (x ∷ xs) [] p = absurd p
  zip_map f (x ∷ xs) (y ∷ ys) p = ap (λ z. z ∷ ys) p.0 ∙ ap (λ zs. f x ∷ zs) (zip_map f xs ys p.1)

-- ---- some is so

pub any_of : {X : Type 0} (P : X → Type 0) (r : Bool) (xs : List X)
    → MatchBool r ((k : ℕ) × (k < length xs) × HoldsAt P xs k) (AllWithin (λ x. ¬ P x) xs 0 (length xs)) → IsTrue r ↔ Any P xs
any_of P true [] m = absurd (omega (arith, m.1))
any_of P true (y ∷ xs) m = (
  λ is. let x = slice_index_or (y ∷ xs) m.0 y in (m.0, x, m.1, get_or_default (y ∷ xs) m.0 x y m.1, m.2 y),
  λ some. refl,
)
any_of P false xs m = (
  λ is. absurd (true_false false is refl),
  λ some. true_from_Any P (λ x. ¬ P x) false xs (λ x is not. not is) m some.1 (some.0, some.2, some.3) some.4,
)

-- ---- one comes

not_there : (k : ℕ) (xs : List ℕ) → rest_at k (map fresh xs) ≡ None → IsNoneOf k xs
not_there k [] h = tt
not_there k (x ∷ xs) h = elim (test_of (nat_eq x k)) [
  | inl is ↦ absurd (some_none (sym (ap (λ b. cond b (Some (Some [])) (rest_at k (map fresh xs))) is) ∙ h))
  | inr other ↦ (other, not_there k xs (sym (ap (λ b. cond b (Some (Some [])) (rest_at k (map fresh xs))) other) ∙ h))
]
  where
    some_none : {A : Type 0} {x : A} → Some x ≡ None → ⊥
    some_none e = cc

none_more : (k x : ℕ) (xs : List ℕ) → IsNoneOf k xs → nat_eq x k ≡ false → IsNoneOf k (xs ++ x ∷ [])
none_more k x [] p h = (h, tt)
none_more k x (y ∷ xs) p h = (p.0, none_more k x xs p.1 h)

differ_more : (x : ℕ) (xs : List ℕ) → AllDiffer xs → IsNoneOf x xs → AllDiffer (xs ++ x ∷ [])
differ_more x [] p q = (tt, tt)
differ_more x (y ∷ xs) p q = (none_more y x xs p.0 (turned y x q.0), differ_more x xs p.1 q.1)

map_more : (xs : List ℕ) (x : ℕ) → map fresh xs ++ fresh x ∷ [] ≡ map fresh (xs ++ x ∷ [])
map_more [] x = refl
map_more (y ∷ xs) x = ap (λ cs. fresh y ∷ cs) (map_more xs x)

ids_more : {S : Type 0} (clients : List (Client S)) (c : Client S) → ids (clients ++ c ∷ []) ≡ ids clients ++ c.conn ∷ []
ids_more [] c = refl
ids_more (y ∷ clients) c = ap (λ ks. y.conn ∷ ks) (ids_more clients c)

pub attends_more : {S : Type 0} (clients : List (Client S)) (c : Client S) (conn : ℕ) (old new : HubState) → Attends (ids clients) old.attached
    → c.conn ≡ conn → Done old (attach conn) [] new → Attends (ids (clients ++ c ∷ [])) new.attached
attends_more clients c conn old new p is done =
    let all : ids (clients ++ c ∷ []) ≡ ids clients ++ conn ∷ [] = ids_more clients c ∙ ap (λ k. ids clients ++ k ∷ []) is in
    subst (λ ks. Attends ks new.attached) (sym all) (record {
      there = ap (λ (s : HubState). s.attached) done.3 ∙ ap (λ cs. cs ++ fresh conn ∷ []) p.there ∙ map_more (ids clients) conn;
      differ = differ_more conn (ids clients) p.differ (not_there conn (ids clients) (sym (ap (rest_at conn) p.there) ∙ done.0));
    })

-- who is attached anew has a number of its own
pub none_of_attended : (conn : ℕ) (clients : List ℕ) (old new : HubState) → Attends clients old.attached → Done old (attach conn) [] new → IsNoneOf conn clients
none_of_attended conn clients old new p done = not_there conn clients (sym (ap (rest_at conn) p.there) ∙ done.0)
