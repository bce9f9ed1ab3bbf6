-- Lists of nodes by their keys: filters, and the groups of a list when nodes of one key are added or taken out.
-- Cited by `Chains::next_of`, `Chains::prev_of`, `look::is_like`, `look::is_of_key`, `CallLemmas` and 7 more.
use Rattle.std.proofs.Common.{◌≡◌, ℕ, ◌⊎◌, inl, inr, Bool, true, false, not, cond, List, [], ◌∷◌, ◌++◌, Option, Some, None, refl, sym, ap, ◌∙◌, subst}
use Rattle.std.specs.List.{filter}
use Rattle.std.proofs.lemmas.List.Elements.{filter-append}
use Rattle.mi_node.specs.Refs.{Ref, first_of, last_of, IsOut, IsApart, AreOut}
use Rattle.mi_node.proofs.RefLemmas.{out_both, apart_both, are_out_cons, are_out_flip}
use Rattle.mi_chain.specs.Groups.{members, first_in, unalike, IsGrouped, ArePassed, AreFull}

abbrev Test : Type 0
Test = Ref → Bool

pub decide : (b : Bool) → (b ≡ true) ⊎ (b ≡ false)
decide true = inl refl
decide false = inr refl

pub not_both : (b : Bool) → b ≡ true → b ≡ false → ⊥
not_both b t f = cc

pub no_is_false : (b : Bool) → (b ≡ true → ⊥) → b ≡ false
no_is_false true h = absurd (h refl)
no_is_false false h = refl

pub filter_same : (f g : Test) → ((q : Ref) → f q ≡ g q) → (rs : List Ref) → filter f rs ≡ filter g rs
filter_same f g e rs = ap (λ (h : Test). filter h rs) (λ i q. e q i)

-- one test after another
pub filter_both : (f g : Test) (rs : List Ref) → ((q : Ref) → f q ≡ true → g q ≡ true) → filter f (filter g rs) ≡ filter f rs
filter_both f g [] h = refl
filter_both f g (r ∷ rs) h = (elim (g r) as (λ b. g r ≡ b → filter f (cond b (r ∷ filter g rs) (filter g rs)) ≡ cond (f r) (r ∷ filter f rs) (filter f rs)) [
  | true ↦ λ e. ap (λ z. cond (f r) (r ∷ z) z) (filter_both f g rs h)
  | false ↦ λ e.
      let no : f r ≡ false = no_is_false (f r) (λ t. not_both (g r) (h r t) e) in
      filter_both f g rs h ∙ ap (λ b. cond b (r ∷ filter f rs) (filter f rs)) (sym no)
]) refl

pub filter_swap : (f g : Test) (rs : List Ref) → filter f (filter g rs) ≡ filter g (filter f rs)
filter_swap f g [] = refl
filter_swap f g (r ∷ rs) = (elim (f r)
    as (λ b. f r ≡ b → filter f (cond (g r) (r ∷ filter g rs) (filter g rs)) ≡ filter g (cond b (r ∷ filter f rs) (filter f rs))) [
      | true ↦ λ e. (elim (g r) as (λ c. filter f (cond c (r ∷ filter g rs) (filter g rs)) ≡ cond c (r ∷ filter g (filter f rs)) (filter g (filter f rs))) [
        | true ↦ ap (λ b. cond b (r ∷ filter f (filter g rs)) (filter f (filter g rs))) e ∙ ap (λ z. r ∷ z) (filter_swap f g rs)
        | false ↦ filter_swap f g rs
      ])
      | false ↦ λ e. (elim (g r) as (λ c. filter f (cond c (r ∷ filter g rs) (filter g rs)) ≡ filter g (filter f rs)) [
        | true ↦ ap (λ b. cond b (r ∷ filter f (filter g rs)) (filter f (filter g rs))) e ∙ filter_swap f g rs
        | false ↦ filter_swap f g rs
      ])
    ]) refl

pub filter_with : (f : Test) (xs : List Ref) (r : Ref) (ys : List Ref) → f r ≡ true → filter f (xs ++ r ∷ ys) ≡ filter f xs ++ r ∷ filter f ys
filter_with f xs r ys e = filter-append f xs (r ∷ ys) ∙ ap (λ b. filter f xs ++ cond b (r ∷ filter f ys) (filter f ys)) e

pub filter_without : (f : Test) (xs : List Ref) (r : Ref) (ys : List Ref) → f r ≡ false → filter f (xs ++ r ∷ ys) ≡ filter f (xs ++ ys)
filter_without f xs r ys e = filter-append f xs (r ∷ ys) ∙ ap (λ b. filter f xs ++ cond b (r ∷ filter f ys) (filter f ys)) e ∙ sym (filter-append f xs ys)

-- where no node passes, all nodes pass the opposite
filter_rest : (f : Test) (rs : List Ref) → filter f rs ≡ [] → filter (λ q. not (f q)) rs ≡ rs
filter_rest f [] e = refl
filter_rest f (r ∷ rs) e = (elim (f r)
    as (λ b. cond b (r ∷ filter f rs) (filter f rs) ≡ [] → cond (not b) (r ∷ filter (λ q. not (f q)) rs) (filter (λ q. not (f q)) rs) ≡ r ∷ rs) [
      | true ↦ λ h. absurd (cc)
      | false ↦ λ h. ap (λ z. r ∷ z) (filter_rest f rs h)
    ]) e

pub first_passes : (f : Test) (rs g : List Ref) (y : Ref) → filter f rs ≡ g → first_of g None ≡ Some y → f y ≡ true
first_passes f [] g y e h = absurd (let n : None ≡ Some y = ap (λ z. first_of z None) e ∙ h in cc)
first_passes f (r ∷ rs) g y e h = (elim (f r) as (λ b. f r ≡ b → cond b (r ∷ filter f rs) (filter f rs) ≡ g → f y ≡ true) [
  | true ↦ λ t e'. let n : Some r ≡ Some y = ap (λ z. first_of z None) e' ∙ h in let q : r ≡ y = cc in ap f (sym q) ∙ t
  | false ↦ λ t e'. first_passes f rs g y e' h
]) refl e

pub last_passes : (f : Test) (rs : List Ref) (z : Ref) → last_of None (filter f rs) ≡ Some z → f z ≡ true
last_passes f rs z e = from f rs None z (λ q d. absurd cc) e
  where
    from : (f : Test) (rs : List Ref) (b : Option Ref) (z : Ref) → ((q : Ref) → b ≡ Some q → f q ≡ true) → last_of b (filter f rs) ≡ Some z → f z ≡ true
    from f [] b z h e = h z e
    from f (r ∷ rs) b z h e = (elim (f r) as (λ c. f r ≡ c → last_of b (cond c (r ∷ filter f rs) (filter f rs)) ≡ Some z → f z ≡ true) [
      | true ↦ λ t e'. from f rs (Some r) z (λ q d. let same : r ≡ q = cc in ap f (sym same) ∙ t) e'
      | false ↦ λ t e'. from f rs b z h e'
    ]) refl e

-- a group that was there was not passed
pub passed_not : (K : Test) (gs : List (List Ref)) → ArePassed K gs
    → (X : List (List Ref)) (g : List Ref) (Y : List (List Ref)) (y : Ref) → gs ≡ X ++ g ∷ Y → first_of g None ≡ Some y → K y ≡ true → ⊥
passed_not K gs p X g Y y e f t = at X (subst (ArePassed K) e p)
  where
    at : (X : List (List Ref)) → ArePassed K (X ++ g ∷ Y) → ⊥
    at [] p = let q = p.0.1 in let same : p.0.0 ≡ y = some_same p.0.0 y (sym q ∙ f) in not_both (K y) t (ap K (sym same) ∙ p.0.2)
      where
        some_same : (a b : Ref) → Some a ≡ Some b → a ≡ b
        some_same a b e = cc
    at (x ∷ X) p = at X p.1

pub not_empty : (xs : List Ref) (r : Ref) (ys : List Ref) → xs ++ r ∷ ys ≡ [] → ⊥
not_empty [] r ys e = cc
not_empty (x ∷ xs) r ys e = cc

pub both_empty : (xs ys : List Ref) → xs ++ ys ≡ [] → (xs ≡ []) × (ys ≡ [])
both_empty [] ys e = (refl, e)
both_empty (x ∷ xs) ys e = absurd (cc)

-- names
pub out_filter : (f : Test) (k : ℕ) (rs : List Ref) → IsOut k rs → IsOut k (filter f rs)
out_filter f k [] h = tt
out_filter f k (r ∷ rs) h = elim (f r) as (λ b. IsOut k (cond b (r ∷ filter f rs) (filter f rs))) [
  | true ↦ (h.0, out_filter f k rs h.1)
  | false ↦ out_filter f k rs h.1
]

pub apart_filter : (f : Test) (rs : List Ref) → IsApart rs → IsApart (filter f rs)
apart_filter f [] h = tt
apart_filter f (r ∷ rs) h = elim (f r) as (λ b. IsApart (cond b (r ∷ filter f rs) (filter f rs))) [
  | true ↦ (out_filter f r.name rs h.0, apart_filter f rs h.1)
  | false ↦ apart_filter f rs h.1
]

pub are_out_filter : (f : Test) (rs ys : List Ref) → AreOut rs ys → AreOut (filter f rs) ys
are_out_filter f [] ys h = tt
are_out_filter f (r ∷ rs) ys h = elim (f r) as (λ b. AreOut (cond b (r ∷ filter f rs) (filter f rs)) ys) [
  | true ↦ (h.0, are_out_filter f rs ys h.1)
  | false ↦ are_out_filter f rs ys h.1
]

-- the nodes that pass one of two tests which no node passes both
pub apart_tests : (f g : Test) (rs : List Ref) → ((q : Ref) → f q ≡ true → g q ≡ false) → IsApart rs → AreOut (filter f rs) (filter g rs)
apart_tests f g [] h a = tt
apart_tests f g (r ∷ rs) h a = (elim (f r) as (λ b. f r ≡ b → AreOut (cond b (r ∷ filter f rs) (filter f rs)) (cond (g r) (r ∷ filter g rs) (filter g rs))) [
  | true ↦ λ e. subst (λ c. AreOut (r ∷ filter f rs) (cond c (r ∷ filter g rs) (filter g rs)))
      (sym (h r e)) (out_filter g r.name rs a.0, apart_tests f g rs h a.1)
  | false ↦ λ e. (elim (g r) as (λ c. AreOut (filter f rs) (cond c (r ∷ filter g rs) (filter g rs))) [
    | true ↦ are_out_cons (filter f rs) r (filter g rs) (out_filter f r.name rs a.0) (apart_tests f g rs h a.1)
    | false ↦ apart_tests f g rs h a.1
  ])
]) refl

are_out_left : (xs ys zs : List Ref) → AreOut xs zs → AreOut ys zs → AreOut (xs ++ ys) zs
are_out_left [] ys zs g h = h
are_out_left (x ∷ xs) ys zs g h = (g.0, are_out_left xs ys zs g.1 h)

-- an equality of keys
pub record IsAlike (R : Ref → Ref → Bool) : Type 0 where
  pub reflexive : (x : Ref) → R x x ≡ true
  pub symmetric : (x y : Ref) → R x y ≡ true → R y x ≡ true
  pub transitive : (x y z : Ref) → R x y ≡ true → R y z ≡ true → R x z ≡ true

module _ (R : Ref → Ref → Bool) (A : IsAlike R) where
  same_bool : (a b : Bool) → (a ≡ true → b ≡ true) → (b ≡ true → a ≡ true) → a ≡ b
  same_bool true b h k = sym (h refl)
  same_bool false true h k = k refl
  same_bool false false h k = refl

  pub like : (x y q : Ref) → R x y ≡ true → R x q ≡ R y q
  like x y q e = same_bool (R x q) (R y q) (λ h. A.transitive y x q (A.symmetric x y e) h) (λ h. A.transitive x y q e h)

  unlike : (x y z : Ref) → R x y ≡ true → R z y ≡ false → R z x ≡ false
  unlike x y z e n = no_is_false (R z x) (λ h. not_both (R z y) (A.transitive z x y h e) n)

  pub grouped_out : (k : ℕ) (gs : List (List Ref)) (rs : List Ref) → IsGrouped R gs rs → IsOut k rs → IsOut k (members gs)
  grouped_out k [] rs h o = tt
  grouped_out k (g ∷ gs) rs h o =
      out_both k g (members gs) (subst (IsOut k) h.2 (out_filter (R h.0) k rs o))
      (grouped_out k gs (unalike R h.0 rs) h.3 (out_filter (λ q. not (R h.0 q)) k rs o))

  pub grouped_are_out : (gs : List (List Ref)) (rs ys : List Ref) → IsGrouped R gs rs → AreOut rs ys → AreOut (members gs) ys
  grouped_are_out [] rs ys h o = tt
  grouped_are_out (g ∷ gs) rs ys h o =
      are_out_left g (members gs) ys (subst (λ z. AreOut z ys) h.2 (are_out_filter (R h.0) rs ys o))
      (grouped_are_out gs (unalike R h.0 rs) ys h.3 (are_out_filter (λ q. not (R h.0 q)) rs ys o))

  not_true : (b : Bool) → b ≡ true → not b ≡ false
  not_true b e = ap not e

  pub grouped_apart : (gs : List (List Ref)) (rs : List Ref) → IsGrouped R gs rs → IsApart rs → IsApart (members gs)
  grouped_apart [] rs h a = tt
  grouped_apart (g ∷ gs) rs h a =
      let N : Test = λ q. not (R h.0 q) in
      let across : AreOut g (filter N rs) = subst (λ z. AreOut z (filter N rs)) h.2 (apart_tests (R h.0) N rs (λ q e. ap not e) a) in
      apart_both g (members gs) (subst IsApart h.2 (apart_filter (R h.0) rs a)) (grouped_apart gs (filter N rs) h.3 (apart_filter N rs a))
      (are_out_flip (members gs) g (grouped_are_out gs (filter N rs) g h.3 (are_out_flip g (filter N rs) across)))

  pub grouped_full : (gs : List (List Ref)) (rs : List Ref) → IsGrouped R gs rs → AreFull gs
  grouped_full [] rs h = tt
  grouped_full (g ∷ gs) rs h = (h.1, grouped_full gs (unalike R h.0 rs) h.3)

  -- the groups of a list are those of any list that has the same nodes of each key in the same order
  grouped_alike : (gs : List (List Ref)) (us vs : List Ref) → IsGrouped R gs us → ((x : Ref) → filter (R x) us ≡ filter (R x) vs) → IsGrouped R gs vs
  grouped_alike [] us [] h e = refl
  grouped_alike [] us (v ∷ vs) h e =
      let here : v ∷ filter (R v) vs ≡ [] = ap (λ b. cond b (v ∷ filter (R v) vs) (filter (R v) vs)) (sym (A.reflexive v)) ∙ sym (e v) ∙ ap (filter (R v)) h in
      absurd (cc)
  grouped_alike (g ∷ gs) us vs h e =
      let N : Test = λ q. not (R h.0 q) in (
        h.0,
        h.1,
        sym (e h.0) ∙ h.2,
        grouped_alike gs (filter N us) (filter N vs) h.3 (λ x. filter_swap (R x) N us ∙ ap (filter N) (e x) ∙ filter_swap N (R x) vs),
      )

  -- a test that nodes of one key pass alike, and nodes of two keys not both
  pub record IsOfKey (K : Test) : Type 0 where
    pub agrees : (x y : Ref) → R x y ≡ true → K x ≡ true → K y ≡ true
    pub one_key : (x y : Ref) → K x ≡ true → K y ≡ true → R x y ≡ true

  pub of_key_of : (r : Ref) → IsOfKey (R r)
  of_key_of r = record { agrees = λ x y e h. A.transitive r x y h e; one_key = λ x y g h. A.transitive x r y (A.symmetric r x g) h }

  module _ (K : Test) (O : IsOfKey K) where
    passed_class : (x y : Ref) → R x y ≡ true → K y ≡ false → (q : Ref) → K q ≡ true → not (R x q) ≡ true
    passed_class x y e n q h = ap not (no_is_false (R x q) (λ t. not_both (K y) (O.agrees q y (A.transitive q x y (A.symmetric x q t) e) h) n))

    -- where all groups were passed, no node has the key
    pub key_of_none : (gs : List (List Ref)) (rs : List Ref) → IsGrouped R gs rs → ArePassed K gs → filter K rs ≡ []
    key_of_none [] rs h p = ap (filter K) h
    key_of_none (g ∷ gs) rs h p =
        sym (filter_both K (λ q. not (R h.0 q)) rs (passed_class h.0 p.0.0 (first_passes (R h.0) rs g p.0.0 h.2 p.0.1) p.0.2))
        ∙ key_of_none gs (unalike R h.0 rs) h.3 p.1

    class_is : (x y : Ref) → R x y ≡ true → K y ≡ true → (q : Ref) → K q ≡ R x q
    class_is x y e t q = same_bool (K q) (R x q) (λ h. A.transitive x y q e (O.one_key y q t h))
        (λ h. O.agrees y q (A.transitive y x q (A.symmetric x y e) h) t)

    -- the first group that was not passed has all nodes of the key
    pub key_of_group : (gs : List (List Ref)) (g : List Ref) (hs : List (List Ref)) (rs : List Ref) (y : Ref)
        → IsGrouped R (gs ++ g ∷ hs) rs → ArePassed K gs → first_of g None ≡ Some y → K y ≡ true
        → filter K rs ≡ g
    key_of_group [] g hs rs y h p f t = filter_same K (R h.0) (class_is h.0 y (first_passes (R h.0) rs g y h.2 f) t) rs ∙ h.2
    key_of_group (g' ∷ gs) g hs rs y h p f t =
        sym (filter_both K (λ q. not (R h.0 q)) rs (passed_class h.0 p.0.0 (first_passes (R h.0) rs g' p.0.0 h.2 p.0.1) p.0.2))
        ∙ key_of_group gs g hs (unalike R h.0 rs) y h.3 p.1 f t

  -- where no node has the key, all groups are passed
  pub passed_all : (r : Ref) (gs : List (List Ref)) (rs : List Ref) → IsGrouped R gs rs → filter (R r) rs ≡ [] → ArePassed (R r) gs
  passed_all r [] rs h none = tt
  passed_all r ([] ∷ gs) rs h none = absurd (h.1 refl)
  passed_all r ((y ∷ g) ∷ gs) rs h none =
      let inside : filter (R r) (y ∷ g) ≡ [] = ap (filter (R r)) (sym h.2) ∙ filter_swap (R r) (R h.0) rs ∙ ap (filter (R h.0)) none in
      let not_it : R r y ≡ false = no_is_false (R r y)
      (λ t. let full : y ∷ filter (R r) g ≡ [] = ap (λ b. cond b (y ∷ filter (R r) g) (filter (R r) g)) (sym t) ∙ inside in cc) in
      ((y, refl, not_it), passed_all r gs (unalike R h.0 rs) h.3 (filter_swap (R r) (λ q. not (R h.0 q)) rs ∙ ap (filter (λ q. not (R h.0 q))) none))

  no_true : (b : Bool) → not b ≡ true → b ≡ false
  no_true true e = sym e
  no_true false e = refl

  -- the first node of a group passes what all nodes passed
  later : (X : List (List Ref)) (g : List Ref) (Y : List (List Ref)) (y : Ref) → first_of g None ≡ Some y
      → (N : Test) (rs : List Ref) → IsGrouped R (X ++ g ∷ Y) (filter N rs) → N y ≡ true
  later [] g Y y f N rs k = first_passes N (filter (R k.0) rs) g y (sym (filter_swap (R k.0) N rs) ∙ k.2) f
  later (x ∷ X) g Y y f N rs k = later X g Y y f N (filter (λ q. not (R k.0 q)) rs)
      (subst (IsGrouped R (X ++ g ∷ Y)) (filter_swap (λ q. not (R k.0 q)) N rs) k.3)

  -- the groups before that of a key are of other keys
  pub passed_before : (r : Ref) (X : List (List Ref)) (g : List Ref) (Y : List (List Ref)) (rs : List Ref) (y : Ref)
      → IsGrouped R (X ++ g ∷ Y) rs → first_of g None ≡ Some y → R r y ≡ true → ArePassed (R r) X
  passed_before r [] g Y rs y h f t = tt
  passed_before r ([] ∷ X) g Y rs y h f t = absurd (h.1 refl)
  passed_before r ((x ∷ g1) ∷ X) g Y rs y h f t =
      let far = no_true (R h.0 y) (later X g Y y f (λ q. not (R h.0 q)) rs h.3) in
      let near = first_passes (R h.0) rs (x ∷ g1) x h.2 refl in
      let not_it : R r x ≡ false = no_is_false (R r x) (λ e. not_both (R h.0 y) (A.transitive h.0 x y near (A.transitive x r y (A.symmetric r x e) t)) far) in
      ((x, refl, not_it), passed_before r X g Y (unalike R h.0 rs) y h.3 f t)

  -- another list that differs in the nodes like r alone
  module _ (r : Ref) where
    keeps_class : (x : Ref) → R r x ≡ false → (q : Ref) → R x q ≡ true → not (R r q) ≡ true
    keeps_class x n q h = ap not (no_is_false (R r q) (λ t. not_both (R r x) (A.transitive r q x t (A.symmetric x q h)) n))

    not_class : (x : Ref) → R r x ≡ false → (q : Ref) → R r q ≡ true → not (R x q) ≡ true
    not_class x n q h = ap not (no_is_false (R x q) (λ t. not_both (R r x) (A.transitive r q x h (A.symmetric x q t)) n))

    class_else : (x : Ref) (rs us : List Ref) → R r x ≡ false → unalike R r us ≡ unalike R r rs → filter (R x) us ≡ filter (R x) rs
    class_else x rs us n e = sym (filter_both (R x) (λ q. not (R r q)) us (keeps_class x n))
        ∙ ap (filter (R x)) e ∙ filter_both (R x) (λ q. not (R r q)) rs (keeps_class x n)

    rest_else : (x : Ref) (rs us : List Ref) → unalike R r us ≡ unalike R r rs → unalike R r (unalike R x us) ≡ unalike R r (unalike R x rs)
    rest_else x rs us e = filter_swap (λ q. not (R r q)) (λ q. not (R x q)) us
        ∙ ap (filter (λ q. not (R x q))) e ∙ filter_swap (λ q. not (R x q)) (λ q. not (R r q)) rs

    rest_here : (x y : Ref) (rs us : List Ref) → R x y ≡ true → R r y ≡ true → unalike R r us ≡ unalike R r rs → unalike R x us ≡ unalike R x rs
    rest_here x y rs us e t h =
        let same : (q : Ref) → not (R x q) ≡ not (R r q) = λ q. ap not (like x y q e ∙ sym (like r y q t)) in
        filter_same (λ q. not (R x q)) (λ q. not (R r q)) same us ∙ h ∙ sym (filter_same (λ q. not (R x q)) (λ q. not (R r q)) same rs)

    -- a group is another
    pub group_other : (gs : List (List Ref)) (g : List Ref) (hs : List (List Ref)) (g' rs us : List Ref) (y : Ref)
        → IsGrouped R (gs ++ g ∷ hs) rs → ArePassed (R r) gs → first_of g None ≡ Some y
        → R r y ≡ true → unalike R r us ≡ unalike R r rs → filter (R r) us ≡ g' → (g' ≡ [] → ⊥) → IsGrouped R (gs ++ g' ∷ hs) us
    group_other [] g hs g' rs us y h p f t e now full = let xy = first_passes (R h.0) rs g y h.2 f in (
      h.0,
      full,
      filter_same (R h.0) (R r) (λ q. like h.0 y q xy ∙ sym (like r y q t)) us ∙ now,
      subst (IsGrouped R hs) (sym (rest_here h.0 y rs us xy t e)) h.3,
    )
    group_other (g1 ∷ gs) g hs g' rs us y h p f t e now full = let n = unlike h.0 p.0.0 r (first_passes (R h.0) rs g1 p.0.0 h.2 p.0.1) p.0.2 in (
      h.0,
      h.1,
      class_else h.0 rs us n e ∙ h.2,
      group_other gs g hs g' (unalike R h.0 rs) (unalike R h.0 us) y h.3 p.1 f t (rest_else h.0 rs us e)
          (filter_both (R r) (λ q. not (R h.0 q)) us (not_class h.0 n) ∙ now) full,
    )

    -- a group is gone
    pub group_gone : (gs : List (List Ref)) (g : List Ref) (hs : List (List Ref)) (rs us : List Ref) (y : Ref)
        → IsGrouped R (gs ++ g ∷ hs) rs → ArePassed (R r) gs → first_of g None ≡ Some y → R r y ≡ true
        → unalike R r us ≡ unalike R r rs → filter (R r) us ≡ [] → IsGrouped R (gs ++ hs) us
    group_gone [] g hs rs us y h p f t e now = let xy = first_passes (R h.0) rs g y h.2 f in
        subst (IsGrouped R hs)
        (sym (rest_here h.0 y rs us xy t e) ∙ filter_rest (R h.0) us (filter_same (R h.0) (R r) (λ q. like h.0 y q xy ∙ sym (like r y q t)) us ∙ now)) h.3
    group_gone (g1 ∷ gs) g hs rs us y h p f t e now = let n = unlike h.0 p.0.0 r (first_passes (R h.0) rs g1 p.0.0 h.2 p.0.1) p.0.2 in (
      h.0,
      h.1,
      class_else h.0 rs us n e ∙ h.2,
      group_gone gs g hs (unalike R h.0 rs) (unalike R h.0 us) y h.3 p.1 f t (rest_else h.0 rs us e)
          (filter_both (R r) (λ q. not (R h.0 q)) us (not_class h.0 n) ∙ now),
    )

    -- a group is new
    pub group_new : (gs : List (List Ref)) (g' rs us : List Ref) → IsGrouped R gs rs → ArePassed (R r) gs
        → unalike R r us ≡ unalike R r rs → filter (R r) us ≡ g' → (g' ≡ [] → ⊥) → IsGrouped R (g' ∷ gs) us
    group_new gs g' rs us h p e now full = (r, full, now, subst (IsGrouped R gs) (sym (e ∙ filter_rest (R r) rs (key_of_none (R r) (of_key_of r) gs rs h p))) h)

    -- the group of a node that has one
    pub class_found : (gs : List (List Ref)) (rs : List Ref) → IsGrouped R gs rs → (filter (R r) rs ≡ [] → ⊥)
        → (X : List (List Ref)) × (g : List Ref) × (Y : List (List Ref)) × (y : Ref)
        × (gs ≡ X ++ g ∷ Y) × ArePassed (R r) X × (first_of g None ≡ Some y) × (R r y ≡ true)
    class_found [] rs h some = absurd (some (ap (filter (R r)) h))
    class_found ([] ∷ gs) rs h some = absurd (h.1 refl)
    class_found ((y ∷ g) ∷ gs) rs h some = (elim (R r y)
        as (λ b. R r y ≡ b
        → (X : List (List Ref)) × (g1 : List Ref) × (Y : List (List Ref)) × (y1 : Ref)
        × ((y ∷ g) ∷ gs ≡ X ++ g1 ∷ Y) × ArePassed (R r) X × (first_of g1 None ≡ Some y1) × (R r y1 ≡ true)) [
          | true ↦ λ e. ([], y ∷ g, gs, y, refl, tt, refl, e)
          | false ↦ λ e.
              let n = unlike h.0 y r (first_passes (R h.0) rs (y ∷ g) y h.2 refl) e in
              let w = class_found gs (unalike R h.0 rs) h.3 (λ z. some (sym (filter_both (R r) (λ q. not (R h.0 q)) rs (not_class h.0 n)) ∙ z)) in
              ((y ∷ g) ∷ w.0, w.1, w.2, w.3, ap (λ z. (y ∷ g) ∷ z) w.4, ((y, refl, e), w.5), w.6, w.7)
        ]) refl

    pub not_true_is : (b : Bool) → not b ≡ true → b ≡ false
    not_true_is true e = sym e
    not_true_is false e = refl

    -- the first node of the next group is of another key
    next_unlike : (X : List (List Ref)) (g : List Ref) (Y : List (List Ref)) (rs : List Ref) (y a : Ref)
        → IsGrouped R (X ++ g ∷ Y) rs → first_of g None ≡ Some y → R r y ≡ true → first_in Y None ≡ Some a → R r a ≡ false
    next_unlike [] g [] rs y a h f t e = absurd (cc)
    next_unlike [] g ([] ∷ Y) rs y a h f t e = absurd (h.3.1 refl)
    next_unlike [] g ((z ∷ w) ∷ Y) rs y a h f t e =
        let N : Test = λ q. not (R h.0 q) in let k = h.3 in
        let swapped : filter N (filter (R k.0) rs) ≡ z ∷ w = sym (filter_swap (R k.0) N rs) ∙ k.2 in
        let passes = not_true_is (R h.0 a) (first_passes N (filter (R k.0) rs) (z ∷ w) a swapped e) in
        like r y a t ∙ sym (like h.0 y a (first_passes (R h.0) rs g y h.2 f)) ∙ passes
    next_unlike (g1 ∷ X) g Y rs y a h f t e = next_unlike X g Y (unalike R h.0 rs) y a h.3 f t e
