-- Members of objects: which names they have, and what one of a name is.
-- Cited by `Object::get`, `Object::has_only`, `object::place_of`, `FlatLemmas` and `mi_protocol`.
use Rattle.std.proofs.Common.{◌≡◌, ℕ, zero, suc, List, [], ◌∷◌, ◌++◌, length, map, get_or, Bool, true, false, cond, Option, Some, None}
use Rattle.std.proofs.Common.{Bor, refl, sym, ap, ap₂, ◌∙◌, ◌&&◌, ◌||◌, ◌⊎◌, inl, inr, true≢false, Ordering, Less, Equal, Greater, nat_cmp}
use Rattle.std.specs.List.{list_any, list_all}
use Rattle.std.specs.Ordering.{match_ordering, is_eq}
use Rattle.std.specs.Cmp.Lexicographic.{slice_cmp}
use Rattle.std.specs.Str.{bytes_eq}
use Rattle.std.proofs.lemmas.Map.Text.{is_eq-slice_cmp}
use Rattle.std.proofs.lemmas.Slice.Eq.{bytes_eq-Decides}
use Rattle.mi_tokens.specs.Meaning.{meaning, members_meaning}
use Rattle.mi_tokens.specs.declared.value.Json.{Json}
use Rattle.serde_json.specs.Data.{Data, Members, no_members, member, put}
use Rattle.serde_json.specs.Find.{get_member}
use Rattle.mi_request.specs.Json.{has_only}
use Rattle.mi_request.specs.Places.{or_first, last_at}

-- ---- names

by_order : {A : Type 0} (o : Ordering) (a b : A) → match_ordering o a b a ≡ cond (is_eq o) b a
by_order Less a b = refl
by_order Equal a b = refl
by_order Greater a b = refl

same_name : (k l : List ℕ) → bytes_eq k l ≡ true → k ≡ l
same_name k l e = (bytes_eq-Decides k l).0 e

eq_self : (k : List ℕ) → bytes_eq k k ≡ true
eq_self k = (bytes_eq-Decides k k).1 refl

-- what the order of two names says of their being the same
eq_of : (k l : List ℕ) (o : Ordering) → slice_cmp nat_cmp k l ≡ o → is_eq o ≡ bytes_eq k l
eq_of k l o is = ap is_eq (sym is) ∙ is_eq-slice_cmp k l

apart : (name k l : List ℕ) → bytes_eq k l ≡ false → bytes_eq name k ≡ true → bytes_eq name l ≡ true → ⊥
apart name k l other same_k same_l =
    true≢false (sym same_l ∙ ap (λ n. bytes_eq n l) (same_name name k same_k) ∙ other)

-- ---- a member put into an object

-- the member in front is the one of its name
get_front : (name l : List ℕ) (e : Data) (ms : Members) → get_member name (member l e ms) ≡ cond (bytes_eq name l) (Some e) (get_member name ms)
get_front name l e ms =
    by_order (slice_cmp nat_cmp name l) (get_member name ms) (Some e) ∙ ap (λ b. cond b (Some e) (get_member name ms)) (is_eq-slice_cmp name l)

first_wins : {A : Type 0} (b : Bool) (x y z : A) → cond b x z ≡ cond b x (cond b y z)
first_wins true x y z = refl
first_wins false x y z = refl

crossed : {A : Type 0} (b c : Bool) (x y z : A) → (b ≡ true → c ≡ true → ⊥) → cond c y (cond b x z) ≡ cond b x (cond c y z)
crossed true true x y z never = absurd (never refl refl)
crossed true false x y z never = refl
crossed false c x y z never = refl

get_put_at : (o : Ordering) (name k l : List ℕ) (d e : Data) (ms : Members) → slice_cmp nat_cmp k l ≡ o
    → get_member name (put k d ms) ≡ cond (bytes_eq name k) (Some d) (get_member name ms)
    → get_member name (match_ordering o (member k d (member l e ms)) (member l d ms) (member l e (put k d ms)))
    ≡ cond (bytes_eq name k) (Some d) (get_member name (member l e ms))
get_put_at Less name k l d e ms is later = get_front name k d (member l e ms)
get_put_at Equal name k l d e ms is later =
    let same : k ≡ l = same_name k l (sym (eq_of k l Equal is)) in
    get_front name l d ms ∙ first_wins (bytes_eq name l) (Some d) (Some e) (get_member name ms)
    ∙ ap₂ (λ b m. cond b (Some d) m) (ap (bytes_eq name) (sym same)) (sym (get_front name l e ms))
get_put_at Greater name k l d e ms is later =
    get_front name l e (put k d ms) ∙ ap (cond (bytes_eq name l) (Some e)) later
    ∙ crossed (bytes_eq name k) (bytes_eq name l) (Some d) (Some e) (get_member name ms) (apart name k l (sym (eq_of k l Greater is)))
    ∙ ap (cond (bytes_eq name k) (Some d)) (sym (get_front name l e ms))

pub get_member-put : (name k : List ℕ) (d : Data) (ms : Members) → get_member name (put k d ms) ≡ cond (bytes_eq name k) (Some d) (get_member name ms)
get_member-put name k d no_members = get_front name k d no_members
get_member-put name k d (member l e ms) = get_put_at _ name k l d e ms refl (get_member-put name k d ms)

-- ---- which names there are

swapped : (b c d : Bool) → (b && (c && d)) ≡ (c && (b && d))
swapped true c d = refl
swapped false true d = refl
swapped false false d = refl

twice : (b c : Bool) → (b && c) ≡ (b && (b && c))
twice true c = refl
twice false c = refl

has_put_at : (o : Ordering) (names : List (List ℕ)) (k l : List ℕ) (d e : Data) (ms : Members) → slice_cmp nat_cmp k l ≡ o
    → has_only names (put k d ms) ≡ (list_any (λ n. bytes_eq k n) names && has_only names ms)
    → has_only names (match_ordering o (member k d (member l e ms)) (member l d ms) (member l e (put k d ms)))
    ≡ (list_any (λ n. bytes_eq k n) names && has_only names (member l e ms))
unfolding has_only
has_put_at Less names k l d e ms is later = refl
has_put_at Equal names k l d e ms is later =
    let same : k ≡ l = same_name k l (sym (eq_of k l Equal is)) in
    twice (list_any (λ n. bytes_eq l n) names) (has_only names ms)
    ∙ ap (λ x. list_any (λ n. bytes_eq x n) names && (list_any (λ n. bytes_eq l n) names && has_only names ms)) (sym same)
has_put_at Greater names k l d e ms is later =
    ap (λ b. list_any (λ n. bytes_eq l n) names && b) later
    ∙ swapped (list_any (λ n. bytes_eq l n) names) (list_any (λ n. bytes_eq k n) names) (has_only names ms)

pub has_only-put : (names : List (List ℕ)) (k : List ℕ) (d : Data) (ms : Members)
    → has_only names (put k d ms) ≡ (list_any (λ n. bytes_eq k n) names && has_only names ms)
unfolding has_only
has_only-put names k d no_members = refl
has_only-put names k d (member l e ms) = has_put_at _ names k l d e ms refl (has_only-put names k d ms)

-- ---- members as they were read

abbrev pub Member : Type 0
Member = Bor (List ℕ) × Json

list_any-map : {A : Type 0} (f : A → List ℕ) (k : List ℕ) (xs : List A) → list_any (λ x. bytes_eq k (f x)) xs ≡ list_any (λ n. bytes_eq k n) (map f xs)
list_any-map f k [] = refl
list_any-map f k (x ∷ xs) = ap (λ b. bytes_eq k (f x) || b) (list_any-map f k xs)

both_true : (b : Bool) → b ≡ (b && true)
both_true true = refl
both_true false = refl

has_only-onto : {A : Type 0} (f : A → List ℕ) (xs : List A) (ms : List Member) (found : Members)
    → (list_all (λ m. list_any (λ x. bytes_eq m.0.now (f x)) xs) ms && has_only (map f xs) found) ≡ has_only (map f xs) (members_meaning ms found)
has_only-onto f xs [] found = refl
has_only-onto f xs (m ∷ ms) found =
    let mine = list_any (λ x. bytes_eq m.0.now (f x)) xs in
    let others = list_all (λ y. list_any (λ x. bytes_eq y.0.now (f x)) xs) ms in
    moved mine others (has_only (map f xs) found)
    ∙ ap (λ b. others && (b && has_only (map f xs) found)) (list_any-map f m.0.now xs)
    ∙ ap (λ b. others && b) (sym (has_only-put (map f xs) m.0.now (meaning m.1) found))
    ∙ has_only-onto f xs ms (put m.0.now (meaning m.1) found)
  where
    moved : (b c d : Bool) → ((b && c) && d) ≡ (c && (b && d))
    moved true c d = refl
    moved false true d = refl
    moved false false d = refl

-- each name is one of these, so no member has another name
pub has_only-names : {A : Type 0} (f : A → List ℕ) (xs : List A) (ms : List Member)
    → list_all (λ m. list_any (λ x. bytes_eq m.0.now (f x)) xs) ms ≡ has_only (map f xs) (members_meaning ms no_members)
unfolding has_only
has_only-names f xs ms = both_true _ ∙ has_only-onto f xs ms no_members

-- ---- the last member of a name

or_none : (b : Bool) (r : Option ℕ) → or_first b r ≡ None → (b ≡ false) × (r ≡ None)
or_none b (Some i) e = absurd (cc)
or_none true None e = absurd (cc)
or_none false None e = (refl, refl)

-- the member of which i tells is behind the first, or it is the first
or_some : (b : Bool) (r : Option ℕ) (i : ℕ) → or_first b r ≡ Some i → ((j : ℕ) × (r ≡ Some j) × (i ≡ suc j)) ⊎ ((r ≡ None) × (b ≡ true) × (i ≡ zero))
or_some b (Some j) i e = inl (j, refl, cc)
or_some true None i e = inr (refl, refl, cc)
or_some false None i e = absurd (cc)

put_first : (b : Bool) → or_first b None ≡ cond b (Some zero) None
put_first true = refl
put_first false = refl

put_behind : (b c : Bool) (i : ℕ) (r : Option ℕ) → or_first b (cond c (Some i) r) ≡ cond c (Some (suc i)) (or_first b r)
put_behind b true i r = refl
put_behind b false i r = refl

-- a member behind the others is the last of its name
pub last_at-push : (name : List ℕ) (ms : List Member) (m : Member)
    → last_at name (ms ++ m ∷ []) ≡ cond (bytes_eq name m.0.now) (Some (length ms)) (last_at name ms)
last_at-push name [] m = put_first (bytes_eq name m.0.now)
last_at-push name (n ∷ ms) m =
    ap (or_first (bytes_eq name n.0.now)) (last_at-push name ms m)
    ∙ put_behind (bytes_eq name n.0.now) (bytes_eq name m.0.now) (length ms) (last_at name ms)

pub absent : (name : List ℕ) (ms : List Member) (found : Members) → last_at name ms ≡ None
    → get_member name (members_meaning ms found) ≡ get_member name found
absent name [] found is = refl
absent name (m ∷ ms) found is =
    let p = or_none _ (last_at name ms) is in
    absent name ms (put m.0.now (meaning m.1) found) p.1 ∙ get_member-put name m.0.now (meaning m.1) found
    ∙ ap (λ b. cond b (Some (meaning m.1)) (get_member name found)) p.0

pub present : (name : List ℕ) (ms : List Member) (found : Members) (i : ℕ) (n : Member) → last_at name ms ≡ Some i
    → get_member name (members_meaning ms found) ≡ Some (meaning (get_or ms i n).1)
present name [] found i n is = absurd (cc)
present name (m ∷ ms) found i n is = elim (or_some _ (last_at name ms) i is) [
  | inl p ↦ present name ms (put m.0.now (meaning m.1) found) p.0 n p.1 ∙ ap (λ j. Some (meaning (get_or (m ∷ ms) j n).1)) (sym p.2)
  | inr p ↦ absent name ms (put m.0.now (meaning m.1) found) p.0 ∙ get_member-put name m.0.now (meaning m.1) found
      ∙ ap (λ b. cond b (Some (meaning m.1)) (get_member name found)) p.1 ∙ ap (λ j. Some (meaning (get_or (m ∷ ms) j n).1)) (sym p.2)
]
