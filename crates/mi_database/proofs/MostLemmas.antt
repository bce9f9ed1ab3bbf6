-- How many places the inverse of a change has, and how many indexes beside `id` a table has.
-- Cited by `linked::keyed_indexes`, `linked::most_keyed_indexes` and `ChangeLemmas`.
use Rattle.std.proofs.Common.{◌≡◌, ◌∙◌, ℕ, zero, suc, ◌+◌, ◌<◌, ◌≤◌, ◌==◌, ◌⊎◌, inl, inr, Bool, true, false, Option, None, Some, List, [], ◌∷◌, length}
use Rattle.std.proofs.Common.{take, get_or, add-one, refl, ap, sym, subst, arith}
use Rattle.std.specs.Prelude.{if◌then◌else◌}
use Rattle.std.specs.Ordering.{is_eq, ord_max, nat_cmp}
use Rattle.std.proofs.lemmas.Bool.{and_parts, leb-true}
use Rattle.std.proofs.Math.Nat.{eq-or-lt_of_le, le_trans}
use Rattle.mi_value.specs.declared.limits.TheConstants.{MAX_INDEXES}
use Rattle.mi_value.specs.declared.value.Value.{Value}
use Rattle.mi_value.specs.declared.compare.KeyPart.{KeyPart}
use Rattle.mi_value.specs.Order.{compare_key}
use Rattle.mi_catalog.specs.declared.index.Index.{Index}
use Rattle.mi_catalog.specs.Shape.{Shape, CatalogShape, schema_at}
use Rattle.mi_catalog.specs.Rules.{is_schema, are_indexes}
use Rattle.mi_container.specs.Data.{Node, Data, Order, KindFits, KindsFit, IsData, parts_of, order_at, content_of}
use Rattle.mi_container.specs.Data.Order.{ById, ByKey, ByHash, Listed}
use Rattle.mi_container.specs.Changes.{link_in}
use Rattle.mi_container.specs.Inverse.{Inverse, OldPlace, old_place, old_places, relocate_inverse, moved_back}
use Rattle.mi_container.specs.Inverse.Inverse.{Nothing}
use Rattle.mi_container.specs.Fits.{HasOwnList}
use Rattle.mi_container.specs.Run.{Change}
use Rattle.mi_container.specs.Run.Change.{Insert, Replace, Erase, Relocate}
use Rattle.mi_container.specs.Makes.{Makes}
use Rattle.mi_journal.specs.Stored.{place_count, IsWithin}
use Rattle.mi_database.specs.Most.{key_of, keyed_count, HasAtMost, OneHas}

one_more : (p : Option OldPlace) (ps : List (Option OldPlace)) (n : ℕ) → place_count ps ≤ n → place_count (p ∷ ps) ≤ suc n
one_more None ps n few = omega (arith, few)
one_more (Some p) ps n few = omega (arith, few)

-- an index without parts has no old place
none_there : (x : ℕ) (rows : List (ℕ × Node)) (e : ℕ) (old new : List Value) (o : Order) (a : ℕ) → parts_of o ≡ [] → old_place x rows e old new o a ≡ None
none_there x rows e old new o a none =
    ap (λ (ps : List KeyPart). if is_eq (compare_key ps old new) then None else Some (record { stamp = a; link = link_in x rows e o })) none

no_parts_of : (i : Index) (o : Order) → i.parts ≡ [] → KindFits i o → parts_of o ≡ []
no_parts_of i ById none fits = refl
no_parts_of i (ByKey ps) none fits = sym fits.1 ∙ none
no_parts_of i (ByHash ps) none fits = sym fits.1 ∙ none
no_parts_of i (Listed ids) none fits = refl

many_orders : (is : List Index) (os : List Order) → KindsFit is os → length os ≡ length is
many_orders [] [] fits = refl
many_orders [] (o ∷ os) fits = absurd fits
many_orders (i ∷ is) [] fits = absurd fits
many_orders (i ∷ is) (o ∷ os) fits = ap suc (many_orders is os fits.1)

-- an index has one old place at most, and none where it has no parts
one_index : (x : ℕ) (rows : List (ℕ × Node)) (e : ℕ) (old new : List Value) (o : Order) (a : ℕ) (i : Index) (rest : List (Option OldPlace)) (n : ℕ)
    → KindFits i o → place_count rest ≤ n → (ps : List KeyPart) → i.parts ≡ ps → place_count (old_place x rows e old new o a ∷ rest) ≤ key_of ps + n
one_index x rows e old new o a i rest n fits few [] none =
    let first = ap (λ p. place_count (p ∷ rest)) (none_there x rows e old new o a (no_parts_of i o none fits)) in omega (arith, first, few)
one_index x rows e old new o a i rest n fits few (p ∷ ps) some =
    let first = one_more (old_place x rows e old new o a) rest n few in omega (arith, first)

put_few : (x : ℕ) (is : List Index) (rows : List (ℕ × Node)) (e : ℕ) (old new : List Value) (os : List Order) (stamps : List ℕ)
    → KindsFit is os → place_count (old_places x rows e old new os stamps) ≤ keyed_count is
put_few x is rows e old new [] stamps fits = omega arith
put_few x is rows e old new (o ∷ os) [] fits = omega arith
put_few x [] rows e old new (o ∷ os) (a ∷ stamps) fits = absurd fits
put_few x (i ∷ is) rows e old new (o ∷ os) (a ∷ stamps) fits =
    one_index x rows e old new o a i (old_places (suc x) rows e old new os stamps) (keyed_count is) fits.0
    (put_few (suc x) is rows e old new os stamps fits.1) i.parts refl

own_listed : (os : List Order) (x : ℕ) → HasOwnList (order_at os x) → x < length os
own_listed [] zero own = absurd own
own_listed [] (suc x) own = absurd own
own_listed (o ∷ os) zero own = omega arith
own_listed (o ∷ os) (suc x) own = let rest = own_listed os x own in omega (arith, rest)

moved_within : (most x e : ℕ) (d : Data) (b : Bool) → x < 256 → IsWithin most (if b then Nothing else moved_back x e d)
moved_within most x e d true few = tt
moved_within most x e d false few = few

relocate_within : (most x e : ℕ) (b : Option ℕ) (d : Data) → x < 256 → IsWithin most (relocate_inverse x e b d)
relocate_within most x e None d few = few
relocate_within most x e (Some b) d few = moved_within most x e d (b == e) few

-- what a container made has no more places than its table has indexes with keys
pub made_within : (most : ℕ) (s : Shape) (change : Change) (old new : Data) (i : Inverse) → HasAtMost most s.indexes → IsData s old
    → Makes s change old i new → IsWithin most i
made_within most s (Insert p at r) old new i few is makes = subst (IsWithin most) (sym makes.inverse) tt
made_within most s (Replace e r) old new i few is makes =
    subst (IsWithin most) (sym makes.inverse)
    (le_trans (put_few 0 s.indexes old.rows e (content_of old.rows e).values r old.orders (content_of old.rows e).stamps is.kinds) few.0)
made_within most s (Erase e why) old new i few is makes = subst (IsWithin most) (sym makes.inverse) tt
made_within most s (Relocate x e b) old new i few is makes =
    let under = own_listed old.orders x makes.allowed.1 in
    let many = many_orders s.indexes old.orders is.kinds in
    let bytes = few.1 in
    subst (IsWithin most) (sym makes.inverse) (relocate_within most x e b old (omega (arith, under, many, bytes)))

-- The indexes of tables

pub more_allowed : (most more : ℕ) (is : List Index) → most ≤ more → HasAtMost most is → HasAtMost more is
more_allowed most more is less few = (le_trans few.0 less, few.1)

few_indexes : (columns : ℕ) (is : List Index) → are_indexes columns is ≡ true → length is ≤ 16
few_indexes columns [] kept = omega arith
few_indexes columns (i ∷ is) kept =
    let both = and_parts _ _ kept in
    let most : length is ≤ MAX_INDEXES = leb-true _ _ (and_parts _ _ both.0).1 in
    omega (arith, most)

pub indexes_are_few : (s : Shape) → is_schema s ≡ true → length s.indexes ≤ 16
indexes_are_few s kept = few_indexes (length s.columns) s.indexes (and_parts _ _ (and_parts _ _ kept).0).1

-- the greater of two
record Greater (a b r : ℕ) : Type 0 where
  left : a ≤ r
  right : b ≤ r

greater : (a b r : ℕ) → r ≡ ord_max nat_cmp a b → Greater a b r
greater a b r is = record { left = grind (arith, is); right = grind (arith, is) }

-- one table more
pub counted_up : (c : CatalogShape) (k most more : ℕ) → ((n : ℕ) → n < k → HasAtMost most (schema_at c n).indexes) → is_schema (schema_at c k) ≡ true
    → more ≡ ord_max nat_cmp most (keyed_count (schema_at c k).indexes) → (n : ℕ) → n < k + 1 → HasAtMost more (schema_at c n).indexes
counted_up c k most more before kept is n under = at_or_before (eq-or-lt_of_le (under_or_at under))
  where
    both : Greater most (keyed_count (schema_at c k).indexes) more
    both = greater most (keyed_count (schema_at c k).indexes) more is

    under_or_at : n < k + 1 → n ≤ k
    under_or_at below = omega (arith, below)

    bytes : length (schema_at c k).indexes ≤ 256
    bytes = let few = indexes_are_few (schema_at c k) kept in omega (arith, few)

    at_or_before : (n ≡ k) ⊎ (n < k) → HasAtMost more (schema_at c n).indexes
    at_or_before (inl same) = subst (λ m. HasAtMost more (schema_at c m).indexes) (sym same) (both.right, bytes)
    at_or_before (inr below) = more_allowed most more (schema_at c n).indexes both.left (before n below)

-- the greater of two is one of them
one_of : (a b r : ℕ) → r ≡ ord_max nat_cmp a b → a < r → r ≡ b
one_of a b r is over = grind (arith, is, over)

-- one of one table more
pub one_more_has : (c : CatalogShape) (k most more : ℕ) → OneHas k most c → more ≡ ord_max nat_cmp most (keyed_count (schema_at c k).indexes)
    → OneHas (k + 1) more c
one_more_has c k most more before is = by (eq-or-lt_of_le (greater most (keyed_count (schema_at c k).indexes) more is).left)
  where
    still : most ≡ more → OneHas k most c → OneHas (k + 1) more c
    still same (inl none) = inl (sym same ∙ none)
    still same (inr there) = let under = there.1 in inr (there.0, omega (arith, under), sym same ∙ there.2)

    by : (most ≡ more) ⊎ (most < more) → OneHas (k + 1) more c
    by (inl same) = still same before
    by (inr over) = inr (k, omega arith, one_of most (keyed_count (schema_at c k).indexes) more is over)

-- one index more
keyed_suc : (is : List Index) (i : ℕ) (d : Index) → i < length is → keyed_count (take (suc i) is) ≡ keyed_count (take i is) + key_of (get_or is i d).parts
keyed_suc [] i d under = absurd (omega (arith, under))
keyed_suc (a ∷ is) zero d under = omega arith
keyed_suc (a ∷ is) (suc i) d under = let rest = keyed_suc is i d (omega (arith, under)) in omega (arith, rest)

pub keyed_up : (is : List Index) (i : ℕ) (d : Index) → i < length is → keyed_count (take (i + 1) is) ≡ keyed_count (take i is) + key_of (get_or is i d).parts
keyed_up is i d under = ap (λ n. keyed_count (take n is)) (add-one i) ∙ keyed_suc is i d under

pub key_some : (ps : List KeyPart) → 0 < length ps → key_of ps ≡ 1
key_some [] some = absurd (omega (arith, some))
key_some (p ∷ ps) some = refl

pub key_none : (ps : List KeyPart) → length ps ≤ 0 → key_of ps ≡ 0
key_none [] none = refl
key_none (p ∷ ps) none = absurd (omega (arith, none))
