-- Names that stand apart in lists of references, for the structures above.
--     out_..      a name that is in neither part of a list
--     apart_..    lists in which no name stands twice, cut, joined, with a reference more or less
--     are_out_..  two lists with no name in common
--     between     what stands on both sides of a node
-- Cited by `NeighbourLemmas`, `mi_chain`, `mi_index`, `mi_list`, `mi_tree` and `test_storage`.
use Rattle.std.proofs.Common.{◌≡◌, ℕ, List, [], ◌∷◌, ◌++◌, Option, Some, None, refl, ap, ◌∙◌}
use Rattle.mi_node.specs.Refs.{Ref, names, first_of, last_of, IsOut, IsApart, AreOut}
use Rattle.mi_node.proofs.EntryLemmas.{flip}

pub out_left : (k : ℕ) (xs ys : List Ref) → IsOut k (xs ++ ys) → IsOut k xs
out_left k [] ys h = tt
out_left k (x ∷ xs) ys h = (h.0, out_left k xs ys h.1)

pub out_right : (k : ℕ) (xs ys : List Ref) → IsOut k (xs ++ ys) → IsOut k ys
out_right k [] ys h = h
out_right k (x ∷ xs) ys h = out_right k xs ys h.1

pub out_both : (k : ℕ) (xs ys : List Ref) → IsOut k xs → IsOut k ys → IsOut k (xs ++ ys)
out_both k [] ys g h = h
out_both k (x ∷ xs) ys g h = (g.0, out_both k xs ys g.1 h)

pub are_out_none : (xs : List Ref) → AreOut xs []
are_out_none [] = tt
are_out_none (x ∷ xs) = (tt, are_out_none xs)

pub are_out_cons : (xs : List Ref) (r : Ref) (ys : List Ref) → IsOut r.name xs → AreOut xs ys → AreOut xs (r ∷ ys)
are_out_cons [] r ys h a = tt
are_out_cons (x ∷ xs) r ys h a = ((flip x.name r.name ∙ h.0, a.0), are_out_cons xs r ys h.1 a.1)

pub are_out_tail : (xs : List Ref) (r : Ref) (ys : List Ref) → AreOut xs (r ∷ ys) → AreOut xs ys × IsOut r.name xs
are_out_tail [] r ys a = (tt, tt)
are_out_tail (x ∷ xs) r ys a = let on = are_out_tail xs r ys a.1 in ((a.0.1, on.0), (flip r.name x.name ∙ a.0.0, on.1))

pub are_out_flip : (xs ys : List Ref) → AreOut xs ys → AreOut ys xs
are_out_flip [] ys a = are_out_none ys
are_out_flip (x ∷ xs) ys a = are_out_cons ys x xs a.0 (are_out_flip xs ys a.1)

pub apart_left : (xs ys : List Ref) → IsApart (xs ++ ys) → IsApart xs
apart_left [] ys h = tt
apart_left (x ∷ xs) ys h = (out_left x.name xs ys h.0, apart_left xs ys h.1)

pub apart_right : (xs ys : List Ref) → IsApart (xs ++ ys) → IsApart ys
apart_right [] ys h = h
apart_right (x ∷ xs) ys h = apart_right xs ys h.1

pub apart_across : (xs ys : List Ref) → IsApart (xs ++ ys) → AreOut xs ys
apart_across [] ys h = tt
apart_across (x ∷ xs) ys h = (out_right x.name xs ys h.0, apart_across xs ys h.1)

pub apart_both : (xs ys : List Ref) → IsApart xs → IsApart ys → AreOut xs ys → IsApart (xs ++ ys)
apart_both [] ys g h a = h
apart_both (x ∷ xs) ys g h a = (out_both x.name xs ys g.0 a.0, apart_both xs ys g.1 h a.1)

pub apart_insert : (xs : List Ref) (r : Ref) (ys : List Ref) → IsApart (xs ++ ys) → IsOut r.name (xs ++ ys) → IsApart (xs ++ r ∷ ys)
apart_insert xs r ys h o = apart_both xs (r ∷ ys) (apart_left xs ys h) (out_right r.name xs ys o, apart_right xs ys h)
    (are_out_cons xs r ys (out_left r.name xs ys o) (apart_across xs ys h))

pub apart_remove : (xs : List Ref) (r : Ref) (ys : List Ref) → IsApart (xs ++ r ∷ ys) → IsApart (xs ++ ys) × IsOut r.name (xs ++ ys)
apart_remove xs r ys h =
    let after = apart_right xs (r ∷ ys) h in let on = are_out_tail xs r ys (apart_across xs (r ∷ ys) h) in
    (apart_both xs ys (apart_left xs (r ∷ ys) h) after.1 on.0, out_both r.name xs ys on.1 after.0)

-- a node between two lists
pub record Between (xs : List Ref) (r : Ref) (ys : List Ref) : Type 0 where
  pub out_left : IsOut r.name xs
  pub out_right : IsOut r.name ys
  pub left : IsApart xs
  pub right : IsApart ys
  pub across : AreOut xs ys

pub between : (xs : List Ref) (r : Ref) (ys : List Ref) → IsApart (xs ++ r ∷ ys) → Between xs r ys
between xs r ys h = let on = apart_remove xs r ys h in record {
  out_left = out_left r.name xs ys on.1;
  out_right = out_right r.name xs ys on.1;
  left = apart_left xs (r ∷ ys) h;
  right = (apart_right xs (r ∷ ys) h).1;
  across = apart_across xs ys on.0;
}

-- the ends of a list of two parts
pub last_push : (b : Option Ref) (xs : List Ref) (r : Ref) (ys : List Ref) → last_of b (xs ++ r ∷ ys) ≡ last_of (Some r) ys
last_push b [] r ys = refl
last_push b (x ∷ xs) r ys = last_push (Some x) xs r ys

pub first_push : (xs ys : List Ref) (f : Option Ref) → first_of (xs ++ ys) f ≡ first_of xs (first_of ys f)
first_push [] ys f = refl
first_push (x ∷ xs) ys f = refl

pub last_both : (b : Option Ref) (xs ys : List Ref) → last_of b (xs ++ ys) ≡ last_of (last_of b xs) ys
last_both b [] ys = refl
last_both b (x ∷ xs) ys = last_both (Some x) xs ys

names-append : (xs ys : List Ref) → names (xs ++ ys) ≡ names xs ++ names ys
names-append [] ys = refl
names-append (x ∷ xs) ys = ap (λ l. x.name ∷ l) (names-append xs ys)

-- a list with a first node, and one with a last
pub first_split : (ys : List Ref) (q : Ref) → first_of ys None ≡ Some q → (zs : List Ref) × (ys ≡ q ∷ zs)
first_split [] q e = absurd cc
first_split (y ∷ ys) q e = let same : y ≡ q = cc in (ys, ap (λ z. z ∷ ys) same)

last_split_from : (b : Ref) (xs : List Ref) (q : Ref) → last_of (Some b) xs ≡ Some q → (zs : List Ref) × (b ∷ xs ≡ zs ++ q ∷ [])
last_split_from b [] q e = let same : b ≡ q = cc in ([], ap (λ z. z ∷ []) same)
last_split_from b (x ∷ xs) q e = let on = last_split_from x xs q e in (b ∷ on.0, ap (λ l. b ∷ l) on.1)

pub last_split : (xs : List Ref) (q : Ref) → last_of None xs ≡ Some q → (zs : List Ref) × (xs ≡ zs ++ q ∷ [])
last_split [] q e = absurd cc
last_split (x ∷ xs) q e = last_split_from x xs q e
