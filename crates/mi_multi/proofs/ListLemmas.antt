-- Lists of nodes, and the ids of their rows: a node that leaves or joins, and the neighbours that it knows.
-- Cited by `AcceptLemmas`, `EraseLemmas`, `InsertedLemmas`, `LiveNodeLemmas`, `NeighbourLemmas` and 9 more.
use Rattle.std.proofs.Common.{◌≡◌, ℕ, ◌+◌, Bool, true, false, cond, List, [], ◌∷◌, ◌++◌, map, refl, ap, ◌∙◌, subst, arith}
use Rattle.std.specs.Prelude.{◌==◌}
use Rattle.std.specs.List.{AllByRecursion, filter}
use Rattle.std.specs.Option.{option_map}
use Rattle.std.specs.declared.option.Option.{Option}
use Rattle.std.specs.declared.option.Option.TheVariants.{None, Some}
use Rattle.mi_model.specs.Table.{times}
use Rattle.mi_model.specs.Change.{stand_before, stand, without}
use Rattle.mi_model.proofs.ViewLaws.{Lacks}
use Rattle.mi_node.specs.Refs.{Ref, first_of, last_of}
use Rattle.mi_container.specs.Data.{Node, node_of}
use Rattle.mi_container.specs.Changes.{ref_of, head_of, next_in, prev_in, link_of_id}
use Rattle.mi_container.specs.Fits.{last_or}
use Rattle.mi_container.proofs.PairLemmas.{is_itself, is_other}
use Rattle.mi_container.proofs.SequenceLemmas.{drop_is, drop_isnt, without_lacks}

pub itself : {a b : ℕ} → a ≡ b → (a == b) ≡ true
itself {a} same = subst (λ c. (a == c) ≡ true) same (is_itself a)

module _ (idf : Ref → ℕ) where
  pub times_middle : (e : ℕ) (xs : List Ref) (r : Ref) (ys : List Ref) → times e (map idf (xs ++ r ∷ ys)) ≡ cond (idf r == e) 1 0 + times e (map idf (xs ++ ys))
  times_middle e [] r ys = refl
  times_middle e (x ∷ xs) r ys =
      let rest : times e (map idf (xs ++ r ∷ ys)) ≡ cond (idf r == e) 1 0 + times e (map idf (xs ++ ys)) = times_middle e xs r ys in
      ap (λ n. cond (idf x == e) 1 0 + n) rest ∙ turned (cond (idf x == e) 1 0) (cond (idf r == e) 1 0) (times e (map idf (xs ++ ys)))
    where
      turned : (a b n : ℕ) → a + (b + n) ≡ b + (a + n)
      turned a b n = omega arith

  -- the list without a node
  pub without_middle : (e : ℕ) (xs : List Ref) (r : Ref) (ys : List Ref) → (idf r == e) ≡ true
      → Lacks e (map idf (xs ++ ys)) → without e (map idf (xs ++ r ∷ ys)) ≡ map idf (xs ++ ys)
  without_middle e [] r ys is lacks = drop_is e (idf r) (map idf ys) is ∙ without_lacks e (map idf ys) lacks
  without_middle e (x ∷ xs) r ys is lacks = drop_isnt e (idf x) (map idf (xs ++ r ∷ ys)) (is_other (idf x) e lacks.0)
      ∙ ap (λ q. idf x ∷ q) (without_middle e xs r ys is lacks.1)

  -- and with one at its end, or before another node
  stand_last : (xs : List Ref) (r : Ref) → stand None (idf r) (map idf (xs ++ [])) ≡ map idf (xs ++ r ∷ [])
  stand_last [] r = refl
  stand_last (x ∷ xs) r = ap (λ q. idf x ∷ q) (stand_last xs r)

  stand_middle : (xs : List Ref) (r y : Ref) (ys : List Ref) → Lacks (idf y) (map idf xs)
      → stand_before (idf y) (idf r) (map idf (xs ++ y ∷ ys)) ≡ map idf (xs ++ r ∷ y ∷ ys)
  stand_middle [] r y ys lacks = ap (λ b. cond b (idf r ∷ idf y ∷ map idf ys) (idf y ∷ stand_before (idf y) (idf r) (map idf ys))) (is_itself (idf y))
  stand_middle (x ∷ xs) r y ys lacks =
      ap (λ b. cond b (idf r ∷ idf x ∷ map idf (xs ++ y ∷ ys)) (idf x ∷ stand_before (idf y) (idf r) (map idf (xs ++ y ∷ ys))))
      (is_other (idf x) (idf y) lacks.0)
      ∙ ap (λ q. idf x ∷ q) (stand_middle xs r y ys lacks.1)

  abbrev pub LacksIf : Option Ref → List Ref → Type 0
  LacksIf None xs = Unit {0}
  LacksIf (Some y) xs = Lacks (idf y) (map idf xs)

  pub stand_there : (xs : List Ref) (r : Ref) (ys : List Ref) → LacksIf (first_of ys None) xs
      → stand (option_map idf (first_of ys None)) (idf r) (map idf (xs ++ ys)) ≡ map idf (xs ++ r ∷ ys)
  stand_there xs r [] lacks = stand_last xs r
  stand_there xs r (y ∷ ys) lacks = stand_middle xs r y ys lacks

  -- Neighbours

  prev_middle : (p : Option ℕ) (e : ℕ) (xs : List Ref) (r : Ref) (ys : List Ref) → (idf r == e) ≡ true
      → Lacks e (map idf xs) → prev_in p e (map idf (xs ++ r ∷ ys)) ≡ last_or p (map idf xs)
  prev_middle p e [] r ys is lacks = ap (λ t. cond t p (prev_in (Some (idf r)) e (map idf ys))) is
  prev_middle p e (x ∷ xs) r ys is lacks =
      ap (λ t. cond t p (prev_in (Some (idf x)) e (map idf (xs ++ r ∷ ys)))) (is_other (idf x) e lacks.0) ∙ prev_middle (Some (idf x)) e xs r ys is lacks.1

  pub next_middle : (e : ℕ) (xs : List Ref) (r : Ref) (ys : List Ref) → (idf r == e) ≡ true
      → Lacks e (map idf xs) → next_in e (map idf (xs ++ r ∷ ys)) ≡ head_of (map idf ys)
  next_middle e [] r ys is lacks = ap (λ t. cond t (head_of (map idf ys)) (next_in e (map idf ys))) is
  next_middle e (x ∷ xs) r ys is lacks =
      ap (λ t. cond t (head_of (map idf (xs ++ r ∷ ys))) (next_in e (map idf (xs ++ r ∷ ys)))) (is_other (idf x) e lacks.0) ∙ next_middle e xs r ys is lacks.1

  pub last_ids : (p : Option Ref) (xs : List Ref) → last_or (option_map idf p) (map idf xs) ≡ option_map idf (last_of p xs)
  last_ids p [] = refl
  last_ids p (x ∷ xs) = last_ids (Some x) xs

  pub head_ids : (ys : List Ref) → head_of (map idf ys) ≡ option_map idf (first_of ys None)
  head_ids [] = refl
  head_ids (y ∷ ys) = refl

  module _ (rows : List (ℕ × Node)) where
    -- it is the node of a live id
    abbrev pub IsRow : Ref → Type 0
    IsRow q = (n : Node) × (node_of rows (idf q) ≡ Some n) × (n.at ≡ q)

    abbrev pub IsRowIf : Option Ref → Type 0
    IsRowIf None = Unit {0}
    IsRowIf (Some q) = IsRow q

    pub first_row : (ys : List Ref) → AllByRecursion IsRow ys → IsRowIf (first_of ys None)
    first_row [] all = tt
    first_row (y ∷ ys) all = all.0

    last_row_of : (p : Option Ref) (xs : List Ref) → IsRowIf p → AllByRecursion IsRow xs → IsRowIf (last_of p xs)
    last_row_of p [] is all = is
    last_row_of p (x ∷ xs) is all = last_row_of (Some x) xs all.0 all.1

    pub last_row : (xs : List Ref) → AllByRecursion IsRow xs → IsRowIf (last_of None xs)
    last_row xs all = last_row_of None xs tt all

    pub ref_back : (o : Option Ref) → IsRowIf o → ref_of rows (option_map idf o) ≡ o
    ref_back None is = refl
    ref_back (Some q) is = ap (option_map (λ (n : Node). n.at)) is.1 ∙ ap Some is.2

    -- the neighbours of a node in the list are those that it stands between
    pub link_middle : (e : ℕ) (xs : List Ref) (r : Ref) (ys : List Ref) → (idf r == e) ≡ true
        → Lacks e (map idf xs) → AllByRecursion IsRow xs → AllByRecursion IsRow ys
        → link_of_id rows e (map idf (xs ++ r ∷ ys)) ≡ record { back = last_of None xs; forth = first_of ys None }
    link_middle e xs r ys is lacks before behind =
        let back : ref_of rows (prev_in None e (map idf (xs ++ r ∷ ys))) ≡ last_of None xs =
        ap (ref_of rows) (prev_middle None e xs r ys is lacks ∙ last_ids None xs) ∙ ref_back (last_of None xs) (last_row xs before) in
        let forth : ref_of rows (next_in e (map idf (xs ++ r ∷ ys))) ≡ first_of ys None =
        ap (ref_of rows) (next_middle e xs r ys is lacks ∙ head_ids ys) ∙ ref_back (first_of ys None) (first_row ys behind) in
        (λ i. record { back = back i; forth = forth i })

  -- Parts of a list

  -- a list whose ids are two lists is two lists
  pub parted : (rs : List Ref) (ks bs : List ℕ) → map idf rs ≡ ks ++ bs → (us vs : List Ref) × (rs ≡ us ++ vs) × (map idf us ≡ ks) × (map idf vs ≡ bs)
  parted rs [] bs is = ([], rs, refl, refl, is)
  parted [] (a ∷ ks) bs is = absurd (cc)
  parted (r ∷ rs) (a ∷ ks) bs is =
      let h : (us vs : List Ref) × (rs ≡ us ++ vs) × (map idf us ≡ ks) × (map idf vs ≡ bs) = parted rs ks bs (let k : map idf rs ≡ ks ++ bs = cc in k) in
      let first : idf r ≡ a = cc in
      (r ∷ h.0, h.1, ap (λ q. r ∷ q) h.2, (λ i. first i ∷ h.3 i), h.4)

  pub filter_ids : (p : ℕ → Bool) (rs : List Ref) → filter p (map idf rs) ≡ map idf (filter (λ q. p (idf q)) rs)
  filter_ids p [] = refl
  filter_ids p (r ∷ rs) =
      elim (p (idf r)) as (λ b. cond b (idf r ∷ filter p (map idf rs)) (filter p (map idf rs))
      ≡ map idf (cond b (r ∷ filter (λ q. p (idf q)) rs) (filter (λ q. p (idf q)) rs))) [
        | true ↦ ap (λ q. idf r ∷ q) (filter_ids p rs)
        | false ↦ filter_ids p rs
      ]
