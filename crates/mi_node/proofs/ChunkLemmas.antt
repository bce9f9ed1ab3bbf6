-- An index into chunks is one into the list that they are.
--     small_of, split_of, in_chunks      where an index lies
--     full_at, index-flat, set-flat, flat-end      a chunk, an element, another in its place, and a chunk more
--     length-flat, IsChunked-set, IsChunked-end      how many there are, and that chunks stay full
-- Cited by `Chunks::add`, `Chunks::at`, `Chunks::len`, `Chunks::replace`, `Column::add` and 3 more.
use Rattle.std.proofs.Common.{◌≡◌, ℕ, zero, suc, ◌+◌, ◌*◌, ◌/◌, ◌%◌, ◌<◌, ◌≤◌, List, [], ◌∷◌, ◌++◌}
use Rattle.std.proofs.Common.{length, slice_set, slice_index_or, refl, sym, ap, ◌∙◌, subst, arith}
use Rattle.std.proofs.Math.ListN.{length-set}
use Rattle.mi_node.specs.Chunks.{flat, AreFull, IsChunked}

module _ {E : Type 0} where
  in_left : (xs ys : List E) (r : ℕ) (d : E) → r < length xs → slice_index_or (xs ++ ys) r d ≡ slice_index_or xs r d
  in_left [] ys r d less = absurd (omega (arith, less))
  in_left (x ∷ xs) ys zero d less = refl
  in_left (x ∷ xs) ys (suc r) d less = in_left xs ys r d (omega (arith, less))

  in_right : (xs ys : List E) (k n : ℕ) (d : E) → n ≡ length xs + k → slice_index_or (xs ++ ys) n d ≡ slice_index_or ys k d
  in_right [] ys k n d e = let f : n ≡ k = omega (arith, e) in ap (λ m. slice_index_or ys m d) f
  in_right (x ∷ xs) ys k zero d e = absurd (omega (arith, e))
  in_right (x ∷ xs) ys k (suc n) d e = in_right xs ys k n d (omega (arith, e))

  set_left : (xs ys : List E) (r : ℕ) (w : E) → r < length xs → slice_set (xs ++ ys) r w ≡ slice_set xs r w ++ ys
  set_left [] ys r w less = absurd (omega (arith, less))
  set_left (x ∷ xs) ys zero w less = refl
  set_left (x ∷ xs) ys (suc r) w less = ap (λ l. x ∷ l) (set_left xs ys r w (omega (arith, less)))

  set_right : (xs ys : List E) (k n : ℕ) (w : E) → n ≡ length xs + k → slice_set (xs ++ ys) n w ≡ xs ++ slice_set ys k w
  set_right [] ys k n w e = let f : n ≡ k = omega (arith, e) in ap (λ m. slice_set ys m w) f
  set_right (x ∷ xs) ys k zero w e = absurd (omega (arith, e))
  set_right (x ∷ xs) ys k (suc n) w e = ap (λ l. x ∷ l) (set_right xs ys k n w (omega (arith, e)))

  length_both : (xs ys : List E) → length (xs ++ ys) ≡ length xs + length ys
  length_both [] ys = omega arith
  length_both (x ∷ xs) ys = let e = length_both xs ys in omega (arith, e)

  right_none : (xs : List E) → xs ++ [] ≡ xs
  right_none [] = refl
  right_none (x ∷ xs) = ap (λ l. x ∷ l) (right_none xs)

  regroup : (xs ys zs : List E) → (xs ++ ys) ++ zs ≡ xs ++ (ys ++ zs)
  regroup [] ys zs = refl
  regroup (x ∷ xs) ys zs = ap (λ l. x ∷ l) (regroup xs ys zs)

-- items: what a chunk has
module _ {C E : Type 0} (items : C → List E) where
  pub full_at : (n q : ℕ) (cs : List C) (c : C) → AreFull items n cs → q < length cs → c ≡ slice_index_or cs q c → length (items c) ≡ n
  full_at n q [] c full less at = absurd (omega (arith, less))
  full_at n zero (x ∷ cs) c full less at = ap (λ (v : C). length (items v)) at ∙ full.0
  full_at n (suc q) (x ∷ cs) c full less at = full_at n q cs c full.1 (omega (arith, less)) at

  pub index-flat : (q r i : ℕ) (cs : List C) (c : C) (d : E) → AreFull items 1024 cs → q < length cs → c ≡ slice_index_or cs q c → r < 1024 → i ≡ 1024 * q + r
      → slice_index_or (flat items cs) i d ≡ slice_index_or (items c) r d
  index-flat q r i [] c d full less at small is = absurd (omega (arith, less))
  index-flat zero r i (x ∷ cs) c d full less at small is =
      let e = full.0 in let f : i ≡ r = omega (arith, is) in let inside : r < length (items x) = omega (arith, small, e) in
      ap (λ m. slice_index_or (items x ++ flat items cs) m d) f ∙ in_left (items x) (flat items cs) r d inside
      ∙ ap (λ (v : C). slice_index_or (items v) r d) (sym at)
  index-flat (suc q) r i (x ∷ cs) c d full less at small is =
      let e = full.0 in let f : i ≡ length (items x) + (1024 * q + r) = omega (arith, is, e) in
      in_right (items x) (flat items cs) (1024 * q + r) i d f ∙ index-flat q r (1024 * q + r) cs c d full.1 (omega (arith, less)) at small refl

  -- the chunk e is c with another element
  pub set-flat : (q r i : ℕ) (cs : List C) (c e : C) (w : E) → AreFull items 1024 cs → q < length cs
      → c ≡ slice_index_or cs q c → items e ≡ slice_set (items c) r w → r < 1024 → i ≡ 1024 * q + r
      → flat items (slice_set cs q e) ≡ slice_set (flat items cs) i w
  set-flat q r i [] c e w full less at put small is = absurd (omega (arith, less))
  set-flat zero r i (x ∷ cs) c e w full less at put small is =
      let long = full.0 in let f : r ≡ i = omega (arith, is) in let inside : r < length (items x) = omega (arith, small, long) in
      ap (λ l. l ++ flat items cs) put ∙ ap (λ (v : C). slice_set (items v) r w ++ flat items cs) at
      ∙ sym (set_left (items x) (flat items cs) r w inside) ∙ ap (λ m. slice_set (items x ++ flat items cs) m w) f
  set-flat (suc q) r i (x ∷ cs) c e w full less at put small is =
      let long = full.0 in let f : i ≡ length (items x) + (1024 * q + r) = omega (arith, is, long) in
      ap (λ l. items x ++ l) (set-flat q r (1024 * q + r) cs c e w full.1 (omega (arith, less)) at put small refl)
      ∙ sym (set_right (items x) (flat items cs) (1024 * q + r) i w f)

  AreFull-set : (n q : ℕ) (cs : List C) (c : C) → AreFull items n cs → length (items c) ≡ n → AreFull items n (slice_set cs q c)
  AreFull-set n q [] c full size = tt
  AreFull-set n zero (x ∷ cs) c full size = (size, full.1)
  AreFull-set n (suc q) (x ∷ cs) c full size = (full.0, AreFull-set n q cs c full.1 size)

  pub length-flat : (cs : List C) → AreFull items 1024 cs → length (flat items cs) ≡ 1024 * length cs
  length-flat [] full = refl
  length-flat (x ∷ cs) full = let a = length_both (items x) (flat items cs) in let b = length-flat cs full.1 in let e = full.0 in omega (arith, a, b, e)

  pub in_chunks : (i : ℕ) (cs : List C) → AreFull items 1024 cs → i < length (flat items cs) → i / 1024 < length cs
  in_chunks i cs full less = let e = length-flat cs full in omega (arith, less, e)

  -- l: the list that the chunks are seen as
  pub in_bounds : (cs : List C) {i n : ℕ} {l : List E} → AreFull items 1024 cs → n ≡ length cs → flat items cs ≡ l → i < length l → i / 1024 < n
  in_bounds cs {i} {n} {l} full count is less =
      subst (λ m. i / 1024 < m) (sym count) (in_chunks i cs full (subst (λ (k : List E). i < length k) (sym is) less))

  pub IsChunked-set : (q : ℕ) (cs : List C) (c : C) → IsChunked items cs → length (items c) ≡ 1024 → IsChunked items (slice_set cs q c)
  IsChunked-set q cs c all size = record { full = AreFull-set 1024 q cs c all.full size; few = subst (λ n. n ≤ 2097152) (sym (length-set cs q c)) all.few }

  AreFull-end : (n : ℕ) (cs : List C) (c : C) → AreFull items n cs → length (items c) ≡ n → AreFull items n (cs ++ c ∷ [])
  AreFull-end n [] c full size = (size, tt)
  AreFull-end n (x ∷ cs) c full size = (full.0, AreFull-end n cs c full.1 size)

  length_end : (cs : List C) (c : C) → length (cs ++ c ∷ []) ≡ length cs + 1
  length_end [] c = refl
  length_end (x ∷ cs) c = let e = length_end cs c in omega (arith, e)

  pub IsChunked-end : (cs : List C) (c : C) → IsChunked items cs → length (items c) ≡ 1024 → length cs < 2097152 → IsChunked items (cs ++ c ∷ [])
  IsChunked-end cs c all size less = let e = length_end cs c in record { full = AreFull-end 1024 cs c all.full size; few = omega (arith, e, less) }

  pub flat-end : (cs : List C) (c : C) → flat items (cs ++ c ∷ []) ≡ flat items cs ++ items c
  flat-end [] c = right_none (items c)
  flat-end (x ∷ cs) c = ap (λ l. items x ++ l) (flat-end cs c) ∙ sym (regroup (items x) (flat items cs) (items c))

pub split_of : (i : ℕ) → i ≡ 1024 * (i / 1024) + i % 1024
split_of i = omega arith

pub small_of : (i : ℕ) → i % 1024 < 1024
small_of i = omega arith

pub times : (a b : ℕ) → a ≡ b → a * 1024 ≡ 1024 * b
times a b e = omega (arith, e)
