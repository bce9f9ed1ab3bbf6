-- What is known of the open sessions once a revision more is told.
-- Cited by `OpenStarts::note`.
use Rattle.std.proofs.Common.{◌≡◌, ℕ, ◌+◌, ◌-◌, ◌<◌, ◌≤◌, List, [], ◌∷◌, ◌++◌, length, take, drop, get_or, Bool, true, false, nat_lt}
use Rattle.std.proofs.Common.{refl, sym, ap, ap₂, ◌∙◌, subst, inl, inr, arith}
use Rattle.std.proofs.lemmas.List.{get_or_append_left, get_or-append_right, get_or-take, get_or-drop, length_push, length-take, length-drop}
use Rattle.mi_checkpoint.specs.OpenStarts.{Starts, MovesOn, IsLastUpTo, Knows}

at_end : (rs : List ℕ) (x n : ℕ) → length rs ≡ n → get_or (rs ++ x ∷ []) n 0 ≡ x
at_end rs x n long = get_or-append_right rs (x ∷ []) n n 0 long (omega arith) ∙ ap (λ i. get_or (x ∷ []) i 0) nothing
  where
    nothing : n - n ≡ 0
    nothing = omega arith

-- what holds of each place so far, and at the end
each_place : (P : ℕ → Type 0) (n m : ℕ) → (m < n → P m) → (m ≡ n → P m) → m < n + 1 → P m
each_place P n m before last within = by_test (nat_lt m n) refl
  where
    less : nat_lt m n ≡ true → m < n
    less t = grind arith

    same : nat_lt m n ≡ false → m ≡ n
    same t = grind arith

    by_test : (b : Bool) → nat_lt m n ≡ b → P m
    by_test true t = before (less t)
    by_test false t = last (same t)

module _ (rs : List ℕ) (x : ℕ) where
  abbrev more : List ℕ
  more = rs ++ x ∷ []

  longer : length more ≡ length rs + 1
  longer = length_push rs x

  still_last : (b p : ℕ) → IsLastUpTo rs b p → b < x → IsLastUpTo more b p
  still_last b p is less =
      let long = longer in
      let there : get_or more p 0 ≡ get_or rs p 0 = get_or_append_left rs (x ∷ []) 0 p is.within in
      let low : get_or rs p 0 ≤ b = is.up_to in
      let inside : p < length rs = is.within in record {
        within = omega arith;
        up_to = omega arith;
        above = λ m after within. each_place (λ i. b < get_or more i 0) (length rs) m
            (λ before. let here : get_or more m 0 ≡ get_or rs m 0 = get_or_append_left rs (x ∷ []) 0 m before in
            let high : b < get_or rs m 0 = is.above m after before in omega arith)
            (λ last. let here : get_or more m 0 ≡ x = at_end rs x m (sym last) in omega arith) (omega arith);
      }

  -- the last place that there was, where the revision rises
  risen : (r n : ℕ) → length rs ≡ n + 1 → get_or rs n 0 ≡ r → r < x → IsLastUpTo more r n
  risen r n long is less =
      let longer_by_one = longer in
      let there : get_or more n 0 ≡ get_or rs n 0 = get_or_append_left rs (x ∷ []) 0 n (omega arith) in record {
        within = omega arith;
        up_to = omega arith;
        above = λ m after within. let here : get_or more m 0 ≡ x = at_end rs x m (omega arith) in omega arith;
      }

-- a session began
start_known : (rs : List ℕ) (k now : ℕ) (o : Starts) → Knows rs k o → now ≡ o.revision + 1
    → Knows (rs ++ now ∷ []) (k + 1) (record { places = o.places ++ o.lines ∷ []; lines = o.lines + 1; revision = now })
start_known rs k now o is next =
    let long : length rs ≡ o.lines + 1 = is.count in
    let deep : length o.places ≡ k = is.deep in
    let numbered : k ≤ o.revision = is.numbered in record {
      count = length_push rs now ∙ ap (λ n. n + 1) long;
      deep = length_push o.places o.lines ∙ ap (λ n. n + 1) deep;
      numbered = omega arith;
      newest = at_end rs now (o.lines + 1) long;
      began = λ i within. each_place (λ j. IsLastUpTo (rs ++ now ∷ []) (now - (k + 1) + j) (get_or (o.places ++ o.lines ∷ []) j 0)) k i
          (older i) (newest i) within;
    }
  where
    older : (i : ℕ) → i < k → IsLastUpTo (rs ++ now ∷ []) (now - (k + 1) + i) (get_or (o.places ++ o.lines ∷ []) i 0)
    older i within =
        let numbered : k ≤ o.revision = is.numbered in
        let deep : length o.places ≡ k = is.deep in
        let number : o.revision - k + i ≡ now - (k + 1) + i = omega arith in
        subst (λ p. IsLastUpTo (rs ++ now ∷ []) (now - (k + 1) + i) p) (sym (get_or_append_left o.places (o.lines ∷ []) 0 i (omega arith)))
        (subst (λ b. IsLastUpTo (rs ++ now ∷ []) b (get_or o.places i 0)) number
        (still_last rs now (o.revision - k + i) (get_or o.places i 0) (is.began i within) (omega arith)))

    newest : (i : ℕ) → i ≡ k → IsLastUpTo (rs ++ now ∷ []) (now - (k + 1) + i) (get_or (o.places ++ o.lines ∷ []) i 0)
    newest i last =
        let numbered : k ≤ o.revision = is.numbered in
        let number : o.revision ≡ now - (k + 1) + i = omega arith in
        subst (λ p. IsLastUpTo (rs ++ now ∷ []) (now - (k + 1) + i) p) (sym (at_end o.places o.lines i (is.deep ∙ sym last)))
        (subst (λ b. IsLastUpTo (rs ++ now ∷ []) b o.lines) number (risen rs now o.revision o.lines is.count is.newest (omega arith)))

-- the places that are left once so many of the newest go, and then the oldest until so many are left
abbrev pub left_of : ℕ → ℕ → List ℕ → List ℕ
left_of undone left places =
    drop (length (take (length places - undone) places) - left) (take (length places - undone) places)

module _ (undone left : ℕ) (places : List ℕ) (enough : left + undone ≤ length places) where
  kept_length : length (take (length places - undone) places) ≡ length places - undone
  kept_length = length-take (length places - undone) places ∙ (omega arith)

  left_length : length (left_of undone left places) ≡ left
  left_length =
      let kept = kept_length in length-drop (length (take (length places - undone) places) - left) (take (length places - undone) places) ∙ (omega arith)

  left_at : (i : ℕ) → i < left → get_or (left_of undone left places) i 0 ≡ get_or places (length places - undone - left + i) 0
  left_at i within =
      let kept = kept_length in
      get_or-drop (length (take (length places - undone) places) - left) (take (length places - undone) places) i 0
      ∙ ap (λ n. get_or (take (length places - undone) places) (n - left + i) 0) kept
      ∙ get_or-take (length places - undone) places (length places - undone - left + i) 0 (omega arith)

-- sessions ended, or none did
end_known : (rs : List ℕ) (k left now : ℕ) (o : Starts) → Knows rs k o → now ≤ o.revision → left + (o.revision - now) ≤ k
    → Knows (rs ++ now ∷ []) left (record { places = left_of (o.revision - now) left o.places; lines = o.lines + 1; revision = now })
end_known rs k left now o is low few =
    let long : length rs ≡ o.lines + 1 = is.count in
    let deep : length o.places ≡ k = is.deep in
    let numbered : k ≤ o.revision = is.numbered in record {
      count = length_push rs now ∙ ap (λ n. n + 1) long;
      deep = left_length (o.revision - now) left o.places (omega arith);
      numbered = omega arith;
      newest = at_end rs now (o.lines + 1) long;
      began = began_then;
    }
  where
    began_then : (i : ℕ) → i < left → IsLastUpTo (rs ++ now ∷ []) (now - left + i) (get_or (left_of (o.revision - now) left o.places) i 0)
    began_then i within =
        let deep : length o.places ≡ k = is.deep in
        let numbered : k ≤ o.revision = is.numbered in
        let j : ℕ = length o.places - (o.revision - now) - left + i in
        let number : o.revision - k + (length o.places - (o.revision - now) - left + i) ≡ now - left + i = omega arith in
        subst (λ p. IsLastUpTo (rs ++ now ∷ []) (now - left + i) p) (sym (left_at (o.revision - now) left o.places (omega arith) i within))
        (subst (λ b. IsLastUpTo (rs ++ now ∷ []) b (get_or o.places (length o.places - (o.revision - now) - left + i) 0)) number
        (still_last rs now (o.revision - k + (length o.places - (o.revision - now) - left + i))
        (get_or o.places (length o.places - (o.revision - now) - left + i) 0)
        (is.began (length o.places - (o.revision - now) - left + i) (omega arith)) (omega arith)))

-- ---- what is kept then

module _ (rs : List ℕ) (k left now : ℕ) (was : Starts) (places : List ℕ) (lines : ℕ) where
  abbrev Then : Type 0
  Then = Knows (rs ++ now ∷ []) left (record { places = places; lines = lines + 1; revision = now })

  pub risen_known : was.revision < now → places ≡ was.places ++ was.lines ∷ [] → lines ≡ was.lines → Knows rs k was → MovesOn k was.revision left now → Then
  risen_known more grown same is (inr p) = let low = p.0 in absurd (omega arith)
  risen_known more grown same is (inl p) =
      subst (λ j. Knows (rs ++ now ∷ []) j (record { places = places; lines = lines + 1; revision = now })) (sym p.0)
      (subst (λ o. Knows (rs ++ now ∷ []) (k + 1) o)
      (ap₂ {C = Starts} (λ q n. record { places = q; lines = n + 1; revision = now }) (sym grown) (sym same)) (start_known rs k now was is p.1))

  pub fallen_known : now ≤ was.revision → places ≡ left_of (was.revision - now) left was.places → lines ≡ was.lines → Knows rs k was
      → MovesOn k was.revision left now → Then
  fallen_known low ended same is (inl p) = let next = p.1 in absurd (omega arith)
  fallen_known low ended same is (inr p) =
      subst (λ o. Knows (rs ++ now ∷ []) left o) (ap₂ {C = Starts} (λ q n. record { places = q; lines = n + 1; revision = now }) (sym ended) (sym same))
      (end_known rs k left now was is p.0 p.1)
