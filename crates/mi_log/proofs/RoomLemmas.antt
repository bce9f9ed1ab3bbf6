-- What writes at places leave of a file with room; the file with room cites them.
-- Cited by `RoomFile::cut`, `RoomFile::grow` and `RoomFileDevice::write`.
use Rattle.std.proofs.Common.{◌≡◌, ◌≤◌, ◌+◌, ◌-◌, max, ℕ, zero, suc, List, [], ◌∷◌, ◌++◌, length, take, drop, Bool, true, false, ◌==◌, ◌&&◌}
use Rattle.std.proofs.Common.{Option, Some, None, replicate, refl, sym, ap, ◌∙◌, arith}
use Rattle.std.proofs.lemmas.List.{length-append, length-take-le, length-drop, take-append-drop, drop-append-le}
use Rattle.std.proofs.Math.Seq.{drop-append-add, drop-append_seam, drop-length, take-length}
use Rattle.mi_log.specs.Placed.{placed, IsPlaced, IsCutTo}
use Rattle.mi_log.specs.Room.{are_zeros, IsRoomy}

-- two texts of zeros
both_zeros : (xs ys : List ℕ) → are_zeros xs ≡ true → are_zeros ys ≡ true → are_zeros (xs ++ ys) ≡ true
both_zeros [] ys p q = q
both_zeros (x ∷ xs) ys p q = by_head (x == 0) refl p (λ h. both_zeros xs ys h q)
  where
    by_head : (b : Bool) → (x == 0) ≡ b → ((x == 0) && are_zeros xs) ≡ true
        → (are_zeros xs ≡ true → are_zeros (xs ++ ys) ≡ true) → ((x == 0) && are_zeros (xs ++ ys)) ≡ true
    by_head true is h more = ap (λ b. b && are_zeros (xs ++ ys)) is ∙ more (sym (ap (λ b. b && are_zeros xs) is) ∙ h)
    by_head false is h more = absurd (cc)

-- each part of a text of zeros
parts_are_zeros : (xs ys : List ℕ) → are_zeros (xs ++ ys) ≡ true → (are_zeros xs ≡ true) × (are_zeros ys ≡ true)
parts_are_zeros [] ys p = (refl, p)
parts_are_zeros (x ∷ xs) ys p = by_head (x == 0) refl p (λ h. parts_are_zeros xs ys h)
  where
    by_head : (b : Bool) → (x == 0) ≡ b → ((x == 0) && are_zeros (xs ++ ys)) ≡ true
        → (are_zeros (xs ++ ys) ≡ true → (are_zeros xs ≡ true) × (are_zeros ys ≡ true))
        → (((x == 0) && are_zeros xs) ≡ true) × (are_zeros ys ≡ true)
    by_head true is h more =
        let both = more (sym (ap (λ b. b && are_zeros (xs ++ ys)) is) ∙ h) in
        (ap (λ b. b && are_zeros xs) is ∙ both.0, both.1)
    by_head false is h more = absurd (cc)

pub zeros_in_front : (n : ℕ) (xs : List ℕ) → are_zeros xs ≡ true → are_zeros (take n xs) ≡ true
zeros_in_front n xs p = (parts_are_zeros (take n xs) (drop n xs) (ap are_zeros (take-append-drop n xs) ∙ p)).0

zeros_behind : (n : ℕ) (xs : List ℕ) → are_zeros xs ≡ true → are_zeros (drop n xs) ≡ true
zeros_behind n xs p = (parts_are_zeros (take n xs) (drop n xs) (ap are_zeros (take-append-drop n xs) ∙ p)).1

-- a rest of a rest
drop_more : (n m : ℕ) (xs : List ℕ) → n ≤ length xs → drop (n + m) xs ≡ drop m (drop n xs)
drop_more n m xs h =
    let len : length (take n xs) ≡ n = length-take-le n xs h in
    ap (λ k. drop (k + m) xs) (sym len) ∙ ap (λ l. drop (length (take n xs) + m) l) (sym (take-append-drop n xs))
    ∙ drop-append-add (take n xs) (drop n xs) m

-- what a write leaves behind what it placed, and how much that is in all
rest_placed : (end n : ℕ) (bytes all : List ℕ) → end ≤ length all → n ≤ length bytes → drop (end + n) (placed end bytes all n) ≡ drop (end + n) all
rest_placed end n bytes all h k =
    let len : length (take end all) ≡ end = length-take-le end all h in
    let count : length (take n bytes) ≡ n = length-take-le n bytes k in
    let first : drop (length (take end all) + n) (placed end bytes all n) ≡ drop n (take n bytes ++ drop (end + n) all) =
    drop-append-add (take end all) (take n bytes ++ drop (end + n) all) n in
    let second : drop n (take n bytes ++ drop (end + n) all) ≡ drop (end + n) all =
    ap (λ k. drop k (take n bytes ++ drop (end + n) all)) (sym count) ∙ drop-append_seam (take n bytes) (drop (end + n) all) in
    ap (λ k. drop (k + n) (placed end bytes all n)) (sym len) ∙ first ∙ second

length_placed : (end n : ℕ) (bytes all : List ℕ) → end ≤ length all → n ≤ length bytes → length (placed end bytes all n) ≡ max (length all) (end + n)
length_placed end n bytes all h k =
    let len : length (take end all) ≡ end = length-take-le end all h in
    let count : length (take n bytes) ≡ n = length-take-le n bytes k in
    let rest : length (drop (end + n) all) ≡ length all - (end + n) = length-drop (end + n) all in
    let later : length (take n bytes ++ drop (end + n) all) ≡ length (take n bytes) + length (drop (end + n) all) =
    length-append (take n bytes) (drop (end + n) all) in
    let whole : length (placed end bytes all n) ≡ length (take end all) + length (take n bytes ++ drop (end + n) all) =
    length-append (take end all) (take n bytes ++ drop (end + n) all) in
    omega (arith, len, count, rest, later, whole)

some_same : (x y : List ℕ) → ◌≡◌ {A = Option (List ℕ)} (Some x) (Some y) → x ≡ y
some_same x y h = cc

none_some : (y : List ℕ) → ◌≡◌ {A = Option (List ℕ)} None (Some y) → ⊥
none_some y h = absurd (cc)

-- a write behind what was written leaves a file with room
pub roomy_behind : (old new : Option (List ℕ)) (end size n : ℕ) (bytes : List ℕ) → IsRoomy old end size → n ≤ length bytes
    → IsPlaced end bytes n old new → IsRoomy new (end + n) (max size (end + n))
roomy_behind None new end size n bytes h k w = (omega arith, λ x is. absurd (none_some x (sym w ∙ is)))
roomy_behind (Some all) new end size n bytes h k w = (
  omega arith,
  λ x is.
      let same : placed end bytes all n ≡ x = some_same (placed end bytes all n) x (sym w ∙ is) in
      let known = h.1 all refl in
      let within : end ≤ length all = omega (arith, h.0, known.0) in
      let len : length (placed end bytes all n) ≡ max (length all) (end + n) = length_placed end n bytes all within k in
      let sized : max size (end + n) ≡ length (placed end bytes all n) = omega (arith, known.0, len) in (
        sized ∙ ap length same,
        ap (λ l. are_zeros (drop (end + n) l)) (sym same) ∙ ap are_zeros (rest_placed end n bytes all within k)
            ∙ ap are_zeros (drop_more end n all within) ∙ zeros_behind n (drop end all) known.1,
      ),
)

-- what a write behind the end of a file leaves
grown : (n : ℕ) (zeros all : List ℕ) → placed (length all) zeros all n ≡ all ++ (take n zeros ++ drop (length all + n) all)
grown n zeros all = ap (λ l. l ++ (take n zeros ++ drop (length all + n) all)) (take-length all)

-- a write behind the end of a file leaves room
pub roomy_grown : (old new : Option (List ℕ)) (end size n : ℕ) (zeros : List ℕ) → IsRoomy old end size → n ≤ length zeros
    → are_zeros zeros ≡ true → IsPlaced size zeros n old new → IsRoomy new end (size + n)
roomy_grown None new end size n zeros h k z w = (omega (arith, h.0), λ x is. absurd (none_some x (sym w ∙ is)))
roomy_grown (Some all) new end size n zeros h k z w = (
  omega (arith, h.0),
  λ x is.
      let known = h.1 all refl in
      let within : end ≤ length all = omega (arith, h.0, known.0) in
      let same : placed size zeros all n ≡ x = some_same (placed size zeros all n) x (sym w ∙ is) in
      let long : size ≤ length all = omega (arith, known.0) in
      let len : length (placed size zeros all n) ≡ max (length all) (size + n) = length_placed size n zeros all long k in
      let sized : size + n ≡ length (placed size zeros all n) = omega (arith, known.0, len) in
      let rest = take n zeros ++ drop (length all + n) all in
      let parts : placed size zeros all n ≡ all ++ rest = ap (λ m. placed m zeros all n) known.0 ∙ grown n zeros all in
      let behind : drop end (all ++ rest) ≡ drop end all ++ rest = drop-append-le end all rest within in
      let more : ℕ = (length all - end) + n in
      let far : length all + n ≡ end + more = omega (arith, within) in
      let later : are_zeros (drop (length all + n) all) ≡ true =
      ap (λ m. are_zeros (drop m all)) far ∙ ap are_zeros (drop_more end more all within) ∙ zeros_behind more (drop end all) known.1 in
      let none : are_zeros rest ≡ true = both_zeros (take n zeros) (drop (length all + n) all) (zeros_in_front n zeros z) later in
      (sized ∙ ap length same, ap (λ l. are_zeros (drop end l)) (sym same ∙ parts) ∙ ap are_zeros behind ∙ both_zeros (drop end all) rest known.1 none),
)

-- zeros are zeros
pub zeros_are : (n : ℕ) → are_zeros (replicate n 0) ≡ true
zeros_are zero = refl
zeros_are (suc n) = zeros_are n

-- a file that is cut has no room
pub roomy_cut : (old new : Option (List ℕ)) (end size n : ℕ) → IsRoomy old end size → n ≤ end → IsCutTo n old new → IsRoomy new n n
roomy_cut None new end size n h le cut = (omega arith, λ x is. absurd (none_some x (sym cut ∙ is)))
roomy_cut (Some all) new end size n h le cut = (
  omega arith,
  λ x is.
      let known = h.1 all refl in
      let same : take n all ≡ x = some_same (take n all) x (sym cut ∙ is) in
      let within : n ≤ length all = omega (arith, h.0, known.0, le) in
      let len : length (take n all) ≡ n = length-take-le n all within in
      let none : drop n (take n all) ≡ [] = ap (λ k. drop k (take n all)) (sym len) ∙ drop-length (take n all) in
      (sym len ∙ ap length same, ap (λ l. are_zeros (drop n l)) (sym same) ∙ ap are_zeros none),
)
