-- PathSteps that are put on and taken off.
-- Cited by `Depth::pop` and `Depth::push`.
use Rattle.std.proofs.Common.{◌≡◌, ◌==◌, ℕ, zero, suc, ◌+◌, ◌*◌, ◌/◌, ◌%◌, ◌^◌, ◌<◌, ◌≤◌, Bool, true, false, List, [], ◌∷◌, ◌++◌, length, take, slice_get, slice_set, slice_index_or}
use Rattle.std.proofs.Common.{Some, refl, sym, ap, ◌∙◌, arith, length-append}
use Rattle.core.specs.Int.{from_bool}
use Rattle.std.proofs.lemmas.Nat.{div-mul-add, mod-mul-add}
use Rattle.std.proofs.lemmas.List.{get_or-set_same, get_or-set_other}
use Rattle.mi_node.specs.Refs.{Ref}
use Rattle.mi_tree.specs.declared.path_steps.PathStep.{PathStep}
use Rattle.mi_tree.specs.PathSteps.{anyone, path_steps_of, AreBits}
use Rattle.mi_tree.specs.declared.walk.TheConstants.{MAX_LEVELS}

pub path_steps_long : (ns : List Ref) (b n : ℕ) → length (path_steps_of ns b n) ≡ n
path_steps_long ns b zero = refl
path_steps_long ns b (suc n) =
    let i = path_steps_long ns (b / 2) n in
    let e = length-append (path_steps_of ns (b / 2) n) (record { node = slice_index_or ns n anyone; left = (b % 2 == 1) } ∷ []) in omega arith

-- a node that is set behind them changes none
path_steps_set : (ns : List Ref) (b n i : ℕ) (x : Ref) → n ≤ i → path_steps_of (slice_set ns i x) b n ≡ path_steps_of ns b n
path_steps_set ns b zero i x h = refl
path_steps_set ns b (suc n) i x h =
    let other : slice_index_or (slice_set ns i x) n anyone ≡ slice_index_or ns n anyone = get_or-set_other ns i n x anyone (λ e. (let f : n ≡ i = e in omega arith)) in
    let rest = path_steps_set ns (b / 2) n i x (omega arith) in
    λ k. rest k ++ record { node = other k; left = (b % 2 == 1) } ∷ []

bit_low : (l : Bool) → from_bool l < 2
bit_low false = omega arith
bit_low true = omega arith

bit_is : (l : Bool) → (from_bool l == 1) ≡ l
bit_is false = refl
bit_is true = refl

pub pushed : (ns : List Ref) (b n : ℕ) (t : PathStep) → AreBits ns (record { lefts = b; len = n }) → n < MAX_LEVELS
    → path_steps_of (slice_set ns n t.node) (b * 2 + from_bool t.left) (suc n) ≡ path_steps_of ns b n ++ t ∷ []
pushed ns b n t h room =
    let k = h.0 in
    let half = div-mul-add b 2 (from_bool t.left) (bit_low t.left) in let odd = mod-mul-add b 2 (from_bool t.left) (bit_low t.left) in
    let rest = ap (λ j. path_steps_of (slice_set ns n t.node) j n) half ∙ path_steps_set ns b n n t.node (omega arith) in
    let here : slice_index_or (slice_set ns n t.node) n anyone ≡ t.node = get_or-set_same ns n t.node anyone (omega arith) in
    let side = ap (λ j. j == 1) odd ∙ bit_is t.left in
    λ i. rest i ++ record { node = here i; left = side i } ∷ []

pub popped : (ns : List Ref) (b n : ℕ) → take n (path_steps_of ns b (suc n)) ≡ path_steps_of ns (b / 2) n
popped ns b n = let e = path_steps_long ns (b / 2) n in
    ap (λ k. take k (path_steps_of ns b (suc n))) (sym e) ∙ take_front (path_steps_of ns (b / 2) n) (record { node = slice_index_or ns n anyone; left = (b % 2 == 1) } ∷ [])
  where
    take_front : (xs ys : List PathStep) → take (length xs) (xs ++ ys) ≡ xs
    take_front [] ys = refl
    take_front (x ∷ xs) ys = ap (λ k. x ∷ k) (take_front xs ys)

pub last_popped : (ns : List Ref) (b n : ℕ) → slice_get (path_steps_of ns b (suc n)) n ≡ Some (record { node = slice_index_or ns n anyone; left = (b % 2 == 1) })
last_popped ns b n = let e = path_steps_long ns (b / 2) n in
    ap (slice_get (path_steps_of ns b (suc n))) (sym e) ∙ get_behind (path_steps_of ns (b / 2) n) (record { node = slice_index_or ns n anyone; left = (b % 2 == 1) })
  where
    get_behind : (xs : List PathStep) (y : PathStep) → slice_get (xs ++ y ∷ []) (length xs) ≡ Some y
    get_behind [] y = refl
    get_behind (x ∷ xs) y = get_behind xs y

pub bits_popped : (ns : List Ref) (b n : ℕ) → AreBits ns (record { lefts = b; len = suc n }) → AreBits ns (record { lefts = b / 2; len = n })
bits_popped ns b n h = let f = h.2 in let k = h.1 in let two : 2 ^ suc n ≡ 2 ^ n * 2 = omega arith in (h.0, omega arith, omega arith)
