-- Two texts whose first bytes and whose last ones are the same are the same, where these cover them.
-- Cited by `same::same_by_4` and `same::same_by_8`.
use Rattle.std.proofs.Common.{◌≡◌, ℕ, ◌+◌, ◌-◌, ◌≤◌, List, ◌++◌, length, take, drop, take_all, take-take, length-drop, take-append-drop, sym, ap, ap₂, ◌∙◌, arith}

pub same_ends : (k n : ℕ) (a b : List ℕ) → length a ≡ n → length b ≡ n → k ≤ n → n ≤ k + k → take k a ≡ take k b
    → take k (drop (n - k) a) ≡ take k (drop (n - k) b) → a ≡ b
same_ends k n a b long_a long_b within covers first last =
    let fronts : take (n - k) a ≡ take (n - k) b =
    sym (take-take (n - k) k a (omega arith)) ∙ ap (take (n - k)) first ∙ take-take (n - k) k b (omega arith) in
    let whole_a : take k (drop (n - k) a) ≡ drop (n - k) a = take_all k (drop (n - k) a) (omega (arith, length-drop (n - k) a)) in
    let whole_b : take k (drop (n - k) b) ≡ drop (n - k) b = take_all k (drop (n - k) b) (omega (arith, length-drop (n - k) b)) in
    sym (take-append-drop (n - k) a) ∙ ap₂ (λ s t. s ++ t) fronts (sym whole_a ∙ last ∙ whole_b) ∙ take-append-drop (n - k) b
