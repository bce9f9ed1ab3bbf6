-- A page's places after its bits and nodes are written.
--     got-none, got-some      what is read
--     put-used        a page with an entry has a bit
--     put-slot, taken-slot, revived-slot, kept-slot, first-slot, no-slot      each place after a write
-- Cited by `Page::get`, `Page::is_empty`, `Page::new`, `Page::put`, `Page::set_live` and 1 more.
use Rattle.std.proofs.Common.{◌≡◌, ℕ, zero, suc, [], ◌∷◌, ◌-◌, ◌*◌, ◌/◌, ◌%◌, ◌^◌, ◌<◌, ◌==◌, Bool, true, false, cond, option_map, Some, None, List, length, refl, sym, ap, ◌∙◌, arith, bit_and, bit_or, slice_index_or, slice_set, w64}
use Rattle.std.specs.Int.{bit_at}
use Rattle.std.proofs.lemmas.Nat.Bits.{shr_and_one, bit_at-lt, bit_at-zero, bit_at_set_same, bit_at_set_other, bit_at_clear_same, bit_at_clear_other}
use Rattle.std.proofs.lemmas.List.{get_or-set_same, get_or-set_other}
use Rattle.mi_node.specs.Refs.{Ref}
use Rattle.mi_ids.specs.IdMap.{flagged}
use Rattle.mi_ids.proofs.EntryLemmas.{no_true}
use Rattle.mi_ids.specs.Pages.{place, nobody, slot_of}
use Rattle.mi_ids.specs.declared.page.Page.{Page}

same : (k q : ℕ) → (k == q) ≡ true → k ≡ q
same k q e = grind (arith, e)

other : (k q : ℕ) → (k == q) ≡ false → q ≡ k → ⊥
other k q e is = grind (arith, e, is)

alike : {a b c d : Bool} {m n : Ref} → a ≡ b → c ≡ d → m ≡ n → place a c m ≡ place b d n
alike p q r = λ i. place (p i) (q i) (r i)

abbrev bit : ℕ → ℕ
bit s = 1 * 2 ^ s % 18446744073709551616

abbrev unbit : ℕ → ℕ
unbit s = 18446744073709551615 - bit s

abbrev is1 : ℕ → ℕ → Bool
is1 n k = bit_at n k == 1

set-same : (n s : ℕ) → s < 64 → is1 (bit_or n (bit s)) s ≡ true
set-same n s h = ap (λ b. b == 1) (bit_at_set_same w64 n s h)

set-other : (n s k : ℕ) → s < 64 → (k ≡ s → ⊥) → is1 (bit_or n (bit s)) k ≡ is1 n k
set-other n s k h out = ap (λ b. b == 1) (bit_at_set_other w64 n s h k out)

clear-same : (n s : ℕ) → s < 64 → is1 (bit_and n (unbit s)) s ≡ false
clear-same n s h = ap (λ b. b == 1) (bit_at_clear_same w64 n s h)

clear-other : (n s k : ℕ) → s < 64 → k < 64 → (k ≡ s → ⊥) → is1 (bit_and n (unbit s)) k ≡ is1 n k
clear-other n s k h w out = ap (λ b. b == 1) (bit_at_clear_other w64 n s h k w out)

pub got-none : (p : Page) (k : ℕ) → bit_and (p.present / 2 ^ k) 1 ≡ 0 → None ≡ slot_of p k
unfolding slot_of
got-none p k e =
    let zero : is1 p.present k ≡ false = ap (λ b. b == 1) (sym (shr_and_one p.present k) ∙ e) in
    sym (alike {m = slice_index_or p.nodes k nobody} zero refl refl)

-- what a place in the list holds, whatever is said of the others
pub any-default : (l : List Ref) (i : ℕ) (d e : Ref) → i < length l → slice_index_or l i d ≡ slice_index_or l i e
any-default [] i d e h = absurd (omega (arith, h))
any-default (x ∷ l) zero d e h = refl
any-default (x ∷ l) (suc i) d e h = any-default l i d e (omega (arith, h))

pub got-some : (p : Page) (k : ℕ) (n : Ref) → ((bit_and (p.present / 2 ^ k) 1 == 0) ≡ false) → slice_index_or p.nodes k nobody ≡ n
    → Some (record { node = n; live = bit_and (p.live / 2 ^ k) 1 == 1 }) ≡ slot_of p k
unfolding slot_of
got-some p k n e is =
    let nonzero : (bit_at p.present k == 0) ≡ false = ap (λ b. b == 0) (sym (shr_and_one p.present k)) ∙ e in
    let below = bit_at-lt p.present k in
    let one : is1 p.present k ≡ true = grind (arith, nonzero, below) in
    sym (alike one (ap (λ b. b == 1) (sym (shr_and_one p.live k))) is)

pub put-slot : (p : Page) (s : ℕ) (n : Ref) → s < 64 → length p.nodes ≡ 64 → (k : ℕ)
    → slot_of (record { present = bit_or p.present (bit s); live = bit_or p.live (bit s); nodes = slice_set p.nodes s n }) k
    ≡ cond (s == k) (Some (record { node = n; live = true })) (slot_of p k)
unfolding slot_of
put-slot p s n h len k =
    let new : Page = record { present = bit_or p.present (bit s); live = bit_or p.live (bit s); nodes = slice_set p.nodes s n } in
    (elim (s == k) as (λ y. (s == k) ≡ y → slot_of new k ≡ cond y (Some (record { node = n; live = true })) (slot_of p k)) [
      | true ↦ λ t. ap (slot_of new) (sym (same s k t))
          ∙ alike (set-same p.present s h) (set-same p.live s h) (get_or-set_same p.nodes s n nobody (omega (arith, h, len)))
      | false ↦ λ t. alike (set-other p.present s k h (other s k t)) (set-other p.live s k h (other s k t))
          (get_or-set_other p.nodes s k n nobody (other s k t))
    ]) refl

pub taken-slot : (p : Page) (s : ℕ) → s < 64 → (k : ℕ) → k < 64
    → slot_of (record { present = bit_and p.present (unbit s); live = p.live; nodes = p.nodes }) k ≡ cond (s == k) None (slot_of p k)
unfolding slot_of
taken-slot p s h k w =
    let new : Page = record { present = bit_and p.present (unbit s); live = p.live; nodes = p.nodes } in
    (elim (s == k) as (λ y. (s == k) ≡ y → slot_of new k ≡ cond y None (slot_of p k)) [
      | true ↦ λ t. ap (slot_of new) (sym (same s k t))
          ∙ alike {m = slice_index_or p.nodes s nobody} (clear-same p.present s h) refl refl
      | false ↦ λ t. alike {m = slice_index_or p.nodes k nobody} (clear-other p.present s k h w (other s k t)) refl refl
    ]) refl

marked : (b l live : Bool) (n : Ref) → place b live n ≡ option_map (flagged live) (place b l n)
marked true l live n = refl
marked false l live n = refl

pub revived-slot : (p : Page) (s : ℕ) → s < 64 → (k : ℕ)
    → slot_of (record { present = p.present; live = bit_or p.live (bit s); nodes = p.nodes }) k ≡ cond (s == k) (option_map (flagged true) (slot_of p k)) (slot_of p k)
unfolding slot_of
revived-slot p s h k =
    let new : Page = record { present = p.present; live = bit_or p.live (bit s); nodes = p.nodes } in
    (elim (s == k) as (λ y. (s == k) ≡ y → slot_of new k ≡ cond y (option_map (flagged true) (slot_of p k)) (slot_of p k)) [
      | true ↦ λ t. alike {m = slice_index_or p.nodes k nobody} refl (ap (is1 (bit_or p.live (bit s))) (sym (same s k t)) ∙ set-same p.live s h) refl
          ∙ marked (is1 p.present k) (is1 p.live k) true (slice_index_or p.nodes k nobody)
      | false ↦ λ t. alike {m = slice_index_or p.nodes k nobody} refl (set-other p.live s k h (other s k t)) refl
    ]) refl

pub kept-slot : (p : Page) (s : ℕ) → s < 64 → (k : ℕ) → k < 64
    → slot_of (record { present = p.present; live = bit_and p.live (unbit s); nodes = p.nodes }) k ≡ cond (s == k) (option_map (flagged false) (slot_of p k)) (slot_of p k)
unfolding slot_of
kept-slot p s h k w =
    let new : Page = record { present = p.present; live = bit_and p.live (unbit s); nodes = p.nodes } in
    (elim (s == k) as (λ y. (s == k) ≡ y → slot_of new k ≡ cond y (option_map (flagged false) (slot_of p k)) (slot_of p k)) [
      | true ↦ λ t. alike {m = slice_index_or p.nodes k nobody} refl (ap (is1 (bit_and p.live (unbit s))) (sym (same s k t)) ∙ clear-same p.live s h) refl
          ∙ marked (is1 p.present k) (is1 p.live k) false (slice_index_or p.nodes k nobody)
      | false ↦ λ t. alike {m = slice_index_or p.nodes k nobody} refl (clear-other p.live s k h w (other s k t)) refl
    ]) refl

pub no-slot : (p : Page) → p.present ≡ 0 → (k : ℕ) → slot_of p k ≡ None
unfolding slot_of
no-slot p e k = alike {m = slice_index_or p.nodes k nobody} (ap (λ n. is1 n k) e ∙ ap (λ b. b == 1) (bit_at-zero k)) refl refl

-- a word with a bit that is set isn't 0
pub put-used : (n s : ℕ) → s < 64 → 0 < bit_or n (bit s)
put-used n s h = (elim (bit_or n (bit s)) as (λ m. bit_or n (bit s) ≡ m → 0 < m) [
  | zero ↦ λ e. absurd (no_true (sym (ap (λ b. b == 1) (bit_at-zero s)) ∙ ap (λ m. is1 m s) (sym e) ∙ set-same n s h))
  | suc m ↦ λ e. omega arith
]) refl
