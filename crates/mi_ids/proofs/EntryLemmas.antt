-- What a call on the ids gives of each id, for a caller's proofs.
--     get-put, get-out, get-with_live      what an id has after `insert`, `remove`, and `keep` or `revive`
--     out_of_put, revived                  removing a new id takes its insertion back, and reviving a live one takes back that it was kept
-- Cited by `Ids::insert`, `Ids::remove`, `Ids::set_live`, `laws::insert_is_taken_back`, `laws::keep_is_taken_back` and 2 more.
use Rattle.std.proofs.Common.{◌≡◌, ℕ, ◌+◌, ◌-◌, ◌≤◌, ◌==◌, Bool, true, false, cond, option_map, Option, Some, None, refl, sym, ap, ◌∙◌, arith}
use Rattle.std.specs.Prelude.{is_some}
use Rattle.std.specs.Ordering.{nat_cmp}
use Rattle.std.specs.Cmp.{nat_cmp_total, unsigned_tied}
use Rattle.std.specs.FinMap.{FinMap, get, insert, remove, len, get-insert, get-remove, len-insert, len-remove, same_map, nat_cmp-IsAntisymmetric}
use Rattle.mi_ids.specs.IdMap.{flagged, with_mark, with_live}
use Rattle.mi_ids.specs.declared.entry.IdEntry.{IdEntry}

flip : (k q : ℕ) → (k == q) ≡ (q == k)
flip k q = grind arith

same : (k q : ℕ) → (k == q) ≡ true → k ≡ q
same k q e = grind (arith, e)

pub no_true : false ≡ true → ⊥
no_true e = grind (arith, e)

itself : (k : ℕ) → (k == k) ≡ true
itself k = grind arith

pub get-put : (m : FinMap nat_cmp IdEntry) (k : ℕ) (e : IdEntry) (q : ℕ) → get (insert m k e) q ≡ cond (k == q) (Some e) (get m q)
get-put m k e q = get-insert nat_cmp_total m k e q ∙ ap (λ b. cond b (Some e) (get m q)) (unsigned_tied q k ∙ flip q k)

pub get-out : (m : FinMap nat_cmp IdEntry) (k q : ℕ) → get (remove m k) q ≡ cond (k == q) None (get m q)
get-out m k q = get-remove nat_cmp_total m k q ∙ ap (λ b. cond b None (get m q)) (unsigned_tied q k ∙ flip q k)

read-marked : (m : FinMap nat_cmp IdEntry) (k : ℕ) (live : Bool) (q : ℕ) (o : Option IdEntry) → get m k ≡ o
    → get (with_mark m k live o) q ≡ cond (k == q) (option_map (flagged live) o) (get m q)
read-marked m k live q None e = (elim (k == q) as (λ y. (k == q) ≡ y → get m q ≡ cond y None (get m q)) [
  | true ↦ λ t. ap (get m) (sym (same k q t)) ∙ e
  | false ↦ λ t. refl
]) refl
read-marked m k live q (Some x) e = get-put m k (flagged live x) q

pub get-with_live : (m : FinMap nat_cmp IdEntry) (k : ℕ) (live : Bool) (q : ℕ)
    → get (with_live m k live) q ≡ cond (k == q) (option_map (flagged live) (get m k)) (get m q)
unfolding with_live
get-with_live m k live q = read-marked m k live q (get m k) refl

pub out_of_put : (m : FinMap nat_cmp IdEntry) (k : ℕ) (e : IdEntry) → get m k ≡ None → remove (insert m k e) k ≡ m
out_of_put m k e out = same_map nat_cmp_total nat_cmp-IsAntisymmetric (remove (insert m k e) k) m (λ q.
    get-out (insert m k e) k q ∙ (elim (k == q) as (λ y. (k == q) ≡ y → cond y None (get (insert m k e) q) ≡ get m q) [
      | true ↦ λ t. sym out ∙ ap (get m) (same k q t)
      | false ↦ λ t. get-put m k e q ∙ ap (λ b. cond b (Some e) (get m q)) t
    ]) refl)

marked_live : (e : IdEntry) → e.live ≡ true → flagged true e ≡ e
marked_live e is = λ i. record { node = e.node; live = sym is i }

pub revived : (m : FinMap nat_cmp IdEntry) (k : ℕ) (e : IdEntry) → get m k ≡ Some e → e.live ≡ true → with_live (with_live m k false) k true ≡ m
revived m k e there is = same_map nat_cmp_total nat_cmp-IsAntisymmetric (with_live (with_live m k false) k true) m (λ q.
    let kept = get-with_live m k false k
    ∙ ap (λ b. cond b (option_map (flagged false) (get m k)) (get m k)) (itself k) ∙ ap (option_map (flagged false)) there in
    get-with_live (with_live m k false) k true q
    ∙ ap (λ o. cond (k == q) (option_map (flagged true) o) (get (with_live m k false) q)) kept
    ∙ (elim (k == q) as (λ y. (k == q) ≡ y → cond y (Some (flagged true e)) (get (with_live m k false) q) ≡ get m q) [
      | true ↦ λ t. ap Some (marked_live e is) ∙ sym there ∙ ap (get m) (same k q t)
      | false ↦ λ t. get-with_live m k false q ∙ ap (λ b. cond b (option_map (flagged false) (get m k)) (get m q)) t
    ]) refl)

pub len-put : (m : FinMap nat_cmp IdEntry) (k : ℕ) (e : IdEntry) → len (insert m k e) ≡ cond (is_some (get m k)) (len m) (len m + 1)
len-put m k e = len-insert nat_cmp_total m k e

pub len-out : (m : FinMap nat_cmp IdEntry) (k : ℕ) → len (remove m k) ≡ cond (is_some (get m k)) (len m - 1) (len m)
len-out m k = len-remove nat_cmp_total m k

len-marked : (m : FinMap nat_cmp IdEntry) (k : ℕ) (live : Bool) (o : Option IdEntry) → get m k ≡ o → len (with_mark m k live o) ≡ len m
len-marked m k live None e = refl
len-marked m k live (Some x) e = len-put m k (flagged live x) ∙ ap (λ o. cond (is_some o) (len m) (len m + 1)) e

pub len-with_live : (m : FinMap nat_cmp IdEntry) (k : ℕ) (live : Bool) → len (with_live m k live) ≡ len m
unfolding with_live
len-with_live m k live = len-marked m k live (get m k) refl

put_of_out : (m : FinMap nat_cmp IdEntry) (k : ℕ) (e : IdEntry) → get m k ≡ Some e → insert (remove m k) k e ≡ m
put_of_out m k e there = same_map nat_cmp_total nat_cmp-IsAntisymmetric (insert (remove m k) k e) m (λ q.
    get-put (remove m k) k e q ∙ (elim (k == q) as (λ y. (k == q) ≡ y → cond y (Some e) (get (remove m k) q) ≡ get m q) [
      | true ↦ λ t. sym there ∙ ap (get m) (same k q t)
      | false ↦ λ t. get-out m k q ∙ ap (λ b. cond b None (get m q)) t
    ]) refl)

len-there : (m : FinMap nat_cmp IdEntry) (k : ℕ) (o : Option IdEntry) → get m k ≡ o → is_some o ≡ true → 1 ≤ len m
len-there m k None e is = absurd (no_true is)
len-there m k (Some x) e is =
    let out : is_some (get (remove m k) k) ≡ false = ap is_some (get-out m k k ∙ ap (λ b. cond b None (get m k)) (itself k)) in
    let more = sym (ap len (put_of_out m k x e)) ∙ len-put (remove m k) k x ∙ ap (λ b. cond b (len (remove m k)) (len (remove m k) + 1)) out in
    omega (arith, more)

pub len-some : (m : FinMap nat_cmp IdEntry) (k : ℕ) → is_some (get m k) ≡ true → 1 ≤ len m
len-some m k is = len-there m k (get m k) refl is
