-- The pages of a map as the finite map that contracts see.
--     get-pages       what an id has: what its page says of its place
--     pages-changed   pages that say the same but of one id
--     used-put, used-dropped      none of them is empty
-- Cited by `Ids::new`, `pages::entry_in`, `pages::put_in`, `pages::searched`, `pages::set_in` and 1 more.
use Rattle.std.proofs.Common.{◌≡◌, ℕ, zero, suc, ◌+◌, ◌*◌, ◌/◌, ◌%◌, ◌<◌, ◌==◌, Bool, true, false, cond, option_map, Option, Some, None, List, [], ◌∷◌, refl, sym, ap, subst, ◌∙◌, arith}
use Rattle.std.specs.Prelude.{is_some}
use Rattle.std.specs.Ordering.{nat_cmp}
use Rattle.std.specs.Cmp.{nat_cmp_total}
use Rattle.std.specs.FinMap.{FinMap, get, empty, remove, get-empty, same_map, nat_cmp-IsAntisymmetric}
use Rattle.std.specs.Map.{lookup}
use Rattle.mi_ids.specs.IdMap.{flagged, with_mark, with_live}
use Rattle.mi_ids.specs.Pages.{slot_of, with_slot, with_slots, of_pages, IsUsed, NoneIsEmpty}
use Rattle.mi_ids.proofs.EntryLemmas.{get-put, get-out, get-with_live, no_true}
use Rattle.mi_ids.specs.declared.entry.IdEntry.{IdEntry}
use Rattle.mi_ids.specs.declared.page.Page.{Page}

same : (k q : ℕ) → (k == q) ≡ true → k ≡ q
same k q e = grind (arith, e)

other : (k q : ℕ) → (k == q) ≡ false → q ≡ k → ⊥
other k q e is = grind (arith, e, is)

pub itself : (k : ℕ) → (k == k) ≡ true
itself k = grind arith

apart : (k q : ℕ) → (k ≡ q → ⊥) → (k == q) ≡ false
apart k q out = elim (k == q) as (λ y. (k == q) ≡ y → y ≡ false) [
  | true ↦ λ t. absurd (out (same k q t))
  | false ↦ λ t. refl
] refl

pub get-slot : (m : FinMap nat_cmp IdEntry) (k : ℕ) (o : Option IdEntry) (q : ℕ) → get (with_slot m k o) q ≡ cond (k == q) o (get m q)
get-slot m k None q = get-out m k q
get-slot m k (Some e) q = get-put m k e q

outside : (m : FinMap nat_cmp IdEntry) (base : ℕ) (f : ℕ → Option IdEntry) (n q : ℕ) → ((j : ℕ) → j < n → base + j ≡ q → ⊥) → get (with_slots m base f n) q ≡ get m q
outside m base f zero q out = refl
outside m base f (suc n) q out = get-slot (with_slots m base f n) (base + n) (f n) q
    ∙ ap (λ b. cond b (f n) (get (with_slots m base f n) q)) (apart (base + n) q (out n (omega arith)))
    ∙ outside m base f n q (λ j h. out j (omega (arith, h)))

inside : (m : FinMap nat_cmp IdEntry) (base : ℕ) (f : ℕ → Option IdEntry) (n j : ℕ) → j < n → get (with_slots m base f n) (base + j) ≡ f j
inside m base f zero j h = absurd (omega (arith, h))
inside m base f (suc n) j h = get-slot (with_slots m base f n) (base + n) (f n) (base + j)
    ∙ (elim (n == j) as (λ y. (n == j) ≡ y → cond (base + n == base + j) (f n) (get (with_slots m base f n) (base + j)) ≡ f j) [
      | true ↦ λ t. let is = same n j t in
          ap (λ b. cond b (f n) (get (with_slots m base f n) (base + j))) (ap (λ i. base + n == base + i) (sym is) ∙ itself (base + n)) ∙ ap f is
      | false ↦ λ t. ap (λ b. cond b (f n) (get (with_slots m base f n) (base + j))) (apart (base + n) (base + j) (λ e. omega (arith, e, other n j t)))
          ∙ inside m base f n j (omega (arith, h, other n j t))
    ]) refl

abbrev pub at : ℕ → List (ℕ × Page) → Option Page
at n es = lookup (λ k. n == k) es

abbrev pub said : Option Page → ℕ → Option IdEntry
said None s = None
said (Some p) s = slot_of p s

split : (q : ℕ) → 64 * (q / 64) + q % 64 ≡ q
split q = omega arith

pub small : (q : ℕ) → q % 64 < 64
small q = omega arith

pub get-pages : (es : List (ℕ × Page)) (q : ℕ) → get (of_pages es) q ≡ said (at (q / 64) es) (q % 64)
unfolding of_pages
get-pages [] q = get-empty nat_cmp q
get-pages (e ∷ es) q =
    (elim (q / 64 == e.0) as (λ y. (q / 64 == e.0) ≡ y
    → get (with_slots (of_pages es) (64 * e.0) (slot_of e.1) 64) q ≡ said (cond y (Some e.1) (at (q / 64) es)) (q % 64)) [
      | true ↦ λ t. let is = same (q / 64) e.0 t in
          ap (get (with_slots (of_pages es) (64 * e.0) (slot_of e.1) 64)) (sym (split q) ∙ ap (λ n. 64 * n + q % 64) is)
          ∙ inside (of_pages es) (64 * e.0) (slot_of e.1) 64 (q % 64) (small q)
      | false ↦ λ t. outside (of_pages es) (64 * e.0) (slot_of e.1) 64 q (λ j h is. omega (arith, h, is, other (q / 64) e.0 t)) ∙ get-pages es q
    ]) refl

equal : (fs : List (ℕ × Page)) (m : FinMap nat_cmp IdEntry) → ((q : ℕ) → said (at (q / 64) fs) (q % 64) ≡ get m q) → of_pages fs ≡ m
equal fs m is = same_map nat_cmp_total nat_cmp-IsAntisymmetric (of_pages fs) m (λ q. get-pages fs q ∙ is q)

one : (id q : ℕ) → id / 64 ≡ q / 64 → (id % 64 == q % 64) ≡ (id == q)
one id q e = elim (id == q) as (λ y. (id == q) ≡ y → (id % 64 == q % 64) ≡ y) [
  | true ↦ λ t. ap (λ n. id % 64 == n % 64) (sym (same id q t)) ∙ itself (id % 64)
  | false ↦ λ t. apart (id % 64) (q % 64) (λ is. omega (arith, e, is, other id q t))
] refl

-- one page is another now, which says the same but of one place
pub pages-changed : (es fs : List (ℕ × Page)) (id : ℕ) (new : Option Page) (o : Option IdEntry)
    → ((n : ℕ) → at n fs ≡ cond (id / 64 == n) new (at n es))
    → ((k : ℕ) → k < 64 → said new k ≡ cond (id % 64 == k) o (said (at (id / 64) es) k))
    → (q : ℕ) → get (of_pages fs) q ≡ cond (id == q) o (get (of_pages es) q)
pages-changed es fs id new o is says q =
    get-pages fs q
    ∙ ap (λ p. said p (q % 64)) (is (q / 64))
    ∙ (elim (id / 64 == q / 64) as (λ y. (id / 64 == q / 64) ≡ y
    → said (cond y new (at (q / 64) es)) (q % 64) ≡ cond (id == q) o (said (at (q / 64) es) (q % 64))) [
      | true ↦ λ t. let page = same (id / 64) (q / 64) t in
          says (q % 64) (small q)
          ∙ ap (λ n. cond (id % 64 == q % 64) o (said (at n es) (q % 64))) page
          ∙ ap (λ b. cond b o (said (at (q / 64) es) (q % 64))) (one id q page)
      | false ↦ λ t. ap (λ b. cond b o (said (at (q / 64) es) (q % 64))) (sym (apart id q (λ e. omega (arith, e, other (id / 64) (q / 64) t))))
    ]) refl
    ∙ ap (cond (id == q) o) (sym (get-pages es q))

pub pages-put : (es fs : List (ℕ × Page)) (id : ℕ) (new : Option Page) (o : Option IdEntry)
    → ((n : ℕ) → at n fs ≡ cond (id / 64 == n) new (at n es))
    → ((k : ℕ) → k < 64 → said new k ≡ cond (id % 64 == k) o (said (at (id / 64) es) k))
    → of_pages fs ≡ with_slot (of_pages es) id o
pages-put es fs id new o is says = same_map nat_cmp_total nat_cmp-IsAntisymmetric (of_pages fs) (with_slot (of_pages es) id o) (λ q.
    pages-changed es fs id new o is says q ∙ sym (get-slot (of_pages es) id o q))

pub pages-marked : (es fs : List (ℕ × Page)) (id : ℕ) (live : Bool) (p new : Page)
    → at (id / 64) es ≡ Some p
    → ((n : ℕ) → at n fs ≡ cond (id / 64 == n) (Some new) (at n es))
    → ((k : ℕ) → k < 64 → slot_of new k ≡ cond (id % 64 == k) (option_map (flagged live) (slot_of p k)) (slot_of p k))
    → of_pages fs ≡ with_live (of_pages es) id live
pages-marked es fs id live p new there is says = same_map nat_cmp_total nat_cmp-IsAntisymmetric (of_pages fs) (with_live (of_pages es) id live) (λ q.
    pages-changed es fs id (Some new) (option_map (flagged live) (get (of_pages es) id)) is (λ k w.
    says k w
    ∙ (elim (id % 64 == k) as (λ y. (id % 64 == k) ≡ y → cond y (option_map (flagged live) (slot_of p k)) (slot_of p k)
    ≡ cond y (option_map (flagged live) (get (of_pages es) id)) (said (at (id / 64) es) k)) [
      | true ↦ λ t. ap (option_map (flagged live)) (ap (slot_of p) (sym (same (id % 64) k t))
          ∙ sym (get-pages es id ∙ ap (λ o. said o (id % 64)) there))
      | false ↦ λ t. ap (λ o. said o k) (sym there)
    ]) refl) q
    ∙ sym (get-with_live (of_pages es) id live q))

pub pages-unmarked : (es : List (ℕ × Page)) (id : ℕ) (live : Bool) → at (id / 64) es ≡ None → of_pages es ≡ with_live (of_pages es) id live
unfolding with_live
pages-unmarked es id live out = ap (with_mark (of_pages es) id live) (sym (get-pages es id ∙ ap (λ o. said o (id % 64)) out))

-- where no page has the id, nothing is taken out
pub pages-without : (es : List (ℕ × Page)) (id : ℕ) → at (id / 64) es ≡ None → of_pages es ≡ remove (of_pages es) id
pages-without es id out = pages-put es es id None None
    (λ n. (elim (id / 64 == n) as (λ y. (id / 64 == n) ≡ y → at n es ≡ cond y None (at n es)) [
      | true ↦ λ t. ap (λ m. at m es) (sym (same (id / 64) n t)) ∙ out
      | false ↦ λ t. refl
    ]) refl)
    (λ k w. (elim (id % 64 == k) as (λ y. None ≡ cond y None (said (at (id / 64) es) k)) [
      | true ↦ refl
      | false ↦ ap (λ o. said o k) (sym out)
    ]))

-- a page that says nothing is gone
pub pages-dropped : (es fs : List (ℕ × Page)) (n : ℕ) (p : Page) → at n es ≡ Some p → ((k : ℕ) → slot_of p k ≡ None)
    → ((q : ℕ) → at q fs ≡ cond (n == q) None (at q es)) → of_pages fs ≡ of_pages es
pages-dropped es fs n p there nothing is = equal fs (of_pages es) (λ q.
    ap (λ o. said o (q % 64)) (is (q / 64))
    ∙ (elim (n == q / 64) as (λ y. (n == q / 64) ≡ y → said (cond y None (at (q / 64) es)) (q % 64) ≡ said (at (q / 64) es) (q % 64)) [
      | true ↦ λ t. sym (ap (λ i. said (at i es) (q % 64)) (sym (same n (q / 64) t)) ∙ ap (λ o. said o (q % 64)) there ∙ nothing (q % 64))
      | false ↦ λ t. refl
    ]) refl
    ∙ sym (get-pages es q))

pub no-pages : (es : List (ℕ × Page)) → es ≡ [] → of_pages es ≡ empty
unfolding of_pages
no-pages es is = ap of_pages is

abbrev unwrapped : Page → Option Page → Page
unwrapped p None = p
unwrapped p (Some q) = q

-- where the page that is written has an entry, no page is empty
pub used-put : (es fs : List (ℕ × Page)) (n : ℕ) (new : Page) → NoneIsEmpty es → IsUsed new
    → ((q : ℕ) → at q fs ≡ cond (n == q) (Some new) (at q es)) → NoneIsEmpty fs
used-put es fs n new all is updates = λ q p there.
    (elim (n == q) as (λ y. cond y (Some new) (at q es) ≡ Some p → IsUsed p) [
      | true ↦ λ e. subst IsUsed (ap (unwrapped new) e) is
      | false ↦ λ e. all q p e
    ]) (sym (updates q) ∙ there)

-- and where a page that may be empty is written, and is gone again
pub used-dropped : (es ms fs : List (ℕ × Page)) (n : ℕ) (new : Page) → NoneIsEmpty es
    → ((q : ℕ) → at q ms ≡ cond (n == q) (Some new) (at q es))
    → ((q : ℕ) → at q fs ≡ cond (n == q) None (at q ms)) → NoneIsEmpty fs
used-dropped es ms fs n new all written gone = λ q p there.
    (elim (n == q) as (λ y. cond y None (cond y (Some new) (at q es)) ≡ Some p → IsUsed p) [
      | true ↦ λ e. absurd (no_true (ap is_some e))
      | false ↦ λ e. all q p e
    ]) (sym (gone q ∙ ap (cond (n == q) None) (written q)) ∙ there)

pub none-used : (es : List (ℕ × Page)) → es ≡ [] → NoneIsEmpty es
none-used es is = λ n p there. absurd (no_true (ap is_some (sym (ap (at n) is) ∙ there)))
