-- What a change of columns of cells is to the links of each place.
--     index-links                  a link that is read
--     links-here, links-there      the links of a place after a cell of it is set, and of another place
--     links-more                   a longer column changes no link
--     cleared-..                   columns that are cleared one by one
--     long-..                      that columns stay long
-- Cited by `Column::at`, `columns::clear`, `columns::lengthen`, `columns::lengthen_column`, `columns::link_at` and 3 more.
use Rattle.std.proofs.Common.{◌≡◌, ℕ, zero, suc, ◌+◌, ◌<◌, ◌≤◌, ◌==◌, true, false, cond, List, [], ◌∷◌, ◌++◌}
use Rattle.std.proofs.Common.{length, replicate, slice_set, slice_index_or, refl, sym, ap, ◌∙◌, subst, arith}
use Rattle.std.proofs.Math.ListN.{length-set}
use Rattle.mi_node.specs.Cells.{link_of_cell, empty_cell}
use Rattle.mi_node.specs.Columns.{cell_at, column, links_at, AreLong, cleared}
use Rattle.mi_node.specs.Pool.{no_link, put_link}
use Rattle.mi_node.specs.declared.cell.Cell.{Cell}

-- an index that is there has no default
pub index-any : {X : Type 0} (xs : List X) (s : ℕ) (d e : X) → s < length xs → slice_index_or xs s d ≡ slice_index_or xs s e
index-any [] s d e less = absurd (omega (arith, less))
index-any (x ∷ xs) zero d e less = refl
index-any (x ∷ xs) (suc s) d e less = index-any xs s d e (omega (arith, less))

index-set : {X : Type 0} (xs : List X) (s t : ℕ) (x d : X) → s < length xs → slice_index_or (slice_set xs s x) t d ≡ cond (t == s) x (slice_index_or xs t d)
index-set [] s t x d less = absurd (omega (arith, less))
index-set (y ∷ xs) zero zero x d less = refl
index-set (y ∷ xs) zero (suc t) x d less = grind arith
index-set (y ∷ xs) (suc s) zero x d less = grind arith
index-set (y ∷ xs) (suc s) (suc t) x d less = index-set xs s t x d (omega (arith, less)) ∙ grind arith

pub index-end : {X : Type 0} (xs : List X) (n k : ℕ) (d : X) → slice_index_or (xs ++ replicate n d) k d ≡ slice_index_or xs k d
index-end [] zero k d = refl
index-end [] (suc n) zero d = refl
index-end [] (suc n) (suc k) d = index-end [] n k d
index-end (x ∷ xs) n zero d = refl
index-end (x ∷ xs) n (suc k) d = index-end xs n k d

index-links : (cs : List (List Cell)) (k s : ℕ) → s < length cs → slice_index_or (links_at cs k) s no_link ≡ link_of_cell (cell_at k (column cs s))
index-links [] k s less = absurd (omega (arith, less))
index-links (c ∷ cs) k zero less = refl
index-links (c ∷ cs) k (suc s) less = index-links cs k s (omega (arith, less))

links-length : (cs : List (List Cell)) (k : ℕ) → length (links_at cs k) ≡ length cs
links-length [] k = refl
links-length (c ∷ cs) k = ap suc (links-length cs k)

at_here : (c : List Cell) (k : ℕ) (x : Cell) → k < length c → cell_at k (slice_set c k x) ≡ x
at_here [] k x less = absurd (omega (arith, less))
at_here (y ∷ c) zero x less = refl
at_here (y ∷ c) (suc k) x less = at_here c k x (omega (arith, less))

at_there : (c : List Cell) (k q : ℕ) (x : Cell) → (q == k) ≡ false → cell_at q (slice_set c k x) ≡ cell_at q c
at_there [] k q x e = refl
at_there (y ∷ c) zero zero x e = absurd (grind (arith, e))
at_there (y ∷ c) zero (suc q) x e = refl
at_there (y ∷ c) (suc k) zero x e = refl
at_there (y ∷ c) (suc k) (suc q) x e = at_there c k q x (grind (arith, e))

links-here : (cs : List (List Cell)) (s k : ℕ) (x : Cell) → s < length cs → k < length (column cs s)
    → links_at (slice_set cs s (slice_set (column cs s) k x)) k ≡ put_link (links_at cs k) s (link_of_cell x)
links-here [] s k x less inside = absurd (omega (arith, less))
links-here (c ∷ cs) zero k x less inside = ap (λ y. link_of_cell y ∷ links_at cs k) (at_here c k x inside)
links-here (c ∷ cs) (suc s) k x less inside = ap (λ ls. link_of_cell (cell_at k c) ∷ ls) (links-here cs s k x (omega (arith, less)) inside)

links-there : (cs : List (List Cell)) (s k q : ℕ) (x : Cell) → (q == k) ≡ false → links_at (slice_set cs s (slice_set (column cs s) k x)) q ≡ links_at cs q
links-there [] s k q x e = refl
links-there (c ∷ cs) zero k q x e = ap (λ y. link_of_cell y ∷ links_at cs q) (at_there c k q x e)
links-there (c ∷ cs) (suc s) k q x e = ap (λ ls. link_of_cell (cell_at q c) ∷ ls) (links-there cs s k q x e)

links-more : (cs : List (List Cell)) (s n k : ℕ) → links_at (slice_set cs s (column cs s ++ replicate n empty_cell)) k ≡ links_at cs k
links-more [] s n k = refl
links-more (c ∷ cs) zero n k = ap (λ y. link_of_cell y ∷ links_at cs k) (index-end c n k empty_cell)
links-more (c ∷ cs) (suc s) n k = ap (λ ls. link_of_cell (cell_at k c) ∷ ls) (links-more cs s n k)

-- one column more is cleared
cleared-next : (cs : List (List Cell)) (s k : ℕ) → s < length cs
    → slice_set (cleared s k cs) s (slice_set (column (cleared s k cs) s) k empty_cell) ≡ cleared (suc s) k cs
cleared-next [] s k less = absurd (omega (arith, less))
cleared-next (c ∷ cs) zero k less = refl
cleared-next (c ∷ cs) (suc s) k less = ap (λ ds. slice_set c k empty_cell ∷ ds) (cleared-next cs s k (omega (arith, less)))

pub cleared-length : (cs : List (List Cell)) (s k : ℕ) → length (cleared s k cs) ≡ length cs
cleared-length cs zero k = refl
cleared-length [] (suc s) k = refl
cleared-length (c ∷ cs) (suc s) k = ap suc (cleared-length cs s k)

cleared-column : (cs : List (List Cell)) (s k t : ℕ) → length (column (cleared s k cs) t) ≡ length (column cs t)
cleared-column cs zero k t = refl
cleared-column [] (suc s) k t = refl
cleared-column (c ∷ cs) (suc s) k zero = length-set c k empty_cell
cleared-column (c ∷ cs) (suc s) k (suc t) = cleared-column cs s k t

blank_here : (c : List Cell) (k : ℕ) → cell_at k (slice_set c k empty_cell) ≡ empty_cell
blank_here [] k = refl
blank_here (y ∷ c) zero = refl
blank_here (y ∷ c) (suc k) = blank_here c k

pub cleared-here : (cs : List (List Cell)) (k : ℕ) → links_at (cleared (length cs) k cs) k ≡ replicate (length cs) no_link
cleared-here [] k = refl
cleared-here (c ∷ cs) k = λ i. link_of_cell (blank_here c k i) ∷ cleared-here cs k i

pub cleared-there : (cs : List (List Cell)) (s k q : ℕ) → (q == k) ≡ false → links_at (cleared s k cs) q ≡ links_at cs q
cleared-there cs zero k q e = refl
cleared-there [] (suc s) k q e = refl
cleared-there (c ∷ cs) (suc s) k q e = λ i. link_of_cell (at_there c k q empty_cell e i) ∷ cleared-there cs s k q e i

pub long-cleared : (cs : List (List Cell)) (s k m : ℕ) → AreLong m cs → AreLong m (cleared s k cs)
long-cleared cs s k m long t less = subst (λ n. m ≤ n) (sym (cleared-column cs s k t)) (long t (subst (λ n. t < n) (cleared-length cs s k) less))

-- a column as an index finds it
found_column : (cs : List (List Cell)) (s : ℕ) (x : List Cell) → s < length cs → x ≡ slice_index_or cs s x → x ≡ column cs s
found_column cs s x less is = is ∙ index-any cs s x [] less

pub read_cell : (cs : List (List Cell)) (s k : ℕ) (x : List Cell) (y : Cell) → s < length cs → x ≡ slice_index_or cs s x → y ≡ cell_at k x
    → link_of_cell y ≡ slice_index_or (links_at cs k) s no_link
read_cell cs s k x y less is at = ap link_of_cell (at ∙ ap (cell_at k) (found_column cs s x less is)) ∙ sym (index-links cs k s less)

-- a column with another cell, as it is put back
put_column : (cs : List (List Cell)) (s k : ℕ) (x w : List Cell) (y : Cell) → s < length cs
    → x ≡ slice_index_or cs s x → w ≡ slice_set x k y → slice_set cs s w ≡ slice_set cs s (slice_set (column cs s) k y)
put_column cs s k x w y less is at = ap (slice_set cs s) (at ∙ ap (λ (c : List Cell). slice_set c k y) (found_column cs s x less is))

-- the links once the column is put back
module _ (cs : List (List Cell)) (k : ℕ) (y : Cell) {s : ℕ} {x w : List Cell} (less : s < length cs) (is : x ≡ slice_index_or cs s x) (at : w ≡ slice_set x k y) where
  pub put_here : k < length (column cs s) → links_at (slice_set cs s w) k ≡ put_link (links_at cs k) s (link_of_cell y)
  put_here inside = ap (λ ds. links_at ds k) (put_column cs s k x w y less is at) ∙ links-here cs s k y less inside

  pub put_there : (q : ℕ) → (q == k) ≡ false → links_at (slice_set cs s w) q ≡ links_at cs q
  put_there q e = ap (λ ds. links_at ds q) (put_column cs s k x w y less is at) ∙ links-there cs s k q y e

-- while columns are cleared
pub cleared_room : (cs : List (List Cell)) (s k : ℕ) (x : List Cell) → s < length cs
    → AreLong (k + 1) cs → x ≡ slice_index_or (cleared s k cs) s x → k < length x
cleared_room cs s k x less long is =
    let there : s < length (cleared s k cs) = subst (λ n. s < n) (sym (cleared-length cs s k)) less in
    let size : length x ≡ length (column cs s) = ap (λ (c : List Cell). length c) (found_column (cleared s k cs) s x there is) ∙ cleared-column cs s k s in
    let more = long s less in omega (arith, size, more)

pub cleared_put : (cs ds : List (List Cell)) (s k : ℕ) (x w : List Cell) → ds ≡ cleared s k cs → s < length cs
    → x ≡ slice_index_or ds s x → w ≡ slice_set x k empty_cell → slice_set ds s w ≡ cleared (s + 1) k cs
cleared_put cs ds s k x w so less is at =
    let there : s < length (cleared s k cs) = subst (λ n. s < n) (sym (cleared-length cs s k)) less in let next : suc s ≡ s + 1 = omega arith in
    ap (λ es. slice_set es s w) so ∙ put_column (cleared s k cs) s k x w empty_cell there (is ∙ ap (λ es. slice_index_or es s x) so) at
    ∙ cleared-next cs s k less ∙ ap (λ n. cleared n k cs) next

-- all columns are cleared
pub all_cleared : (cs ds : List (List Cell)) (s e k : ℕ) → ds ≡ cleared s k cs → e ≡ length cs → s ≤ e → e ≤ s → ds ≡ cleared (length cs) k cs
all_cleared cs ds s e k so is g h = let same : s ≡ length cs = omega (arith, is, g, h) in so ∙ ap (λ n. cleared n k cs) same

-- a column takes the place of one with the same cells
links-alike : (cs : List (List Cell)) (s k : ℕ) (w : List Cell) → cell_at k w ≡ cell_at k (column cs s) → links_at (slice_set cs s w) k ≡ links_at cs k
links-alike [] s k w same = refl
links-alike (c ∷ cs) zero k w same = ap (λ y. link_of_cell y ∷ links_at cs k) same
links-alike (c ∷ cs) (suc s) k w same = ap (λ ls. link_of_cell (cell_at k c) ∷ ls) (links-alike cs s k w same)

-- while columns are lengthened, the first n of which have as many cells as there are to be places
pub record Lengthened (places n : ℕ) (cs ds : List (List Cell)) : Type 0 where
  pub done : (s : ℕ) → s < n → places ≤ length (column ds s)
  pub near : (s : ℕ) → s < length ds → places ≤ length (column ds s) + 1024
  pub links : (k : ℕ) → links_at ds k ≡ links_at cs k
  pub count : length ds ≡ length cs
  pub long : (m : ℕ) → AreLong m cs → AreLong m ds

at_column : (P : ℕ → Type 0) (ds : List (List Cell)) (s t : ℕ) (w : List Cell) → s < length ds → ((t == s) ≡ true → P (length w))
    → ((t == s) ≡ false → P (length (column ds t))) → P (length (column (slice_set ds s w) t))
at_column P ds s t w less g h =
    subst (λ (d : List Cell). P (length d)) (sym (index-set ds s t w [] less))
    ((elim (t == s) as (λ b. (t == s) ≡ b → P (length (cond b w (column ds t)))) [ true ↦ g | false ↦ h ]) refl)

pub lengthened_start : (places : ℕ) (cs : List (List Cell)) → ((s : ℕ) → s < length cs → places ≤ length (column cs s) + 1024) → Lengthened places 0 cs cs
lengthened_start places cs near = record { done = λ s less. absurd (omega (arith, less)); near = near; links = λ k. refl; count = refl; long = λ m long. long }

-- a column is put back that is as long or longer, and has the same cells
pub put_longer : {places n e : ℕ} {cs ds : List (List Cell)} {x : List Cell} (w : List Cell) → Lengthened places n cs ds
    → e ≡ length cs → n < e → x ≡ slice_index_or ds n x → ((k : ℕ) → cell_at k w ≡ cell_at k x) → length x ≤ length w
    → Lengthened places n cs (slice_set ds n w)
put_longer {places} {n} {e} {cs} {ds} {x} w all end early is cells longer =
    let less : n < length ds = subst (λ m. n < m) (end ∙ sym all.count) early in
    let found : x ≡ column ds n = found_column ds n x less is in
    let size : length x ≡ length (column ds n) = ap (λ (c : List Cell). length c) found in
    record {
      done = λ s early. at_column (λ m. places ≤ m) ds n s w less (λ e. absurd (grind (arith, e, early))) (λ e. all.done s early);
      near = λ s there. at_column (λ m. places ≤ m + 1024) ds n s w less
          (λ e. let h = all.near n less in omega (arith, h, size, longer)) (λ e. all.near s (subst (λ m. s < m) (length-set ds n w) there));
      links = λ k. links-alike ds n k w (cells k ∙ ap (λ (c : List Cell). cell_at k c) found) ∙ all.links k;
      count = length-set ds n w ∙ all.count;
      long = λ m long s there. at_column (λ j. m ≤ j) ds n s w less
          (λ e. let h = all.long m long n less in omega (arith, h, size, longer)) (λ e. all.long m long s (subst (λ j. s < j) (length-set ds n w) there));
    }

pub lengthened_next : {places n e : ℕ} {cs : List (List Cell)} (ds : List (List Cell)) (w : List Cell) → Lengthened places n cs (slice_set ds n w)
    → e ≡ length cs → n < e → places ≤ length w → Lengthened places (n + 1) cs (slice_set ds n w)
lengthened_next {places} {n} {e} {cs} ds w all end early size = record {
  done = λ s early. at_column (λ m. places ≤ m) ds n s w less (λ e. size) (λ e. still s early e);
  near = all.near;
  links = all.links;
  count = all.count;
  long = all.long;
}
  where
    less : n < length ds
    less = subst (λ m. n < m) (end ∙ sym all.count ∙ length-set ds n w) early

    still : (s : ℕ) → s < n + 1 → (s == n) ≡ false → places ≤ length (column ds s)
    still s early e = let before : s < n = grind (arith, e, early) in
        subst (λ (d : List Cell). places ≤ length d) (index-set ds n s w [] less ∙ ap (λ b. cond b w (column ds s)) e) (all.done s before)
