-- Pages of walks of one row more.
-- Cited by `pages::list`, `pages::page_from` and `pages::range`.
use Rattle.std.proofs.Common.{◌≡◌, ℕ, suc, ◌+◌, ◌-◌, ◌<◌, ◌≤◌, min, Bool, true, false, ◌⊎◌, inl, inr, List, []}
use Rattle.std.proofs.Common.{◌∷◌, map, length, take, drop, refl, ap, sym, ◌∙◌, arith}
use Rattle.std.specs.Prelude.{◌&&◌, nat_lt, slice_get, IfSome}
use Rattle.std.specs.List.{filter, count_by}
use Rattle.std.specs.declared.option.Option.{Option}
use Rattle.std.specs.declared.option.Option.TheVariants.{None, Some}
use Rattle.std.proofs.lemmas.Bool.{cases_lt, lt-ltb, le-ltb}
use Rattle.std.proofs.lemmas.List.{length-drop, length-take, length-reverse, take_all, take-take, take-map}
use Rattle.std.proofs.lemmas.List.Sums.{length-filter, count_by-le-length}
use Rattle.mi_value.specs.declared.bound.Lower.{Lower}
use Rattle.mi_value.specs.declared.bound.Upper.{Upper}
use Rattle.mi_model.specs.Shape.{Shape, index_at}
use Rattle.mi_model.specs.Table.{Table, row}
use Rattle.mi_model.specs.View.{view}
use Rattle.mi_model.specs.Page as page
use Rattle.mi_model.specs.Page.{Page, page_of}
use Rattle.mi_model.proofs.PlaceLaws.{IsOnce}
use Rattle.mi_model.specs.Walk.{turned, from_in}
use Rattle.mi_model.specs.LookUp.{rank_in}
use Rattle.mi_model.proofs.WalkLaws.{from_at}
use Rattle.mi_query.specs.Pages.{place_behind}
use Rattle.mi_query.proofs.LookUpLemmas.{none_means_past}

same_page : (p q : Page) → p.ids ≡ q.ids → p.more ≡ q.more → p ≡ q
same_page p q e f = ap (λ (ids : List ℕ). record { ids = ids; more = p.more }) e ∙ ap (λ (more : Bool). record { ids = q.ids; more = more }) f

length-turned : (reversed : Bool) (ids : List ℕ) → length (turned reversed ids) ≡ length ids
length-turned true ids = length-reverse ids
length-turned false ids = refl

page_of_none : (limit : ℕ) → page_of limit [] ≡ record { ids = []; more = false }
page_of_none limit = same_page _ _ (take_all limit [] (omega arith)) (le-ltb limit 0 (omega arith))

pub length-map_rows : {A B : Type 0} (f : A → B) (xs : List A) → length (map f xs) ≡ length xs
length-map_rows f [] = refl
length-map_rows f (x ∷ xs) = ap suc (length-map_rows f xs)

-- whether there is one row more
one_more : (limit more : ℕ) (ids : List ℕ) → (limit < more) ⊎ (length ids ≤ limit) → nat_lt limit (length (take more ids)) ≡ nat_lt limit (length ids)
one_more limit more ids (inl beyond) =
    let taken : length (take more ids) ≡ min more (length ids) = length-take more ids in
    elim (cases_lt limit (length ids)) [
      | inl less ↦ lt-ltb limit (length (take more ids)) (omega arith) ∙ sym (lt-ltb limit (length ids) less)
      | inr most ↦ le-ltb limit (length (take more ids)) (omega arith) ∙ sym (le-ltb limit (length ids) most)
    ]
one_more limit more ids (inr all) =
    let taken : length (take more ids) ≡ min more (length ids) = length-take more ids in
    le-ltb limit (length (take more ids)) (omega arith) ∙ sym (le-ltb limit (length ids) all)

-- the page of what an index shows from a place on
module _ (s : Shape) (t : Table) (x : ℕ) (at limit : ℕ) where
  -- nothing stands there
  pub page_none : slice_get (view s t x) at ≡ None → page_of limit (drop at (view s t x)) ≡ record { ids = []; more = false }
  page_none none =
      let past : length (view s t x) ≤ at = none_means_past (view s t x) at none in
      let rest : length (drop at (view s t x)) ≡ length (view s t x) - at = length-drop at (view s t x) in
      ap (page_of limit) (empty (drop at (view s t x)) (omega arith)) ∙ page_of_none limit
    where
      empty : (ids : List ℕ) → length ids ≡ 0 → ids ≡ []
      empty [] e = refl
      empty (a ∷ ids) e = absurd (omega arith)

  -- an id stands there
  pub page_at : (first : ℕ) → slice_get (view s t x) at ≡ Some first → IsOnce (view s t x)
      → page_of limit (from_in (view s t x) first) ≡ page_of limit (drop at (view s t x))
  page_at first here once = ap (page_of limit) (from_at (view s t x) once at first here)

-- a list is the page from behind an id, or from the first
pub list_is : (s : Shape) (t : Table) (x : ℕ) (after : Option ℕ) (limit : ℕ)
    → page_of limit (drop (place_behind (view s t x) after) (view s t x)) ≡ page.list s t x after limit
list_is s t x None limit = refl
list_is s t x (Some e) limit = refl

-- a walk of one row more than a page
module _ (t : Table) (ids : List ℕ) (limit more : ℕ) where
  pub walked_rows : limit ≤ more → take limit (map (row t) (take more ids)) ≡ map (row t) (page_of limit ids).ids
  walked_rows le = take-map (row t) limit (take more ids) ∙ ap (map (row t)) (take-take limit more ids le)

  pub walked_more : (n : ℕ) → n ≡ length (map (row t) (take more ids)) → (limit < more) ⊎ (length ids ≤ limit) → nat_lt limit n ≡ (page_of limit ids).more
  walked_more n is enough = ap (nat_lt limit) (is ∙ length-map_rows (row t) (take more ids)) ∙ one_more limit more ids enough

  -- it has at most one row more
  pub walked_steps : (bound : Option ℕ) (before after : ℕ) → more ≤ limit + 1
      → IfSome bound (λ b. after ≤ before + b + length (take more ids)) → IfSome bound (λ b. after ≤ before + b + (length (take limit ids) + 1))
  walked_steps None before after le h = h
  walked_steps (Some b) before after le h =
      let all : length (take more ids) ≡ min more (length ids) = length-take more ids in
      let some : length (take limit ids) ≡ min limit (length ids) = length-take limit ids in
      omega (arith, h, all, some)

-- a list from an id on, and what stands between two bounds, are no longer than what the index shows
pub from_few : (ids : List ℕ) (first : ℕ) → length (from_in ids first) ≤ length ids
from_few ids first = let rest : length (from_in ids first) ≡ length ids - rank_in ids first = length-drop (rank_in ids first) ids in omega arith

pub between_few : (s : Shape) (t : Table) (x : ℕ) (low : Lower) (high : Upper) (reversed : Bool)
    → length (turned reversed (page.between s t x low high)) ≤ length (view s t x)
between_few s t x low high reversed =
    let p : ℕ → Bool = λ id. page.meets_lower (index_at s x) t low id && page.meets_upper (index_at s x) t high id in
    let long : length (turned reversed (page.between s t x low high)) ≡ length (page.between s t x low high) =
    length-turned reversed (page.between s t x low high) in
    let counted : length (filter p (view s t x)) ≡ count_by p (view s t x) = length-filter p (view s t x) in
    let le = count_by-le-length p (view s t x) in
    omega arith
