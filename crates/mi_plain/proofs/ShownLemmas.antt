-- What the passes find is what the look-ups answer.
-- Cited by `PlainTable::after`, `PlainTable::before`, `PlainTable::first`, `PlainTable::last`, `PlainTable::lower` and 5 more.
use Rattle.std.proofs.Common.{◌≡◌, ℕ, Bool, true, not, Option, List, length, slice_get, ap, sym, ◌∙◌}
use Rattle.std.specs.List.{filter, count_by}
use Rattle.std.proofs.lemmas.List.Sums.{length-filter}
use Rattle.mi_value.specs.declared.value.Value.{Value}
use Rattle.mi_catalog.specs.declared.index.Index.{Index}
use Rattle.mi_catalog.specs.Shape.{Shape, index_at}
use Rattle.mi_model.specs.Table.{Table, IsTable, has, list_of}
use Rattle.mi_model.specs.View.{sorted, view}
use Rattle.mi_catalog.specs.Kinds.{is_sorted, shows_one_list}
use Rattle.mi_model.specs.LookUp as look
use Rattle.mi_model.specs.LookUp.{rank_in}
use Rattle.mi_plain.specs.declared.pass.Boundary.{Boundary}
use Rattle.mi_plain.specs.declared.pass.Boundary.TheVariants.{Start, End, Lower, Upper, Before, Behind}
use Rattle.mi_plain.specs.Boundary.{order_in, is_before, last_id}
use Rattle.mi_model.proofs.LookUpLaws.{HoldsBefore}
use Rattle.mi_plain.proofs.BoundaryLemmas.{by_place_total, view_is, listed_shown, listed_sorted, after_is, before_is, rank_is}
use Rattle.mi_plain.proofs.BoundaryLemmas.{first_is, last_is, shown_past, shown_count, holds_lower, holds_upper}

abbrev pub past : Index → Table → ℕ → List Value → Boundary → Option ℕ
past i t x key boundary = slice_get (sorted (order_in i t) (filter (λ a. not (is_before i t (list_of t x) key boundary a)) (list_of t x))) 0

abbrev pub last_of : Index → Table → ℕ → List Value → Boundary → Option ℕ
last_of i t x key boundary = last_id (sorted (order_in i t) (filter (λ a. is_before i t (list_of t x) key boundary a) (list_of t x)))

abbrev pub count_of : Index → Table → ℕ → List Value → Boundary → ℕ
count_of i t x key boundary = length (filter (λ a. is_before i t (list_of t x) key boundary a) (list_of t x))

module _ (s : Shape) (t : Table) (x : ℕ) (is : IsTable s t) (i : Index) (same : i ≡ index_at s x) (key : List Value) where
  pub first_shown : shows_one_list (index_at s x).kind ≡ true → past i t x key Start ≡ look.first s t x
  first_shown shows =
      ap (λ (j : Index). past j t x key Start) same ∙ first_is (index_at s x) t (list_of t x) (listed_shown s t x is shows) key
      ∙ ap (λ ids. slice_get ids 0) (sym (view_is s t x))

  pub last_shown : shows_one_list (index_at s x).kind ≡ true → last_of i t x key End ≡ look.last s t x
  last_shown shows =
      ap (λ (j : Index). last_of j t x key End) same
      ∙ last_is (index_at s x) t (list_of t x) (listed_shown s t x is shows) key ∙ ap last_id (sym (view_is s t x))

  module _ (e : ℕ) (there : has t e ≡ true) (at : ℕ) (place : at ≡ rank_in (list_of t x) e) where
    pub after_shown : shows_one_list (index_at s x).kind ≡ true → past i t x key (Behind e at) ≡ look.after s t x e
    after_shown shows =
        ap (λ (j : Index). past j t x key (Behind e at)) same ∙ ap (λ n. past (index_at s x) t x key (Behind e n)) place
        ∙ after_is (index_at s x) t (list_of t x) (listed_shown s t x is shows) key e there ∙ ap (λ ids. look.after_in ids e) (sym (view_is s t x))

    pub before_shown : shows_one_list (index_at s x).kind ≡ true → last_of i t x key (Before e at) ≡ look.before s t x e
    before_shown shows =
        ap (λ (j : Index). last_of j t x key (Before e at)) same ∙ ap (λ n. last_of (index_at s x) t x key (Before e n)) place
        ∙ before_is (index_at s x) t (list_of t x) (listed_shown s t x is shows) key e there ∙ ap (λ ids. look.before_in ids e) (sym (view_is s t x))

    pub rank_shown : is_sorted (index_at s x).kind ≡ true → count_of i t x key (Before e at) ≡ look.rank s t x e
    rank_shown sorts =
        ap (λ (j : Index). count_of j t x key (Before e at)) same ∙ ap (λ n. count_of (index_at s x) t x key (Before e n)) place
        ∙ rank_is (index_at s x) t (list_of t x) (listed_sorted s t x is sorts) key e there ∙ ap (λ ids. rank_in ids e) (sym (view_is s t x))

  module _ (sorts : is_sorted (index_at s x).kind ≡ true) where
    -- whether an id stands before a boundary
    abbrev stands : Boundary → ℕ → Bool
    stands b = is_before (index_at s x) t (list_of t x) key b

    -- how many of the ids that the index shows stand before a boundary, and the first that doesn't
    counted : (b : Boundary) → count_of i t x key b ≡ count_by (stands b) (view s t x)
    counted b =
        ap (λ (j : Index). count_of j t x key b) same ∙ shown_count (index_at s x) t (list_of t x) (listed_sorted s t x is sorts) (stands b)
        ∙ length-filter (stands b) _ ∙ ap (count_by (stands b)) (sym (view_is s t x))

    looked_up : (b : Boundary) → HoldsBefore (by_place_total (index_at s x) t (list_of t x)) (stands b)
        → past i t x key b ≡ slice_get (view s t x) (count_by (stands b) (view s t x))
    looked_up b holds =
        ap (λ (j : Index). past j t x key b) same ∙ shown_past (index_at s x) t (list_of t x) (listed_sorted s t x is sorts) (stands b) holds
        ∙ ap (slice_get (sorted (order_in (index_at s x) t) (list_of t x))) (length-filter (stands b) _)
        ∙ ap (λ ids. slice_get ids (count_by (stands b) ids)) (sym (view_is s t x))

    pub lower_rank_shown : count_of i t x key Lower ≡ look.lower_rank s t x key
    lower_rank_shown = counted Lower

    pub upper_rank_shown : count_of i t x key Upper ≡ look.upper_rank s t x key
    upper_rank_shown = counted Upper

    pub lower_shown : past i t x key Lower ≡ look.lower s t x key
    lower_shown = looked_up Lower (holds_lower (index_at s x) t (list_of t x) sorts key)

    pub upper_shown : past i t x key Upper ≡ look.upper s t x key
    upper_shown = looked_up Upper (holds_upper (index_at s x) t (list_of t x) sorts key)
