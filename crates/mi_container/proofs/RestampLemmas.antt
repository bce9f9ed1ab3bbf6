-- A row gets another stamp in one index: the data stay data, and all other stamps stay.
-- Cited by `RaiseLemmas`, `RestoreLemmas` and `mi_multi`.
use Rattle.std.proofs.Common.{◌≡◌, ◌≢◌, ℕ, ◌<◌, zero, suc, true, cond, ◌⊎◌, inl, inr, List}
use Rattle.std.proofs.Common.{[], ◌∷◌, map, length, get_or, set, refl, ap, sym, ◌∙◌, subst, arith}
use Rattle.std.specs.List.{AllByRecursion}
use Rattle.std.specs.Ordering.{on, nat_cmp}
use Rattle.std.specs.Option.{is_some}
use Rattle.std.specs.Map.{lookup}
use Rattle.std.specs.Prelude.{◌==◌}
use Rattle.std.proofs.lemmas.Bool.{false≢true}
use Rattle.std.proofs.lemmas.Bool.Decides.{eqb_tells}
use Rattle.std.proofs.lemmas.List.{get_or-set_same, get_or-set_other}
use Rattle.std.specs.declared.option.Option.TheVariants.{Some}
use Rattle.mi_catalog.specs.Shape.{Shape}
use Rattle.mi_model.specs.Table.{Table, ListsEach, Rise, times, has}
use Rattle.mi_model.specs.Unique.{HasUniqueKeys}
use Rattle.mi_model.proofs.LookUpLaws.{times-sorted}
use Rattle.mi_container.specs.Data.{Content, Node, Order, Data, has_stamps, node_of, content_in, content_of, stamp_of, ids_of}
use Rattle.mi_container.specs.Data.{listed, lists_from, plain_row, as_table, StampFits, StampsFit, IsData}
use Rattle.mi_container.specs.Data.Order.{ById, ByKey, ByHash, Listed}
use Rattle.mi_container.specs.Changes.{with_content}
use Rattle.mi_container.specs.Fits.{IsThere}
use Rattle.mi_container.specs.Restore.{with_stamp, restamped_in}
use Rattle.mi_container.proofs.PairLemmas.{none_some}
use Rattle.mi_container.proofs.ContentLemmas.{node_with, node_beside}
use Rattle.mi_container.proofs.NameLemmas.{names_with}
use Rattle.mi_container.proofs.StampedListLemmas.{ids_with}
use Rattle.mi_container.proofs.InvariantLemmas.{stamp_there, stamps_long}

-- Rows

content_there : (rows : List (ℕ × Node)) (e : ℕ) (there : IsThere rows e) → content_of rows e ≡ there.0.content
content_there rows e there = ap content_in there.1

-- a content with the same values leaves the rows of the table as they are
plain_with : (e : ℕ) (c : Content) (rows : List (ℕ × Node)) → ((n : Node) → node_of rows e ≡ Some n → c.values ≡ n.content.values)
    → map plain_row (with_content e c rows) ≡ map plain_row rows
plain_with e c [] same = refl
plain_with e c (r ∷ rows) same =
    elim (eqb_tells r.0 e) [
      | inl is ↦
          let here : node_of (r ∷ rows) e ≡ Some r.1 = ap (λ b. cond b (Some r.1) (node_of rows e)) is.0 in
          ap (λ b. map plain_row (cond b ((r.0, record { at = r.1.at; content = c }) ∷ rows) (r ∷ with_content e c rows))) is.0
          ∙ (λ i. (r.0, same r.1 here i) ∷ map plain_row rows)
      | inr isnt ↦
          let there : node_of (r ∷ rows) e ≡ node_of rows e = ap (λ b. cond b (Some r.1) (node_of rows e)) isnt.0 in
          ap (λ b. map plain_row (cond b ((r.0, record { at = r.1.at; content = c }) ∷ rows) (r ∷ with_content e c rows))) isnt.0
          ∙ ap (λ q. plain_row r ∷ q) (plain_with e c rows (λ n h. same n (there ∙ h)))
    ]

-- One row

module _ (x e a : ℕ) (d : Data) where
  abbrev pub mine : Content
  mine = with_stamp x a (content_of d.rows e)

  pub rows_plain : map plain_row (restamped_in x e a d).rows ≡ map plain_row d.rows
  rows_plain = plain_with e mine d.rows (λ n h. ap (λ o. (content_in o).values) h)

  pub rows_ids : ids_of (restamped_in x e a d).rows ≡ ids_of d.rows
  rows_ids = ids_with e mine d.rows

  -- each row that is there stays
  pub there_still : (b : ℕ) → IsThere d.rows b → IsThere (restamped_in x e a d).rows b
  there_still b there =
      elim (eqb_tells b e) [
        | inl same ↦ subst (λ q. IsThere (restamped_in x e a d).rows q) (sym same.1)
            (let h : IsThere d.rows e = subst (IsThere d.rows) same.1 there in (record { at = h.0.at; content = mine }, node_with e mine d.rows h.0 h.1))
        | inr other ↦ (there.0, node_beside b e mine d.rows other.1 ∙ there.1)
      ]

  -- no other comes
  pub there_was : IsThere d.rows e → (b : ℕ) → IsThere (restamped_in x e a d).rows b → IsThere d.rows b
  there_was here b there =
      elim (eqb_tells b e) [
        | inl same ↦ subst (IsThere d.rows) (sym same.1) here
        | inr other ↦ (there.0, sym (node_beside b e mine d.rows other.1) ∙ there.1)
      ]

  -- other rows keep their stamps
  pub stamp_beside : (y b : ℕ) → b ≢ e → stamp_of (restamped_in x e a d).rows y b ≡ stamp_of d.rows y b
  stamp_beside y b ne = ap (λ o. get_or (content_in o).stamps y 0) (node_beside b e mine d.rows ne)

  module _ (here : IsThere d.rows e) where
    content_now : content_of (restamped_in x e a d).rows e ≡ mine
    content_now = ap content_in (node_with e mine d.rows here.0 here.1)

    -- the row has the stamp
    pub stamp_here : x < length (content_of d.rows e).stamps → stamp_of (restamped_in x e a d).rows x e ≡ a
    stamp_here l = ap (λ (c : Content). get_or c.stamps x 0) content_now ∙ get_or-set_same (content_of d.rows e).stamps x a 0 l

    -- and keeps those in other indexes
    pub stamp_other : (y b : ℕ) → y ≢ x → stamp_of (restamped_in x e a d).rows y b ≡ stamp_of d.rows y b
    stamp_other y b ne =
        elim (eqb_tells b e) [
          | inl same ↦ subst (λ q. stamp_of (restamped_in x e a d).rows y q ≡ stamp_of d.rows y q) (sym same.1)
              (ap (λ (c : Content). get_or c.stamps y 0) content_now ∙ get_or-set_other (content_of d.rows e).stamps x y a 0 ne)
          | inr other ↦ stamp_beside y b other.1
        ]

-- Data

one_set : (now : ℕ) (o : Order) (a b : ℕ) → has_stamps o ≡ true → b < now → StampFits now o b
one_set now ById a b has_ l = absurd (false≢true has_)
one_set now (ByKey ps) a b has_ l = l
one_set now (ByHash ps) a b has_ l = l
one_set now (Listed ids) a b has_ l = absurd (false≢true has_)

fits_set : (now : ℕ) (os : List Order) (stamps : List ℕ) (x a : ℕ) → StampsFit now os stamps
    → has_stamps (get_or os x ById) ≡ true → a < now → StampsFit now os (set stamps x a)
fits_set now [] [] x a fit has_ l = tt
fits_set now [] (b ∷ stamps) x a fit has_ l = absurd fit
fits_set now (o ∷ os) [] x a fit has_ l = absurd fit
fits_set now (o ∷ os) (b ∷ stamps) zero a fit has_ l = (one_set now o b a has_ l, fit.1)
fits_set now (o ∷ os) (b ∷ stamps) (suc x) a fit has_ l = (fit.0, fits_set now os stamps x a fit.1 has_ l)

-- lists with the same ids in them are complete
list_each : (t u : Table) (rows other : List (ℕ × Node)) → ids_of other ≡ ids_of rows → ((e : ℕ) → has u e ≡ has t e)
    → (y : ℕ) (o : Order) → ListsEach t (listed y rows o) → ListsEach u (listed y other o)
list_each t u rows other ids same y ById each e = ap (times e) ids ∙ each e ∙ ap (λ b. cond {A = ℕ} b 1 0) (sym (same e))
list_each t u rows other ids same y (ByKey ps) each e =
    times-sorted e (on (stamp_of other y) nat_cmp) (ids_of other) ∙ ap (times e) ids
    ∙ sym (times-sorted e (on (stamp_of rows y) nat_cmp) (ids_of rows)) ∙ each e ∙ ap (λ b. cond {A = ℕ} b 1 0) (sym (same e))
list_each t u rows other ids same y (ByHash ps) each e =
    times-sorted e (on (stamp_of other y) nat_cmp) (ids_of other) ∙ ap (times e) ids
    ∙ sym (times-sorted e (on (stamp_of rows y) nat_cmp) (ids_of rows)) ∙ each e ∙ ap (λ b. cond {A = ℕ} b 1 0) (sym (same e))
list_each t u rows other ids same y (Listed l) each e = each e ∙ ap (λ b. cond {A = ℕ} b 1 0) (sym (same e))

lists_each : (t u : Table) (rows other : List (ℕ × Node)) → ids_of other ≡ ids_of rows → ((e : ℕ) → has u e ≡ has t e)
    → (y : ℕ) (os : List Order) → AllByRecursion (ListsEach t) (lists_from y rows os) → AllByRecursion (ListsEach u) (lists_from y other os)
lists_each t u rows other ids same y [] all = tt
lists_each t u rows other ids same y (o ∷ os) all = (list_each t u rows other ids same y o all.0, lists_each t u rows other ids same (suc y) os all.1)

pub long_lists : (y : ℕ) (rows : List (ℕ × Node)) (os : List Order) → length (lists_from y rows os) ≡ length os
long_lists y rows [] = refl
long_lists y rows (o ∷ os) = ap suc (long_lists (suc y) rows os)

-- keys are unique by the rows alone
keys_by_rows : (s : Shape) (t u : Table) → u.rows ≡ t.rows → HasUniqueKeys s t → HasUniqueKeys s u
keys_by_rows s t u same keys =
    subst (λ rows. HasUniqueKeys s (record { rows = rows; lists = u.lists; next = u.next; arrivals = u.arrivals })) (sym same) keys

put_in : (e : ℕ) (c : Content) (rows : List (ℕ × Node)) (a : ℕ) (n : Node) → IsThere rows e → node_of (with_content e c rows) a ≡ Some n
    → ((a ≡ e) × (c ≡ n.content)) ⊎ ((a ≢ e) × (node_of rows a ≡ Some n))
put_in e c rows a n there is =
    elim (eqb_tells a e) [
      | inl same ↦ inl (same.1, ap content_in (sym (node_with e c rows there.0 there.1) ∙ subst (λ q. node_of (with_content e c rows) q ≡ Some n) same.1 is))
      | inr other ↦ inr (other.1, sym (node_beside a e c rows other.1) ∙ is)
    ]

within : (os : List Order) (x : ℕ) → has_stamps (get_or os x ById) ≡ true → x < length os
within [] x has_ = absurd (false≢true has_)
within (o ∷ os) zero has_ = omega arith
within (o ∷ os) (suc x) has_ = let l : x < length os = within os x has_ in omega arith

module _ (s : Shape) (x e a : ℕ) (d : Data) (is : IsData s d) (there : IsThere d.rows e) (has_ : has_stamps (get_or d.orders x ById) ≡ true) where
  -- the row has a stamp there
  pub long_here : x < length (content_of d.rows e).stamps
  long_here = let long = stamps_long s d is e there in let l = within d.orders x has_ in omega (arith, long, l)

  module _ (early : a < d.arrivals) (free : (b : ℕ) → b ≢ e → IsThere d.rows b → stamp_of d.rows x b ≢ a) where
    abbrev n : Data
    n = restamped_in x e a d

    abbrev c : Content
    c = with_stamp x a (content_of d.rows e)

    old_fit : StampsFit d.arrivals d.orders (content_of d.rows e).stamps
    old_fit = subst (λ o. StampsFit d.arrivals d.orders (content_in o).stamps) (sym there.1) (is.stamped e there.0 there.1)

    same_has : (b : ℕ) → has (as_table n) b ≡ has (as_table d) b
    same_has b = ap (λ rows. is_some (lookup (λ k. k == b) rows)) (rows_plain x e a d)

    -- the stamp of the row and that of another differ
    apart_new : (b : ℕ) (k : Node) (y : ℕ) → b ≢ e → node_of d.rows b ≡ Some k → has_stamps (get_or d.orders y ById) ≡ true
        → get_or c.stamps y 0 ≡ get_or k.content.stamps y 0 → ⊥
    apart_new b k y ne here has_y same =
        elim (eqb_tells y x) [
          | inl at ↦
              let mine_ : get_or c.stamps y 0 ≡ a = ap (λ q. get_or c.stamps q 0) at.1 ∙ get_or-set_same (content_of d.rows e).stamps x a 0 long_here in
              free b ne (k, here) (stamp_there d.rows x b (k, here) ∙ ap (λ q. get_or k.content.stamps q 0) (sym at.1) ∙ sym same ∙ mine_)
          | inr off ↦
              let mine_ : get_or c.stamps y 0 ≡ stamp_of d.rows y e = get_or-set_other (content_of d.rows e).stamps x y a 0 off.1 in
              ne (is.apart b e k there.0 y here there.1 has_y (sym same ∙ mine_ ∙ stamp_there d.rows y e there))
        ]

    pub is_data_restamped : IsData s (restamped_in x e a d)
    is_data_restamped = record {
      table = record {
        ordered = subst (Rise d.next) (sym (rows_plain x e a d)) is.table.ordered;
        one_each = long_lists 0 n.rows d.orders ∙ sym (long_lists 0 d.rows d.orders) ∙ is.table.one_each;
        complete = lists_each (as_table d) (as_table n) d.rows n.rows (rows_ids x e a d) same_has 0 d.orders is.table.complete;
      };
      unique_keys = keys_by_rows s (as_table d) (as_table n) (rows_plain x e a d) is.unique_keys;
      kinds = is.kinds;
      stamped = λ b k h.
          elim (put_in e c d.rows b k there h) [
            | inl new ↦ subst (λ (q : Content). StampsFit d.arrivals d.orders q.stamps) new.1
                (fits_set d.arrivals d.orders (content_of d.rows e).stamps x a old_fit has_ early)
            | inr old ↦ is.stamped b k old.1
          ];
      apart = λ b g k m y h o has_y same.
          elim (put_in e c d.rows b k there h) [
            | inl new ↦
                elim (put_in e c d.rows g m there o) [
                  | inl too ↦ new.0 ∙ sym too.0
                  | inr old ↦ absurd (apart_new g m y old.0 old.1 has_y (ap (λ (q : Content). get_or q.stamps y 0) new.1 ∙ same))
                ]
            | inr old ↦
                elim (put_in e c d.rows g m there o) [
                  | inl new ↦ absurd (apart_new b k y old.0 old.1 has_y (ap (λ (q : Content). get_or q.stamps y 0) new.1 ∙ sym same))
                  | inr too ↦ is.apart b g k m y old.1 too.1 has_y same
                ]
          ];
      names = names_with e c d.rows is.names;
      kept = is.kept;
      gone = λ b k h. node_beside b e c d.rows (λ same. none_some (sym (is.gone b k h) ∙ subst (λ q. node_of d.rows q ≡ Some there.0) (sym same) there.1))
          ∙ is.gone b k h;
    }
