-- What a container opens with is the data of an empty table.
-- Cited by `LawLemmas` and `mi_database`.
use Rattle.std.proofs.Common.{◌≡◌, Bool, true, ℕ, suc, List, [], ◌∷◌, map, refl, ap, sym, ◌∙◌, subst}
use Rattle.std.specs.List.{list_all}
use Rattle.std.proofs.lemmas.Bool.{and_parts, eqb-true, false≢true}
use Rattle.std.proofs.lemmas.List.{nil_from_length}
use Rattle.mi_value.specs.declared.compare.KeyPart.{KeyPart}
use Rattle.mi_catalog.specs.declared.index.Index.{Index}
use Rattle.mi_catalog.specs.declared.index.IndexKind.{IndexKind}
use Rattle.mi_catalog.specs.declared.index.IndexKind.TheVariants.{Ordered, Ranked, Hashed, Sequenced}
use Rattle.mi_catalog.specs.Kinds.{is_sorted, is_hashed, is_sequenced, is_ranked}
use Rattle.mi_catalog.specs.Shape.{Shape}
use Rattle.mi_catalog.specs.Rules.{keeps_kind, is_declared_index, are_indexes, is_schema}
use Rattle.mi_model.specs.Table.{IsTable, opened}
use Rattle.mi_model.proofs.TableLaws.{is_table_opened}
use Rattle.mi_container.specs.Data.{listed, lists_from, as_table, KindFits, KindsFit, IsData}
use Rattle.mi_container.specs.Changes.{order_for, opened_data}
use Rattle.mi_container.proofs.PairLemmas.{none_some}

-- Kinds

kind_kept : (columns : ℕ) (i : Index) (kind : IndexKind) (one_each : Bool) (ps : List KeyPart) → i.kind ≡ kind
    → i.parts ≡ ps → keeps_kind columns kind one_each ps ≡ true → KindFits i (order_for kind ps)
kind_kept columns i Ordered one_each [] is parts kept = (ap is_sorted is, parts)
kind_kept columns i Ordered one_each (p ∷ ps) is parts kept = (ap is_sorted is, parts)
kind_kept columns i Ranked one_each [] is parts kept = (ap is_sorted is, parts)
kind_kept columns i Ranked one_each (p ∷ ps) is parts kept = (ap is_sorted is, parts)
kind_kept columns i Hashed one_each ps is parts kept = (ap is_hashed is, parts)
kind_kept columns i Sequenced one_each ps is parts kept = (ap is_sequenced is, parts ∙ nil_from_length ps (eqb-true _ _ (and_parts _ _ kept).1))

ranked_kept : (i : Index) (kind : IndexKind) (ps : List KeyPart) → i.kind ≡ kind → i.parts ≡ ps → is_ranked kind ≡ true → KindFits i (order_for kind ps)
ranked_kept i Ordered ps is parts kept = absurd (false≢true kept)
ranked_kept i Ranked [] is parts kept = (ap is_sorted is, parts)
ranked_kept i Ranked (p ∷ ps) is parts kept = (ap is_sorted is, parts)
ranked_kept i Hashed ps is parts kept = absurd (false≢true kept)
ranked_kept i Sequenced ps is parts kept = absurd (false≢true kept)

declared_kept : (columns : ℕ) (is : List Index) → list_all (is_declared_index columns) is ≡ true
    → KindsFit is (map (λ (i : Index). order_for i.kind i.parts) is)
declared_kept columns [] kept = tt
declared_kept columns (i ∷ is) kept =
    (kind_kept columns i i.kind i.«unique» i.parts refl refl (and_parts _ _ (and_parts _ _ kept).0).1, declared_kept columns is (and_parts _ _ kept).1)

indexes_kept : (columns : ℕ) (is : List Index) → are_indexes columns is ≡ true → KindsFit is (map (λ (i : Index). order_for i.kind i.parts) is)
indexes_kept columns [] kept = tt
indexes_kept columns (i ∷ is) kept =
    let parts = and_parts _ _ (and_parts _ _ (and_parts _ _ kept).0).0 in
    (ranked_kept i i.kind i.parts refl refl (and_parts _ _ (and_parts _ _ (and_parts _ _ parts.0).0).0).1, declared_kept columns is parts.1)

opened_kinds : (s : Shape) → is_schema s ≡ true → KindsFit s.indexes (opened_data s).orders
opened_kinds s kept = indexes_kept _ s.indexes (and_parts _ _ (and_parts _ _ kept).0).1

-- The table

one_opened : (x : ℕ) (kind : IndexKind) (ps : List KeyPart) → listed x [] (order_for kind ps) ≡ []
one_opened x Ordered [] = refl
one_opened x Ordered (p ∷ ps) = refl
one_opened x Ranked [] = refl
one_opened x Ranked (p ∷ ps) = refl
one_opened x Hashed ps = refl
one_opened x Sequenced ps = refl

opened_lists : (is : List Index) (x : ℕ) → lists_from x [] (map (λ (i : Index). order_for i.kind i.parts) is) ≡ map (λ _. []) is
opened_lists [] x = refl
opened_lists (i ∷ is) x =
    let here : listed x [] (order_for i.kind i.parts) ≡ [] = one_opened x i.kind i.parts in
    let rest : lists_from (suc x) [] (map (λ (i : Index). order_for i.kind i.parts) is) ≡ map (λ _. []) is = opened_lists is (suc x) in
    λ k. here k ∷ rest k

pub table_opened : (s : Shape) → as_table (opened_data s) ≡ opened s
table_opened s = let lists = opened_lists s.indexes 0 in λ i. record { rows = []; lists = lists i; next = s.first_id; arrivals = s.first_arrival }

pub is_data_opened : (s : Shape) → is_schema s ≡ true → IsData s (opened_data s)
is_data_opened s kept =
    record {
      table = subst (IsTable s) (sym (table_opened s)) (is_table_opened s);
      unique_keys = λ x a b l one_each has_a has_b ne. absurd (false≢true has_a);
      kinds = opened_kinds s kept;
      stamped = λ e n h. absurd (none_some h);
      apart = λ a b n m x h g has_ same. absurd (none_some h);
      names = tt;
      kept = tt;
      gone = λ e k h. refl;
    }
