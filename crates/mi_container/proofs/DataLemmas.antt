-- Each change keeps what holds of data, and a container opens with data.
-- Cited by `RunLemmas`.
use Rattle.std.proofs.Common.{◌≡◌, ◌≢◌, ℕ, ◌+◌, ◌<◌, zero, suc, true, cond, ◌⊎◌, inl, inr, List}
use Rattle.std.proofs.Common.{[], ◌∷◌, ◌++◌, map, length, get_or, set, ap, sym, ◌∙◌, subst, arith}
use Rattle.std.specs.Ordering.{is_eq}
use Rattle.std.proofs.lemmas.Bool.Decides.{eqb_tells}
use Rattle.std.specs.declared.option.Option.{Option}
use Rattle.std.specs.declared.option.Option.TheVariants.{None, Some}
use Rattle.mi_value.specs.declared.value.Value.{Value}
use Rattle.mi_value.specs.Order.{compare_key}
use Rattle.mi_catalog.specs.declared.index.Index.{Index}
use Rattle.mi_catalog.specs.Shape.{Shape}
use Rattle.mi_model.specs.Table.{IsTable}
use Rattle.mi_model.specs.Change.{stand_before, stand, without, relocated}
use Rattle.mi_model.specs.Conflict.{conflict}
use Rattle.mi_model.specs.Unique.{HasUniqueKeys}
use Rattle.mi_model.proofs.SortLaws.{both_ways}
use Rattle.mi_model.proofs.TableLaws.{is_table_insert, is_table_erase, is_table_put, is_table_relocate}
use Rattle.mi_model.proofs.UniqueLaws.{unique_insert, unique_put, unique_erase}
use Rattle.mi_node.specs.Refs.{Ref}
use Rattle.mi_container.specs.Data.{Content, Node, Order, Data, parts_of, has_stamps, node_of, content_in}
use Rattle.mi_container.specs.Data.{content_of, stamp_of, as_table, KindFits, KindsFit, StampsFit, IsData}
use Rattle.mi_container.specs.Data.Order.{ById, ByKey, ByHash, Listed}
use Rattle.mi_container.specs.Changes.{left_out, with_content, new_content, in_order, new_stamp, new_node, orders_with}
use Rattle.mi_container.specs.Changes.{inserted, replaced, kept_node, erased_node, erased, moved_order, relocated_in}
use Rattle.mi_container.specs.Inverse.{id_named}
use Rattle.mi_container.specs.Fits.{IsThere, HasOwnList}
use Rattle.mi_container.specs.Run.{PlaceFits}
use Rattle.mi_container.proofs.PairLemmas.{none_some, some_is, lookup_out, lookup_out_same, lookup_push}
use Rattle.mi_container.proofs.PairLemmas.{lookup_push_same, lookup_entered, climbs_more, climbs_some, climbs_entered}
use Rattle.mi_container.proofs.ContentLemmas.{node_with, node_beside}
use Rattle.mi_container.proofs.StampLemmas.{fits_early, fits_new, new_at, fits_later, fits_put, fits_map}
use Rattle.mi_container.proofs.StampLemmas.{fits_with, fits_moved, stamps_map, stamps_with, stamps_moved}
use Rattle.mi_container.proofs.NameLemmas.{names_out, names_with, names_push}
use Rattle.mi_container.proofs.InvariantLemmas.{rows_climb, no_next, has_there, unkept, stamp_there, stamps_long}
use Rattle.mi_container.proofs.StampedListLemmas.{restamped_at}
use Rattle.mi_container.proofs.TableLemmas.{table_inserted, table_erased, table_replaced, table_relocated}

kind_changed : (i : Index) (f : List ℕ → List ℕ) (o : Order) → KindFits i o → KindFits i (in_order f o)
kind_changed i f ById k = k
kind_changed i f (ByKey ps) k = k
kind_changed i f (ByHash ps) k = k
kind_changed i f (Listed ids) k = k

kinds_map : (is : List Index) (f : List ℕ → List ℕ) (os : List Order) → KindsFit is os → KindsFit is (map (in_order f) os)
kinds_map [] f [] k = tt
kinds_map [] f (o ∷ os) k = absurd k
kinds_map (i ∷ is) f [] k = absurd k
kinds_map (i ∷ is) f (o ∷ os) k = (kind_changed i f o k.0, kinds_map is f os k.1)

kinds_set : (is : List Index) (f g : List ℕ → List ℕ) (os : List Order) (x : ℕ) → KindsFit is os
    → KindsFit is (set (map (in_order f) os) x (in_order g (get_or os x ById)))
kinds_set [] f g [] x k = tt
kinds_set [] f g (o ∷ os) x k = absurd k
kinds_set (i ∷ is) f g [] x k = absurd k
kinds_set (i ∷ is) f g (o ∷ os) zero k = (kind_changed i g o k.0, kinds_map is f os k.1)
kinds_set (i ∷ is) f g (o ∷ os) (suc x) k = (kind_changed i f o k.0, kinds_set is f g os x k.1)

kinds_moved : (is : List Index) (g : List ℕ → List ℕ) (os : List Order) (x : ℕ) → KindsFit is os → KindsFit is (moved_order x g os)
kinds_moved [] g [] x k = tt
kinds_moved [] g (o ∷ os) x k = absurd k
kinds_moved (i ∷ is) g [] x k = absurd k
kinds_moved (i ∷ is) g (o ∷ os) zero k = (kind_changed i g o k.0, k.1)
kinds_moved (i ∷ is) g (o ∷ os) (suc x) k = (k.0, kinds_moved is g os x k.1)

kinds_with : (is : List Index) (p : Option (ℕ × ℕ)) (e : ℕ) (os : List Order) → KindsFit is os → KindsFit is (orders_with p e os)
kinds_with is None e os k = kinds_map is (stand None e) os k
kinds_with is (Some p) e os k = kinds_set is (stand None e) (stand_before p.1 e) os p.0 k

-- Insert

pushed : (e : ℕ) (m : Node) (rows : List (ℕ × Node)) (a : ℕ) (n : Node) → node_of rows e ≡ None → node_of (rows ++ (e, m) ∷ []) a ≡ Some n
    → ((a ≡ e) × (m ≡ n)) ⊎ ((a ≢ e) × (node_of rows a ≡ Some n))
pushed e m rows a n none is =
    elim (eqb_tells a e) [
      | inl same ↦ inl (same.1, some_is (sym (lookup_push_same e m rows none) ∙ subst (λ q. node_of (rows ++ (e, m) ∷ []) q ≡ Some n) same.1 is))
      | inr other ↦ inr (other.1, sym (lookup_push a e m rows other.1) ∙ is)
    ]

pub is_data_inserted : (s : Shape) (p : Option (ℕ × ℕ)) (at : Ref) (r : List Value) (d : Data)
    → IsData s d → PlaceFits p d.orders → id_named at.name d.rows ≡ None
    → conflict s (as_table d) r None ≡ None → IsData s (inserted p at r d)
is_data_inserted s p at r d is fits new_name none_refuses =
    let m : Node = new_node at r d in
    let none : node_of d.rows d.next ≡ None = no_next s d is in
    let table = table_inserted s p at r d is fits in
    let has_was : (x : ℕ) → has_stamps (get_or (orders_with p d.next d.orders) x ById) ≡ true
    → has_stamps (get_or d.orders x ById) ≡ true = λ x h. sym (stamps_with p d.next d.orders x) ∙ h in
    let mine : (n : Node) (x : ℕ) → m ≡ n → has_stamps (get_or d.orders x ById) ≡ true → get_or n.content.stamps x 0 ≡ d.arrivals =
    λ n x new h. ap (λ (q : Node). get_or q.content.stamps x 0) (sym new) ∙ new_at d.arrivals d.orders x h in
    record {
      table = subst (IsTable s) (sym table) (is_table_insert s p r (as_table d) is.table);
      unique_keys = subst (HasUniqueKeys s) (sym table) (unique_insert s p r (as_table d) is.table is.unique_keys none_refuses);
      kinds = kinds_with s.indexes p d.next d.orders is.kinds;
      stamped = λ e n h.
          elim (pushed d.next m d.rows e n none h) [
            | inl new ↦ subst (λ (q : Node). StampsFit (d.arrivals + 1) (orders_with p d.next d.orders) q.content.stamps) new.1
                (fits_with (d.arrivals + 1) p d.next d.orders (map (new_stamp d.arrivals) d.orders) (fits_new d.arrivals d.orders))
            | inr old ↦ fits_with (d.arrivals + 1) p d.next d.orders n.content.stamps (fits_later d.arrivals d.orders n.content.stamps (is.stamped e n old.1))
          ];
      apart = λ a b n k x h g has_ same.
          elim (pushed d.next m d.rows a n none h) [
            | inl new ↦
                elim (pushed d.next m d.rows b k none g) [
                  | inl too ↦ new.0 ∙ sym too.0
                  | inr old ↦
                      let newest : get_or n.content.stamps x 0 ≡ d.arrivals = mine n x new.1 (has_was x has_) in
                      let was : get_or k.content.stamps x 0 < d.arrivals = fits_early d.arrivals
                      d.orders k.content.stamps x (is.stamped b k old.1) (has_was x has_) in
                      absurd (omega arith)
                ]
            | inr old ↦
                elim (pushed d.next m d.rows b k none g) [
                  | inl new ↦
                      let newest : get_or k.content.stamps x 0 ≡ d.arrivals = mine k x new.1 (has_was x has_) in
                      let was : get_or n.content.stamps x 0 < d.arrivals = fits_early d.arrivals
                      d.orders n.content.stamps x (is.stamped a n old.1) (has_was x has_) in
                      absurd (omega arith)
                  | inr too ↦ is.apart a b n k x old.1 too.1 (has_was x has_) same
                ]
          ];
      names = names_push d.next m d.rows new_name is.names;
      kept = climbs_more d.next d.kept is.kept;
      gone = λ e k h.
          let l : e < d.next = climbs_some d.next e k d.kept is.kept h in
          lookup_push e d.next m d.rows (λ same. absurd (omega arith)) ∙ is.gone e k h;
    }

-- Put

put_in : (e : ℕ) (c : Content) (rows : List (ℕ × Node)) (a : ℕ) (n : Node) → IsThere rows e → node_of (with_content e c rows) a ≡ Some n
    → ((a ≡ e) × (c ≡ n.content)) ⊎ ((a ≢ e) × (node_of rows a ≡ Some n))
put_in e c rows a n there is =
    elim (eqb_tells a e) [
      | inl same ↦ inl (same.1, ap content_in (sym (node_with e c rows there.0 there.1) ∙ subst (λ q. node_of (with_content e c rows) q ≡ Some n) same.1 is))
      | inr other ↦ inr (other.1, sym (node_beside a e c rows other.1) ∙ is)
    ]

-- the stamp of the row in an index is its old one, or the newest
stamp_put : (s : Shape) (e : ℕ) (r : List Value) (d : Data) → IsData s d → IsThere d.rows e → (x : ℕ) → x < length d.orders
    → (get_or (new_content d.orders r d.arrivals (content_of d.rows e)).stamps x 0 ≡ stamp_of d.rows x e)
    ⊎ (get_or (new_content d.orders r d.arrivals (content_of d.rows e)).stamps x 0 ≡ d.arrivals)
stamp_put s e r d is there x l =
    let was : Content = content_of d.rows e in
    let long : length was.stamps ≡ length d.orders = stamps_long s d is e there in
    let stamp = restamped_at d.orders ById was.values r d.arrivals was.stamps x l (omega arith) in
    both_ways (is_eq (compare_key (parts_of (get_or d.orders x ById)) was.values r))
    (λ yes. inl (stamp ∙ ap (λ b. cond b (stamp_of d.rows x e) d.arrivals) yes))
    (λ isnt. inr (stamp ∙ ap (λ b. cond b (stamp_of d.rows x e) d.arrivals) isnt))

-- an index with stamps is one of the container's
within : (os : List Order) (x : ℕ) → has_stamps (get_or os x ById) ≡ true → x < length os
within [] x has_ = absurd (cc)
within (o ∷ os) zero has_ = omega arith
within (o ∷ os) (suc x) has_ = let l : x < length os = within os x has_ in omega arith

-- a row with that stamp and another one are apart
put_apart : (s : Shape) (e : ℕ) (r : List Value) (d : Data) → IsData s d → IsThere d.rows e
    → (b : ℕ) (m : Node) (x : ℕ) → node_of d.rows b ≡ Some m → has_stamps (get_or d.orders x ById) ≡ true
    → get_or (new_content d.orders r d.arrivals (content_of d.rows e)).stamps x 0 ≡ get_or m.content.stamps x 0 → e ≡ b
put_apart s e r d is there b m x here has_ same =
    elim (stamp_put s e r d is there x (within d.orders x has_)) [
      | inl old ↦ is.apart e b there.0 m x there.1 here has_ (sym (stamp_there d.rows x e there) ∙ sym old ∙ same)
      | inr new ↦ (let was : get_or m.content.stamps x 0 < d.arrivals = fits_early d.arrivals d.orders m.content.stamps x (is.stamped b m here) has_ in
          absurd (omega (arith, new, same)))
    ]

pub is_data_replaced : (s : Shape) (e : ℕ) (r : List Value) (d : Data) → IsData s d
    → IsThere d.rows e → conflict s (as_table d) r (Some e) ≡ None → IsData s (replaced e r d)
is_data_replaced s e r d is there none_refuses =
    let was : Content = content_of d.rows e in
    let c : Content = new_content d.orders r d.arrivals was in
    let table = table_replaced s e r d is there in
    let old_fit : StampsFit d.arrivals d.orders was.stamps = subst
    (λ o. StampsFit d.arrivals d.orders (content_in o).stamps) (sym there.1) (is.stamped e there.0 there.1) in
    record {
      table = subst (IsTable s) (sym table) (is_table_put s e r (as_table d) (has_there d e there) is.table);
      unique_keys = subst (HasUniqueKeys s) (sym table) (unique_put s e r (as_table d) (has_there d e there) is.unique_keys none_refuses);
      kinds = is.kinds;
      stamped = λ a n h.
          elim (put_in e c d.rows a n there h) [
            | inl new ↦ subst (λ (q : Content). StampsFit (d.arrivals + 1) d.orders q.stamps)
                new.1 (fits_put d.arrivals d.orders was.values r was.stamps old_fit)
            | inr old ↦ fits_later d.arrivals d.orders n.content.stamps (is.stamped a n old.1)
          ];
      apart = λ a b n k x h g has_ same.
          elim (put_in e c d.rows a n there h) [
            | inl new ↦
                let mine : get_or c.stamps x 0 ≡ get_or n.content.stamps x 0 = ap (λ (q : Content). get_or q.stamps x 0) new.1 in
                elim (put_in e c d.rows b k there g) [
                  | inl too ↦ new.0 ∙ sym too.0
                  | inr old ↦ new.0 ∙ put_apart s e r d is there b k x old.1 has_ (mine ∙ same)
                ]
            | inr old ↦
                elim (put_in e c d.rows b k there g) [
                  | inl new ↦
                      let mine : get_or c.stamps x 0 ≡ get_or k.content.stamps x 0 = ap (λ (q : Content). get_or q.stamps x 0) new.1 in
                      sym (new.0 ∙ put_apart s e r d is there a n x old.1 has_ (mine ∙ sym same))
                  | inr too ↦ is.apart a b n k x old.1 too.1 has_ same
                ]
          ];
      names = names_with e c d.rows is.names;
      kept = is.kept;
      gone = λ a k h. node_beside a e c d.rows (λ same. none_some (sym (is.gone a k h) ∙ subst (λ q. node_of d.rows q ≡ Some there.0) (sym same) there.1))
          ∙ is.gone a k h;
    }

-- Erase

left_in : (e : ℕ) (rows : List (ℕ × Node)) (a : ℕ) (n : Node) → node_of (left_out e rows) a ≡ Some n → (a ≢ e) × (node_of rows a ≡ Some n)
left_in e rows a n is =
    elim (eqb_tells a e) [
      | inl same ↦ absurd (none_some (sym (lookup_out_same e rows) ∙ subst (λ q. node_of (left_out e rows) q ≡ Some n) same.1 is))
      | inr other ↦ (other.1, sym (lookup_out a e rows other.1) ∙ is)
    ]

erased_data : (s : Shape) (e : ℕ) (d : Data) (is : IsData s d) (n : Node) → node_of d.rows e ≡ Some n
    → IsTable s (as_table (erased_node e (Some n) d)) → HasUniqueKeys s (as_table (erased_node e (Some n) d))
    → IsData s (erased_node e (Some n) d)
erased_data s e d is n here table keys =
    let has_was : (x : ℕ) → has_stamps (get_or (map (in_order (without e)) d.orders) x ById) ≡ true
    → has_stamps (get_or d.orders x ById) ≡ true = λ x h. sym (stamps_map (without e) d.orders x) ∙ h in
    record {
      table = table;
      unique_keys = keys;
      kinds = kinds_map s.indexes (without e) d.orders is.kinds;
      stamped = λ a m h. fits_map d.arrivals (without e) d.orders m.content.stamps (is.stamped a m (left_in e d.rows a m h).1);
      apart = λ a b m k x h g has_ same. is.apart a b m k x (left_in e d.rows a m h).1 (left_in e d.rows b k g).1 (has_was x has_) same;
      names = names_out e d.rows is.names;
      kept = climbs_entered d.next e (kept_node e n d) d.kept is.kept (climbs_some d.next e n d.rows (rows_climb s d is) here) (unkept s e d is (n, here));
      gone = λ a k h.
          elim (eqb_tells a e) [
            | inl same ↦ subst (λ q. node_of (left_out e d.rows) q ≡ None) (sym same.1) (lookup_out_same e d.rows)
            | inr other ↦ lookup_out a e d.rows other.1 ∙ is.gone a k (sym (lookup_entered a e (kept_node e n d) d.kept other.1) ∙ h)
          ];
    }

pub is_data_erased : (s : Shape) (e : ℕ) (d : Data) → IsData s d → IsThere d.rows e → IsData s (erased e d)
is_data_erased s e d is there =
    let same = table_erased e d there in
    let table : IsTable s (as_table (erased e d)) = subst (IsTable s) (sym same) (is_table_erase s e (as_table d) is.table) in
    let keys : HasUniqueKeys s (as_table (erased e d)) = subst (HasUniqueKeys s) (sym same) (unique_erase s e (as_table d) is.unique_keys) in
    subst (λ o. IsData s (erased_node e o d)) (sym there.1)
    (erased_data s e d is there.0 there.1 (subst (λ o. IsTable s (as_table (erased_node e o d))) there.1 table)
    (subst (λ o. HasUniqueKeys s (as_table (erased_node e o d))) there.1 keys))

-- Relocate

pub is_data_relocated : (s : Shape) (x e : ℕ) (b : Option ℕ) (d : Data) → IsData s d
    → IsThere d.rows e → HasOwnList (get_or d.orders x ById) → IsData s (relocated_in x e b d)
is_data_relocated s x e b d is there l =
    record {
      table = subst (IsTable s) (sym (table_relocated x e b d l)) (is_table_relocate s x e b (as_table d) (has_there d e there) is.table);
      unique_keys = is.unique_keys;
      kinds = kinds_moved s.indexes (relocated b e) d.orders x is.kinds;
      stamped = λ a n h. fits_moved d.arrivals (relocated b e) d.orders x n.content.stamps (is.stamped a n h);
      apart = λ a c n k y h g has_ same. is.apart a c n k y h g (sym (stamps_moved (relocated b e) d.orders x y) ∙ has_) same;
      names = is.names;
      kept = is.kept;
      gone = is.gone;
    }
