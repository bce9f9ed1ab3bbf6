-- From what a container answers to what the database does.
-- Cited by `Linked::at`, `Linked::keeps_nodes` and `ChangeLemmas`.
use Rattle.std.proofs.Common.{◌≡◌, ℕ, ◌<◌, List, [], map, length, set, get_or, ap, sym, ◌∙◌, subst}
use Rattle.std.proofs.lemmas.List.{map-set, length-map, set-get_or, get_or-map}
use Rattle.std.specs.declared.result.Result.{Result}
use Rattle.mi_value.specs.declared.refusal.Refusal.{Refusal}
use Rattle.mi_catalog.specs.Shape.{Shape, CatalogShape}
use Rattle.mi_model.specs.Table.{Table}
use Rattle.mi_model.specs.Verdict.{Outcome}
use Rattle.mi_model.specs.DatabaseChange.{Meets}
use Rattle.mi_model.specs.Database.{Database, with_table, on_table}
use Rattle.mi_model.specs.Database.{table_of as table_at}
use Rattle.mi_model.proofs.StepLaws.{meets_on_table, with_same_table}
use Rattle.mi_container.specs.Data.{Data, as_table}
use Rattle.mi_container.specs.Held.{HoldsNodes}
use Rattle.mi_container.specs.Inverse.{Inverse}
use Rattle.mi_database.specs.Journal.{Journal, data_at, state_of}
use Rattle.mi_database.proofs.JournalLemmas.{table_at as table_there}
use Rattle.mi_database.specs.LinkedData.{IsLinkedData}
use Rattle.mi_database.proofs.LinkedDataLemmas.{set_data, shape_at, same_shapes, Made, made_state}

-- a table's number is that of a container
pub within_containers : {X : Type 0} (shape : X → Shape) (plain : X → Data) (c : CatalogShape) (cs : List X) (j : Journal) (r n : ℕ)
    → IsLinkedData (map shape cs) c (map plain cs) j r
    → n < length c.tables → n < length cs
within_containers shape plain c cs j r n is l = subst (λ q. n < q) (sym is.many ∙ length-map cs plain) l

-- the table of a container
pub table_of_container : {X : Type 0} (plain : X → Data) (c : CatalogShape) (cs : List X) (j : Journal) (r n : ℕ) (k : X) → n < length cs → k ≡ get_or cs n k
    → as_table (plain k) ≡ table_at (state_of c (map plain cs) j r) n
table_of_container plain c cs j r n k l was =
    ap as_table (sym (set_data plain cs n k l was)) ∙ sym (table_there (map plain cs) n _ (subst (λ q. n < q) (sym (length-map cs plain)) l))

-- what a container says of its pool
pub holds_at : {X : Type 0} (held : X → List ℕ) (plain : X → Data) (cs : List X) (n : ℕ) (k : X) → n < length cs → k ≡ get_or cs n k
    → HoldsNodes (held k) (plain k) → HoldsNodes (get_or (map held cs) n []) (data_at (map plain cs) n)
holds_at held plain cs n k l was holds =
    subst (λ ids. HoldsNodes ids (data_at (map plain cs) n)) (sym (get_or-map held cs n k [] l ∙ ap held (sym was)))
    (subst (HoldsNodes (held k)) (sym (set_data plain cs n k l was)) holds)

-- an accepted change
pub lift_made : {X A : Type 0} (shape : X → Shape) (plain : X → Data) (c : CatalogShape) (cs after : List X) (n : ℕ) (k k' : X) (i : Inverse)
    (j noted_ : Journal) (r : ℕ)
    (f : Shape → Table → Outcome A) (a : Result A Refusal) (d : Database)
    → Made shape plain cs after n k k' i j noted_ → IsLinkedData (map shape cs) c (map plain cs) j r
    → Meets (f (shape k) (as_table (plain k))) a (as_table (plain k)) (as_table (plain k')) → state_of c (map plain cs) j r ≡ d
    → Meets (on_table n f d) a d (state_of c (map plain after) noted_ r)
lift_made shape plain c cs after n k k' i j noted_ r f a d made is meets was =
    let old : Database = state_of c (map plain cs) j r in
    let new : Database = state_of c (map plain after) noted_ r in
    subst (λ (q : Database). Meets (on_table n f q) a q new) was
    (subst (Meets (on_table n f old) a old) (sym (made_state shape plain c cs after n k k' i j noted_ made is.shapes is.linked r))
    (meets_on_table n f old (shape k) (as_table (plain k)) (as_table (plain k')) a (shape_at shape c cs n k made.within made.was is.shapes)
    (table_of_container plain c cs j r n k made.within made.was) meets))

refused_datas : {X : Type 0} (plain : X → Data) (cs : List X) (n : ℕ) (k k' : X) → n < length cs → k ≡ get_or cs n k → plain k' ≡ plain k
    → map plain (set cs n k') ≡ map plain cs
refused_datas plain cs n k k' l was same =
    map-set plain cs n k' ∙ ap (set (map plain cs) n) (same ∙ ap plain was ∙ sym (get_or-map plain cs n k (plain k) l)) ∙ set-get_or (map plain cs) n (plain k)

-- a container that changed nothing
pub refused_held : {X : Type 0} (shape : X → Shape) (plain : X → Data) (c : CatalogShape) (cs : List X) (n : ℕ) (k k' : X) (j : Journal) (r : ℕ)
    → IsLinkedData (map shape cs) c (map plain cs) j r → n < length c.tables → k ≡ get_or cs n k → plain k' ≡ plain k
    → shape k' ≡ shape k
    → IsLinkedData (map shape (set cs n k')) c (map plain (set cs n k')) j r
refused_held shape plain c cs n k k' j r is w was same shapes =
    let l : n < length cs = within_containers shape plain c cs j r n is w in
    let datas : map plain (set cs n k') ≡ map plain cs = refused_datas plain cs n k k' l was same in
    subst (λ q. IsLinkedData q c (map plain (set cs n k')) j r) (sym (same_shapes shape cs n k k' l was shapes))
    (subst (λ q. IsLinkedData (map shape cs) c q j r) (sym datas) is)

pub lift_refused : {X A : Type 0} (shape : X → Shape) (plain : X → Data) (c : CatalogShape) (cs : List X) (n : ℕ) (k k' : X) (j : Journal)
    (r : ℕ)
    (f : Shape → Table → Outcome A) (a : Result A Refusal) (d : Database)
    → IsLinkedData (map shape cs) c (map plain cs) j r → n < length c.tables → k ≡ get_or cs n k → plain k' ≡ plain k
    → Meets (f (shape k) (as_table (plain k))) a (as_table (plain k)) (as_table (plain k')) → state_of c (map plain cs) j r ≡ d
    → Meets (on_table n f d) a d (state_of c (map plain (set cs n k')) j r)
lift_refused shape plain c cs n k k' j r f a d is w was same meets is_state =
    let l : n < length cs = within_containers shape plain c cs j r n is w in
    let old : Database = state_of c (map plain cs) j r in
    let new : Database = state_of c (map plain (set cs n k')) j r in
    let here = table_of_container plain c cs j r n k l was in
    let stays : with_table n (as_table (plain k')) old ≡ new =
    ap (λ t. with_table n t old) (ap as_table same ∙ here) ∙ with_same_table n old
    ∙ sym (ap (λ q. state_of c q j r) (refused_datas plain cs n k k' l was same)) in
    subst (λ (q : Database). Meets (on_table n f q) a q new) is_state
    (subst (Meets (on_table n f old) a old) stays
    (meets_on_table n f old (shape k) (as_table (plain k)) (as_table (plain k')) a (shape_at shape c cs n k l was is.shapes) here meets))
