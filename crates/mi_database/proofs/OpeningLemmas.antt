-- What a catalog opens with holds.
-- Cited by `Linked::new`.
use Rattle.std.proofs.Common.{◌≡◌, true, ℕ, ◌<◌, ◌≤◌, zero, suc, List, [], ◌∷◌, map, length, refl, ap, ap₂, sym, ◌∙◌, subst, arith}
use Rattle.std.proofs.lemmas.List.{length-map, get_or-map}
use Rattle.mi_value.specs.declared.limits.TheConstants.{LAST_COUNT}
use Rattle.mi_catalog.specs.Shape.{Shape, CatalogShape, schema_at}
use Rattle.mi_catalog.specs.Rules.{is_catalog}
use Rattle.mi_catalog.proofs.RuleLaws.{table_kept}
use Rattle.mi_model.specs.Table.{opened}
use Rattle.mi_model.specs.Database.{opened_database}
use Rattle.mi_container.specs.Data.{Data, as_table, IsData}
use Rattle.mi_container.specs.Changes.{opened_data}
use Rattle.mi_container.proofs.OpeningLemmas.{table_opened, is_data_opened}
use Rattle.mi_database.specs.Journal.{Journal, data_at, tables_of, state_of}
use Rattle.mi_database.specs.LinkedData.{IsLinkedData}

opened_each : (c : CatalogShape) → is_catalog c ≡ true → (n : ℕ) → n < length (map opened_data c.tables)
    → IsData (schema_at c n) (data_at (map opened_data c.tables) n)
opened_each c kept n l =
    let within : n < length c.tables = subst (λ q. n < q) (length-map c.tables opened_data) l in
    subst (IsData (schema_at c n)) (sym (get_or-map opened_data c.tables n _ _ within)) (is_data_opened (schema_at c n) (table_kept c n kept within))

opened_none : (ss : List Shape) (n : ℕ) → (data_at (map opened_data ss) n).kept ≡ []
opened_none [] n = refl
opened_none (s ∷ ss) zero = refl
opened_none (s ∷ ss) (suc n) = opened_none ss n

opened_tables : (ss : List Shape) → tables_of (map opened_data ss) ≡ map opened ss
opened_tables [] = refl
opened_tables (s ∷ ss) =
    let here : as_table (opened_data s) ≡ opened s = table_opened s in
    let rest : tables_of (map opened_data ss) ≡ map opened ss = opened_tables ss in
    λ i. here i ∷ rest i

-- it means the opened database
pub opened_state : (c : CatalogShape) (ds : List Data) (j : Journal) (r : ℕ) → ds ≡ map opened_data c.tables → j ≡ [] → r ≡ c.first_revision
    → state_of c ds j r ≡ opened_database c
opened_state c ds j r datas none first =
    let tables : tables_of (map opened_data c.tables) ≡ map opened c.tables = opened_tables c.tables in
    ap (λ q. state_of c q j r) datas ∙ ap₂ (λ p q. state_of c (map opened_data c.tables) p q) none first
    ∙ (λ i. record { catalog = c; tables = tables i; old = []; revision = c.first_revision })

opened_is : (c : CatalogShape) (ss : List Shape) (ds : List Data) → is_catalog c ≡ true → ss ≡ c.tables → ds ≡ map opened_data c.tables
    → c.first_revision ≤ LAST_COUNT
    → IsLinkedData ss c ds [] c.first_revision
opened_is c ss ds kept shapes datas last =
    subst (λ q. IsLinkedData ss c q [] c.first_revision) (sym datas)
    (record {
      linked = record { each = opened_each c kept; holds = opened_none c.tables };
      shapes = shapes;
      many = length-map c.tables opened_data;
      numbered = omega arith;
      last = last;
    })

-- the same, as the code comes to it
pub opened_at : (c : CatalogShape) (ss : List Shape) (ds : List Data) (j : Journal) (r : ℕ) → is_catalog c ≡ true → ss ≡ c.tables
    → ds ≡ map opened_data c.tables → j ≡ [] → r ≡ c.first_revision → r ≤ LAST_COUNT
    → IsLinkedData ss c ds j r
opened_at c ss ds j r kept shapes datas none first last =
    subst (λ q. IsLinkedData ss c ds q r) (sym none)
    (subst (λ n. IsLinkedData ss c ds [] n) (sym first)
    (opened_is c ss ds kept shapes datas (subst (λ n. n ≤ LAST_COUNT) first last)))
