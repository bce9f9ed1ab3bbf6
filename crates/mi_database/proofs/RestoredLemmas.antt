-- The containers of restored tables, one after another, and the database that they mean.
-- Cited by `Linked::restored`, `restored::add_container` and `restored::restored_containers`.
use Rattle.std.proofs.Common.{◌≡◌, ℕ, ◌+◌, ◌<◌, zero, suc, inl, inr, Option, List, [], ◌∷◌, ◌++◌, map, take, length, reverse, refl, ap, ap₂, sym, ◌∙◌, subst, arith}
use Rattle.std.specs.Prelude.{slice_get, ◌⊎◌}
use Rattle.std.specs.declared.option.Option.TheVariants.{Some}
use Rattle.std.proofs.lemmas.Bool.Decides.{eqb_tells}
use Rattle.std.proofs.lemmas.List.{append_assoc, reverse-append, length-map, length_push, take_more, map_push, get_or_append_left, get_or_push, get_or-map}
use Rattle.mi_catalog.specs.Shape.{Shape, CatalogShape, schema_at}
use Rattle.mi_model.specs.Table.{Table}
use Rattle.mi_container.specs.Data.{Data, as_table, IsData}
use Rattle.mi_container.specs.Secrets.{opened_secrets}
use Rattle.mi_container.specs.declared.restore.TableImage.{TableImage}
use Rattle.mi_container.specs.Restore.{image_table, RowsFit}
use Rattle.mi_database.specs.Journal.{Journal, data_at, state_of}
use Rattle.mi_database.specs.Restored.{AreRestored, AllRowsFit}

-- of no table none
pub none_restored : (c : CatalogShape) (secret : ℕ) → AreRestored c secret [] [] [] []
none_restored c secret = record {
  shapes = refl;
  tables = refl;
  each = λ n l. absurd (omega (arith, l));
  fit = λ n l. absurd (omega (arith, l));
  kept = λ n. refl;
  secrets = refl;
}

pub many_restored : (c : CatalogShape) (secret : ℕ) (images : List TableImage) (ss : List Shape) (ds : List Data) (hs : List (List (Option ℕ)))
    → AreRestored c secret images ss ds hs → length ds ≡ length images
many_restored c secret images ss ds hs r =
    sym (length-map ds as_table) ∙ ap (λ (q : List Table). length q) r.tables ∙ length-map images image_table

abbrev nothing : Data
nothing = record { rows = []; orders = []; next = 0; arrivals = 0; kept = [] }

below_or_at : (n k m : ℕ) → m ≡ k + 1 → n < m → (n < k) ⊎ (n ≡ k)
below_or_at n k m is l = elim (eqb_tells n k) [ inl same ↦ inr same.1 | inr other ↦ inl (let ne = other.1 in omega (arith, is, l, ne)) ]

data_before : (ds : List Data) (d : Data) (n : ℕ) → n < length ds → data_at (ds ++ d ∷ []) n ≡ data_at ds n
data_before ds d n l = get_or_append_left ds (d ∷ []) nothing n l

data_last : (ds : List Data) (d : Data) (n : ℕ) → n ≡ length ds → data_at (ds ++ d ∷ []) n ≡ d
data_last ds d n at = get_or_push ds d nothing n (sym at)

-- what holds of each container's data holds with one more
each_more : (P : ℕ → Data → Type 0) (ds : List Data) (d : Data) → ((n : ℕ) → n < length ds → P n (data_at ds n)) → P (length ds) d
    → (n : ℕ) → n < length (ds ++ d ∷ []) → P n (data_at (ds ++ d ∷ []) n)
each_more P ds d each here n l =
    elim (below_or_at n (length ds) (length (ds ++ d ∷ [])) (length_push ds d) l) [
      | inl m ↦ subst (P n) (sym (data_before ds d n m)) (each n m)
      | inr at ↦ subst (λ q. P q (data_at (ds ++ d ∷ []) n)) (sym at) (subst (P (length ds)) (sym (data_last ds d n at)) here)
    ]

-- nor is a node kept
none_more : (ds : List Data) (d : Data) → ((n : ℕ) → (data_at ds n).kept ≡ []) → d.kept ≡ [] → (n : ℕ) → (data_at (ds ++ d ∷ []) n).kept ≡ []
none_more [] d none here zero = here
none_more [] d none here (suc n) = refl
none_more (e ∷ ds) d none here zero = none zero
none_more (e ∷ ds) d none here (suc n) = none_more ds d (λ k. none (suc k)) here n

-- the container of the next table
pub next_restored : (c : CatalogShape) (secret : ℕ) (images : List TableImage) (ss : List Shape) (ds : List Data) (hs : List (List (Option ℕ)))
    → AreRestored c secret images ss ds hs → (n : ℕ) → n ≡ length ds → n < length c.tables
    → (i : TableImage) (s : Shape) (d : Data) (h : List (Option ℕ)) → s ≡ schema_at c n → IsData s d → as_table d ≡ image_table i → RowsFit s i.rows.items
    → d.kept ≡ [] → h ≡ opened_secrets secret s
    → AreRestored c secret (images ++ i ∷ []) (ss ++ s ∷ []) (ds ++ d ∷ []) (hs ++ h ∷ [])
next_restored c secret images ss ds hs r n many few i s d h schema is table fit none secrets =
    let same : n ≡ length images = many ∙ many_restored c secret images ss ds hs r in
    let next : take (length (images ++ i ∷ [])) c.tables ≡ take (length images) c.tables ++ s ∷ [] =
    ap (λ q. take q c.tables) (length_push images i)
    ∙ take_more c.tables (length images) _ (subst (λ q. q < length c.tables) same few)
    ∙ ap (λ q. take (length images) c.tables ++ q ∷ []) (sym (schema ∙ ap (schema_at c) same)) in
    record {
      shapes = ap (λ q. q ++ s ∷ []) r.shapes ∙ sym next;
      tables = map_push as_table ds d ∙ ap₂ (λ p q. p ++ q ∷ []) r.tables table ∙ sym (map_push image_table images i);
      each = each_more (λ k q. IsData (schema_at c k) q) ds d r.each (subst (λ q. IsData q d) (schema ∙ ap (schema_at c) many) is);
      fit = each_more (λ k q. RowsFit (schema_at c k) (as_table q).rows) ds d r.fit
          (subst (λ q. RowsFit q (as_table d).rows) (schema ∙ ap (schema_at c) many) (subst (λ (t : Table). RowsFit s t.rows) (sym table) fit));
      kept = none_more ds d r.kept none;
      secrets = ap₂ (λ p q. p ++ q ∷ []) r.secrets secrets ∙ sym (map_push (opened_secrets secret) (take (length images) c.tables) s)
          ∙ ap (map (opened_secrets secret)) (sym next);
    }

-- Images that are left in reverse

get_behind : (done : List TableImage) (i : TableImage) (rest : List TableImage) → slice_get (done ++ i ∷ rest) (length done) ≡ Some i
get_behind [] i rest = refl
get_behind (j ∷ done) i rest = get_behind done i rest

module _ (all done left new : List TableImage) (i : TableImage) (parts : done ++ reverse left ≡ all) (popped : left ≡ new ++ i ∷ []) where
  next_image : all ≡ done ++ i ∷ reverse new
  next_image = sym parts ∙ ap (λ q. done ++ reverse q) popped ∙ ap (λ q. done ++ q) (reverse-append new (i ∷ []))

  pub next_at : slice_get all (length done) ≡ Some i
  next_at = ap (λ q. slice_get q (length done)) next_image ∙ get_behind done i (reverse new)

  pub next_left : (done ++ i ∷ []) ++ reverse new ≡ all
  next_left = append_assoc done (i ∷ []) (reverse new) ∙ sym next_image

-- The rows of the database fit, whatever the journal and the revision are

pub restored_fit : (c : CatalogShape) (secret : ℕ) (images : List TableImage) (ss : List Shape) (ds : List Data) (hs : List (List (Option ℕ)))
    → AreRestored c secret images ss ds hs → (j : Journal) (r : ℕ) → AllRowsFit (state_of c ds j r)
restored_fit c secret images ss ds hs made j r n l =
    let few : n < length ds = subst (λ q. n < q) (length-map ds as_table) l in
    subst (λ (t : Table). RowsFit (schema_at c n) t.rows) (sym (get_or-map as_table ds n nothing (record { rows = []; lists = []; next = 0; arrivals = 0 }) few))
    (made.fit n few)

-- The same of containers

module _ {X : Type 0} (shape : X → Shape) (plain : X → Data) (secrets : X → List (Option ℕ)) (c : CatalogShape) (secret : ℕ) (images : List TableImage) (xs : List X) where
  pub container_restored : AreRestored c secret images (map shape xs) (map plain xs) (map secrets xs) → length xs < length c.tables
      → (i : TableImage) (s : Shape) (x : X) → s ≡ schema_at c (length xs) → shape x ≡ s → IsData (shape x) (plain x) → as_table (plain x) ≡ image_table i
      → RowsFit s i.rows.items → (plain x).kept ≡ [] → secrets x ≡ opened_secrets secret s → (ys : List X) → ys ≡ xs ++ x ∷ []
      → AreRestored c secret (images ++ i ∷ []) (map shape ys) (map plain ys) (map secrets ys)
  container_restored r few i s x schema is holds table fit none keys ys pushed =
      let next = next_restored c secret images (map shape xs) (map plain xs) (map secrets xs) r (length xs) (sym (length-map xs plain)) few i s (plain x) (secrets x)
      schema (subst (λ q. IsData q (plain x)) is holds) table fit none keys in
      subst (λ q. AreRestored c secret (images ++ i ∷ []) (map shape q) (map plain q) (map secrets q)) (sym pushed)
      (subst (λ q. AreRestored c secret (images ++ i ∷ []) q (map plain (xs ++ x ∷ [])) (map secrets (xs ++ x ∷ [])))
      (sym (map_push shape xs x ∙ ap (λ q. map shape xs ++ q ∷ []) is))
      (subst (λ q. AreRestored c secret (images ++ i ∷ []) (map shape xs ++ s ∷ []) q (map secrets (xs ++ x ∷ []))) (sym (map_push plain xs x))
      (subst (λ q. AreRestored c secret (images ++ i ∷ []) (map shape xs ++ s ∷ []) (map plain xs ++ plain x ∷ []) q) (sym (map_push secrets xs x)) next)))
