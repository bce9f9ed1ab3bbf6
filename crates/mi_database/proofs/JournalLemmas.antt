-- Each step of containers under a journal is the step of the database that they mean.
-- Cited by `LinkedSessions::depth`, `LinkedSessions::undo_all`, `EndLemmas`, `KeptLemmas`, `LinkedDataLemmas` and 2 more.
use Rattle.std.proofs.Common.{◌≡◌, ◌≢◌, ℕ, ◌+◌, ◌-◌, ◌<◌, zero, suc, cond, inl, inr, List}
use Rattle.std.proofs.Common.{[], ◌∷◌, ◌++◌, map, length, set, take, refl, ap, sym, ◌∙◌, subst, arith}
use Rattle.std.specs.Prelude.{◌==◌, slice_index_or}
use Rattle.std.specs.List.{AllByRecursion}
use Rattle.std.proofs.lemmas.Bool.Decides.{eqb_tells}
use Rattle.std.proofs.lemmas.List.{append-nil, append_assoc, map-set, length-set, get_or-set_same, get_or-set_other, set-set, set_comm, set-get_or, get_or-map}
use Rattle.mi_catalog.specs.Shape.{CatalogShape, schema_at}
use Rattle.mi_model.specs.Table.{Table, times}
use Rattle.mi_model.specs.Database.{with_table, squashed}
use Rattle.mi_model.specs.Footprint.{kept_on_squash}
use Rattle.mi_journal.specs.Noted.{noted, top_joined}
use Rattle.mi_container.specs.Data.{Data, as_table, IsData}
use Rattle.mi_container.specs.Inverse.{Inverse, keeps, taken_back, settled}
use Rattle.mi_container.specs.Fits.{Ready, KeptBy, kept_id}
use Rattle.mi_database.specs.Journal.{JournalEntry, Journal, data_at, entry_back, unwound, entry_settled, tables_of}
use Rattle.mi_database.specs.Journal.{old_of, state_of, Holds, entries, IsLinked, kept_by, kept_in, kept_at}
use Rattle.mi_container.proofs.FitLemmas.{Differ, settled_back, settled_ready, settled_data, settled_table}
use Rattle.mi_container.proofs.FitLemmas.{settled_none, ready_keeps, differs, held, held_back, times-append}

at_same : (ds : List Data) (n : ℕ) (d : Data) → n < length ds → data_at (set ds n d) n ≡ d
at_same ds n d l = get_or-set_same ds n d _ l

at_other : (ds : List Data) (n m : ℕ) (d : Data) → m ≢ n → data_at (set ds n d) m ≡ data_at ds m
at_other ds n m d ne = get_or-set_other ds n m d _ ne

tables_set : (ds : List Data) (n : ℕ) (d : Data) → tables_of (set ds n d) ≡ set (tables_of ds) n (as_table d)
tables_set ds n d = map-set as_table ds n d

-- the table of a number is that of its container
pub table_at : (ds : List Data) (n : ℕ) (t : Table) → n < length ds → slice_index_or (tables_of ds) n t ≡ as_table (data_at ds n)
table_at ds n t l = get_or-map as_table ds n _ t l

-- all containers have data
abbrev pub AllData : CatalogShape → List Data → Type 0
AllData c ds = (n : ℕ) → n < length ds → IsData (schema_at c n) (data_at ds n)

all_data_set : (c : CatalogShape) (ds : List Data) (n : ℕ) (d : Data) → AllData c ds → n < length ds → IsData (schema_at c n) d → AllData c (set ds n d)
all_data_set c ds n d all l is m w =
    elim (eqb_tells m n) [
      | inl same ↦ subst (λ q. IsData (schema_at c q) (data_at (set ds n d) q)) (sym same.1) (subst (IsData (schema_at c n)) (sym (at_same ds n d l)) is)
      | inr other ↦ subst (IsData (schema_at c m)) (sym (at_other ds n m d other.1)) (all m (subst (λ q. m < q) (length-set ds n d) w))
    ]

-- A change

back_noted : (ds : List Data) (n : ℕ) (i : Inverse) (new : Data) → n < length ds → taken_back i new ≡ data_at ds n → entry_back (n, i) (set ds n new) ≡ ds
back_noted ds n i new l back =
    ap (λ d. set (set ds n new) n (taken_back i d)) (at_same ds n new l) ∙ ap (set (set ds n new) n) back ∙ set-set ds n new (data_at ds n) ∙ set-get_or ds n _

-- a change in a session is a change of its table alone
pub state_noted : (c : CatalogShape) (ds : List Data) (n : ℕ) (i : Inverse) (new : Data) (newest : List JournalEntry) (older : Journal) (r : ℕ) → n < length ds
    → taken_back i new ≡ data_at ds n
    → state_of c (set ds n new) (noted (n, i) (newest ∷ older)) r ≡ with_table n (as_table new) (state_of c ds (newest ∷ older) r)
state_noted c ds n i new newest older r l back =
    let tables : tables_of (set ds n new) ≡ set (tables_of ds) n (as_table new) = tables_set ds n new in
    let same : entry_back (n, i) (set ds n new) ≡ ds = back_noted ds n i new l back in
    λ k. record { catalog = c; tables = tables k; old = tables_of (unwound newest (same k)) ∷ old_of (unwound newest (same k)) older; revision = r }

pub linked_noted : (c : CatalogShape) (ds : List Data) (n : ℕ) (i : Inverse) (new : Data) (newest : List JournalEntry) (older : Journal)
    → IsLinked c ds (newest ∷ older)
    → n < length ds → Ready i new → taken_back i new ≡ data_at ds n → IsData (schema_at c n) new → IsLinked c (set ds n new) (noted (n, i) (newest ∷ older))
linked_noted c ds n i new newest older is l ready back holds =
    record {
      each = all_data_set c ds n new is.each l holds;
      holds = (
        subst (λ q. n < q) (sym (length-set ds n new)) l,
        subst (Ready i) (sym (at_same ds n new l)) ready,
        subst (IsData (schema_at c n)) (sym (ap (taken_back i) (at_same ds n new l) ∙ back)) (is.each n l),
        subst (Holds c (newest ++ entries older)) (sym (back_noted ds n i new l back)) is.holds,
      );
    }

-- a change with no session open is settled at once
pub state_alone : (c : CatalogShape) (ds : List Data) (n : ℕ) (i : Inverse) (new : Data) (r : ℕ)
    → state_of c (set ds n (settled i new)) [] r ≡ with_table n (as_table new) (state_of c ds [] r)
state_alone c ds n i new r =
    let tables : tables_of (set ds n (settled i new)) ≡ set (tables_of ds) n (as_table new) = tables_set ds n (settled i new)
    ∙ ap (set (tables_of ds) n) (settled_table i new) in
    λ k. record { catalog = c; tables = tables k; old = []; revision = r }

pub linked_alone : (c : CatalogShape) (ds : List Data) (n : ℕ) (i : Inverse) (new : Data) → IsLinked c ds [] → n < length ds → Ready i new
    → taken_back i new ≡ data_at ds n → IsData (schema_at c n) new
    → IsLinked c (set ds n (settled i new)) []
linked_alone c ds n i new is l ready back holds =
    record {
      each = all_data_set c ds n (settled i new) is.each l (settled_data (schema_at c n) i new holds);
      holds = λ m.
          elim (eqb_tells m n) [
            | inl same ↦ subst (λ q. (data_at (set ds n (settled i new)) q).kept ≡ []) (sym same.1)
                (ap (λ (d : Data). d.kept) (at_same ds n (settled i new) l) ∙ settled_none i new ready (ap (λ (d : Data). d.kept) back ∙ is.holds n))
            | inr other ↦ ap (λ (d : Data). d.kept) (at_other ds n m (settled i new) other.1) ∙ is.holds m
          ];
    }

holds_back : (c : CatalogShape) (es rest : List JournalEntry) (ds : List Data) → AllData c ds → Holds c (es ++ rest) ds → AllData c (unwound es ds)
    × Holds c rest (unwound es ds)
holds_back c [] rest ds all holds = (all, holds)
holds_back c (e ∷ es) rest ds all holds = holds_back c es rest (entry_back e ds) (all_data_set c ds e.0 _ all holds.0 holds.2) holds.3

pub linked_undone : (c : CatalogShape) (ds : List Data) (es : List JournalEntry) (older : Journal)
    → IsLinked c ds (es ∷ older) → IsLinked c (unwound es ds) older
linked_undone c ds es older is = let h : AllData c (unwound es ds) × Holds c (entries older) (unwound es ds) =
    holds_back c es (entries older) ds is.each is.holds in record { each = h.0; holds = h.1 }

-- one entry popped and taken back leaves what is left of its session linked
pub linked_popped : (c : CatalogShape) (ds : List Data) (e : JournalEntry) (es : List JournalEntry) (older : Journal) → IsLinked c ds ((e ∷ es) ∷ older)
    → IsLinked c (entry_back e ds) (es ∷ older)
linked_popped c ds e es older is = record { each = all_data_set c ds e.0 _ is.each is.holds.0 is.holds.2; holds = is.holds.3 }

-- Squash of one session into another

unwound-append : (es fs : List JournalEntry) (ds : List Data) → unwound (es ++ fs) ds ≡ unwound fs (unwound es ds)
unwound-append [] fs ds = refl
unwound-append (e ∷ es) fs ds = unwound-append es fs (entry_back e ds)

pub state_joined : (c : CatalogShape) (ds : List Data) (newest below : List JournalEntry) (older : Journal) (r : ℕ)
    → state_of c ds (top_joined (newest ∷ below ∷ older)) (r - 1) ≡ squashed (state_of c ds (newest ∷ below ∷ older) r)
state_joined c ds newest below older r =
    let same : unwound (newest ++ below) ds ≡ unwound below (unwound newest ds) = unwound-append newest below ds in
    λ k. record { catalog = c; tables = tables_of ds; old = tables_of (same k) ∷ old_of (same k) older; revision = r - 1 }

-- Settling the oldest

-- two entries of one table keep different nodes
abbrev pub DifferIn : JournalEntry → JournalEntry → Type 0
DifferIn f e = f.0 ≡ e.0 → Differ f.1 e.1

abbrev pub KeptIn : JournalEntry → List Data → Type 0
KeptIn f ds = KeptBy f.1 (data_at ds f.0)

abbrev pub Beside : ℕ → JournalEntry → JournalEntry → Type 0
Beside n f e = (e.0 < n) × DifferIn f e

kept_same : (n : ℕ) (f e : Inverse) (ds : List Data) → n < length ds → KeptIn (n, f) (entry_back (n, e) ds) → Differ f e × KeptIn (n, f) ds
kept_same n f e ds l kept = differs f e (data_at ds n) (subst (KeptBy f) (at_same ds n (taken_back e (data_at ds n)) l) kept)

kept_before : (f e : JournalEntry) (ds : List Data) → e.0 < length ds → KeptIn f (entry_back e ds) → DifferIn f e × KeptIn f ds
kept_before f e ds l kept =
    elim (eqb_tells f.0 e.0) [
      | inl same ↦
          let h : Differ f.1 e.1 × KeptIn (e.0, f.1) ds = kept_same e.0 f.1 e.1 ds l (subst (λ n. KeptIn (n, f.1) (entry_back e ds)) same.1 kept) in
          (λ _. h.0, subst (λ n. KeptIn (n, f.1) ds) (sym same.1) h.1)
      | inr other ↦ (λ same. absurd (other.1 same), subst (KeptBy f.1) (at_other ds e.0 f.0 (taken_back e.1 (data_at ds e.0)) other.1) kept)
    ]

beside_more : (f : JournalEntry) (n m : ℕ) (es : List JournalEntry) → n ≡ m → AllByRecursion (Beside n f) es → AllByRecursion (Beside m f) es
beside_more f n m es same all = subst (λ q. AllByRecursion (Beside q f) es) same all

-- the oldest keeps its node, and differs from all others
pub oldest : (c : CatalogShape) (f : JournalEntry) (es : List JournalEntry) (ds : List Data) → Holds c (es ++ f ∷ []) ds → (f.0 < length ds) × KeptIn f ds
    × AllByRecursion (Beside (length ds) f) es
oldest c f [] ds holds = (holds.0, ready_keeps f.1 (data_at ds f.0) holds.1, tt)
oldest c f (e ∷ es) ds holds =
    let h : (f.0 < length (entry_back e ds)) × KeptIn f (entry_back e ds) × AllByRecursion (Beside (length (entry_back e ds)) f) es =
    oldest c f es (entry_back e ds) holds.3 in
    let long : length (entry_back e ds) ≡ length ds = length-set ds e.0 _ in
    let k : DifferIn f e × KeptIn f ds = kept_before f e ds holds.0 h.1 in
    (subst (λ q. f.0 < q) long h.0, k.1, ((holds.0, k.0), beside_more f (length (entry_back e ds)) (length ds) es long h.2))

swap_same : (n : ℕ) (f e : Inverse) (ds : List Data) → n < length ds → Differ f e
    → entry_back (n, e) (entry_settled (n, f) ds) ≡ entry_settled (n, f) (entry_back (n, e) ds)
swap_same n f e ds l differ =
    ap (λ d. set (set ds n (settled f (data_at ds n))) n (taken_back e d)) (at_same ds n (settled f (data_at ds n)) l)
    ∙ set-set ds n (settled f (data_at ds n)) (taken_back e (settled f (data_at ds n)))
    ∙ ap (set ds n) (settled_back f e (data_at ds n) differ)
    ∙ sym (set-set ds n (taken_back e (data_at ds n)) (settled f (taken_back e (data_at ds n))))
    ∙ sym (ap (λ d. set (set ds n (taken_back e (data_at ds n))) n (settled f d)) (at_same ds n (taken_back e (data_at ds n)) l))

-- to settle the oldest and take back another are in either order the same
swap : (f e : JournalEntry) (ds : List Data) → e.0 < length ds → DifferIn f e → entry_back e (entry_settled f ds) ≡ entry_settled f (entry_back e ds)
swap f e ds l differ =
    elim (eqb_tells f.0 e.0) [
      | inl same ↦ subst (λ n. entry_back e (entry_settled (n, f.1) ds) ≡ entry_settled (n, f.1) (entry_back e ds)) (sym same.1)
          (swap_same e.0 f.1 e.1 ds l (differ same.1))
      | inr other ↦
          ap (λ d. set (entry_settled f ds) e.0 (taken_back e.1 d)) (at_other ds f.0 e.0 (settled f.1 (data_at ds f.0)) (λ same. other.1 (sym same)))
          ∙ set_comm ds f.0 e.0 (settled f.1 (data_at ds f.0)) (taken_back e.1 (data_at ds e.0)) other.1
          ∙ sym (ap (λ d. set (entry_back e ds) f.0 (settled f.1 d)) (at_other ds e.0 f.0 (taken_back e.1 (data_at ds e.0)) other.1))
    ]

pub tables_settled : (f : JournalEntry) (ds : List Data) → tables_of (entry_settled f ds) ≡ tables_of ds
tables_settled f ds =
    tables_set ds f.0 (settled f.1 (data_at ds f.0)) ∙ ap (set (tables_of ds) f.0) (settled_table f.1 (data_at ds f.0))
    ∙ sym (tables_set ds f.0 (data_at ds f.0)) ∙ ap tables_of (set-get_or ds f.0 _)

unwound_settled : (f : JournalEntry) (es : List JournalEntry) (ds : List Data) → AllByRecursion (Beside (length ds) f) es
    → unwound es (entry_settled f ds) ≡ entry_settled f (unwound es ds)
unwound_settled f [] ds all = refl
unwound_settled f (e ∷ es) ds all =
    ap (unwound es) (swap f e ds all.0.0 all.0.1) ∙ unwound_settled f es (entry_back e ds)
    (beside_more f (length ds) (length (entry_back e ds)) es (sym (length-set ds e.0 _)) all.1)

pub length-unwound : (es : List JournalEntry) (ds : List Data) → length (unwound es ds) ≡ length ds
length-unwound [] ds = refl
length-unwound (e ∷ es) ds = length-unwound es (entry_back e ds) ∙ length-set ds e.0 _

all_left : (P : JournalEntry → Type 0) (es fs : List JournalEntry) → AllByRecursion P (es ++ fs) → AllByRecursion P es
all_left P [] fs all = tt
all_left P (e ∷ es) fs all = (all.0, all_left P es fs all.1)

all_right : (P : JournalEntry → Type 0) (es fs : List JournalEntry) → AllByRecursion P (es ++ fs) → AllByRecursion P fs
all_right P [] fs all = all
all_right P (e ∷ es) fs all = all_right P es fs all.1

pub old_settled : (f : JournalEntry) (j : Journal) (ds : List Data) → AllByRecursion (Beside (length ds) f) (entries j)
    → old_of (entry_settled f ds) j ≡ old_of ds j
old_settled f [] ds all = refl
old_settled f (es ∷ older) ds all =
    let same : unwound es (entry_settled f ds) ≡ entry_settled f (unwound es ds) =
    unwound_settled f es ds (all_left (Beside (length ds) f) es (entries older) all) in
    let now : tables_of (unwound es (entry_settled f ds)) ≡ tables_of (unwound es ds) = ap tables_of same ∙ tables_settled f (unwound es ds) in
    let rest : old_of (unwound es (entry_settled f ds)) older ≡ old_of (unwound es ds) older =
    ap (λ q. old_of q older) same ∙ old_settled f older (unwound es ds)
    (beside_more f (length ds) (length (unwound es ds)) (entries older) (sym (length-unwound es ds)) (all_right (Beside (length ds) f) es (entries older) all))
    in
    λ k. now k ∷ rest k

ready_settled : (f e : JournalEntry) (ds : List Data) → f.0 < length ds → DifferIn f e → Ready e.1 (data_at ds e.0)
    → Ready e.1 (data_at (entry_settled f ds) e.0)
ready_settled f e ds l differ ready =
    elim (eqb_tells e.0 f.0) [
      | inl same ↦ subst (λ n. Ready e.1 (data_at (entry_settled f ds) n)) (sym same.1)
          (subst (Ready e.1) (sym (at_same ds f.0 (settled f.1 (data_at ds f.0)) l))
          (settled_ready f.1 e.1 (data_at ds f.0) (differ (sym same.1)) (subst (λ n. Ready e.1 (data_at ds n)) same.1 ready)))
      | inr other ↦ subst (Ready e.1) (sym (at_other ds f.0 e.0 (settled f.1 (data_at ds f.0)) other.1)) ready
    ]

data_settled : (c : CatalogShape) (f e : JournalEntry) (ds : List Data) → f.0 < length ds → DifferIn f e
    → IsData (schema_at c e.0) (taken_back e.1 (data_at ds e.0)) → IsData (schema_at c e.0) (taken_back e.1 (data_at (entry_settled f ds) e.0))
data_settled c f e ds l differ is =
    elim (eqb_tells e.0 f.0) [
      | inl same ↦ subst (λ n. IsData (schema_at c e.0) (taken_back e.1 (data_at (entry_settled f ds) n))) (sym same.1)
          (subst (IsData (schema_at c e.0)) (sym (ap (taken_back e.1) (at_same ds f.0 (settled f.1 (data_at ds f.0)) l)
          ∙ settled_back f.1 e.1 (data_at ds f.0) (differ (sym same.1))))
          (settled_data (schema_at c e.0) f.1 (taken_back e.1 (data_at ds f.0))
          (subst (λ n. IsData (schema_at c e.0) (taken_back e.1 (data_at ds n))) same.1 is)))
      | inr other ↦ subst (λ d. IsData (schema_at c e.0) (taken_back e.1 d)) (sym (at_other ds f.0 e.0 (settled f.1 (data_at ds f.0)) other.1)) is
    ]

none_settled : (f : JournalEntry) (ds : List Data) → f.0 < length ds → Ready f.1 (data_at ds f.0) → ((n : ℕ) → (data_at (entry_back f ds) n).kept ≡ [])
    → (n : ℕ) → (data_at (entry_settled f ds) n).kept ≡ []
none_settled f ds l ready none n =
    elim (eqb_tells n f.0) [
      | inl same ↦ subst (λ q. (data_at (entry_settled f ds) q).kept ≡ []) (sym same.1)
          (ap (λ (d : Data). d.kept) (at_same ds f.0 (settled f.1 (data_at ds f.0)) l)
          ∙ settled_none f.1 (data_at ds f.0) ready (ap (λ (d : Data). d.kept) (sym (at_same ds f.0 (taken_back f.1 (data_at ds f.0)) l)) ∙ none f.0))
      | inr other ↦ ap (λ (d : Data). d.kept) (at_other ds f.0 n (settled f.1 (data_at ds f.0)) other.1
          ∙ sym (at_other ds f.0 n (taken_back f.1 (data_at ds f.0)) other.1)) ∙ none n
    ]

-- the oldest settled leaves the others
pub holds_settled : (c : CatalogShape) (f : JournalEntry) (es : List JournalEntry) (ds : List Data)
    → Holds c (es ++ f ∷ []) ds → Holds c es (entry_settled f ds)
holds_settled c f [] ds holds = none_settled f ds holds.0 holds.1 holds.3
holds_settled c f (e ∷ es) ds holds =
    let h : (f.0 < length ds) × KeptIn f ds × AllByRecursion (Beside (length ds) f) (e ∷ es) = oldest c f (e ∷ es) ds holds in
    let differ : DifferIn f e = h.2.0.1 in (
      subst (λ q. e.0 < q) (sym (length-set ds f.0 _)) holds.0,
      ready_settled f e ds h.0 differ holds.1,
      data_settled c f e ds h.0 differ holds.2,
      subst (Holds c es) (sym (swap f e ds holds.0 differ)) (holds_settled c f es (entry_back e ds) holds.3),
    )

pub all_settled_data : (c : CatalogShape) (f : JournalEntry) (ds : List Data) → AllData c ds → f.0 < length ds → AllData c (entry_settled f ds)
all_settled_data c f ds all l = all_data_set c ds f.0 _ all l (settled_data (schema_at c f.0) f.1 (data_at ds f.0) (all f.0 l))

pub entries-append : (j k : Journal) → entries (j ++ k) ≡ entries j ++ entries k
entries-append [] k = refl
entries-append (es ∷ j) k = ap (λ q. es ++ q) (entries-append j k) ∙ sym (append_assoc es (entries j) (entries k))

pub length-old : (j : Journal) (ds : List Data) → length (old_of ds j) ≡ length j
length-old [] ds = refl
length-old (es ∷ j) ds = ap suc (length-old j (unwound es ds))

pub take_old : (k : ℕ) (j : Journal) (ds : List Data) → take k (old_of ds j) ≡ old_of ds (take k j)
take_old zero j ds = refl
take_old (suc k) [] ds = refl
take_old (suc k) (es ∷ j) ds = ap (λ q. tables_of (unwound es ds) ∷ q) (take_old k j (unwound es ds))

-- The kept names

kept_in-append : (es fs : List JournalEntry) → kept_in (es ++ fs) ≡ kept_in fs ++ kept_in es
kept_in-append [] fs = sym (append-nil (kept_in fs))
kept_in-append (e ∷ es) fs = ap (λ q. q ++ kept_by e.0 (keeps e.1)) (kept_in-append es fs) ∙ append_assoc (kept_in fs) (kept_in es) (kept_by e.0 (keeps e.1))

back_held : (e : JournalEntry) (ds : List Data) (n a : ℕ) → e.0 < length ds → Ready e.1 (data_at ds e.0) → n < length ds
    → held (data_at ds n) a ≡ held (data_at (entry_back e ds) n) a + times a (cond (e.0 == n) (kept_id (keeps e.1)) [])
back_held e ds n a l ready w =
    elim (eqb_tells e.0 n) [
      | inl same ↦
          let there : data_at (entry_back e ds) e.0 ≡ taken_back e.1 (data_at ds e.0) = at_same ds e.0 (taken_back e.1 (data_at ds e.0)) l in
          let counts : held (data_at ds e.0) a ≡ held (taken_back e.1 (data_at ds e.0)) a + times a (kept_id (keeps e.1)) =
          held_back e.1 (data_at ds e.0) a ready in
          subst (λ q. held (data_at ds q) a ≡ held (data_at (entry_back e ds) q) a + times a (cond (e.0 == n) (kept_id (keeps e.1)) [])) same.1
          (counts ∙ ap (λ q. held q a + times a (kept_id (keeps e.1))) (sym there)
          ∙ ap (λ b. held (data_at (entry_back e ds) e.0) a + times a (cond b (kept_id (keeps e.1)) [])) (sym same.0))
      | inr other ↦
          let there : held (data_at (entry_back e ds) n) a ≡ held (data_at ds n) a =
          ap (λ d. held d a) (at_other ds e.0 n (taken_back e.1 (data_at ds e.0)) (λ same. other.1 (sym same))) in
          let zero_ : times a (cond (e.0 == n) (kept_id (keeps e.1)) []) ≡ 0 = ap (λ b. times a (cond b (kept_id (keeps e.1)) [])) other.0 in
          omega arith
    ]

-- a squash joins what the two sessions keep
pub kept_joined : (newest below : List JournalEntry) (older : Journal)
    → map kept_in (top_joined (newest ∷ below ∷ older)) ≡ kept_on_squash (map kept_in (newest ∷ below ∷ older))
kept_joined newest below older = ap (λ q. q ∷ map kept_in older) (kept_in-append newest below)

-- exactly the nodes that the entries of a table keep are kept in it, each by one
pub kept_names : (c : CatalogShape) (es : List JournalEntry) (ds : List Data) → Holds c es ds → (n a : ℕ) → n < length ds
    → times a (kept_at n es) ≡ held (data_at ds n) a
kept_names c [] ds holds n a w = sym (ap (λ kept. held (record no_kept { kept = kept }) a) (holds n))
  where
    no_kept : Data
    no_kept = record { rows = []; orders = []; next = 0; arrivals = 0; kept = [] }
kept_names c (e ∷ es) ds holds n a w =
    times-append a (kept_at n es) (cond (e.0 == n) (kept_id (keeps e.1)) [])
    ∙ ap (λ q. q + times a (cond (e.0 == n) (kept_id (keeps e.1)) []))
    (kept_names c es (entry_back e ds) holds.3 n a (subst (λ q. n < q) (sym (length-set ds e.0 _)) w))
    ∙ sym (back_held e ds n a holds.0 holds.1 w)
