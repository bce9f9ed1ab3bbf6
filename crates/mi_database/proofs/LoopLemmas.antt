-- One entry taken back, and one settled.
-- Cited by `Linked::end_oldest`, `Linked::settle_one`, `Linked::unwind_newest`, `Linked::unwind_one`, `LinkedSessions::squash` and 1 more.
use Rattle.std.proofs.Common.{◌≡◌, true, false, inl, inr, ℕ, ◌+◌, ◌-◌, ◌<◌, ◌≤◌, Some, None, List, []}
use Rattle.std.proofs.Common.{◌∷◌, ◌++◌, map, length, take, set, get_or, refl, ap, ap₂, sym, ◌∙◌, subst, arith}
use Rattle.std.proofs.lemmas.List.{map-set, length-set, length-map, length_push, take_at, append-nil, append_assoc}
use Rattle.std.specs.Option.{is_some}
use Rattle.std.proofs.lemmas.Bool.{false≢true}
use Rattle.std.specs.declared.option.Option.{Option}
use Rattle.mi_catalog.specs.Shape.{Shape, CatalogShape, schema_at}
use Rattle.mi_container.specs.Data.{Data, IsData}
use Rattle.mi_container.specs.Inverse.{Inverse, taken_back, settled}
use Rattle.mi_container.specs.Fits.{Ready, KeptBy}
use Rattle.mi_database.specs.Journal.{JournalEntry, Journal, data_at, entry_back, entry_settled, entries, unwound, old_of, tables_of, Holds, IsLinked}
use Rattle.mi_database.proofs.JournalLemmas.{linked_popped, oldest, holds_settled, all_settled_data}
use Rattle.mi_database.proofs.JournalLemmas.{old_settled, tables_settled, length-old, take_old, entries-append}
use Rattle.mi_journal.specs.Noted.{newest_entry, without_entry, TakesOldest, OldestIsEmpty}
use Rattle.mi_database.specs.LinkedData.{LinkedData, IsLinkedData, newest_of, older_of, back_by, newer_than_oldest, SettlesSome, SettlesNone, UnwindsNewest}
use Rattle.mi_database.specs.LinkedData.{EndsOldest}
use Rattle.mi_database.proofs.LinkedDataLemmas.{set_data, shape_at, same_shapes}

abbrev pub linked_data : CatalogShape → List Data → Journal → ℕ → ℕ → ℕ → List (List ℕ) → List (List (Option ℕ)) → LinkedData
linked_data c ds j r changes starts held secrets =
    record { catalog = c; datas = ds; journal = j; revision = r; changes = changes; starts = starts; held = held; secrets = secrets }

newest_split : (j : Journal) (e : JournalEntry) → newest_entry j ≡ Some e → (es : List JournalEntry) × (older : Journal) × (j ≡ (e ∷ es) ∷ older)
newest_split [] e is = absurd (let h : None ≡ Some e = is in cc)
newest_split ([] ∷ older) e is = absurd (let h : None ≡ Some e = is in cc)
newest_split ((x ∷ es) ∷ older) e is = let same : x ≡ e = (let h : Some x ≡ Some e = is in cc) in (es, older, ap (λ q. (q ∷ es) ∷ older) same)

-- without the last
newer_than_push : {A : Type 0} (xs : List A) (y : A) → newer_than_oldest (xs ++ y ∷ []) ≡ xs
newer_than_push xs y =
    let long : length (xs ++ y ∷ []) ≡ length xs + 1 = length_push xs y in
    let less : length xs ≡ length (xs ++ y ∷ []) - 1 = omega arith in
    take_at xs (y ∷ []) (length (xs ++ y ∷ []) - 1) less

module _ {X : Type 0} (shape : X → Shape) (plain : X → Data) (c : CatalogShape) (cs : List X) (n : ℕ) (k k' : X) (i : Inverse)
    (r : ℕ) where
  unwind_at : (es : List JournalEntry) (older : Journal) → k ≡ get_or cs n k → plain k' ≡ taken_back i (plain k) → shape k' ≡ shape k
      → IsLinkedData (map shape cs) c (map plain cs) (((n, i) ∷ es) ∷ older) r
      → IsLinkedData (map shape (set cs n k')) c (map plain (set cs n k')) (es ∷ older) r
      × (map plain (set cs n k') ≡ entry_back (n, i) (map plain cs))
  unwind_at es older was back same is =
      let within : n < length cs = subst (λ q. n < q) (length-map cs plain) is.linked.holds.0 in
      let datas : map plain (set cs n k') ≡ entry_back (n, i) (map plain cs) =
      map-set plain cs n k' ∙ ap (set (map plain cs) n) (back ∙ ap (taken_back i) (sym (set_data plain cs n k within was))) in
      let numbered = is.numbered in (
        record {
          linked = subst (λ q. IsLinked c q (es ∷ older)) (sym datas) (linked_popped c (map plain cs) (n, i) es older is.linked);
          shapes = same_shapes shape cs n k k' within was same ∙ is.shapes;
          many = ap length datas ∙ length-set (map plain cs) n _ ∙ is.many;
          numbered = omega (arith, numbered);
          last = is.last;
        },
        datas,
      )

  -- one entry popped and taken back
  pub unwind_law : (j j' : Journal) → Some (n, i) ≡ newest_entry j → j' ≡ without_entry j → k ≡ get_or cs n k → plain k' ≡ taken_back i (plain k)
      → shape k' ≡ shape k
      → IsLinkedData (map shape cs) c (map plain cs) j r
      → IsLinkedData (map shape (set cs n k')) c (map plain (set cs n k')) j' r
      × (map plain (set cs n k') ≡ back_by (newest_of j) (map plain cs))
  unwind_law j j' entry left was back same is =
      let split : (es : List JournalEntry) × (older : Journal) × (j ≡ ((n, i) ∷ es) ∷ older) = newest_split j (n, i) (sym entry) in
      let h = unwind_at split.0 split.1 was back same (subst (λ q. IsLinkedData (map shape cs) c (map plain cs) q r) split.2 is)
      in (
        subst (λ q. IsLinkedData (map shape (set cs n k')) c (map plain (set cs n k')) q r)
            (sym (left ∙ ap without_entry split.2)) h.0,
        h.1 ∙ sym (ap (λ q. back_by (newest_of q) (map plain cs)) split.2),
      )

  -- it can be taken back
  pub newest_ready : (j : Journal) → Some (n, i) ≡ newest_entry j → IsLinkedData (map shape cs) c (map plain cs) j r → k ≡ get_or cs n k
      → Ready i (plain k) × IsData (shape k) (taken_back i (plain k))
  newest_ready j entry is was =
      let split : (es : List JournalEntry) × (older : Journal) × (j ≡ ((n, i) ∷ es) ∷ older) = newest_split j (n, i) (sym entry) in
      let h : IsLinkedData (map shape cs) c (map plain cs) (((n, i) ∷ split.0) ∷ split.1) r =
      subst (λ q. IsLinkedData (map shape cs) c (map plain cs) q r) split.2 is in
      let within : n < length cs = subst (λ q. n < q) (length-map cs plain) h.linked.holds.0 in
      let there = set_data plain cs n k within was in (
        subst (Ready i) there h.linked.holds.1,
        subst (λ (q : Shape). IsData q (taken_back i (plain k))) (sym (shape_at shape c cs n k within was h.shapes))
            (subst (λ d. IsData (schema_at c n) (taken_back i d)) there h.linked.holds.2),
      )

-- the entries of a journal by its oldest session
entries_push : (newer : Journal) (es : List JournalEntry) → entries (newer ++ es ∷ []) ≡ entries newer ++ es
entries_push newer es = entries-append newer (es ∷ []) ∙ ap (λ q. entries newer ++ q) (append-nil es)

entries_oldest : (newer : Journal) (rest : List JournalEntry) (e : JournalEntry)
    → entries (newer ++ (rest ++ e ∷ []) ∷ []) ≡ entries (newer ++ rest ∷ []) ++ e ∷ []
entries_oldest newer rest e = entries_push newer (rest ++ e ∷ []) ∙ sym (append_assoc (entries newer) rest (e ∷ []))
    ∙ ap (λ q. q ++ e ∷ []) (sym (entries_push newer rest))

-- the old tables of all sessions but the oldest
newer_old : (newer : Journal) (es : List JournalEntry) (ds : List Data) → newer_than_oldest (old_of ds (newer ++ es ∷ [])) ≡ old_of ds newer
newer_old newer es ds =
    let j : Journal = newer ++ es ∷ [] in
    let long : length (old_of ds j) ≡ length j = length-old j ds in
    ap (λ n. take (n - 1) (old_of ds j)) long ∙ take_old (length j - 1) j ds ∙ ap (old_of ds) (newer_than_push newer es)

module _ {X : Type 0} (shape : X → Shape) (plain : X → Data) (c : CatalogShape) (cs : List X) (n : ℕ) (i : Inverse) (r : ℕ) where
  oldest_of : (newer : Journal) (rest : List JournalEntry)
      → IsLinkedData (map shape cs) c (map plain cs) (newer ++ (rest ++ (n, i) ∷ []) ∷ []) r
      → Holds c (entries (newer ++ rest ∷ []) ++ (n, i) ∷ []) (map plain cs)
  oldest_of newer rest is = subst (λ es. Holds c es (map plain cs)) (entries_oldest newer rest (n, i)) is.linked.holds

  -- the newest entry's container is there
  pub newest_within : (j : Journal) → Some (n, i) ≡ newest_entry j → IsLinkedData (map shape cs) c (map plain cs) j r → n < length cs
  newest_within j entry is =
      let split : (es : List JournalEntry) × (older : Journal) × (j ≡ ((n, i) ∷ es) ∷ older) = newest_split j (n, i) (sym entry) in
      let h : IsLinkedData (map shape cs) c (map plain cs) (((n, i) ∷ split.0) ∷ split.1) r =
      subst (λ q. IsLinkedData (map shape cs) c (map plain cs) q r) split.2 is in
      subst (λ q. n < q) (length-map cs plain) h.linked.holds.0

  -- the oldest entry's container is there, and keeps its node
  pub oldest_within : (j j' : Journal) → TakesOldest (Some (n, i)) j j' → IsLinkedData (map shape cs) c (map plain cs) j r
      → (n < length cs)
      × KeptBy i (data_at (map plain cs) n)
  oldest_within j j' taken is =
      let h = oldest c (n, i) (entries (taken.0 ++ taken.1 ∷ [])) (map plain cs)
      (oldest_of taken.0 taken.1 (subst (λ q. IsLinkedData (map shape cs) c (map plain cs) q r) taken.2 is)) in
      (subst (λ q. n < q) (length-map cs plain) h.0, h.1)

  settle_at : (newer : Journal) (rest : List JournalEntry) (k k' : X) (changes starts changes' starts' : ℕ) (held held' : List (List ℕ)) (secrets secrets' : List (List (Option ℕ)))
      → k ≡ get_or cs n k → plain k' ≡ settled i (plain k) → shape k' ≡ shape k
      → IsLinkedData (map shape cs) c (map plain cs) (newer ++ (rest ++ (n, i) ∷ []) ∷ []) r
      → IsLinkedData (map shape (set cs n k')) c (map plain (set cs n k')) (newer ++ rest ∷ []) r
      × SettlesSome (linked_data c (map plain cs) (newer ++ (rest ++ (n, i) ∷ []) ∷ []) r changes starts held secrets)
      (linked_data c (map plain (set cs n k')) (newer ++ rest ∷ []) r changes' starts' held' secrets')
  settle_at newer rest k k' changes starts changes' starts' held held' secrets secrets' was back same is =
      let ds : List Data = map plain cs in
      let j : Journal = newer ++ (rest ++ (n, i) ∷ []) ∷ [] in
      let j' : Journal = newer ++ rest ∷ [] in
      let holds : Holds c (entries j' ++ (n, i) ∷ []) ds = oldest_of newer rest is in
      let there = oldest c (n, i) (entries j') ds holds in
      let within : n < length cs = subst (λ q. n < q) (length-map cs plain) there.0 in
      let datas : map plain (set cs n k') ≡ entry_settled (n, i) ds = map-set plain cs n k'
      ∙ ap (set ds n) (back ∙ ap (settled i) (sym (set_data plain cs n k within was))) in
      let new : length j' ≡ length newer + 1 = length_push newer rest in
      let old : length j ≡ length newer + 1 = length_push newer (rest ++ (n, i) ∷ []) in
      let numbered = is.numbered in
      let all : length (entries j) ≡ length (entries j') + 1 = ap length (entries_oldest newer rest (n, i)) ∙ length_push (entries j') (n, i) in (
        record {
          linked = subst (λ q. IsLinked c q j') (sym datas) (record {
            each = all_settled_data c (n, i) ds is.linked.each there.0;
            holds =
                holds_settled c (n, i) (entries j') ds holds;
          });
          shapes = same_shapes shape cs n k k' within was same ∙ is.shapes;
          many = ap length datas ∙ length-set ds n _ ∙ is.many;
          numbered = omega (arith, new, old, numbered);
          last = is.last;
        },
        record {
          fewer = sym all;
          open_ = new ∙ sym old;
          newer = newer_than_push newer rest ∙ sym (newer_than_push newer (rest ++ (n, i) ∷ []));
          tables = ap tables_of datas ∙ tables_settled (n, i) ds;
          old_ = ap (λ q. newer_than_oldest (old_of q j')) datas ∙ ap newer_than_oldest (old_settled (n, i) j' ds there.2) ∙ newer_old newer rest ds
              ∙ sym (newer_old newer (rest ++ (n, i) ∷ []) ds);
        },
      )

  -- the oldest entry taken and settled
  pub settle_law : (j j' : Journal) (k k' : X) (changes starts changes' starts' : ℕ) (held held' : List (List ℕ)) (secrets secrets' : List (List (Option ℕ))) → TakesOldest (Some (n, i)) j j'
      → k ≡ get_or cs n k → plain k' ≡ settled i (plain k)
      → shape k' ≡ shape k
      → IsLinkedData (map shape cs) c (map plain cs) j r
      → IsLinkedData (map shape (set cs n k')) c (map plain (set cs n k')) j' r
      × SettlesSome (linked_data c (map plain cs) j r changes starts held secrets) (linked_data c (map plain (set cs n k')) j' r changes' starts' held' secrets')
  settle_law j j' k k' changes starts changes' starts' held held' secrets secrets' taken was back same is =
      let h = settle_at taken.0 taken.1 k k' changes starts changes' starts' held held' secrets secrets' was back same
      (subst (λ q. IsLinkedData (map shape cs) c (map plain cs) q r) taken.2 is) in (
        subst (λ q. IsLinkedData (map shape (set cs n k')) c (map plain (set cs n k')) q r) (sym taken.3) h.0,
        subst (λ q. SettlesSome (linked_data c (map plain cs) q r changes starts held secrets) (linked_data c (map plain (set cs n k')) j' r changes' starts' held' secrets'))
            (sym taken.2) (subst (λ q. SettlesSome (linked_data c (map plain cs) (taken.0 ++ (taken.1 ++ (n, i) ∷ []) ∷ []) r changes starts held secrets)
            (linked_data c (map plain (set cs n k')) q r changes' starts' held' secrets')) (sym taken.3) h.1),
      )

-- while the newest session is unwound
pub record Unwinding (first now : LinkedData) : Type 0 where
  pub catalog : now.catalog ≡ first.catalog
  pub secrets : now.secrets ≡ first.secrets
  pub revision : now.revision ≡ first.revision
  pub datas : unwound (newest_of now.journal) now.datas ≡ unwound (newest_of first.journal) first.datas
  pub older : older_of now.journal ≡ older_of first.journal
  pub open_ : length now.journal ≡ length first.journal
  pub changes : first.changes ≤ now.changes
  pub starts : now.starts ≡ first.starts

-- while the oldest session is settled
pub record Settling (first now : LinkedData) : Type 0 where
  pub catalog : now.catalog ≡ first.catalog
  pub secrets : now.secrets ≡ first.secrets
  pub revision : now.revision ≡ first.revision
  pub newer : newer_than_oldest now.journal ≡ newer_than_oldest first.journal
  pub open_ : length now.journal ≡ length first.journal
  pub tables : tables_of now.datas ≡ tables_of first.datas
  pub old_ : newer_than_oldest (old_of now.datas now.journal) ≡ newer_than_oldest (old_of first.datas first.journal)
  pub changes : first.changes ≤ now.changes
  pub starts : now.starts ≡ first.starts

pub unwinding_from : (h : LinkedData) → Unwinding h h
unwinding_from h = record { catalog = refl; secrets = refl; revision = refl; datas = refl; older = refl; open_ = refl; changes = omega arith; starts = refl }

back_more : (j : Journal) (ds : List Data) → unwound (newest_of (without_entry j)) (back_by (newest_of j) ds) ≡ unwound (newest_of j) ds
back_more [] ds = refl
back_more ([] ∷ older) ds = refl
back_more ((e ∷ es) ∷ older) ds = refl

older_more : (j : Journal) → older_of (without_entry j) ≡ older_of j
older_more [] = refl
older_more ([] ∷ older) = refl
older_more ((e ∷ es) ∷ older) = refl

open_more : (j : Journal) → length (without_entry j) ≡ length j
open_more [] = refl
open_more ([] ∷ older) = refl
open_more ((e ∷ es) ∷ older) = refl

pub one_less : (j j' : Journal) → j' ≡ without_entry j → true ≡ is_some (newest_entry j) → length (newest_of j') < length (newest_of j)
one_less [] j' left some = absurd (false≢true (sym some))
one_less ([] ∷ older) j' left some = absurd (false≢true (sym some))
one_less ((e ∷ es) ∷ older) j' left some = let same : length (newest_of j') ≡ length es = ap (λ q. length (newest_of q)) left in omega arith

newest_empty : (j : Journal) → false ≡ is_some (newest_entry j) → 0 < length j → j ≡ [] ∷ older_of j
newest_empty [] none some = absurd (omega arith)
newest_empty ([] ∷ older) none some = refl
newest_empty ((e ∷ es) ∷ older) none some = absurd (false≢true none)

pub unwinding_more : (first now next : LinkedData) → Unwinding first now → next.datas ≡ back_by (newest_of now.journal) now.datas
    → next.journal ≡ without_entry now.journal
    → next.catalog ≡ now.catalog → next.secrets ≡ now.secrets → next.revision ≡ now.revision → now.changes ≤ next.changes → next.starts ≡ now.starts
    → Unwinding first next
unwinding_more first now next u datas journal catalog secrets revision changes starts =
    let rose = u.changes in
    record {
      catalog = catalog ∙ u.catalog;
      secrets = secrets ∙ u.secrets;
      revision = revision ∙ u.revision;
      datas = ap₂ (λ p q. unwound (newest_of p) q) journal datas ∙ back_more now.journal now.datas ∙ u.datas;
      older = ap older_of journal ∙ older_more now.journal ∙ u.older;
      open_ = ap length journal ∙ open_more now.journal ∙ u.open_;
      changes = omega (arith, rose, changes);
      starts = starts ∙ u.starts;
    }

pub unwinding_done : (first now : LinkedData) → Unwinding first now → 0 < length first.journal → false ≡ is_some (newest_entry now.journal)
    → UnwindsNewest first now
unwinding_done first now u some none =
    let long = u.open_ in
    let empty : now.journal ≡ [] ∷ older_of now.journal = newest_empty now.journal none (omega (arith, long)) in
    record {
      catalog = u.catalog;
      secrets = u.secrets;
      revision = u.revision;
      datas = sym (ap (λ q. unwound (newest_of q) now.datas) empty) ∙ u.datas;
      journal = empty ∙ ap (λ q. [] ∷ q) u.older;
      changes = u.changes;
      starts = u.starts;
    }

pub settling_from : (h : LinkedData) → Settling h h
settling_from h = record { catalog = refl; secrets = refl; revision = refl; newer = refl; open_ = refl; tables = refl; old_ = refl; changes = omega arith; starts = refl }

pub settling_more : (first now next : LinkedData) → Settling first now → SettlesSome now next → next.catalog ≡ now.catalog → next.secrets ≡ now.secrets
    → next.revision ≡ now.revision → now.changes ≤ next.changes → next.starts ≡ now.starts → Settling first next
settling_more first now next u s catalog secrets revision changes starts =
    let rose = u.changes in
    record {
      catalog = catalog ∙ u.catalog;
      secrets = secrets ∙ u.secrets;
      revision = revision ∙ u.revision;
      newer = s.newer ∙ u.newer;
      open_ = s.open_ ∙ u.open_;
      tables = s.tables ∙ u.tables;
      old_ = s.old_ ∙ u.old_;
      changes = omega (arith, rose, changes);
      starts = starts ∙ u.starts;
    }

-- nothing is left to settle in an open session
pub settled_up : (first now next : LinkedData) → Settling first now → SettlesNone now next → 0 < length first.journal → OldestIsEmpty next.journal
settled_up first now next u s some =
    let long = u.open_ in
    elim s.none [
      | inl none ↦ let zero_ : length now.journal ≡ 0 = ap length none in absurd (omega (arith, long, zero_))
      | inr empty ↦ (empty.0, s.journal ∙ empty.1)
    ]

-- the oldest session, which has no entry, ends
pub ends_law : (c : CatalogShape) (ss : List Shape) (ds : List Data) (j j' : Journal) (r : ℕ) → j ≡ j' ++ [] ∷ []
    → IsLinkedData ss c ds j r → IsLinkedData ss c ds j' r
ends_law c ss ds j j' r split is =
    let same : entries j ≡ entries j' = ap entries split ∙ entries_push j' [] ∙ append-nil (entries j') in
    let long : length j ≡ length j' + 1 = ap length split ∙ length_push j' [] in
    let numbered = is.numbered in
    record {
      linked = record { each = is.linked.each; holds = subst (λ es. Holds c es ds) same is.linked.holds };
      shapes = is.shapes;
      many = is.many;
      numbered = omega (arith, long, numbered);
      last = is.last;
    }

pub ended_law : (first now next : LinkedData) (j' : Journal) (changes' starts' : ℕ) (held' : List (List ℕ)) (secrets' : List (List (Option ℕ))) → Settling first now → SettlesNone now next
    → next.catalog ≡ now.catalog → secrets' ≡ now.secrets
    → next.revision ≡ now.revision → now.changes ≤ next.changes → next.starts ≡ now.starts
    → next.journal ≡ j' ++ [] ∷ [] → changes' ≡ next.changes → starts' ≡ next.starts + 1
    → EndsOldest first (linked_data next.catalog next.datas j' next.revision changes' starts' held' secrets')
ended_law first now next j' changes' starts' held' secrets' u s catalog secrets revision changes starts split stay more =
    let rose = u.changes in
    let same = u.starts in
    let left : j' ≡ newer_than_oldest next.journal = sym (newer_than_push j' []) ∙ sym (ap newer_than_oldest split) in
    record {
      catalog = catalog ∙ u.catalog;
      secrets = secrets ∙ u.secrets;
      revision = revision ∙ u.revision;
      journal = left ∙ ap newer_than_oldest s.journal ∙ u.newer;
      tables = ap tables_of s.datas ∙ u.tables;
      old_ = sym (newer_old j' [] next.datas) ∙ sym (ap (λ q. newer_than_oldest (old_of next.datas q)) split)
          ∙ ap₂ (λ p q. newer_than_oldest (old_of p q)) s.datas s.journal ∙ u.old_;
      changes = omega (arith, rose, changes, stay);
      starts = more ∙ ap (λ n. n + 1) (starts ∙ same);
    }

pub none_stays : (j : Journal) → false ≡ is_some (newest_entry j) → false ≡ is_some (newest_entry (without_entry j))
none_stays [] none = none
none_stays ([] ∷ older) none = none
none_stays ((e ∷ es) ∷ older) none = absurd (false≢true none)
