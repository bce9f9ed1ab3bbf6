-- Sessions that end, and how a linked database is a database.
-- Cited by `Linked::at`, `LinkedSessions::commit`, `LinkedSessions::keeps_rules`, `LinkedSessions::squash` and 2 more.
use Rattle.std.proofs.Common.{◌≡◌, ◌≢◌, cond, ℕ, suc, min, ◌+◌, ◌-◌, ◌<◌, ◌≤◌, List, [], ◌∷◌, length, take, get_or, refl, ap, ap₂, sym, ◌∙◌, subst, arith}
use Rattle.std.proofs.lemmas.List.{take-take, length-take-le, take_all}
use Rattle.std.specs.declared.result.Result.{Result}
use Rattle.std.specs.declared.result.Result.TheVariants.{Ok, Err}
use Rattle.std.specs.List.{AllZip, AllByRecursion}
use Rattle.std.specs.declared.option.Option.{Option}
use Rattle.mi_value.specs.declared.refusal.NoSession.{NoSession}
use Rattle.mi_value.specs.declared.refusal.Refusal.{Refusal}
use Rattle.mi_value.specs.declared.refusal.Refusal.TheVariants.{Spent, Depth}
use Rattle.mi_value.specs.declared.limits.TheConstants.{LAST_COUNT, MAX_SESSIONS}
use Rattle.mi_journal.specs.Noted.{top_joined}
use Rattle.std.specs.Prelude.{◌==◌}
use Rattle.mi_catalog.specs.Shape.{Shape, CatalogShape, schema_at}
use Rattle.mi_model.specs.Table.{Table, IsTable}
use Rattle.mi_model.specs.Database.{Database, IsDatabase, start_step, started, undo_step, undone, undone_times, squash_step, squashed, committed, ending}
use Rattle.mi_model.proofs.TableLaws.{not_same}
use Rattle.mi_container.specs.Data.{Data, as_table, IsData}
use Rattle.mi_database.specs.Journal.{JournalEntry, Journal, data_at, old_of, unwound, tables_of, state_of, IsLinked}
use Rattle.mi_database.proofs.JournalLemmas.{length-old, length-unwound, linked_undone, state_joined}
use Rattle.mi_database.specs.LinkedData.{LinkedData, meaning, IsLinkedData, newer_than_oldest, EndsOldest}
use Rattle.mi_database.proofs.LoopLemmas.{linked_data}

-- the n oldest sessions ended
pub record Ending (n : ℕ) (first now : LinkedData) : Type 0 where
  pub catalog : now.catalog ≡ first.catalog
  pub secrets : now.secrets ≡ first.secrets
  pub revision : now.revision ≡ first.revision
  pub journal : now.journal ≡ take (length first.journal - n) first.journal
  pub tables : tables_of now.datas ≡ tables_of first.datas
  pub old_ : old_of now.datas now.journal ≡ take (length first.journal - n) (old_of first.datas first.journal)
  pub changes : first.changes ≤ now.changes
  pub starts : first.starts ≤ now.starts

pub ending_from : (h : LinkedData) → Ending 0 h h
ending_from h =
    let all : length h.journal - 0 ≡ length h.journal = omega arith in
    let long : length (old_of h.datas h.journal) ≡ length h.journal = length-old h.journal h.datas in
    record {
      catalog = refl;
      secrets = refl;
      revision = refl;
      journal = sym (take_all (length h.journal - 0) h.journal (omega arith));
      tables = refl;
      old_ = sym (take_all (length h.journal - 0) (old_of h.datas h.journal) (omega (arith, long)));
      changes = omega arith;
      starts = omega arith;
    }

-- one less of a front
newer_take : {A : Type 0} (k : ℕ) (xs now : List A) → now ≡ take k xs → k ≤ length xs → newer_than_oldest now ≡ take (k - 1) xs
newer_take k xs now is le =
    let long : length now ≡ k = ap length is ∙ length-take-le k xs le in
    ap₂ (λ n q. take (n - 1) q) long is ∙ take-take (k - 1) k xs (omega arith)

pub ending_more : (n : ℕ) (first now next : LinkedData) → Ending n first now → EndsOldest now next → Ending (n + 1) first next
ending_more n first now next e ends =
    let d : ℕ = length first.journal in
    let less : (d - n) - 1 ≡ d - (n + 1) = omega arith in
    let long : length (old_of first.datas first.journal) ≡ d = length-old first.journal first.datas in
    let rose = e.changes in
    let rises = ends.changes in
    let opened = e.starts in
    let opens = ends.starts in
    record {
      catalog = ends.catalog ∙ e.catalog;
      secrets = ends.secrets ∙ e.secrets;
      revision = ends.revision ∙ e.revision;
      journal = ends.journal ∙ newer_take (d - n) first.journal now.journal e.journal (omega arith) ∙ ap (λ k. take k first.journal) less;
      tables = ends.tables ∙ e.tables;
      old_ = ends.old_ ∙ newer_take (d - n) (old_of first.datas first.journal) (old_of now.datas now.journal) e.old_ (omega (arith, long))
          ∙ ap (λ k. take k (old_of first.datas first.journal)) less;
      changes = omega (arith, rose, rises);
      starts = omega (arith, opened, opens);
    }

-- while fewer than all have ended one is open
pub some_open : (n : ℕ) (first now : LinkedData) → Ending n first now → n < length first.journal → 0 < length now.journal
some_open n first now e l =
    let long : length now.journal ≡ length first.journal - n = ap length e.journal ∙ length-take-le (length first.journal - n) first.journal (omega arith) in
    omega (arith, long)

-- a commit, as the code comes to the number of sessions that end
pub ended_all : (n x open_ : ℕ) (first now : LinkedData) → Ending n first now → open_ ≡ length first.journal → n ≡ min (x - (first.revision - open_)) open_
    → length first.journal ≤ first.revision
    → (n ≡ ending x (meaning first)) × (meaning now ≡ committed x (meaning first))
ended_all n x open_ first now e all is le =
    let d : ℕ = length first.journal in
    let old = old_of first.datas first.journal in
    let long : length old ≡ d = length-old first.journal first.datas in
    let same : n ≡ min (length old) (x + length old - first.revision) = omega (arith, long, is, all, le) in
    let left : d - n ≡ length old - min (length old) (x + length old - first.revision) = omega (arith, long, same) in
    let kept : old_of now.datas now.journal ≡ take (length old - min (length old) (x + length old - first.revision)) old = e.old_ ∙ ap (λ k. take k old) left in
    let catalog = e.catalog in
    let tables = e.tables in
    let revision = e.revision in
    (same, λ i. record { catalog = catalog i; tables = tables i; old = kept i; revision = revision i })

undone_of : (c : CatalogShape) (ts : List Table) (old : List (List Table)) (r : ℕ)
    → (undo_step (record { catalog = c; tables = ts; old = old; revision = r })).1 ≡ undone (record { catalog = c; tables = ts; old = old; revision = r })
undone_of c ts [] r = refl
undone_of c ts (o ∷ old) r =
    let d : Database = record { catalog = c; tables = ts; old = o ∷ old; revision = r } in
    ap (λ b. (cond {A = Result ℕ NoSession × Database} b (Err (record {}), d) (Ok (r - 1), undone d)).1)
    (not_same (length (o ∷ old)) 0 (λ e. absurd (omega (arith, e))))

-- an undo leaves what the definition says, also where no session is open
pub undo_leaves : (d : Database) → (undo_step d).1 ≡ undone d
undo_leaves d = undone_of d.catalog d.tables d.old d.revision

-- The tables of a linked database

tables_from : (ss : List Shape) (ds : List Data) (none : Shape) → length ds ≡ length ss
    → ((n : ℕ) → n < length ds → IsTable (get_or ss n none) (as_table (data_at ds n))) → AllZip IsTable ss (tables_of ds)
tables_from [] [] none same all = tt
tables_from [] (d ∷ ds) none same all = absurd (omega (arith, same))
tables_from (s ∷ ss) [] none same all = absurd (omega (arith, same))
tables_from (s ∷ ss) (d ∷ ds) none same all = (all 0 (omega arith), tables_from ss ds none (omega (arith, same)) (λ n l. all (suc n) (omega (arith, l))))

all_tables : (c : CatalogShape) (ds : List Data) → length ds ≡ length c.tables → ((n : ℕ) → n < length ds → IsData (schema_at c n) (data_at ds n))
    → AllZip IsTable c.tables (tables_of ds)
all_tables c ds same all = tables_from c.tables ds _ same (λ n l. (all n l).table)

old_tables : (c : CatalogShape) (j : Journal) (ds : List Data) → length ds ≡ length c.tables → IsLinked c ds j
    → AllByRecursion (AllZip IsTable c.tables) (old_of ds j)
old_tables c [] ds same is = tt
old_tables c (es ∷ older) ds same is =
    let back : IsLinked c (unwound es ds) older = linked_undone c ds es older is in
    let long : length (unwound es ds) ≡ length c.tables = length-unwound es ds ∙ same in
    (all_tables c (unwound es ds) long back.each, old_tables c older (unwound es ds) long back)

pub is_database : (ss : List Shape) (c : CatalogShape) (ds : List Data) (j : Journal) (r : ℕ) → IsLinkedData ss c ds j r → IsDatabase (state_of c ds j r)
is_database ss c ds j r is =
    let long : length (old_of ds j) ≡ length j = length-old j ds in
    let numbered = is.numbered in
    record {
      tables = all_tables c ds is.many is.linked.each;
      old = old_tables c j ds is.many is.linked;
      numbered =
          omega (arith, long, numbered);
    }

-- Start and squash

pub start_full : (h : LinkedData) → h.revision ≢ LAST_COUNT → length h.journal ≡ MAX_SESSIONS → start_step (meaning h) ≡ (Err Depth, meaning h)
start_full h low full =
    let d : Database = meaning h in
    let long : length d.old ≡ MAX_SESSIONS = length-old h.journal h.datas ∙ full in
    ap (λ b. cond {A = Result ℕ Refusal × Database} b (Err Spent, d) (cond (length d.old == MAX_SESSIONS) (Err Depth, d) (Ok (d.revision + 1), started d)))
    (not_same h.revision LAST_COUNT low)
    ∙ ap (λ n. cond {A = Result ℕ Refusal × Database} (n == MAX_SESSIONS) (Err Depth, d) (Ok (d.revision + 1), started d)) long

pub start_opens : (h : LinkedData) → h.revision ≢ LAST_COUNT → length h.journal ≢ MAX_SESSIONS
    → start_step (meaning h) ≡ (Ok (h.revision + 1), started (meaning h))
start_opens h low few =
    let d : Database = meaning h in
    let long : length d.old ≡ length h.journal = length-old h.journal h.datas in
    ap (λ b. cond {A = Result ℕ Refusal × Database} b (Err Spent, d) (cond (length d.old == MAX_SESSIONS) (Err Depth, d) (Ok (d.revision + 1), started d)))
    (not_same h.revision LAST_COUNT low)
    ∙ ap (λ b. cond {A = Result ℕ Refusal × Database} b (Err Depth, d) (Ok (d.revision + 1), started d))
    (not_same (length d.old) MAX_SESSIONS (λ same. few (sym long ∙ same)))

squash_opens : (d : Database) → 0 < length d.old → squash_step d ≡ (Ok (d.revision - 1), squashed d)
squash_opens d some = ap (λ b. cond {A = Result ℕ NoSession × Database} b (Err (record {}), d) (Ok (d.revision - 1), squashed d))
    (not_same (length d.old) 0 (λ none. absurd (omega (arith, none))))

one_session : (j : Journal) → length j ≡ 1 → (es : List JournalEntry) × (j ≡ es ∷ [])
one_session [] one = absurd (omega (arith, one))
one_session (es ∷ []) one = (es, refl)
one_session (es ∷ below ∷ older) one = absurd (omega (arith, one))

two_sessions : (j : Journal) → length j ≢ 0 → length j ≢ 1
    → (newest : List JournalEntry) × (below : List JournalEntry) × (older : Journal) × (j ≡ newest ∷ below ∷ older)
two_sessions [] some more = absurd (some refl)
two_sessions (es ∷ []) some more = absurd (more refl)
two_sessions (newest ∷ below ∷ older) some more = (newest, below, older, refl)

alone_at : (c : CatalogShape) (ds : List Data) (es : List JournalEntry) (r changes starts : ℕ) (held : List (List ℕ)) (secrets : List (List (Option ℕ))) (now : LinkedData)
    → EndsOldest (linked_data c ds (es ∷ []) r changes starts held secrets) now
    → state_of now.catalog now.datas now.journal (now.revision - 1) ≡ squashed (state_of c ds (es ∷ []) r)
alone_at c ds es r changes starts held secrets now ends =
    let catalog = ends.catalog in
    let tables = ends.tables in
    let old : old_of now.datas now.journal ≡ [] = ends.old_ in
    let revision : now.revision - 1 ≡ r - 1 = ap (λ n. n - 1) ends.revision in
    λ i. record { catalog = catalog i; tables = tables i; old = old i; revision = revision i }

-- the only session ended
pub squash_alone : (old now : LinkedData) → EndsOldest old now → length old.journal ≡ 1
    → (Ok (now.revision - 1) ≡ (squash_step (meaning old)).0) × (state_of now.catalog now.datas now.journal (now.revision - 1) ≡ (squash_step (meaning old)).1)
squash_alone old now ends one =
    let long : length (old_of old.datas old.journal) ≡ length old.journal = length-old old.journal old.datas in
    let is : squash_step (meaning old) ≡ (Ok (old.revision - 1), squashed (meaning old)) = squash_opens (meaning old) (omega (arith, long, one)) in
    let split : (es : List JournalEntry) × (old.journal ≡ es ∷ []) = one_session old.journal one in
    let was : old ≡ linked_data old.catalog old.datas (split.0 ∷ []) old.revision old.changes old.starts old.held old.secrets =
    ap (λ j. linked_data old.catalog old.datas j old.revision old.changes old.starts old.held old.secrets) split.1 in
    let state : state_of now.catalog now.datas now.journal (now.revision - 1) ≡ squashed (meaning old) =
    alone_at old.catalog old.datas split.0 old.revision old.changes old.starts old.held old.secrets now (subst (λ (h : LinkedData). EndsOldest h now) was ends)
    ∙ ap (λ (h : LinkedData). squashed (meaning h)) (sym was) in
    (ap (λ n. Ok (n - 1)) ends.revision ∙ sym (ap (λ q. q.0) is), state ∙ sym (ap (λ q. q.1) is))

-- the newest joined into the one below
pub squash_joins : (old : LinkedData) (j' : Journal) → j' ≡ top_joined old.journal → length old.journal ≢ 0 → length old.journal ≢ 1
    → (Ok (old.revision - 1) ≡ (squash_step (meaning old)).0) × (state_of old.catalog old.datas j' (old.revision - 1) ≡ (squash_step (meaning old)).1)
squash_joins old j' left some more =
    let long : length (old_of old.datas old.journal) ≡ length old.journal = length-old old.journal old.datas in
    let is : squash_step (meaning old) ≡ (Ok (old.revision - 1), squashed (meaning old)) = squash_opens (meaning old) (omega (arith, long, some)) in
    let two : (newest : List JournalEntry) × (below : List JournalEntry) × (older : Journal) × (old.journal ≡ newest ∷ below ∷ older) =
    two_sessions old.journal some more in
    let state : state_of old.catalog old.datas j' (old.revision - 1) ≡ squashed (meaning old) =
    ap (λ q. state_of old.catalog old.datas q (old.revision - 1)) (left ∙ ap top_joined two.3)
    ∙ state_joined old.catalog old.datas two.0 two.1 two.2 old.revision
    ∙ ap (λ q. squashed (state_of old.catalog old.datas q old.revision)) (sym two.3) in
    (sym (ap (λ q. q.0) is), state ∙ sym (ap (λ q. q.1) is))

-- while sessions are undone
pub record Undoing (left all : ℕ) (first now : LinkedData) : Type 0 where
  pub state : undone_times left (meaning now) ≡ undone_times all (meaning first)
  pub open_ : length now.journal ≡ left
  pub secrets : now.secrets ≡ first.secrets
  pub changes : first.changes ≤ now.changes
  pub starts : first.starts ≤ now.starts
