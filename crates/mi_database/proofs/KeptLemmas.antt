-- How the kept rows move.
-- Cited by `Linked::erase_first`, `Linked::erase_row`, `Linked::keeps_nodes`, `LinkedSessions::commit` and 6 more.
use Rattle.std.proofs.Common.{◌≡◌, ◌≢◌, Bool, true, false, cond, Option, Some, None, ℕ, ◌+◌, ◌-◌, ◌<◌, List}
use Rattle.std.proofs.Common.{[], ◌∷◌, ◌++◌, map, length, take, refl, ap, ap₂, sym, ◌∙◌, subst, arith}
use Rattle.std.proofs.lemmas.List.{take-map, append-nil, append_assoc, nil_from_length, get_or-set_same}
use Rattle.std.specs.declared.result.Result.{Result}
use Rattle.std.specs.declared.result.Result.TheVariants.{Ok, Err}
use Rattle.mi_value.specs.declared.refusal.Refusal.{Refusal}
use Rattle.mi_value.specs.declared.refusal.Refusal.TheVariants.{Memory, NoId, Lost}
use Rattle.mi_catalog.specs.Shape.{Shape}
use Rattle.mi_model.specs.Table.{Table, has, times}
use Rattle.mi_model.specs.Change.{erase}
use Rattle.mi_model.specs.Verdict.{Outcome}
use Rattle.mi_model.specs.DatabaseChange.{Meets, MeetsRefusal, erase_step, modify_step}
use Rattle.mi_model.specs.Database.{Database, ending, schema_of, table_of, with_table}
use Rattle.mi_model.specs.Run.{Command}
use Rattle.mi_model.specs.Run.Command.{Erase, Modify, Commit}
use Rattle.mi_model.specs.Footprint.{KeptRows, kept_after, kept_more, lost_row, kept_on_squash}
use Rattle.mi_value.specs.declared.edit.Edit.{Edit}
use Rattle.std.specs.Option.{is_some}
use Rattle.mi_container.specs.Data.{Data, kept_of, as_table}
use Rattle.mi_container.specs.Held.{HoldsNodes}
use Rattle.mi_container.specs.Inverse.{Inverse, keeps, relocate_inverse, moved_back}
use Rattle.mi_container.specs.Inverse.Inverse.{Nothing}
use Rattle.mi_container.specs.Makes.{MakesModify, lost_answer, IsNoLoss}
use Rattle.mi_value.specs.declared.value.Value.{Value}
use Rattle.mi_model.specs.View.{of_key}
use Rattle.mi_database.specs.Keyed.{keyed}
use Rattle.mi_database.specs.Kept.{kept_with}
use Rattle.mi_database.proofs.KeyLemmas.{ErasesFirst}
use Rattle.std.specs.Prelude.{◌==◌}
use Rattle.mi_database.specs.Journal.{JournalEntry, Journal, data_at, entries, kept_in, kept_by, kept_at}
use Rattle.mi_container.specs.Fits.{kept_id}
use Rattle.mi_database.proofs.JournalLemmas.{table_at, kept_joined, kept_names, length-old}
use Rattle.mi_journal.specs.Noted.{noted, top_joined}
use Rattle.mi_database.specs.LinkedData.{LinkedData, meaning, IsLinkedData}
use Rattle.mi_database.specs.Kept.{kept_rows, KeptAfter, KeptRefused, NodesAreKept, ids_in, ids_at, held_at}

in_step : (b : Bool) (a : ℕ) (xs ys : List ℕ) → cond b (a ∷ (xs ++ ys)) (xs ++ ys) ≡ cond b (a ∷ xs) xs ++ ys
in_step true a xs ys = refl
in_step false a xs ys = refl

ids_in-append : (n : ℕ) (xs ys : List (ℕ × ℕ)) → ids_in n (xs ++ ys) ≡ ids_in n xs ++ ids_in n ys
ids_in-append n [] ys = refl
ids_in-append n (r ∷ xs) ys = ap (λ q. cond (r.0 == n) (r.1 ∷ q) q) (ids_in-append n xs ys) ∙ in_step (r.0 == n) r.1 (ids_in n xs) (ids_in n ys)

same_none : (b : Bool) → cond {A = List ℕ} b [] [] ≡ []
same_none true = refl
same_none false = refl

in_kept_by : (n m : ℕ) (o : Option ℕ) → ids_in n (kept_by m o) ≡ cond (m == n) (kept_id o) []
in_kept_by n m None = sym (same_none (m == n))
in_kept_by n m (Some e) = refl

in_kept : (n : ℕ) (es : List JournalEntry) → ids_in n (kept_in es) ≡ kept_at n es
in_kept n [] = refl
in_kept n (e ∷ es) = ids_in-append n (kept_in es) (kept_by e.0 (keeps e.1)) ∙ ap₂ (λ p q. p ++ q) (in_kept n es) (in_kept_by n e.0 (keeps e.1))

kept_at-append : (n : ℕ) (es fs : List JournalEntry) → kept_at n (es ++ fs) ≡ kept_at n fs ++ kept_at n es
kept_at-append n [] fs = sym (append-nil (kept_at n fs))
kept_at-append n (e ∷ es) fs = ap (λ q. q ++ cond (e.0 == n) (kept_id (keeps e.1)) []) (kept_at-append n es fs)
    ∙ append_assoc (kept_at n fs) (kept_at n es) (cond (e.0 == n) (kept_id (keeps e.1)) [])

at_kept : (n : ℕ) (j : Journal) → ids_at n (map kept_in j) ≡ kept_at n (entries j)
at_kept n [] = refl
at_kept n (es ∷ older) = ap₂ (λ p q. p ++ q) (at_kept n older) (in_kept n es) ∙ sym (kept_at-append n es (entries older))

pub nodes_kept : (ss : List Shape) (h : LinkedData) (n : ℕ) → IsLinkedData ss h.catalog h.datas h.journal h.revision → n < length h.datas
    → HoldsNodes (held_at h n) (data_at h.datas n) → NodesAreKept h n
nodes_kept ss h n is l holds =
    record {
      held = λ a.
          let here : times a (held_at h n)
          ≡ cond {A = ℕ} (has (as_table (data_at h.datas n)) a) 1 0 + cond {A = ℕ} (is_some (kept_of (data_at h.datas n).kept a)) 1 0 = holds.each a in
          let live : cond {A = ℕ} (has (as_table (data_at h.datas n)) a) 1 0 ≡ cond {A = ℕ} (has (table_of (meaning h) n) a) 1 0 =
          ap (λ t. cond {A = ℕ} (has t a) 1 0) (sym (table_at h.datas n _ l)) in
          let noted_ : times a (ids_at n (kept_rows h)) ≡ cond {A = ℕ} (is_some (kept_of (data_at h.datas n).kept a)) 1 0 = each a in
          omega (arith, here, live, noted_);
      once = holds.once;
      kept = each;
      gone = (is.linked.each n l).gone;
    }
  where
    each : (a : ℕ) → times a (ids_at n (kept_rows h)) ≡ cond {A = ℕ} (is_some (kept_of (data_at h.datas n).kept a)) 1 0
    each a = ap (times a) (at_kept n h.journal) ∙ kept_names h.catalog (entries h.journal) h.datas is.linked.holds n a l

pub join_keeps : (j : Journal) → length j ≢ 1 → map kept_in (top_joined j) ≡ kept_on_squash (map kept_in j)
join_keeps [] more = refl
join_keeps (es ∷ []) more = absurd (more refl)
join_keeps (es ∷ below ∷ older) more = kept_joined es below older

pub end_keeps : (n x : ℕ) (h : LinkedData) (j : Journal) → j ≡ take (length h.journal - n) h.journal → n ≡ ending x (meaning h)
    → map kept_in j ≡ kept_after (Commit x) (meaning h) (kept_rows h)
end_keeps n x h j is ends =
    let long : length (meaning h).old ≡ length h.journal = length-old h.journal h.datas in
    ap (map kept_in) is ∙ sym (take-map kept_in (length h.journal - n) h.journal) ∙ ap₂ (λ d k. take (d - k) (map kept_in h.journal)) (sym long) ends

-- a change that kept what its inverse keeps
note_keeps : (n : ℕ) (i : Inverse) (j : Journal) → map kept_in (noted (n, i) j) ≡ kept_more (kept_by n (keeps i)) (map kept_in j)
note_keeps n i [] = refl
note_keeps n i (newest ∷ older) = refl

pub none_more : (s : KeptRows) → kept_more [] s ≡ s
none_more [] = refl
none_more (newest ∷ older) = ap (λ q. q ∷ older) (append-nil newest)

erased_has : (b : Bool) (t u : Table) → (cond {A = Outcome (Unit {0})} b (Ok tt, t) (Err NoId, u)).0 ≡ Ok tt → b ≡ true
erased_has true t u is = refl
erased_has false t u is = absurd (let h : Err NoId ≡ Ok tt = is in cc)

refused_has : (b : Bool) (t u : Table) (e : Refusal) → (cond {A = Outcome (Unit {0})} b (Ok tt, t) (Err NoId, u)).0 ≡ Err e → b ≡ false
refused_has true t u e is = absurd (let h : Ok tt ≡ Err e = is in cc)
refused_has false t u e is = refl

-- an erase of a row keeps it
pub erase_keeps : (n e : ℕ) (h new : LinkedData) (i : Inverse) → keeps i ≡ Some e → new.journal ≡ noted (n, i) h.journal
    → (erase_step n e (meaning h)).0 ≡ Ok tt
    → kept_rows new ≡ kept_after (Erase n e) (meaning h) (kept_rows h)
erase_keeps n e h new i keeps_ journal is =
    let there : has (table_of (meaning h) n) e ≡ true = erased_has _ _ _ is in
    ap (map kept_in) journal ∙ note_keeps n i h.journal
    ∙ ap₂ (λ o b. kept_more (kept_by n o) (map kept_in h.journal)) keeps_ there
    ∙ sym (ap (λ b. kept_more (cond b ((n, e) ∷ []) []) (map kept_in h.journal)) there)

pub erase_refused : (n e : ℕ) (h new : LinkedData) (f : Refusal) → new.journal ≡ h.journal → (erase_step n e (meaning h)).0 ≡ Err f
    → kept_rows new ≡ kept_after (Erase n e) (meaning h) (kept_rows h)
erase_refused n e h new f journal is =
    let none : has (table_of (meaning h) n) e ≡ false = refused_has _ _ _ f is in
    ap (map kept_in) journal ∙ sym (none_more (map kept_in h.journal)) ∙ sym (ap (λ b. kept_more (cond b ((n, e) ∷ []) []) (map kept_in h.journal)) none)

pub refused_keeps : (c : Command) (e : Refusal) (old new : LinkedData) → e ≢ Memory → kept_rows new ≡ kept_after c (meaning old) (kept_rows old)
    → KeptRefused c e old new
refused_keeps c Memory old new never is = absurd (never refl)
refused_keeps c e old new never is = is

pub met_refusal : {A S : Type 0} (step : Result A Refusal × S) (e : Refusal) (old new : S) → e ≢ Memory → MeetsRefusal step e old new → step.0 ≡ Err e
met_refusal step Memory old new never m = absurd (never refl)
met_refusal step e old new never m = m.0

-- a change that keeps no node
pub plain_keeps : (n : ℕ) (h new : LinkedData) (i : Inverse) → keeps i ≡ None → new.journal ≡ noted (n, i) h.journal
    → kept_rows new ≡ kept_more [] (kept_rows h)
plain_keeps n h new i keeps_ journal = ap (map kept_in) journal ∙ note_keeps n i h.journal ∙ ap (λ o. kept_more (kept_by n o) (map kept_in h.journal)) keeps_

same_keeps : (h new : LinkedData) → new.journal ≡ h.journal → kept_rows new ≡ kept_more [] (kept_rows h)
same_keeps h new journal = ap (map kept_in) journal ∙ sym (none_more (map kept_in h.journal))

nothing_or : (b : Bool) (x e : ℕ) (d : Data) → keeps (cond {A = Inverse} b Nothing (moved_back x e d)) ≡ None
nothing_or true x e d = refl
nothing_or false x e d = refl

pub relocate_keeps : (x e : ℕ) (b : Option ℕ) (d : Data) → keeps (relocate_inverse x e b d) ≡ None
relocate_keeps x e None d = refl
relocate_keeps x e (Some b) d = nothing_or (b == e) x e d

-- a modify keeps the row that it lost
lost_keeps : (o : Option (ℕ × ℕ)) (s : Shape) (n e : ℕ) (old : Data) (i : Inverse) (new : Data) → MakesModify o s e old i new
    → kept_by n (keeps i) ≡ lost_row (lost_answer o) (n, e)
lost_keeps None s n e old i new made = ap (λ q. kept_by n (keeps q)) made.1.inverse
lost_keeps (Some at) s n e old i new made = ap (λ q. kept_by n (keeps q)) made.inverse

met_answer : (step : Result (Unit {0}) Refusal × Database) (o : Option (ℕ × ℕ)) (old new : Database) → Meets step (lost_answer o) old new
    → step.0 ≡ lost_answer o
met_answer step None old new m = m.0
met_answer step (Some at) old new m = m.0

pub modify_keeps : (n e : ℕ) (edits : List Edit) (rollback : Bool) (h new : LinkedData) (s : Shape) (old : Data) (i : Inverse) (made_ : Data)
    (why : Option (ℕ × ℕ)) → MakesModify why s e old i made_ → new.journal ≡ noted (n, i) h.journal
    → Meets (modify_step n e edits rollback (meaning h)) (lost_answer why) (meaning h) (meaning new)
    → kept_rows new ≡ kept_after (Modify n e edits rollback) (meaning h) (kept_rows h)
modify_keeps n e edits rollback h new s old i made_ why makes journal meets =
    ap (map kept_in) journal ∙ note_keeps n i h.journal
    ∙ ap (λ q. kept_more q (map kept_in h.journal)) (lost_keeps why s n e old i made_ makes
    ∙ sym (ap (λ (r : Result (Unit {0}) Refusal). lost_row r (n, e))
    (met_answer (modify_step n e edits rollback (meaning h)) why (meaning h) (meaning new) meets)))

-- a refused change that keeps no node
pub kept_refusal : (c : Command) (e : Refusal) (old new : LinkedData) → new.journal ≡ old.journal → kept_after c (meaning old) (kept_rows old) ≡ kept_rows old
    → KeptRefused c e old new
kept_refusal c Memory old new journal stays = ap (map kept_in) journal
kept_refusal c e old new journal stays = ap (map kept_in) journal ∙ sym stays

no_loss : (e : Refusal) (row : ℕ × ℕ) → IsNoLoss e → lost_row {A = Unit {0}} (Err e) row ≡ []
no_loss (Lost x a) row none = absurd none
no_loss e row none = refl

-- a refused modify keeps no node
pub modify_refused : (n e : ℕ) (edits : List Edit) (rollback : Bool) (old new : LinkedData) (f : Refusal) → new.journal ≡ old.journal → IsNoLoss f
    → MeetsRefusal (modify_step n e edits rollback (meaning old)) f (meaning old) (meaning new) → KeptRefused (Modify n e edits rollback) f old new
modify_refused n e edits rollback old new Memory journal none m = ap (map kept_in) journal
modify_refused n e edits rollback old new f journal none m =
    same_keeps old new journal
    ∙ sym (ap (λ q. kept_more q (kept_rows old)) (ap (λ (r : Result (Unit {0}) Refusal). lost_row r (n, e)) m.0 ∙ no_loss f (n, e) none))

-- what a modify that answers its inverse keeps
pub modify_kept : (n e : ℕ) (edits : List Edit) (rollback : Bool) (old new : LinkedData) (a : Result (Unit {0}) Refusal) (o : Option (ℕ × ℕ))
    → a ≡ lost_answer o
    → kept_rows new ≡ kept_after (Modify n e edits rollback) (meaning old) (kept_rows old) → KeptAfter (Modify n e edits rollback) a old new
modify_kept n e edits rollback old new a None is kept = subst (λ (r : Result (Unit {0}) Refusal). KeptAfter (Modify n e edits rollback) r old new) (sym is) kept
modify_kept n e edits rollback old new a (Some at) is kept =
    subst (λ (r : Result (Unit {0}) Refusal). KeptAfter (Modify n e edits rollback) r old new) (sym is) kept

-- Erasing the rows of a key

kept_twice : (xs ys : List (ℕ × ℕ)) (s : KeptRows) → kept_more ys (kept_more xs s) ≡ kept_more (xs ++ ys) s
kept_twice xs ys [] = refl
kept_twice xs ys (newest ∷ older) = ap (λ q. q ∷ older) (append_assoc newest xs ys)

kept_result : {A : Type 0} (c : Command) (r : Result A Refusal) (old new : LinkedData) → r ≢ Err Memory → KeptAfter c r old new
    → kept_rows new ≡ kept_after c (meaning old) (kept_rows old)
kept_result c (Ok v) old new never is = is
kept_result {A} c (Err f) old new never is = refusal f (λ same. never (ap Err same)) is
  where
    refusal : (f : Refusal) → f ≢ Memory → KeptRefused c f old new → kept_rows new ≡ kept_after c (meaning old) (kept_rows old)
    refusal Memory never is = absurd (never refl)
    refusal f never is = is

pub first_keeps : (n x e : ℕ) (key : List Value) (old new : LinkedData) (r : Result (Unit {0}) Refusal) → n < length (meaning old).tables
    → ErasesFirst (schema_of (meaning old) n) (table_of (meaning old) n) x key e
    → meaning new ≡ with_table n (erase e (table_of (meaning old) n)) (meaning old) → r ≢ Err Memory → KeptAfter (Erase n e) r old new
    → kept_with n x key new ≡ kept_with n x key old
first_keeps n x e key old new r l first state never kept =
    let d : Database = meaning old in
    let row : ℕ → ℕ × ℕ = λ id. (n, id) in
    let there : table_of (with_table n (erase e (table_of d n)) d) n ≡ erase e (table_of d n) = get_or-set_same d.tables n (erase e (table_of d n)) _ l in
    let left : keyed n x key (meaning new) ≡ of_key (schema_of d n) (erase e (table_of d n)) x key = ap (keyed n x key) state
    ∙ ap (λ t. of_key (schema_of d n) t x key) there in
    let more : kept_rows new ≡ kept_more ((n, e) ∷ []) (kept_rows old) = kept_result (Erase n e) r old new never kept
    ∙ ap (λ b. kept_more (cond b ((n, e) ∷ []) []) (kept_rows old)) first.there in
    ap₂ (λ ids s. kept_more (map row ids) s) left more ∙ kept_twice ((n, e) ∷ []) (map row (of_key (schema_of d n) (erase e (table_of d n)) x key))
    (kept_rows old)
    ∙ sym (ap (λ ids. kept_more (map row ids) (kept_rows old)) first.split)

-- no session is open
pub none_kept : (h : LinkedData) → length h.journal ≡ 0 → kept_rows h ≡ []
none_kept h none = ap (map kept_in) (nil_from_length h.journal none)
