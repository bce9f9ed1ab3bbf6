-- A catalog of one table answers a line without a member `table` as that table by itself answers it.
-- Cited by `laws::one_table_answers_alone`.
use Rattle.std.proofs.Common.{◌≡◌, ℕ, zero, suc, List, [], ◌∷◌, length, Bool, true, false, cond, not, ◌&&◌, ◌||◌, Option, Some, None}
use Rattle.std.proofs.Common.{Result, Ok, Err, IfSome, IfOk, codes, refl, sym, ap, ◌∙◌, inl, inr, true≢false}
use Rattle.std.specs.Option.{option_and_then, ok_or}
use Rattle.std.specs.List.{filter, list_any}
use Rattle.std.specs.Str.{bytes_eq}
use Rattle.std.specs.Ordering.{nat_cmp, match_ordering, is_eq}
use Rattle.std.specs.declared.cmp.Ordering.{Ordering}
use Rattle.std.specs.declared.cmp.Ordering.TheVariants.{Less, Equal, Greater}
use Rattle.std.specs.Cmp.Lexicographic.{slice_cmp}
use Rattle.std.proofs.lemmas.List.{length-map}
use Rattle.std.proofs.lemmas.Map.Text.{is_eq-slice_cmp}
use Rattle.std.proofs.lemmas.Slice.Eq.{bytes_eq-Decides}
use Rattle.serde_json.specs.Data.{Data, Members, no_members, member}
use Rattle.serde_json.specs.Find.{get_member, as_object}
use Rattle.mi_value.specs.declared.value.Value.{Value}
use Rattle.mi_value.specs.declared.refusal.Refusal.{Refusal}
use Rattle.mi_value.specs.declared.refusal.Refusal.TheVariants as refusal
use Rattle.mi_value.specs.declared.refusal.NoSession.{NoSession}
use Rattle.mi_catalog.specs.Shape.{Shape, CatalogShape}
use Rattle.mi_model.specs.Table.{Table}
use Rattle.mi_model.specs.Database.{Database, Step, depth}
use Rattle.mi_model.specs.OneTable as one
use Rattle.mi_model.specs.OneTable.{OneTable, IsAsOneTable, in_catalog}
use Rattle.mi_model.proofs.OneTableLaws.{one_table_as_before}
use Rattle.mi_request.specs.Json.{has_only}
use Rattle.mi_request.specs.Commands.{Asks, a_change, a_number_look_up, a_key_look_up, of_sessions, Form, with_table, member_names, asked, keeps_out, names_table}
use Rattle.mi_request.proofs.FormLemmas.{asked_names}
use Rattle.mi_request.specs.Lines.{json_of, request_by, form_in, request_in, request_or_refusal, command_line}
use Rattle.mi_request.specs.declared.request.Request.{Request}
use Rattle.mi_request.specs.declared.request.Request.TheVariants as request
use Rattle.mi_protocol.specs.FirstTable.{IsOverFirst}
use Rattle.mi_protocol.proofs.FirstTableLaws.{no_name_is_the_first}
use Rattle.mi_protocol.specs.Binding.{bound_command}
use Rattle.mi_protocol.specs.Replies as say
use Rattle.mi_protocol.specs.Replies.{Said, reply_text}
use Rattle.mi_request.specs.declared.request.SessionCommand.{SessionCommand}
use Rattle.mi_request.specs.declared.request.SessionCommand.TheVariants as session
use Rattle.mi_protocol.specs.declared.changes.Change.{Change}
use Rattle.mi_protocol.specs.declared.changes.Change.TheVariants as change
use Rattle.mi_protocol.specs.declared.command.Command.{Command}
use Rattle.mi_protocol.specs.declared.command.Command.TheVariants as command
use Rattle.mi_protocol.specs.declared.look_ups.KeyLookUp.{KeyLookUp}
use Rattle.mi_protocol.specs.declared.look_ups.KeyLookUp.TheVariants as by_key
use Rattle.mi_protocol.specs.declared.look_ups.NumberLookUp.{NumberLookUp}
use Rattle.mi_protocol.specs.declared.look_ups.NumberLookUp.TheVariants as by_number
use Rattle.mi_commands.specs.Asked.{Asked, text, too_long}
use Rattle.mi_commands.specs.Holder.{HeldDatabase, is_busy, one_more, one_less, at_most, held_by}
use Rattle.mi_commands.specs.Performed.{performed, said_of, all_done, holder_after, or_session, found, show_found}
use Rattle.mi_commands.specs.Performed.{number_look_up_said, key_look_up_said}
use Rattle.mi_commands.specs.Answer.{answer, command_of, command_answer, MayGive}
use Rattle.mi_commands.specs.Alone.{HeldTable, request_without, request_alone, read_alone, line_alone, bound_alone}
use Rattle.mi_commands.specs.Alone.{change_alone, session_alone, performed_alone, command_alone, done_alone, answer_alone, refusal_alone, modify_refusal_alone, text_alone}
use Rattle.mi_commands.specs.Alone.{held_in_catalog, HasNoTable, MayGiveAlone, AnsweredAlone, OneTableAnswersAlone, OneTableMayGive}
use Rattle.mi_commands.specs.declared.holder.Holder.{Holder}

-- ---- reading

abbrev the_table : List ℕ
the_table = codes "table"

by_order : {A : Type 0} (o : Ordering) (a b : A) → match_ordering o a b a ≡ cond (is_eq o) b a
by_order Less a b = refl
by_order Equal a b = refl
by_order Greater a b = refl

get_front : (l : List ℕ) (e : Data) (ms : Members) → get_member the_table (member l e ms) ≡ cond (bytes_eq the_table l) (Some e) (get_member the_table ms)
get_front l e ms =
    by_order (slice_cmp nat_cmp the_table l) (get_member the_table ms) (Some e)
    ∙ ap (λ b. cond b (Some e) (get_member the_table ms)) (is_eq-slice_cmp the_table l)

-- a member in front of members is another, and so are those behind it
other_front : (b : Bool) (e : Data) (o : Option Data) → cond b (Some e) o ≡ None → (b ≡ false) × (o ≡ None)
other_front true e o is = absurd (some is)
  where
    some : Some e ≡ None → ⊥
    some h = cc
other_front false e o is = (refl, is)

-- a name that is `table` isn't one that isn't
apart : (k n : List ℕ) → bytes_eq the_table k ≡ false → bytes_eq n the_table ≡ true → (b : Bool) → bytes_eq k n ≡ b → b ≡ false
apart k n other same false is = refl
apart k n other same true is =
    let k_is : k ≡ the_table = (bytes_eq-Decides k n).0 is ∙ (bytes_eq-Decides n the_table).0 same in
    absurd (true≢false (sym ((bytes_eq-Decides the_table k).1 (sym k_is)) ∙ other))

abbrev less : List (List ℕ) → List (List ℕ)
less names = filter (λ n. not (bytes_eq n the_table)) names

found_at : (k n : List ℕ) → bytes_eq the_table k ≡ false → (names : List (List ℕ))
    → list_any (λ m. bytes_eq k m) names ≡ list_any (λ m. bytes_eq k m) (less names) → (b : Bool) → bytes_eq n the_table ≡ b
    → (bytes_eq k n || list_any (λ m. bytes_eq k m) names) ≡ list_any (λ m. bytes_eq k m) (cond (not b) (n ∷ less names) (less names))
found_at k n other names later true is = ap (λ b. b || list_any (λ m. bytes_eq k m) names) (apart k n other is (bytes_eq k n) refl) ∙ later
found_at k n other names later false is = ap (λ b. bytes_eq k n || b) later

-- a name that isn't `table` is found in a list of names whether or not `table` is in it
found_without : (k : List ℕ) → bytes_eq the_table k ≡ false → (names : List (List ℕ))
    → list_any (λ n. bytes_eq k n) names ≡ list_any (λ n. bytes_eq k n) (less names)
found_without k other [] = refl
found_without k other (n ∷ names) = found_at k n other names (found_without k other names) (bytes_eq n the_table) refl

-- members without `table` have no other names than these where they have no other than these without `table`
only_without : (names : List (List ℕ)) (ms : Members) → get_member the_table ms ≡ None
    → has_only names ms ≡ has_only (less names) ms
unfolding has_only
only_without names no_members none = refl
only_without names (member k d ms) none =
    let apart = other_front (bytes_eq the_table k) d (get_member the_table ms) (sym (get_front k d ms) ∙ none) in
    (λ i. found_without k apart.0 names i && only_without names ms apart.1 i)

-- ---- a request of such members names no table

abbrev NoName : Option Request → Type 0
NoName o = IfSome o (λ r. names_table r ≡ false)

-- the names of a form are those without `table`, and perhaps that
less_table : (asks : Asks) (names : List (List ℕ)) → less (codes "cmd" ∷ with_table asks names) ≡ less (codes "cmd" ∷ names)
less_table (a_change f) names = refl
less_table (a_number_look_up f) names = refl
less_table (a_key_look_up f) names = refl
less_table (of_sessions f) names = refl

module _ (ms : Members) (none : get_member the_table ms ≡ None) where
  kept : (b : Bool) (o : Option Request) → NoName o → NoName (cond b o None)
  kept true o h = h
  kept false o h = tt

  request_names : (form : Option Form) → NoName (option_and_then (request_by ms) form)
  request_names None = tt
  request_names (Some form) = kept (has_only (codes "cmd" ∷ member_names form) ms) (asked form.asks ms) (asked_names ms none form.asks)

  only_same : (form : Form) → has_only (codes "cmd" ∷ member_names form) ms ≡ has_only (codes "cmd" ∷ form.members) ms
  only_same form =
      only_without (codes "cmd" ∷ member_names form) ms none ∙ ap (λ names. has_only names ms) (less_table form.asks form.members)
      ∙ sym (only_without (codes "cmd" ∷ form.members) ms none)

  request_same : (form : Option Form) → option_and_then (request_by ms) form ≡ option_and_then (request_without ms) form
  request_same None = refl
  request_same (Some form) = ap (λ b. cond b (asked form.asks ms) None) (only_same form)

abbrev OfOne : Result Request Refusal → Type 0
OfOne r = IfOk r (λ q. names_table q ≡ false)

object_same : (o : Option Members) → option_and_then (get_member the_table) o ≡ None → option_and_then request_in o ≡ option_and_then request_alone o
object_same None none = refl
object_same (Some ms) none = request_same ms none (form_in ms)

object_names : (o : Option Members) → option_and_then (get_member the_table) o ≡ None → NoName (option_and_then request_in o)
object_names None none = tt
object_names (Some ms) none = request_names ms none (form_in ms)

or_form : (o : Option Request) → NoName o → OfOne (ok_or o refusal.Form)
or_form (Some r) h = h
or_form None h = tt

line_same : (d : Option Data) → option_and_then (get_member the_table) (option_and_then as_object d) ≡ None → request_or_refusal d ≡ read_alone d
line_same None none = refl
line_same (Some d) none = ap (λ o. ok_or o refusal.Form) (object_same (as_object d) none)

line_names : (d : Option Data) → option_and_then (get_member the_table) (option_and_then as_object d) ≡ None → OfOne (request_or_refusal d)
line_names None none = tt
line_names (Some d) none = or_form (option_and_then request_in (as_object d)) (object_names (as_object d) none)

-- ---- binding

module _ (first : ℕ) (s : Shape) where
  abbrev of_one : CatalogShape
  of_one = record { tables = s ∷ []; first_revision = first }

  bound_same : (r : Request) → names_table r ≡ false → bound_command of_one r ≡ bound_alone s r
  bound_same (request.Change (Some name) r) none = absurd (cc)
  bound_same (request.NumberLookUp (Some name) r) none = absurd (cc)
  bound_same (request.KeyLookUp (Some name) r) none = absurd (cc)
  bound_same r none = refl

  -- ---- the text of a reply

  refusal_same : (e : Refusal) → say.refusal_text of_one 0 e ≡ refusal_alone s e
  refusal_same refusal.Line = refl
  refusal_same refusal.Json = refl
  refusal_same refusal.Form = refl
  refusal_same refusal.Busy = refl
  refusal_same refusal.NoTable = refl
  refusal_same refusal.Index = refl
  refusal_same refusal.Kind = refl
  refusal_same refusal.Row = refl
  refusal_same refusal.Key = refl
  refusal_same refusal.NoId = refl
  refusal_same refusal.Range = refl
  refusal_same refusal.Full = refl
  refusal_same refusal.Spent = refl
  refusal_same (refusal.Unique index id) = refl
  refusal_same (refusal.Lost index id) = refl
  refusal_same refusal.Depth = refl
  refusal_same refusal.Session = refl
  refusal_same refusal.Memory = refl

  modify_refusal_same : (e : Refusal) → say.modify_refusal_text of_one 0 e ≡ modify_refusal_alone s e
  modify_refusal_same refusal.Line = refl
  modify_refusal_same refusal.Json = refl
  modify_refusal_same refusal.Form = refl
  modify_refusal_same refusal.Busy = refl
  modify_refusal_same refusal.NoTable = refl
  modify_refusal_same refusal.Index = refl
  modify_refusal_same refusal.Kind = refl
  modify_refusal_same refusal.Row = refl
  modify_refusal_same refusal.Key = refl
  modify_refusal_same refusal.NoId = refl
  modify_refusal_same refusal.Range = refl
  modify_refusal_same refusal.Full = refl
  modify_refusal_same refusal.Spent = refl
  modify_refusal_same (refusal.Unique index id) = refl
  modify_refusal_same (refusal.Lost index id) = refl
  modify_refusal_same refusal.Depth = refl
  modify_refusal_same refusal.Session = refl
  modify_refusal_same refusal.Memory = refl

  -- a reply over table 0
  abbrev IsFirst : Said → Type 0
  IsFirst (say.shown n id row) = n ≡ 0
  IsFirst (say.rows n records more) = n ≡ 0
  IsFirst (say.refused_modify n e) = n ≡ 0
  IsFirst (say.refused n e) = n ≡ 0
  IsFirst other = Unit {0}

  text_same : (said : Said) → IsFirst said → reply_text of_one said ≡ text_alone s said
  text_same (say.inserted id) h = refl
  text_same say.done h = refl
  text_same (say.erased n) h = refl
  text_same (say.shown zero id row) h = refl
  text_same (say.shown (suc n) id row) h = absurd (cc)
  text_same (say.revised n) h = refl
  text_same (say.committed n) h = refl
  text_same (say.undone n) h = refl
  text_same (say.pushed n) h = refl
  text_same (say.status depth held revision) h = refl
  text_same (say.counted n) h = refl
  text_same (say.ranked n) h = refl
  text_same (say.sized n) h = refl
  text_same (say.rows zero records more) h = refl
  text_same (say.rows (suc n) records more) h = absurd (cc)
  text_same (say.refused_modify zero e) h = modify_refusal_same e
  text_same (say.refused_modify (suc n) e) h = absurd (cc)
  text_same (say.refused zero e) h = refusal_same e
  text_same (say.refused (suc n) e) h = absurd (cc)

  said_first : {A : Type 0} (accepted : A → Said) (refused : Refusal → Said) (r : Result A Refusal) → ((a : A) → IsFirst (accepted a))
      → ((e : Refusal) → IsFirst (refused e)) → IsFirst (said_of accepted refused r)
  said_first accepted refused (Ok a) h k = h a
  said_first accepted refused (Err e) h k = k e

  found_first : (id : ℕ) (o : Option (List Value)) → IsFirst (found 0 id o)
  found_first id None = refl
  found_first id (Some row) = refl

  shown_first : (t : Table) (o : Option ℕ) → IsFirst (show_found 0 t o)
  shown_first t None = refl
  shown_first t (Some id) = found_first id _

  either_first : (b : Bool) (x y : Said) → IsFirst x → IsFirst y → IsFirst (cond b x y)
  either_first true x y h k = h
  either_first false x y h k = k

  number_first : (t : Table) (x : NumberLookUp) → IsFirst (number_look_up_said 0 s t x)
  number_first t by_number.Size = tt
  number_first t x = search (found_first, shown_first, either_first)

  key_first : (t : Table) (x : KeyLookUp) → IsFirst (key_look_up_said 0 s t x)
  key_first t (by_key.Count x key) = tt
  key_first t x = search shown_first

  module _ (d : HeldTable) (conn : ℕ) where
    change_first : (x : Change) → IsFirst (change_alone s d x).0
    change_first (change.Insert row before) = said_first say.inserted (say.refused 0) _ (λ a. tt) (λ e. refl)
    change_first (change.Replace id row) = said_first all_done (say.refused 0) _ (λ a. tt) (λ e. refl)
    change_first (change.Modify id edits rollback) = said_first all_done (say.refused_modify 0) _ (λ a. tt) (λ e. refl)
    change_first (change.Erase id) = said_first all_done (say.refused 0) _ (λ a. tt) (λ e. refl)
    change_first (change.EraseKey x key) = tt
    change_first (change.Relocate x id before) = said_first all_done (say.refused 0) _ (λ a. tt) (λ e. refl)

    session_first : (x : SessionCommand) → IsFirst (session_alone d conn x).0
    session_first session.Start = said_first say.revised (say.refused 0) _ (λ a. tt) (λ e. refl)
    session_first session.Undo = said_first say.revised (say.refused 0) _ (λ a. tt) (λ e. refl)
    session_first session.Squash = said_first say.revised (say.refused 0) _ (λ a. tt) (λ e. refl)
    session_first x = tt

    performed_first : (c : Command) → IsFirst (performed_alone s d conn c).0
    performed_first (command.Change n x) = change_first x
    performed_first (command.NumberLookUp n x) = number_first d.database.table x
    performed_first (command.KeyLookUp n x) = key_first d.database.table x
    performed_first (command.Session x) = session_first x

    done_first : (c : Result Command Refusal) → IsFirst (done_alone s d conn c).0
    done_first (Ok c) = performed_first c
    done_first (Err e) = refl

    -- ---- what a command says and leaves

    abbrev here : HeldDatabase
    here = held_in_catalog first s d

    abbrev and_here : Said × HeldTable → Said × HeldDatabase
    and_here a = (a.0, held_in_catalog first s a.1)

    law : IsAsOneTable first s d.database
    law = one_table_as_before first s d.database

    kept_long : (e : OneTable) → depth (in_catalog first s e) ≡ length e.old
    kept_long e = length-map e.old (λ (t : Table). t ∷ [])

    abbrev and_here_held : Result ℕ Refusal × OneTable → Option Holder → Said × HeldDatabase
    and_here_held step holder =
        (said_of say.committed (say.refused 0) step.0, record { database = in_catalog first s step.1; holder = holder })

    abbrev stepped_down : Result ℕ Refusal → Database → Said × HeldDatabase
    stepped_down answer left = (said_of say.revised (say.refused 0) answer, record { database = left; holder = holder_after answer one_less d.holder })

    change_same : (x : Change) → performed here conn (command.Change 0 x) ≡ and_here (change_alone s d x)
    change_same (change.Insert row before) = refl
    change_same x = refl

    session_same : (x : SessionCommand) → performed here conn (command.Session x) ≡ and_here (session_alone d conn x)
    session_same session.Start =
        ap (λ (step : Step ℕ).
        (said_of say.revised (say.refused 0) step.0, record { database = step.1; holder = holder_after step.0 (one_more conn) d.holder })) law.start
    session_same session.Undo =
        ap (λ (step : Result ℕ NoSession × Database). stepped_down (or_session step.0) step.1) law.undo
    session_same session.Squash =
        ap (λ (step : Result ℕ NoSession × Database). stepped_down (or_session step.0) step.1) law.squash
    session_same (session.Commit revision) =
        ap (λ (step : Step ℕ). (said_of say.committed (say.refused 0) step.0, record { database = step.1; holder = at_most (depth step.1) d.holder }))
        (law.commit revision)
        ∙ ap (λ n. and_here_held (one.commit revision d.database) (at_most n d.holder)) (kept_long (one.commit revision d.database).1)
    session_same session.UndoAll =
        ap (λ (step : Step ℕ). (said_of say.undone (say.refused 0) step.0, record { database = step.1; holder = None })) law.undo_all
    session_same session.Revision = ap (λ n. (say.status n (held_by conn d.holder) d.database.revision, here)) (kept_long d.database)
    session_same x = refl

    performed_same : (c : Command) → IsOverFirst c → performed here conn c ≡ and_here (performed_alone s d conn c)
    performed_same (command.Change zero x) h = change_same x
    performed_same (command.Change (suc n) x) h = absurd (cc)
    performed_same (command.NumberLookUp zero x) h = refl
    performed_same (command.NumberLookUp (suc n) x) h = absurd (cc)
    performed_same (command.KeyLookUp zero x) h = refl
    performed_same (command.KeyLookUp (suc n) x) h = absurd (cc)
    performed_same (command.Session x) h = session_same x

    done_same : (c : Result Command Refusal) → IfOk c IsOverFirst → command_answer here conn c ≡ and_here (done_alone s d conn c)
    done_same (Ok c) h = performed_same c h
    done_same (Err e) h = refl

    -- ---- from a request to the answer

    command_same : (r : Result Request Refusal) → OfOne r → command_of here conn r ≡ command_alone s d conn r
    command_same (Ok r) h = ap (λ c. cond (keeps_out r && is_busy d.holder conn) (Err refusal.Busy) c) (bound_same r h)
    command_same (Err e) h = refl

    kept_first : (b : Bool) (c : Result Command Refusal) → IfOk c IsOverFirst → IfOk (cond b (Err refusal.Busy) c) IsOverFirst
    kept_first true c h = tt
    kept_first false c h = h

    command_first : (r : Result Request Refusal) → OfOne r → IfOk (command_of here conn r) IsOverFirst
    command_first (Ok r) h = kept_first (keeps_out r && is_busy d.holder conn) (bound_command of_one r) (no_name_is_the_first of_one r h)
    command_first (Err e) h = tt

    answer_same : (line : Asked) → HasNoTable line → answer here conn line ≡ and_here (answer_alone s d conn line)
    answer_same (text t) none =
        done_same (command_of here conn (command_line t)) (command_first (command_line t) (line_names (json_of t) none))
        ∙ ap (λ c. and_here (done_alone s d conn c))
        (command_same (command_line t) (line_names (json_of t) none) ∙ ap (command_alone s d conn) (line_same (json_of t) none))
    answer_same too_long none = refl

    answer_first : (line : Asked) → IsFirst (answer_alone s d conn line).0
    answer_first (text t) = done_first (command_alone s d conn (line_alone t))
    answer_first too_long = refl

    answered_alone : (line : Asked) → HasNoTable line → AnsweredAlone first s d conn line
    answered_alone line none = record {
      reply = ap (λ a. reply_text of_one a.0) (answer_same line none) ∙ text_same (answer_alone s d conn line).0 (answer_first line);
      left = ap (λ a. a.1) (answer_same line none);
    }

    module _ (line : Asked) (reply : List ℕ) (t : HeldDatabase) (none : HasNoTable line) where
      abbrev GivenAlone : Type 0
      GivenAlone = (e : HeldTable) × (t ≡ held_in_catalog first s e) × MayGiveAlone s conn d line reply e

      given_alone : MayGive conn here line reply t → GivenAlone
      given_alone (inl p) = ((answer_alone s d conn line).1, p.1 ∙ (answered_alone line none).left, inl (p.0 ∙ (answered_alone line none).reply, refl))
      given_alone (inr p) = (d, p.1.1, inr (p.0, p.1.0, refl))

      alone_given : GivenAlone → MayGive conn here line reply t
      alone_given g = elim g.2 [
        | inl p ↦ inl (p.0 ∙ sym (answered_alone line none).reply, g.1 ∙ ap (held_in_catalog first s) p.1 ∙ sym (answered_alone line none).left)
        | inr p ↦ inr (p.0, (p.1, g.1 ∙ ap (held_in_catalog first s) p.2))
      ]

pub one_table_answers_alone : OneTableAnswersAlone
one_table_answers_alone first s d conn line none = answered_alone first s d conn line none

pub one_table_may_give : OneTableMayGive
one_table_may_give first s d conn line reply t none = (given_alone first s d conn line reply t none, alone_given first s d conn line reply t none)
