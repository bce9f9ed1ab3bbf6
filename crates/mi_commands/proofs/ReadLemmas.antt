-- From the command that a line is to its answer.
-- Cited by `Executor::answer_read`, `Executor::answer_text` and `Executor::ask_numbers`.
use Rattle.std.proofs.Common.{◌≡◌, ℕ, List, Bool, true, false, cond, ◌&&◌, Option, Some, Result, Ok, Err, refl, sym, ap, ◌∙◌, inl, inr, subst, true≢false}
use Rattle.std.specs.Prelude.{IfOk}
use Rattle.mi_value.specs.declared.refusal.Refusal.{Refusal}
use Rattle.mi_value.specs.declared.refusal.Refusal.TheVariants.{Busy, Memory}
use Rattle.mi_catalog.specs.Shape.{Shape, CatalogShape, schema_at}
use Rattle.mi_request.specs.Answers.{IsAnswer}
use Rattle.mi_request.specs.Lines.{command_line}
use Rattle.mi_request.specs.Short.{short_line, asked_short}
use Rattle.mi_request.specs.Commands.{keeps_out}
use Rattle.mi_request.specs.declared.request.Request.{Request}
use Rattle.mi_request.specs.declared.request.NumberLookUpRequest.{NumberLookUpRequest}
use Rattle.mi_request.specs.declared.request.NumberLookUpRequest.TheVariants as number_request
use Rattle.mi_request.specs.declared.request.Request.TheVariants as request
use Rattle.mi_request.specs.declared.request.ShortRequest.{ShortRequest}
use Rattle.mi_request.specs.declared.request.ShortRequest.TheVariants as short
use Rattle.mi_request.proofs.ShortLemmas.{short_means}
use Rattle.mi_protocol.specs.Binding.{and_then, bound_number_look_up, bound_command, index_number, table_number}
use Rattle.mi_catalog.specs.Kinds.{is_ranked}
use Rattle.mi_model.specs.Table.{Table, has}
use Rattle.mi_model.specs.Database.{schema_of, table_of}
use Rattle.mi_protocol.specs.Replies.{Said, refused, reply_text, is_short}
use Rattle.mi_protocol.specs.declared.command.Command.{Command}
use Rattle.mi_protocol.specs.declared.command.Command.TheVariants as command
use Rattle.mi_protocol.specs.declared.look_ups.NumberLookUp.{NumberLookUp}
use Rattle.mi_protocol.specs.declared.look_ups.NumberLookUp.TheVariants as by_number
use Rattle.mi_commands.specs.Asked.{text}
use Rattle.mi_commands.specs.Answer.{needs_none, Lacks, TakesNone, command_answer, command_of, command_changes, AnsweredOrMemory, IsAnswered, IsAsked, MayAnswer}
use Rattle.mi_commands.specs.Holder.{HeldDatabase, is_busy}
use Rattle.mi_commands.specs.Performed.{performed, number_look_up_said, number_looked}

not_true : {A : Type 0} → false ≡ true → A
not_true e = absurd (true≢false (sym e))

either_short : (b : Bool) (x y : Said) → is_short x ≡ true → is_short y ≡ true → is_short (cond b x y) ≡ true
either_short true x y h k = h
either_short false x y h k = k

-- what a look-up by numbers that needs no memory says shows no record
numbers_short : (n : ℕ) (s u : Shape) (t : Table) (name : Option (List ℕ)) (r : NumberLookUpRequest) → needs_none (request.NumberLookUp name r) ≡ true
    → IfOk (bound_number_look_up s r) (λ x. is_short (number_look_up_said n u t x) ≡ true)
numbers_short n s u t name (number_request.Rank index id) none = by_index (index_number is_ranked s index)
  where
    by_index : (i : Result ℕ Refusal) → IfOk (and_then (λ x. Ok (by_number.Rank x id)) i) (λ x. is_short (number_look_up_said n u t x) ≡ true)
    by_index (Ok x) = either_short (has t id) _ _ refl refl
    by_index (Err e) = tt
numbers_short n s u t name number_request.Size none = refl
numbers_short n s u t name r none = not_true none

-- a request that needs no memory is a command that lacks none
module _ (s : HeldDatabase) (conn : ℕ) where
  abbrev LacksNone : Command → Type 0
  LacksNone c = Lacks c (performed s conn c).0 → ⊥

  numbers_over : (n : ℕ) (b : Result NumberLookUp Refusal) → IfOk b (λ x. is_short (number_looked s.database n x) ≡ true)
      → IfOk (and_then (λ x. Ok (command.NumberLookUp n x)) b) LacksNone
  numbers_over n (Ok x) rowless = λ lacks. true≢false (sym rowless ∙ lacks)
  numbers_over n (Err e) rowless = tt

  numbers_bound : (catalog : CatalogShape) (table : Result ℕ Refusal) (name : Option (List ℕ)) (r : NumberLookUpRequest)
      → needs_none (request.NumberLookUp name r) ≡ true
      → IfOk (and_then (λ n. and_then (λ x. Ok (command.NumberLookUp n x)) (bound_number_look_up (schema_at catalog n) r)) table) LacksNone
  numbers_bound catalog (Ok n) name r none =
      numbers_over n (bound_number_look_up (schema_at catalog n) r)
      (numbers_short n (schema_at catalog n) (schema_of s.database n) (table_of s.database n) name r none)
  numbers_bound catalog (Err e) name r none = tt

  bound_without : (catalog : CatalogShape) (r : Request) → needs_none r ≡ true → IfOk (bound_command catalog r) LacksNone
  bound_without catalog (request.Change table r) none = not_true none
  bound_without catalog (request.NumberLookUp table r) none = numbers_bound catalog (table_number catalog table) table r none
  bound_without catalog (request.KeyLookUp table r) none = not_true none
  bound_without catalog (request.Session x) none = λ lacks. true≢false (sym none ∙ lacks)

  none_bound : (catalog : CatalogShape) (r : Request) (c : Command) → needs_none r ≡ true → bound_command catalog r ≡ Ok c → LacksNone c
  none_bound catalog r c none is = subst (λ b. IfOk b LacksNone) is (bound_without catalog r none)

-- ---- requests

module _ (s : HeldDatabase) (conn : ℕ) (r : Request) (reply : List ℕ) where
  -- a request that isn't kept out is what it is bound to
  free_is : (keeps_out r && is_busy s.holder conn) ≡ false → command_of s conn (Ok r) ≡ bound_command s.database.catalog r
  free_is free = ap (λ b. cond b (Err Busy) (bound_command s.database.catalog r)) free

  -- this command
  pub done_asked : (c : Command) (changed : Bool) (new : HeldDatabase) → (keeps_out r && is_busy s.holder conn) ≡ false
      → bound_command s.database.catalog r ≡ Ok c → IsAnswered s conn c reply changed new → IsAsked s conn r reply changed new
  done_asked c changed new free is done =
      subst (λ x. AnsweredOrMemory (needs_none r ≡ false) (command_answer s conn x) (command_changes s conn x) s reply changed new)
      (sym (free_is free ∙ is)) (elim done [
        | inl p ↦ inl p
        | inr p ↦ inr (none_needed (needs_none r) refl c is p.0, p.1, p.2)
      ])
    where
      none_needed : (b : Bool) → needs_none r ≡ b → (c : Command) → bound_command s.database.catalog r ≡ Ok c → Lacks c (performed s conn c).0
          → needs_none r ≡ false
      none_needed false none c is lacks = none
      none_needed true none c is lacks = absurd (none_bound s conn s.database.catalog r c none is lacks)

  -- or a refusal
  pub refused_asked : (e : Refusal) → (keeps_out r && is_busy s.holder conn) ≡ false → IsAnswer (Err e) (bound_command s.database.catalog r)
      → (e ≡ Memory → needs_none r ≡ false) → reply ≡ reply_text s.database.catalog (refused 0 e) → IsAsked s conn r reply false s
  refused_asked Memory free is lacks said = inr (lacks refl, (said, refl), refl)
  refused_asked e free is lacks said =
      subst (λ x. AnsweredOrMemory (needs_none r ≡ false) (command_answer s conn x) (command_changes s conn x) s reply false s)
      (sym (free_is free ∙ is)) (inl ((said, refl), refl))

  -- one that takes no memory
  pub refused_without : (e : Refusal) → (keeps_out r && is_busy s.holder conn) ≡ false → Err e ≡ bound_command s.database.catalog r
      → reply ≡ reply_text s.database.catalog (refused 0 e) → IsAsked s conn r reply false s
  refused_without e free is said =
      subst (λ x. AnsweredOrMemory (needs_none r ≡ false) (command_answer s conn x) (command_changes s conn x) s reply false s)
      (is ∙ sym (free_is free)) (inl ((said, refl), refl))

  pub busy_asked : (keeps_out r && is_busy s.holder conn) ≡ true → reply ≡ reply_text s.database.catalog (refused 0 Busy) → IsAsked s conn r reply false s
  busy_asked busy said =
      subst (λ b. AnsweredOrMemory (needs_none r ≡ false) (command_answer s conn (cond b (Err Busy) (bound_command s.database.catalog r)))
      (command_changes s conn (cond b (Err Busy) (bound_command s.database.catalog r))) s reply false s) (sym busy) (inl ((said, refl), refl))

-- ---- lines

module _ (s : HeldDatabase) (conn : ℕ) (bytes reply : List ℕ) where
  -- a line is answered as its request; s may be known under another name
  pub line_asked : (r : Request) (changed : Bool) (new : HeldDatabase) → command_line bytes ≡ Ok r → IsAsked s conn r reply changed new
      → MayAnswer conn s (text bytes) reply changed new
  line_asked r changed new is asked =
      subst (λ x. AnsweredOrMemory (¬ TakesNone bytes) (command_answer s conn (command_of s conn x)) (command_changes s conn (command_of s conn x)) s reply changed new)
      (sym is) (elim asked [
        | inl p ↦ inl p
        | inr p ↦ inr (λ takes. true≢false (sym (takes_is takes) ∙ p.0), p.1, p.2)
      ])
    where
      same : {q r : Request} → ◌≡◌ {A = Result Request Refusal} (Ok q) (Ok r) → q ≡ r
      same e = cc

      takes_is : TakesNone bytes → needs_none r ≡ true
      takes_is takes = subst (λ q. needs_none q ≡ true) (same (sym (short_means takes.0 bytes takes.2) ∙ is)) takes.1

  -- or it is no request, and no short line that takes no memory
  pub refused_line : (e : Refusal) → IsAnswer (Err e) (command_line bytes) → ((r : ShortRequest) → short_line (asked_short r) ≡ Some bytes → ⊥)
      → reply ≡ reply_text s.database.catalog (refused 0 e) → MayAnswer conn s (text bytes) reply false s
  refused_line Memory is long said = inr (λ takes. takes_some takes.0 takes.1 takes.2, (said, refl), refl)
    where
      takes_some : (r : Request) → needs_none r ≡ true → short_line r ≡ Some bytes → ⊥
      takes_some (request.Change t x) none h = not_true none
      takes_some (request.NumberLookUp t l) none h = long (short.NumberLookUp t l) h
      takes_some (request.KeyLookUp t l) none h = not_true none
      takes_some (request.Session x) none h = long (short.Session x) h
  refused_line e is long said =
      subst (λ x. AnsweredOrMemory (¬ TakesNone bytes) (command_answer s conn (command_of s conn x)) (command_changes s conn (command_of s conn x)) s reply false s)
      (sym is) (inl ((said, refl), refl))
