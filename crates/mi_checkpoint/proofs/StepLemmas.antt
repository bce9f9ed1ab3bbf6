-- How a line of the replayer moves the number of open sessions and the revision.
-- Cited by `RunLemmas` and `ToldLemmas`.
use Rattle.std.proofs.Common.{◌≡◌, ℕ, suc, ◌+◌, ◌-◌, ◌≤◌, List, [], ◌∷◌, length, Bool, true, false, nat_eq}
use Rattle.std.proofs.Common.{Result, Ok, Err, refl, sym, ap, subst, inl, inr, arith}
use Rattle.mi_value.specs.declared.refusal.Refusal.{Refusal}
use Rattle.mi_value.specs.declared.limits.TheConstants.{MAX_SESSIONS}
use Rattle.mi_catalog.specs.Shape.{CatalogShape}
use Rattle.mi_model.specs.Table.{Table}
use Rattle.mi_model.specs.Verdict.{is_spent}
use Rattle.mi_model.specs.Database.{Database, depth, undone_times, committed}
use Rattle.mi_request.specs.Lines.{command_line}
use Rattle.mi_request.specs.declared.request.SessionCommand.{SessionCommand}
use Rattle.mi_request.specs.declared.request.SessionCommand.TheVariants as session
use Rattle.mi_protocol.specs.declared.changes.Change.{Change}
use Rattle.mi_protocol.specs.declared.changes.Change.TheVariants as change
use Rattle.mi_protocol.specs.declared.command.Command.{Command}
use Rattle.mi_protocol.specs.declared.command.Command.TheVariants as command
use Rattle.mi_commands.specs.Asked.{Asked, text, too_long}
use Rattle.mi_commands.specs.Answer.{answer, command_answer, command_of}
use Rattle.mi_commands.specs.Holder.{HeldDatabase}
use Rattle.mi_commands.specs.Performed.{changed, effect, session_effect}
use Rattle.mi_replay.specs.Replayed.{replayer}
use Rattle.mi_checkpoint.specs.OpenStarts.{MovesOn}
use Rattle.mi_checkpoint.proofs.SettledLemmas.{db, cut, committed_cut, cut_depth, opens, ends, all_undone}
use Rattle.mi_checkpoint.proofs.HolderLemmas.{not_zero}

pub record StepsTo (d e : Database) : Type 0 where
  pub moves : MovesOn (depth d) d.revision (depth e) e.revision
  pub room : depth e ≤ MAX_SESSIONS

module _ (d : Database) (numbered : depth d ≤ d.revision) (room : depth d ≤ MAX_SESSIONS) where
  -- the revision stays, and no more sessions are open
  fewer_steps : (e : Database) → e.revision ≡ d.revision → depth e ≤ depth d → StepsTo d e
  fewer_steps e same few = record { moves = inr (omega arith, omega arith); room = omega arith }

  same_steps : StepsTo d d
  same_steps = fewer_steps d refl (omega arith)

  start_steps : (spent deep : Bool) → nat_eq (depth d) MAX_SESSIONS ≡ deep → StepsTo d (opens spent deep d).1
  start_steps true deep is = same_steps
  start_steps false true is = same_steps
  start_steps false false is = record { moves = inl (omega arith, refl); room = few }
    where
      few : suc (depth d) ≤ MAX_SESSIONS
      few = grind arith

  one_fewer : (e : Database) → 1 ≤ depth d → depth e + 1 ≡ depth d → e.revision ≡ d.revision - 1 → StepsTo d e
  one_fewer e some few number = record { moves = inr (omega arith, omega arith); room = omega arith }

  commit_steps : (x : ℕ) → StepsTo d (committed x d)
  commit_steps x = subst (λ e. StepsTo d e) (sym (committed_cut x d)) (fewer_steps (cut x d) refl (cut_depth x d))

  undo_all_steps : StepsTo d (undone_times (depth d) d)
  undo_all_steps =
      let gone = all_undone (depth d) d.catalog d.tables d.old d.revision refl in
      let number : (undone_times (depth d) d).revision ≡ d.revision - depth d = gone.0 in
      let none : depth (undone_times (depth d) d) ≡ 0 = ap length gone.1 in
      record { moves = inr (omega arith, omega arith); room = omega arith }

  change_steps : (n : ℕ) (y : Change) → StepsTo d (changed d n y).1
  change_steps n (change.Insert row before) = fewer_steps (changed d n (change.Insert row before)).1 refl (omega arith)
  change_steps n y = fewer_steps (changed d n y).1 refl (omega arith)

-- an undo or a squash
ends_step : (c : CatalogShape) (ts t : List Table) (old : List (List Table)) (r : ℕ) (now : List Table) → suc (length old) ≤ r → suc (length old) ≤ MAX_SESSIONS
    → StepsTo (db c ts (t ∷ old) r) (ends (nat_eq (length (t ∷ old)) 0) (r - 1) (db c now old (r - 1)) (db c ts (t ∷ old) r)).1
ends_step c ts t old r now numbered room =
    subst (λ b. StepsTo (db c ts (t ∷ old) r) (ends b (r - 1) (db c now old (r - 1)) (db c ts (t ∷ old) r)).1)
    (sym (not_zero (length (t ∷ old)) (omega arith)))
    (one_fewer (db c ts (t ∷ old) r) (omega arith) (omega arith) (db c now old (r - 1)) (omega arith) (omega arith) refl)

undo_steps : (c : CatalogShape) (ts : List Table) (old : List (List Table)) (r : ℕ) → length old ≤ r → length old ≤ MAX_SESSIONS
    → StepsTo (db c ts old r) (session_effect (db c ts old r) session.Undo).left
undo_steps c ts [] r numbered room = same_steps (db c ts [] r) (omega arith) (omega arith)
undo_steps c ts (t ∷ old) r numbered room = ends_step c ts t old r t (omega arith) (omega arith)

squash_steps : (c : CatalogShape) (ts : List Table) (old : List (List Table)) (r : ℕ) → length old ≤ r → length old ≤ MAX_SESSIONS
    → StepsTo (db c ts old r) (session_effect (db c ts old r) session.Squash).left
squash_steps c ts [] r numbered room = same_steps (db c ts [] r) (omega arith) (omega arith)
squash_steps c ts (t ∷ old) r numbered room = ends_step c ts t old r ts (omega arith) (omega arith)

module _ (d : Database) (numbered : depth d ≤ d.revision) (room : depth d ≤ MAX_SESSIONS) where
  session_steps : (y : SessionCommand) → StepsTo d (session_effect d y).left
  session_steps session.Start = start_steps d numbered room (is_spent d.revision) (nat_eq (depth d) MAX_SESSIONS) refl
  session_steps session.Undo = undo_steps d.catalog d.tables d.old d.revision numbered room
  session_steps session.Squash = squash_steps d.catalog d.tables d.old d.revision numbered room
  session_steps (session.Commit x) = commit_steps d numbered room x
  session_steps session.UndoAll = undo_all_steps d numbered room
  session_steps y = same_steps d numbered room

  command_steps : (y : Command) → StepsTo d (effect d y).left
  command_steps (command.Change n y) = change_steps d numbered room n y
  command_steps (command.NumberLookUp n y) = same_steps d numbered room
  command_steps (command.KeyLookUp n y) = same_steps d numbered room
  command_steps (command.Session y) = session_steps y

module _ (s : HeldDatabase) (numbered : depth s.database ≤ s.database.revision) (room : depth s.database ≤ MAX_SESSIONS) where
  bound_steps : (c : Result Command Refusal) → StepsTo s.database (command_answer s replayer c).1.database
  bound_steps (Ok y) = command_steps s.database numbered room y
  bound_steps (Err e) = same_steps s.database numbered room

  pub line_steps : (line : Asked) → StepsTo s.database (answer s replayer line).1.database
  line_steps (text t) = bound_steps (command_of s replayer (command_line t))
  line_steps too_long = same_steps s.database numbered room
