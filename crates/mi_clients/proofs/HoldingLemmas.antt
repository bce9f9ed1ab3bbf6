-- No command leaves a holder that holds none.
-- Cited by `laws::holders_hold_some`.
use Rattle.std.proofs.Common.{◌≡◌, inl, inr, ℕ, ◌-◌, ◌<◌, List, [], ◌∷◌, Bool, true, false, cond, min, nat_eq, nat_le, Option, Some, None, Result, Ok, Err}
use Rattle.std.proofs.Common.{refl, sym, subst, arith}
use Rattle.mi_commands.specs.Asked.{Asked, text, too_long}
use Rattle.mi_commands.specs.Answer.{answer, command_answer, command_of, MayGive}
use Rattle.mi_commands.specs.Holder.{HeldDatabase, without_holder}
use Rattle.mi_commands.specs.Performed.{Move, stays, one_up, one_down, down_to, to_nobody, lets_go, if_accepted, moved, effect}
use Rattle.mi_commands.specs.declared.holder.Holder.{Holder}
use Rattle.mi_protocol.specs.Lines.{command_line}
use Rattle.mi_protocol.specs.declared.command.Command.{Command}
use Rattle.mi_value.specs.declared.refusal.Refusal.{Refusal}
use Rattle.mi_hub.specs.Run.{HubState}
use Rattle.mi_hub.specs.Served.{InTurn}
use Rattle.mi_replay.specs.Acts.{Act}
use Rattle.mi_replay.specs.Replayed.{replayer, replayed}
use Rattle.mi_clients.specs.Steps.{Step, comes, asks, denies, tells, undoes, goes, StepDone, DoneBy, HoldsSome}
use Rattle.mi_clients.specs.Laws.{HoldersHoldSome, ReplaysHoldSome}

-- ---- how a holder moves

-- it holds more than one where it isn't nobody then
less_some : (conn held : ℕ) (b : Bool) → nat_le held 1 ≡ b → HoldsSome (cond b None (Some (record { conn = conn; held = held - 1 })))
less_some conn held true is = tt
less_some conn held false is = grind arith

most_some : (conn held opened : ℕ) (b : Bool) → 0 < held → nat_eq opened 0 ≡ b
    → HoldsSome (cond b None (Some (record { conn = conn; held = min held opened })))
most_some conn held opened true some is = tt
most_some conn held opened false some is = grind arith

without_some : (h : Holder) (b : Bool) → 0 < h.held → HoldsSome (cond b None (Some h))
without_some h true some = tt
without_some h false some = some

moved_some : (conn : ℕ) (move : Move) (o : Option Holder) → HoldsSome o → HoldsSome (moved conn move o)
moved_some conn stays o some = some
moved_some conn one_up None some = omega arith
moved_some conn one_up (Some h) some = omega (arith, some)
moved_some conn one_down None some = tt
moved_some conn one_down (Some h) some = less_some h.conn h.held (nat_le h.held 1) refl
moved_some conn (down_to opened) None some = tt
moved_some conn (down_to opened) (Some h) some = most_some h.conn h.held opened (nat_eq opened 0) some refl
moved_some conn to_nobody o some = tt
moved_some conn lets_go None some = tt
moved_some conn lets_go (Some h) some = without_some h (nat_eq h.conn conn) some
moved_some conn (if_accepted (Ok n) move) o some = moved_some conn move o some
moved_some conn (if_accepted (Err e) move) o some = some

-- ---- lines

command_some : (s : HeldDatabase) (conn : ℕ) (c : Result Command Refusal) → HoldsSome s.holder → HoldsSome (command_answer s conn c).1.holder
command_some s conn (Ok c) some = moved_some conn (effect s.database c).move s.holder some
command_some s conn (Err e) some = some

answer_some : (s : HeldDatabase) (conn : ℕ) (line : Asked) → HoldsSome s.holder → HoldsSome (answer s conn line).1.holder
answer_some s conn (text t) some = command_some s conn (command_of s conn (command_line t)) some
answer_some s conn too_long some = some

given_some : (conn : ℕ) (s t : HeldDatabase) (line : Asked) (reply : List ℕ) → MayGive conn s line reply t → HoldsSome s.holder → HoldsSome t.holder
given_some conn s t line reply (inl given) some = subst (λ (u : HeldDatabase). HoldsSome u.holder) (sym given.1) (answer_some s conn line some)
given_some conn s t line reply (inr memory) some = subst (λ (u : HeldDatabase). HoldsSome u.holder) (sym memory.1.1) some

turns_some : (conn : ℕ) (lines : List Asked) (replies : List (List ℕ)) (s t : HeldDatabase) → InTurn (MayGive conn) s lines replies t
    → HoldsSome s.holder → HoldsSome t.holder
turns_some conn [] [] s t p some = subst (λ (u : HeldDatabase). HoldsSome u.holder) (sym p) some
turns_some conn [] (reply ∷ replies) s t p some = absurd p
turns_some conn (line ∷ lines) [] s t p some = absurd p
turns_some conn (line ∷ lines) (reply ∷ replies) s t p some =
    turns_some conn lines replies p.0 t p.2 (given_some conn s p.0 line reply p.1 some)

pub replays_some : ReplaysHoldSome
replays_some = go
  where
    go : (lines : List Asked) (s : HeldDatabase) → HoldsSome s.holder → HoldsSome (replayed lines s).holder
    go [] s some = some
    go (line ∷ lines) s some = go lines (answer s replayer line).1 (answer_some s replayer line some)

-- ---- steps

released_some : (conn : ℕ) (o : Option Holder) → HoldsSome o → HoldsSome (without_holder conn o)
released_some conn None some = tt
released_some conn (Some h) some = without_some h (nat_eq h.conn conn) some

step_some : (step : Step) (acts : List Act) (old new : HubState) → StepDone old step acts new → HoldsSome old.held.holder → HoldsSome new.held.holder
step_some (comes conn) acts old new done some = subst (λ (s : HubState). HoldsSome s.held.holder) (sym done.0.3) some
step_some (asks conn line reply began) acts old new done some =
    turns_some conn _ done.0.0.2.replies old.held new.held done.0.0.2.in_turn some
step_some (denies conn line reply) acts old new done some = subst (λ (s : HubState). HoldsSome s.held.holder) (sym done.1) some
step_some (tells conn line told) acts old new done some = subst (λ (s : HubState). HoldsSome s.held.holder) (sym done.1) some
step_some (undoes conn reply) acts old new done some =
    turns_some conn _ done.0.0.2.replies old.held new.held done.0.0.2.in_turn some
step_some (goes conn) acts old new done some =
    subst (λ (s : HubState). HoldsSome s.held.holder) (sym done.0.2) (released_some conn old.held.holder some)

done_some : (steps : List Step) (acts : List Act) (old new : HubState) → DoneBy old steps acts new → HoldsSome old.held.holder → HoldsSome new.held.holder
done_some [] acts old new p some = subst (λ (s : HubState). HoldsSome s.held.holder) (sym p.1) some
done_some (step ∷ steps) acts old new p some = done_some steps p.2 p.0 new p.4 (step_some step p.1 old p.0 p.3 some)

pub steps_some : HoldersHoldSome
steps_some = λ steps old new before after p some. done_some steps p.acts old new p.done some
