-- What a command tells and leaves, before it is any text: {"cmd":"get","id":7} tells the record 7; {"cmd":"undo"} where no session is open
-- tells that refusal, and has changed nothing.
use Rattle.std.specs.Prelude.{◌≡◌, ◌⊎◌, Bool, true, false}
use Rattle.mi_value.specs.declared.refusal.Refusal.{Refusal}
use Rattle.mi_value.specs.declared.refusal.Refusal.TheVariants.{Lost, Memory}
use Rattle.mi_protocol.specs.Replies.{Said, inserted, done, erased, revised, committed, undone, pushed, refused, refused_modify}
use Rattle.mi_request.specs.declared.request.SessionCommand.TheVariants as session
use Rattle.mi_protocol.specs.declared.command.Command.{Command}
use Rattle.mi_protocol.specs.declared.command.Command.TheVariants as command
use Rattle.mi_commands.specs.Holder.{HeldDatabase}

-- memory is refused
abbrev pub SaysMemory : Said → Type 0
SaysMemory (refused table Memory) = Unit {0}
SaysMemory (refused_modify table Memory) = Unit {0}
SaysMemory other = ⊥

-- This is told; or, where it may lack memory, that refusal.
abbrev pub SaidOrMemory : Type 0 → Said → Said → Type 0
SaidOrMemory MayLack said told = (told ≡ said) ⊎ (MayLack × SaysMemory told)

-- This is told and left; or, where it may lack memory, that refusal is told, and nothing has changed.
abbrev pub ToldOrMemory : Type 0 → Said × HeldDatabase → HeldDatabase → Said → HeldDatabase → Type 0
ToldOrMemory MayLack a s told t = ((told ≡ a.0) × (t ≡ a.1)) ⊎ (MayLack × SaysMemory told × (t ≡ s))

-- a refusal after which a record is gone
abbrev pub loses : Refusal → Bool
loses (Lost index id) = true
loses e = false

-- what is told where a change or a session step was accepted, or lost a record
abbrev pub tells_change : Said → Bool
tells_change (inserted id) = true
tells_change done = true
tells_change (erased n) = true
tells_change (revised n) = true
tells_change (committed n) = true
tells_change (undone n) = true
tells_change (pushed n) = true
tells_change (refused table e) = loses e
tells_change (refused_modify table e) = loses e
tells_change other = false

-- whether a command that tells this may have changed something; room is all that a reserve asks for
abbrev pub may_change : Command → Said → Bool
may_change (command.Session (session.Reserve changes sessions)) told = false
may_change c told = tells_change told
