-- How far a replay has come: of "start⏎undo⏎st" the first line is asked, and "undo⏎st" is left; then the second, and "st" is torn.
use Rattle.std.specs.Prelude.{◌≡◌, ◌⊎◌, ℕ, zero, suc, List, [], ◌∷◌, ◌++◌, Bool, true, false, ⊤, Option, Some, None, Ok, codes}
use Rattle.mi_request.specs.Lines.{command_line}
use Rattle.mi_request.specs.declared.request.Request.TheVariants.{Session}
use Rattle.mi_request.specs.declared.request.SessionCommand.TheVariants.{Reserve}
use Rattle.mi_commands.specs.Asked.{text}
use Rattle.mi_commands.specs.Holder.{HeldDatabase, is_busy}
use Rattle.mi_hub.specs.Ended.{after_newlines}
use Rattle.mi_hub.specs.Lines.{lines_of}
use Rattle.mi_hub.specs.Served.{with_newline}
use Rattle.mi_hub.specs.Run.{HubState}
use Rattle.mi_hub.specs.OneLine.{IsWholeLine, AsksLine}
use Rattle.mi_replay.specs.Replayed.{replayer, replayed, memory_reply, IsSame}

-- From s, with these bytes left, lines were asked, and t and those bytes are left: what the others leave of t is what all leave of s.
abbrev pub Onward : Option (List ℕ) → Option (List ℕ) → HeldDatabase → HeldDatabase → Type 0
Onward None later s t = ⊤
Onward (Some all) None s t = ⊥
Onward (Some all) (Some left) s t = (replayed (lines_of left) t ≡ replayed (lines_of all) s) × (after_newlines left ≡ after_newlines all)

-- so many whole lines stand in front of what is left of these bytes
abbrev pub Passes : ℕ → List ℕ → List ℕ → Type 0
Passes zero all left = left ≡ all
Passes (suc n) all left = (line : List ℕ) × (later : List ℕ) × IsWholeLine line × (all ≡ line ++ later) × Passes n later left

-- the same of what a reader had left and has, where it tells
abbrev pub HasPassed : ℕ → Option (List ℕ) → Option (List ℕ) → Type 0
HasPassed n None later = ⊤
HasPassed n (Some all) None = ⊥
HasPassed n (Some all) (Some left) = Passes n all left

-- no line ends in these bytes, and all of them stand behind the last newline
abbrev pub IsTorn : List ℕ → List ℕ → Type 0
IsTorn bytes line = (lines_of bytes ≡ []) × (line ≡ after_newlines bytes)

-- the reply to a change that says no more; a reserve has it too
abbrev pub done_reply : List ℕ
done_reply = codes "{\"ok\":true}"

-- A replay takes a line of which is said that it may have changed something, and a reserve, which journals of former services have.
abbrev pub IsTaken : Bool → List ℕ → Type 0
IsTaken changed out = (changed ≡ true) ⊎ (out ≡ with_newline done_reply)

-- the reply to a line that is refused for memory
abbrev pub IsForMemory : List ℕ → Type 0
IsForMemory out = out ≡ with_newline memory_reply

-- A line that a durable hub keeps is asked again by the replayer, of the database as it was then: a replay takes it again, or memory is wanting.
abbrev pub KeptLinesAreTaken : Type 0
KeptLinesAreTaken = (conn : ℕ) (line out again : List ℕ) (changed : Bool) (old new start end : HubState) → AsksLine conn line out true old new
    → IsSame old.held start.held → AsksLine replayer line again changed start end → IsTaken changed again ⊎ IsForMemory again

-- So it does with a reserve.
abbrev pub ReservesAreTaken : Type 0
ReservesAreTaken = (line t again : List ℕ) (changes sessions : ℕ) (changed : Bool) (start end : HubState) → lines_of line ≡ text t ∷ []
    → command_line t ≡ Ok (Session (Reserve changes sessions)) → is_busy start.held.holder replayer ≡ false
    → AsksLine replayer line again changed start end → IsTaken changed again ⊎ IsForMemory again
