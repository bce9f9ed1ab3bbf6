-- Lines of a journal that are asked one behind another, and noted. "start⏎insert⏎und" gives the lines "start" and "insert", and "und" is left.
use Rattle.std.specs.Prelude.{◌≡◌, ◌+◌, ℕ, List, [], ◌∷◌, ◌++◌, length, Option, Some, None, IfSome, ⊤}
use Rattle.mi_commands.specs.Asked.{Asked}
use Rattle.mi_commands.specs.Holder.{HeldDatabase}
use Rattle.mi_hub.specs.Ended.{ended}
use Rattle.mi_hub.specs.Lines.{lines_of}
use Rattle.mi_hub.specs.OneLine.{IsWholeLine}
use Rattle.mi_replay.specs.Replayed.{replayed}
use Rattle.mi_checkpoint.specs.Settled.{AreTaken, IsReplaying}
use Rattle.mi_checkpoint.specs.OpenStarts.{Starts, IsTold}

-- lines in the order in which they are asked
abbrev pub Lines : Type 0
Lines = List Asked

-- ---- lines as they stand in bytes

-- These lines stand in front of what is left of these bytes, each with its newline, and nothing stands between them.
abbrev pub Gives : List ℕ → Lines → List ℕ → Type 0
Gives all [] left = left ≡ all
Gives all (asked ∷ lines) left =
    (line : List ℕ) × (later : List ℕ) × IsWholeLine line × (all ≡ line ++ later) × (lines_of line ≡ asked ∷ []) × Gives later lines left

-- the same of what a reader had left and has, where it tells
abbrev pub HasGiven : Option (List ℕ) → Lines → Option (List ℕ) → Type 0
HasGiven None lines left = ⊤
HasGiven (Some all) lines None = ⊥
HasGiven (Some all) lines (Some left) = Gives all lines left

-- and these are all of them: what is left has no newline
abbrev pub GivesAll : Option (List ℕ) → Lines → List ℕ → Type 0
GivesAll all lines last = IfSome all (λ bytes. Gives bytes lines last × (ended last ≡ []))

-- ---- lines that are noted

-- From old the replayer asks these lines, and new is left. A replay takes each of them, and each is noted: what was told of all lines in front is told
-- of these too.
pub record Notes (old : HeldDatabase) (was : Starts) (lines : Lines) (new : HeldDatabase) (now : Starts) : Type 0 where
  pub leaves : new ≡ replayed lines old
  pub taken : AreTaken lines old
  pub count : now.lines ≡ was.lines + length lines
  pub told : (s : HeldDatabase) (front : Lines) → IsReplaying s → old ≡ replayed front s → IsTold s front was → IsTold s (front ++ lines) now
