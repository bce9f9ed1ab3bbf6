-- Sessions that end early, while others stay open. Sessions 5, 6 and 7 are open, and later lines commit 5 and 6. With both committed at once those
-- lines leave the same.
use Rattle.std.specs.Prelude.{◌≡◌, ◌⊎◌, ℕ, ◌+◌, ◌≤◌, List, [], ◌∷◌, ◌++◌, ◌↔◌, Bool, true, false, codes}
use Rattle.mi_value.specs.declared.limits.TheConstants.{MAX_SESSIONS}
use Rattle.mi_model.specs.Database.{Database, depth, committed}
use Rattle.mi_protocol.specs.Replies.{reply_text}
use Rattle.mi_commands.specs.Asked.{Asked}
use Rattle.mi_commands.specs.Answer.{answer, line_changes, MayAnswer}
use Rattle.mi_commands.specs.Holder.{HeldDatabase, is_busy, at_most, held_count, released}
use Rattle.mi_hub.specs.Lines.{lines_of}
use Rattle.mi_hub.specs.Served.{with_newline}
use Rattle.mi_hub.specs.Run.{HubState}
use Rattle.mi_hub.specs.OneLine.{AsksLine}
use Rattle.mi_replay.specs.Acts.{Act}
use Rattle.mi_replay.specs.Journal.{JournalOf}
use Rattle.mi_replay.specs.Replayed.{replayer, replayed, unheld, IsSame}

-- ---- what ends early

-- All sessions of numbers up to x are ended, and their changes stay. The holder holds no more than those that are left. The tables and the
-- revision stay, and the newer sessions.
abbrev pub settled : ℕ → HeldDatabase → HeldDatabase
settled x s = let d = committed x s.database in record { database = d; holder = at_most (depth d) s.holder }

-- Every session is ended: what a base has that is made here.
abbrev pub based : HeldDatabase → HeldDatabase
based s = unheld (record s.database { old = [] })

-- ---- what holds of the lines behind

-- The revision is at least x behind each line. So none of them undoes or squashes a session of a number up to x, which would give a revision below
-- that number.
abbrev pub StaysAbove : ℕ → List Asked → HeldDatabase → Type 0
StaysAbove x [] s = Unit {0}
StaysAbove x (line ∷ lines) s =
    (x ≤ (answer s replayer line).1.database.revision) × StaysAbove x lines (answer s replayer line).1

-- the reply that tells no more than that a line is done
abbrev pub done_reply : List ℕ
done_reply = codes "{\"ok\":true}"

-- A replay takes a line that may have changed something, and one that tells no more than that it is done, as a reserve does.
abbrev pub IsTaken : HeldDatabase → Asked → Type 0
IsTaken s line =
    (line_changes s replayer line ≡ true) ⊎ (reply_text s.database.catalog (answer s replayer line).0 ≡ done_reply)

-- each of these lines, asked one after another
abbrev pub AreTaken : List Asked → HeldDatabase → Type 0
AreTaken [] s = Unit {0}
AreTaken (line ∷ lines) s = IsTaken s line × AreTaken lines (answer s replayer line).1

-- every session that is open has a number above x
abbrev pub HaveEnded : ℕ → HeldDatabase → Type 0
HaveEnded x s = x + depth s.database ≤ s.database.revision

-- ---- laws

-- What holds of a database that the replayer alone asks. The sessions have numbers from 1 on, and are no more than can be. Those that are held
-- are open, and nobody else holds any.
pub record IsReplaying (s : HeldDatabase) : Type 0 where
  pub numbered : depth s.database ≤ s.database.revision
  pub room : depth s.database ≤ MAX_SESSIONS
  pub fits : held_count s.holder ≤ depth s.database
  pub free : is_busy s.holder replayer ≡ false

abbrev pub OpenedIsReplaying : Type 0
OpenedIsReplaying = (d : Database) → depth d ≡ 0 → IsReplaying (unheld d)

abbrev pub LinesKeepReplaying : Type 0
LinesKeepReplaying = (s : HeldDatabase) (lines : List Asked) → IsReplaying s → IsReplaying (replayed lines s)

-- what is the same as the same is the same
abbrev pub SamePassesOn : Type 0
SamePassesOn = (s t u : HeldDatabase) → IsSame s t → IsSame t u → IsSame s u

-- a line is taken where it is said that it may have changed something, and where its reply tells no more than that it is done
abbrev pub AnsweredLinesAreTaken : Type 0
AnsweredLinesAreTaken = (s t : HeldDatabase) (line : Asked) (reply : List ℕ) (changed : Bool) → MayAnswer replayer s line reply changed t
    → (changed ≡ true) ⊎ (reply ≡ done_reply) → IsTaken s line

-- The same of the bytes of a whole line that a hub is asked. They are one line, and not none.
abbrev pub WholeLinesAreTaken : Type 0
WholeLinesAreTaken = (line out : List ℕ) (changed : Bool) (old new : HubState) → AsksLine replayer line out changed old new
    → (changed ≡ true) ⊎ (out ≡ with_newline done_reply) → (asked : Asked) × (lines_of line ≡ asked ∷ []) × IsTaken old.held asked

-- lines are taken where those in front are, and then those behind
abbrev pub TakenInTwo : Type 0
TakenInTwo = (front rest : List Asked) (s : HeldDatabase) → AreTaken (front ++ rest) s ↔ (AreTaken front s × AreTaken rest (replayed front s))

-- Lines that a replay takes, and that stay above x. With the sessions up to x ended early they leave what they leave else, and what is still open of
-- these sessions is ended. A replay takes each line there too.
abbrev pub SettlesEarly : Type 0
SettlesEarly = (x : ℕ) (s : HeldDatabase) (lines : List Asked) → IsReplaying s → x ≤ s.database.revision → AreTaken lines s → StaysAbove x lines s
    → (replayed lines (settled x s) ≡ settled x (replayed lines s)) × AreTaken lines (settled x s)

-- So where none of them is left at the end, the database is the same, and as many sessions are held.
abbrev pub EndsTheSame : Type 0
EndsTheSame = (x : ℕ) (s : HeldDatabase) (lines : List Asked) → IsReplaying s → x ≤ s.database.revision → AreTaken lines s → StaysAbove x lines s
    → HaveEnded x (replayed lines s) → IsSame (replayed lines s) (replayed lines (settled x s))

-- A base may stand in front of these lines. They never give a revision below its own, and end every session that is open there.
abbrev pub IsBasedAt : HeldDatabase → List Asked → Type 0
IsBasedAt s lines = StaysAbove s.database.revision lines s × HaveEnded s.database.revision (replayed lines s)

-- asked of the base they give the same, and a replay takes each of them
abbrev pub BasesReplay : Type 0
BasesReplay = (s : HeldDatabase) (lines : List Asked) → IsReplaying s → AreTaken lines s → IsBasedAt s lines
    → IsSame (replayed lines s) (replayed lines (based s)) × AreTaken lines (based s)

-- Whatever lines come behind, the base may stand in front of all of them. What is open at the end has numbers above the base's revision, and so has
-- all that is started later.
abbrev pub BasesStay : Type 0
BasesStay = (s : HeldDatabase) (lines more : List Asked) → IsReplaying s → IsBasedAt s lines → IsBasedAt s (lines ++ more)

-- ---- laws of journals

-- A base stands behind a front of a run's journal. With the lines behind it, it gives the run's database, and as many sessions held. A replay takes
-- each of those lines.
abbrev pub BasesOfJournals : Type 0
BasesOfJournals = (d : Database) (acts : List Act) (front rest : List Asked) (new : HeldDatabase) → depth d ≡ 0
    → JournalOf (unheld d) acts (front ++ rest) new → AreTaken (front ++ rest) (unheld d) → IsBasedAt (replayed front (unheld d)) rest
    → IsSame new (replayed rest (based (replayed front (unheld d)))) × AreTaken rest (based (replayed front (unheld d)))

-- The connection that has asked them goes away: what is left is what the run leaves once its holder goes away too.
abbrev pub BasesEndAsRuns : Type 0
BasesEndAsRuns = (d : Database) (acts : List Act) (front rest : List Asked) (new : HeldDatabase) (conn : ℕ) → depth d ≡ 0
    → JournalOf (unheld d) acts (front ++ rest) new → AreTaken (front ++ rest) (unheld d) → IsBasedAt (replayed front (unheld d)) rest
    → is_busy new.holder conn ≡ false → released replayer (replayed rest (based (replayed front (unheld d)))) ≡ released conn new
