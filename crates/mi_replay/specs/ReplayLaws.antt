-- Laws of journals, as clauses state them.
use Rattle.std.specs.Prelude.{◌≡◌, ◌≢◌, ◌⊎◌, ℕ, ◌<◌, Some, option_to_list, List, [], ◌∷◌, ◌++◌, replicate, Bool, false, if◌then◌else◌}
use Rattle.std.specs.List.{AllByRecursion}
use Rattle.mi_model.specs.Database.{Database}
use Rattle.mi_commands.specs.Asked.{Asked}
use Rattle.mi_commands.specs.Answer.{answer, MayGive, MayAnswer}
use Rattle.mi_commands.specs.Holder.{HeldDatabase, is_busy, held_by, released}
use Rattle.mi_hub.specs.Served.{InTurn}
use Rattle.mi_hub.specs.Ended.{ended}
use Rattle.mi_hub.specs.Lines.{marked, ended_line, lines_of, rest_of}
use Rattle.mi_replay.specs.Acts.{Act, asks, leaves, AllActs}
use Rattle.mi_replay.specs.Journal.{undo_line, Keeps, JournalOf}
use Rattle.mi_replay.specs.Replayed.{replayer, replayed, memory_reply, unheld, IsSame, IsSameLess}

-- Lines that the replayer asks one after another, as a hub asks those of a piece, leave what replaying them leaves, where none is refused for
-- memory.
abbrev pub ReplaysAreRuns : Type 0
ReplaysAreRuns = (lines : List Asked) (replies : List (List ℕ)) (old new : HeldDatabase) → InTurn (MayGive replayer) old lines replies new
    → AllByRecursion (λ reply. reply ≢ memory_reply) replies → new ≡ replayed lines old

-- Every run has a journal.
abbrev pub RunsHaveJournals : Type 0
RunsHaveJournals = (old new : HeldDatabase) (acts : List Act) → AllActs old acts new → (lines : List Asked) × JournalOf old acts lines new

-- A line that changes anything is answered by the definition, memory aside, and asked by a connection that no other's sessions keep out.
abbrev pub ChangesMayBeKept : Type 0
ChangesMayBeKept = (conn : ℕ) (line : Asked) (reply : List ℕ) (old new : HeldDatabase) → MayGive conn old line reply new → new ≢ old
    → (is_busy old.holder conn ≡ false) × (new ≡ (answer old conn line).1)

-- A line of which is said that it may have changed something can be put in, and any other may stay out.
abbrev pub ChangedLinesGoIn : Type 0
ChangedLinesGoIn = (conn : ℕ) (line : Asked) (reply : List ℕ) (changed : Bool) (old new : HeldDatabase)
    → MayAnswer conn old line reply changed new → Keeps old (asks conn line reply) new (if changed then line ∷ [] else [])

-- A journal, asked again of the database that its run began with, gives the run's database, and as many sessions held.
abbrev pub JournalsReplay : Type 0
JournalsReplay = (d : Database) (acts : List Act) (lines : List Asked) (new : HeldDatabase) → JournalOf (unheld d) acts lines new
    → IsSame new (replayed lines (unheld d))

-- The connection that has asked it goes away: what is left is what the run leaves once its holder goes away too. Where nobody holds
-- sessions that is any connection.
abbrev pub ReplaysEndAsRuns : Type 0
ReplaysEndAsRuns = (d : Database) (acts : List Act) (lines : List Asked) (new : HeldDatabase) (conn : ℕ) → JournalOf (unheld d) acts lines new
    → is_busy new.holder conn ≡ false → released replayer (replayed lines (unheld d)) ≡ released conn new

-- A run of these acts has a journal that is cut in two. Its front is the journal of a front of the acts; or of such a front and then of
-- a part of what the next act keeps, where that is a holder that goes away: fewer undos than it holds sessions. From there the run goes on.
pub record FrontOf (old : HeldDatabase) (acts : List Act) (front rest : List Asked) (new : HeldDatabase) : Type 0 where
  pub before : List Act
  pub after : List Act
  pub parts : acts ≡ before ++ after
  pub mid : HeldDatabase
  pub kept : List Asked
  pub journal : JournalOf old before kept mid
  pub left : List Asked
  pub goes_on : JournalOf mid after left new
  pub whole : front ++ rest ≡ kept ++ left
  pub undos : ℕ
  pub lines : front ≡ kept ++ replicate undos undo_line
  pub going : (undos ≡ 0) ⊎ ((conn : ℕ) × (acts_then : List Act) × (after ≡ leaves conn ∷ acts_then) × (undos < held_by conn mid.holder))

-- Of a run in two parts the whole journal of the first is there, and a front of that of the second. Asked again they give the database and
-- the number held at a front of the run that holds all of the first part, less the sessions that a holder was then about to undo; and once
-- the connection that asked them is gone, what that front leaves once its holder is gone. With an undo more for each session that is held
-- then, the lines are the journal of that front and of its holder going away, so it can be gone on with.
pub record FrontReplays (d : Database) (first : List Act) (lines : List Asked) (mid : HeldDatabase) (later : List Act) (front rest : List Asked)
    (new : HeldDatabase) : Type 0 where
  pub at : FrontOf mid later front rest new
  pub same : IsSameLess at.undos at.mid (replayed (lines ++ front) (unheld d))
  pub ended : (conn : ℕ) → is_busy at.mid.holder conn ≡ false → released replayer (replayed (lines ++ front) (unheld d)) ≡ released conn at.mid
  pub mended : (conn : ℕ) → is_busy at.mid.holder conn ≡ false
      → JournalOf (unheld d) (first ++ (at.before ++ leaves conn ∷ []))
      (lines ++ (front ++ replicate (held_by replayer (replayed (lines ++ front) (unheld d)).holder) undo_line)) (released conn at.mid)

abbrev pub FrontsReplay : Type 0
FrontsReplay = (d : Database) (first later : List Act) (lines front rest : List Asked) (mid new : HeldDatabase)
    → JournalOf (unheld d) first lines mid → JournalOf mid later (front ++ rest) new → FrontReplays d first lines mid later front rest new

-- A file of whole lines grows by a line: the bytes that a newline ended when it was asked, and a newline.
abbrev pub FilesGrowByLines : Type 0
FilesGrowByLines = (whole bytes : List ℕ) → rest_of whole ≡ Some [] → ended bytes ≡ []
    → (lines_of (whole ++ (bytes ++ 10 ∷ [])) ≡ lines_of whole ++ option_to_list (ended_line (marked bytes)))
    × (rest_of (whole ++ (bytes ++ 10 ∷ [])) ≡ Some [])

-- The same of a file that has the journals' lines, each with its newline: the bytes of the first part are all there, and of the second's
-- a front that may end anywhere. A last line that is torn is none.
abbrev pub TornFilesReplay : Type 0
TornFilesReplay = (d : Database) (first later : List Act) (mid new : HeldDatabase) (whole part lost : List ℕ)
    → rest_of whole ≡ Some [] → JournalOf (unheld d) first (lines_of whole) mid → JournalOf mid later (lines_of (part ++ lost)) new
    → (lines_of (whole ++ part) ≡ lines_of whole ++ lines_of part)
    × (rest : List Asked) × FrontReplays d first (lines_of whole) mid later (lines_of part) rest new

-- Journals of two runs, the second from where the first ends, are together a journal of both.
abbrev pub JournalsJoin : Type 0
JournalsJoin = (old mid new : HeldDatabase) (first later : List Act) (lines more : List Asked)
    → JournalOf old first lines mid → JournalOf mid later more new → JournalOf old (first ++ later) (lines ++ more) new
