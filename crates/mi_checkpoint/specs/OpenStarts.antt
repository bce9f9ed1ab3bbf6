-- Where the sessions began that are open. The lines are start, start, commit of the older, start. Two sessions are open, and they began behind one line
-- and behind three. So a base may stand behind one line, and ends the session that is open there.
use Rattle.std.specs.Prelude.{◌≡◌, ◌⊎◌, ℕ, ◌+◌, ◌-◌, ◌<◌, ◌≤◌, List, [], ◌∷◌, length, take, drop, slice_index}
use Rattle.mi_model.specs.Database.{depth}
use Rattle.mi_commands.specs.Asked.{Asked}
use Rattle.mi_commands.specs.Answer.{answer}
use Rattle.mi_commands.specs.Holder.{HeldDatabase}
use Rattle.mi_replay.specs.Replayed.{replayer, replayed, IsSame}
use Rattle.mi_checkpoint.specs.Settled.{based, AreTaken, IsBasedAt}

-- behind how many lines each open session began, the oldest first; how many lines there are, and the revision behind them
pub record Starts : Type 0 where
  pub places : List ℕ
  pub lines : ℕ
  pub revision : ℕ

-- ---- revisions alone

-- From k open sessions at revision r a line leaves so many at that revision. It is one more at the next, or no more at one that isn't higher. Each
-- step down takes a session.
abbrev pub MovesOn : ℕ → ℕ → ℕ → ℕ → Type 0
MovesOn k r left now = ((left ≡ k + 1) × (now ≡ r + 1)) ⊎ ((now ≤ r) × (left + (r - now) ≤ k))

-- p is the last place of these revisions with one up to b
pub record IsLastUpTo (rs : List ℕ) (b p : ℕ) : Type 0 where
  pub within : p < length rs
  pub up_to : slice_index rs p ≤ b
  pub above : (m : ℕ) → p < m → m < length rs → b < slice_index rs m

-- These are the revisions so far, that in front of the first line among them, and k sessions are open. A session began where the revision was last
-- below its number. The oldest has the number revision - k + 1.
pub record Knows (rs : List ℕ) (k : ℕ) (o : Starts) : Type 0 where
  pub count : length rs ≡ o.lines + 1
  pub deep : length o.places ≡ k
  pub numbered : k ≤ o.revision
  pub newest : slice_index rs o.lines ≡ o.revision
  pub began : (i : ℕ) → i < k → IsLastUpTo rs (o.revision - k + i) (slice_index o.places i)

-- ---- lines of a replay

-- so many sessions are open, at this revision
abbrev pub StandsAt : HeldDatabase → ℕ → ℕ → Type 0
StandsAt s k r = (depth s.database ≡ k) × (s.database.revision ≡ r)

-- the revision in front of the first of these lines, and behind each
abbrev pub revisions : List Asked → HeldDatabase → List ℕ
revisions [] s = s.database.revision ∷ []
revisions (line ∷ lines) s = s.database.revision ∷ revisions lines (answer s replayer line).1

-- the replayer has asked these lines, from s on, and all was told
abbrev pub IsTold : HeldDatabase → List Asked → Starts → Type 0
IsTold s lines o = Knows (revisions lines s) (depth (replayed lines s).database) o

-- A base may stand behind the first n of these lines, and behind no more of them.
pub record IsCheckpoint (s : HeldDatabase) (lines : List Asked) (n : ℕ) : Type 0 where
  pub within : n ≤ length lines
  pub stands : IsBasedAt (replayed (take n lines) s) (drop n lines)
  pub latest : (m : ℕ) → n < m → m ≤ length lines → ¬ IsBasedAt (replayed (take m lines) s) (drop m lines)

-- what a base has that stands behind the first n lines
abbrev pub base_at : HeldDatabase → List Asked → ℕ → HeldDatabase
base_at s lines n = based (replayed (take n lines) s)

-- The lines behind it, asked of that base, give what all lines give, and as many sessions held. A replay takes each of them.
abbrev pub BaseReplays : HeldDatabase → List Asked → ℕ → Type 0
BaseReplays s lines n =
    IsSame (replayed lines s) (replayed (drop n lines) (base_at s lines n)) × AreTaken (drop n lines) (base_at s lines n)
