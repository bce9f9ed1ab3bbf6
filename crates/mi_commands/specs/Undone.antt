-- Undos take back all that came since a start, whoever asked it and whatever was answered. An example: a start, an insert, a second start,
-- an erase and a look-up. Two lines {"cmd":"undo"} then give back the tables and the revision that the first start began with.
use Rattle.std.specs.Prelude.{◌≡◌, ◌⊎◌, ℕ, zero, suc, ◌+◌, ◌-◌, ◌≤◌, List, [], ◌∷◌, length, map, false, codes}
use Rattle.mi_value.specs.declared.refusal.Refusal.{Refusal}
use Rattle.mi_catalog.specs.Shape.{CatalogShape}
use Rattle.mi_model.specs.Database.{Database, depth, started}
use Rattle.mi_protocol.specs.Replies.{revised, refused, reply_text}
use Rattle.mi_commands.specs.Asked.{text}
use Rattle.mi_commands.specs.Holder.{HeldDatabase, is_busy}
use Rattle.mi_commands.specs.Acts.{Act, asks, Acts, AllActs}

-- a session of this number is open: with d open at revision r they have the numbers r - d + 1 to r
abbrev pub IsOpen : ℕ → Database → Type 0
IsOpen n d = (d.revision - depth d + 1 ≤ n) × (n ≤ d.revision)

-- and it is after each of these acts: nothing has ended it, no undo, squash or commit, and no connection that went away. The acts are any
-- lines of any connections (changes, look-ups and session steps, accepted or refused, also as `busy` or `memory`, damaged lines and over-long
-- ones), and connections that go away.
abbrev pub StaysOpen : ℕ → (acts : List Act) (s t : HeldDatabase) → AllActs s acts t → Type 0
StaysOpen n [] s t run = Unit {0}
StaysOpen n (act ∷ acts) s t run = IsOpen n run.0.database × StaysOpen n acts run.0 t run.2

-- the act leaves one session more: it is the line of an accepted start
abbrev pub Opens : HeldDatabase → Act → HeldDatabase → Type 0
Opens s act u = Acts s act u × (u.database ≡ started s.database)

-- the line {"cmd":"undo"} of a connection, once for each reply
abbrev pub undo_lines : ℕ → List (List ℕ) → List Act
undo_lines conn replies = map (asks conn (text (codes "{\"cmd\":\"undo\"}"))) replies

-- the replies to so many accepted undos, from this revision on: each says a revision one lower
abbrev pub undo_replies : CatalogShape → ℕ → ℕ → List (List ℕ)
undo_replies c zero r = []
undo_replies c (suc k) r = reply_text c (revised (r - 1)) ∷ undo_replies c k (r - 1)

-- what s had stands in v again, and each line since t was an accepted undo, so none was refused as `memory`, `busy` or `session`
pub record TakenBack (s t v : HeldDatabase) (k : ℕ) (replies : List (List ℕ)) : Type 0 where
  pub tables : v.database.tables ≡ s.database.tables
  pub revision : v.database.revision ≡ s.database.revision
  pub catalog : v.database.catalog ≡ s.database.catalog
  pub accepted : replies ≡ undo_replies s.database.catalog k t.database.revision

-- A start is accepted. Then come any acts that leave its session open, with k - 1 sessions above it. A connection that isn't kept out then
-- asks k times to undo: what the start began with is there again, and each undo was accepted.
abbrev pub UndoLinesTakeBack : Type 0
UndoLinesTakeBack = (s u t v : HeldDatabase) (start : Act) (acts : List Act) (run : AllActs u acts t) (conn k : ℕ) (replies : List (List ℕ))
    → Opens s start u → StaysOpen (s.database.revision + 1) acts u t run → t.database.revision ≡ s.database.revision + k
    → is_busy t.holder conn ≡ false → length replies ≡ k → AllActs t (undo_lines conn replies) v → TakenBack s t v k replies

-- so many such lines are always given replies
abbrev pub UndoLinesAreGiven : Type 0
UndoLinesAreGiven = (t : HeldDatabase) (conn k : ℕ)
    → (v : HeldDatabase) × (replies : List (List ℕ)) × (length replies ≡ k) × AllActs t (undo_lines conn replies) v

-- the line {"cmd":"start"} of a connection
abbrev pub start_line : ℕ → List ℕ → Act
start_line conn reply = asks conn (text (codes "{\"cmd\":\"start\"}")) reply

-- it opens a session and says its number, or it is refused and nothing has changed
abbrev pub StartLinesOpen : Type 0
StartLinesOpen = (s u : HeldDatabase) (conn : ℕ) (reply : List ℕ) → Acts s (start_line conn reply) u
    → (Opens s (start_line conn reply) u × (reply ≡ reply_text s.database.catalog (revised (s.database.revision + 1))))
    ⊎ ((e : Refusal) × (reply ≡ reply_text s.database.catalog (refused 0 e)) × (u ≡ s))
