-- Which connection holds open sessions. What it holds are the newest sessions.
use Rattle.std.specs.Prelude.{ℕ, ◌+◌, ◌-◌, min, Bool, false, not, ◌==◌, nat_le, if◌then◌else◌, Option, Some, None}
use Rattle.mi_model.specs.Database.{Database, undone_times}
use Rattle.mi_commands.specs.declared.holder.Holder.{Holder}

-- a database, and its holder: nobody, or a connection `conn` that holds `held` of the open sessions, at least one
pub record HeldDatabase : Type 0 where
  pub database : Database
  pub holder : Option Holder

-- another connection holds sessions
abbrev pub is_busy : Option Holder → ℕ → Bool
is_busy None conn = false
is_busy (Some h) conn = not (h.conn == conn)

-- after an accepted start
abbrev pub one_more : ℕ → Option Holder → Option Holder
one_more conn None = Some (record { conn = conn; held = 1 })
one_more conn (Some h) = Some (record { conn = h.conn; held = h.held + 1 })

-- after an accepted undo or squash
abbrev pub one_less : Option Holder → Option Holder
one_less None = None
one_less (Some h) = if nat_le h.held 1 then None else Some (record { conn = h.conn; held = h.held - 1 })

-- after a commit that leaves this many sessions open
abbrev pub at_most : ℕ → Option Holder → Option Holder
at_most opened None = None
at_most opened (Some h) = if opened == 0 then None else Some (record { conn = h.conn; held = min h.held opened })

-- how many sessions are held at all
abbrev pub held_count : Option Holder → ℕ
held_count None = 0
held_count (Some h) = h.held

-- how many sessions a connection holds
abbrev pub held_by : ℕ → Option Holder → ℕ
held_by conn None = 0
held_by conn (Some h) = if h.conn == conn then h.held else 0

-- the holder once this connection is gone
abbrev pub without_holder : ℕ → Option Holder → Option Holder
without_holder conn None = None
without_holder conn (Some h) = if h.conn == conn then None else Some h

-- what a connection leaves that goes away: the sessions that it holds are undone
abbrev pub released : ℕ → HeldDatabase → HeldDatabase
released conn s = record { database = undone_times (held_by conn s.holder) s.database; holder = without_holder conn s.holder }
