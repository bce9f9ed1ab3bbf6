-- The open sessions by their numbers.
use Rattle.std.specs.Prelude.{◌≡◌, ℕ, ◌+◌, ◌-◌, ◌<◌, ◌==◌, nat_lt, List, [], ◌∷◌, slice_get}
use Rattle.std.specs.List.{filter}
use Rattle.std.specs.declared.option.Option.{Option}
use Rattle.std.specs.declared.option.Option.TheVariants.{Some}
use Rattle.std.specs.Map.{lookup}
use Rattle.mi_model.specs.Table.{Table}
use Rattle.mi_model.specs.Database.{Database, IsDatabase, started, committed}
use Rattle.mi_model.specs.Run.{Command, run, StaysOpen}

-- each session with its number, the newest first; the newest has this number, and each older one the number below
abbrev pub numbered : ℕ → List (List Table) → List (ℕ × List Table)
numbered n [] = []
numbered n (tables ∷ old) = (n, tables) ∷ numbered (n - 1) old

-- the number of the newest is the revision, so that of the oldest is revision - depth + 1
abbrev pub sessions : Database → List (ℕ × List Table)
sessions d = numbered d.revision d.old

-- the tables at the start of the session of number n, or none where it isn't open
abbrev pub tables_at_start : ℕ → Database → Option (List Table)
tables_at_start n d = lookup (λ m. m == n) (sessions d)

-- so the session with k above it has the number revision - k
abbrev pub SessionsAreNumbered : Type 0
SessionsAreNumbered = (d : Database) (k : ℕ) (tables : List Table) → IsDatabase d
    → slice_get d.old k ≡ Some tables → tables_at_start (d.revision - k) d ≡ Some tables

-- a commit ends the sessions of numbers up to x, and no other
abbrev pub CommitsEndByNumber : Type 0
CommitsEndByNumber = (d : Database) (x : ℕ) → IsDatabase d → sessions (committed x d) ≡ filter (λ s. nat_lt x s.0) (sessions d)

-- a start opens the session of the next number
abbrev pub StartsTakeTheNextNumber : Type 0
StartsTakeTheNextNumber = (d : Database) → tables_at_start (d.revision + 1) (started d) ≡ Some d.tables

-- through any commands that leave it open a session keeps its number: by it the tables of its start are found
abbrev pub SessionsKeepTheirNumbers : Type 0
SessionsKeepTheirNumbers = (d : Database) (n : ℕ) (tables : List Table) (cs : List Command) → 0 < n → tables_at_start n d ≡ Some tables
    → StaysOpen n cs d → tables_at_start n (run cs d) ≡ Some tables
