-- The attached connections, each with the rest of the bytes fed to it.
use Rattle.std.specs.Prelude.{ℕ, List, [], ◌∷◌, Bool, true, ◌==◌, if◌then◌else◌, Option, Some, None, is_some}
use Rattle.mi_hub.specs.Lines.{Rest}
use Rattle.mi_hub.specs.declared.connection.Connection.{Connection}
use Rattle.mi_commands.specs.declared.holder.Holder.{Holder}

-- the rest of a connection, where it is attached
abbrev pub rest_at : ℕ → List Connection → Option Rest
rest_at conn [] = None
rest_at conn (c ∷ cs) = if c.id == conn then Some c.rest else rest_at conn cs

-- another rest for a connection
abbrev pub with_rest : ℕ → Rest → List Connection → List Connection
with_rest conn r [] = []
with_rest conn r (c ∷ cs) = if c.id == conn then record { id = c.id; rest = r } ∷ cs else c ∷ with_rest conn r cs

-- all but this connection
abbrev pub others : ℕ → List Connection → List Connection
others conn [] = []
others conn (c ∷ cs) = if c.id == conn then cs else c ∷ others conn cs

-- whoever holds sessions is attached
abbrev pub holder_is_attached : Option Holder → List Connection → Bool
holder_is_attached None cs = true
holder_is_attached (Some h) cs = is_some (rest_at h.conn cs)
