-- Where the code has found a connection. The meaning of the hub doesn't speak of places.
use Rattle.std.specs.Prelude.{◌≡◌, ℕ, ◌<◌, List, length, slice_index_or, slice_set, Some}
use Rattle.std.specs.List.{remove}
use Rattle.mi_hub.specs.Lines.{Rest}
use Rattle.mi_hub.specs.Connections.{rest_at, with_rest, others}
use Rattle.mi_hub.specs.declared.connection.Connection.{Connection}

-- the connection stands at place i
pub record StandsAt (conn i : ℕ) (cs : List Connection) : Type 0 where
  pub within : i < length cs
  pub same : (d : Connection) → (slice_index_or cs i d).id ≡ conn
  pub rest : (d : Connection) → rest_at conn cs ≡ Some (slice_index_or cs i d).rest
  pub removed : remove cs i ≡ others conn cs
  pub written : (r : Rest) → slice_set cs i (record { id = conn; rest = r }) ≡ with_rest conn r cs
