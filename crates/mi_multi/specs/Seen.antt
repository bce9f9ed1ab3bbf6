-- What contracts see of a container: its schema, its data, the ids in the nodes of its pool, and the secrets of its indexes.
use Rattle.std.specs.Prelude.{ℕ, List, map}
use Rattle.std.specs.declared.option.Option.{Option}
use Rattle.std.specs.declared.option.Option.TheVariants.{None, Some}
use Rattle.mi_catalog.specs.Shape.{Shape}
use Rattle.mi_container.specs.Data.{Data}
use Rattle.mi_index.specs.declared.structure.Structure.{Structure}
use Rattle.mi_index.specs.declared.structure.Structure.TheVariants.{Sorted, Hashed, Sequenced}
use Rattle.mi_multi.specs.Held.{ids_held}
use Rattle.mi_multi.specs.Multi.{IsMulti, plain_of}
use Rattle.mi_multi.specs.declared.multi.MultiIndex.TheInside.{Inside}

pub record Seen : Type 0 where
  pub shape : Shape
  pub plain : Data
  pub held : List ℕ
  pub secrets : List (Option ℕ)

-- the secret of a structure that hashes
abbrev pub secret_in : Structure → Option ℕ
secret_in (Sorted t) = None
secret_in (Hashed c) = Some c.keys.secret
secret_in (Sequenced l) = None

abbrev pub seen_of : Inside → Seen
seen_of c = record {
  shape = c.schema;
  plain = plain_of c.schema c.ids.entries c.nodes.pool c.nodes.structures.items c.next c.arrivals;
  held = ids_held c.nodes.pool;
  secrets = map secret_in c.nodes.structures.items;
}

abbrev pub AreMulti : Inside → Type 0
AreMulti c = IsMulti c.schema c.ids.entries c.nodes.pool c.nodes.structures.items c.next c.arrivals
