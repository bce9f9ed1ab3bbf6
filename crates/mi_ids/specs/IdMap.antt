-- What contracts see of the ids: a finite map from ids to entries, and for how many ids more there is room.
--     live_node       the node of an id that is live
--     flagged         an entry that is live, or only kept
--     with_live       the map after an id was said to be live, or only kept
use Rattle.std.specs.Prelude.{ℕ, Bool, cond, Option, Some, None, refl}
use Rattle.std.specs.Ordering.{nat_cmp}
use Rattle.std.specs.FinMap.{FinMap, get, insert, code}
use Rattle.std.specs.Coded.{Coded, code_by, coded×, coded_ℕ}
use Rattle.mi_node.specs.Refs.{Ref}
use Rattle.mi_ids.specs.declared.entry.IdEntry.{IdEntry}
use Rattle.mi_ids.specs.contracts.entry.IdEntry as entry_type

pub record IdMap : Type 0 where
  pub entries : FinMap nat_cmp IdEntry
  pub spare : ℕ

abbrev pub id_map_code : Coded IdMap
id_map_code =
    code_by (FinMap nat_cmp IdEntry × ℕ) (coded× (code coded_ℕ entry_type.the_row.coded) coded_ℕ) (λ m. (m.entries, m.spare))
    (λ p. record { entries = p.0; spare = p.1 }) (λ _. refl)

-- the node of an entry that is live
abbrev pub node_if_live : Option IdEntry → Option Ref
node_if_live None = None
node_if_live (Some e) = cond e.live (Some e.node) None

-- the node of the id k, where it is live
abbrev pub live_node : FinMap nat_cmp IdEntry → ℕ → Option Ref
live_node m k = node_if_live (get m k)

-- an entry that is live, or not
abbrev pub flagged : Bool → IdEntry → IdEntry
flagged live e = record e { live = live }

-- m with the entry of k, which is this one, live or not
abbrev pub with_mark : FinMap nat_cmp IdEntry → ℕ → Bool → Option IdEntry → FinMap nat_cmp IdEntry
with_mark m k live None = m
with_mark m k live (Some e) = insert m k (flagged live e)

-- with the id k live or not, if it is there
unfoldable pub with_live : FinMap nat_cmp IdEntry → ℕ → Bool → FinMap nat_cmp IdEntry
with_live m k live = with_mark m k live (get m k)
