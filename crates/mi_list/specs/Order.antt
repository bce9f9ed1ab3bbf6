-- The names of a list, found by following the links.
use Rattle.std.specs.Prelude.{ℕ, zero, suc, List as Seq, [], ◌∷◌, Option, Some, None}
use Rattle.mi_node.specs.Pool.{Pooled, link_of, node_count}
use Rattle.mi_node.specs.Refs.{Ref}
use Rattle.mi_list.specs.declared.list.List.{List}

-- at most n names, from the node o on
abbrev pub follow : {T : Type 0} → Pooled T → ℕ → ℕ → Option Ref → Seq ℕ
follow m s zero o = []
follow m s (suc n) None = []
follow m s (suc n) (Some r) = r.name ∷ follow m s n (link_of m r.name s).forth

-- no list is longer than its pool
unfoldable pub order : {T : Type 0} → List → Pooled T → Seq ℕ
order l m = follow m l.slot (node_count m) l.first
