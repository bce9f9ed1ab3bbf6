-- The structures that a schema opens with, without nodes.
use Rattle.std.specs.Prelude.{◌≡◌, ℕ, ◌+◌, ◌⊎◌, List, [], ◌∷◌, length, slice_get}
use Rattle.std.specs.declared.option.Option.{Option}
use Rattle.std.specs.declared.option.Option.TheVariants.{None, Some}
use Rattle.mi_value.specs.declared.value.ColumnType.{ColumnType}
use Rattle.mi_value.specs.declared.value.ColumnType.TheVariants.{Int}
use Rattle.mi_value.specs.declared.compare.KeyPart.{KeyPart}
use Rattle.mi_catalog.specs.declared.index.Column.{Column}
use Rattle.mi_catalog.specs.declared.index.Index.{Index}
use Rattle.mi_catalog.specs.declared.index.IndexKind.TheVariants as kinds
use Rattle.mi_catalog.specs.Shape.{Shape}
use Rattle.mi_node.specs.Pool.{Pooled, no_nodes}
use Rattle.mi_node.specs.Refs.{Ref}
use Rattle.mi_list.specs.Listed.{slot_of, IsNew}
use Rattle.mi_chain.specs.Chained.{AreNew}
use Rattle.mi_index.specs.Pass.{AllStand}
use Rattle.mi_order.specs.declared.stored.Stored.{Stored}
use Rattle.mi_order.specs.declared.prefixes.PrefixTypes.{PrefixTypes}
use Rattle.mi_index.specs.declared.structure.Structure.{Structure}
use Rattle.mi_index.specs.declared.structure.Structure.TheVariants.{Sorted, Hashed, Sequenced}

-- the type of a column; one that isn't there counts as a number's
abbrev pub type_at : Option Column → ColumnType
type_at None = Int
type_at (Some c) = c.kind

-- the type of the column of a part; one that isn't there counts as a number's, as the id is
abbrev pub type_of : List Column → Option KeyPart → ColumnType
type_of columns None = Int
type_of columns (Some p) = type_at (slice_get columns p.column)

-- those of the first two parts
abbrev pub prefix_types : List Column → List KeyPart → PrefixTypes
prefix_types columns ps = record { first = type_of columns (slice_get ps 0); second = type_of columns (slice_get ps 1) }

-- a structure of the kind, the key and the slot of an index, with the secret where it hashes
abbrev pub IsOpenedFor : ℕ → List Column → Index → ℕ → Structure → Type 0
IsOpenedFor secret columns i s (Sorted t) = ((i.kind ≡ kinds.Ordered) ⊎ (i.kind ≡ kinds.Ranked))
    × (t.order.parts ≡ i.parts) × (t.order.types ≡ prefix_types columns i.parts) × (t.slot ≡ s)
IsOpenedFor secret columns i s (Hashed c) = (i.kind ≡ kinds.Hashed) × (c.keys.parts ≡ i.parts) × (c.slot ≡ s) × (c.keys.secret ≡ secret)
IsOpenedFor secret columns i s (Sequenced l) = (i.kind ≡ kinds.Sequenced) × (slot_of l ≡ s)

abbrev pub AllOpenedFor : ℕ → List Column → List Index → ℕ → List Structure → Type 0
AllOpenedFor secret columns [] s [] = Unit {0}
AllOpenedFor secret columns [] s (x ∷ xs) = ⊥
AllOpenedFor secret columns (i ∷ is) s [] = ⊥
AllOpenedFor secret columns (i ∷ is) s (x ∷ xs) = IsOpenedFor secret columns i s x × AllOpenedFor secret columns is (s + 1) xs

abbrev pub IsEmpty : Structure → Type 0
IsEmpty (Sorted t) = t.root ≡ None
IsEmpty (Hashed c) = AreNew c c.slot c.keys
IsEmpty (Sequenced l) = IsNew l (slot_of l)

abbrev pub AllEmpty : List Structure → Type 0
AllEmpty [] = Unit {0}
AllEmpty (x ∷ xs) = IsEmpty x × AllEmpty xs

-- no node for each structure
abbrev pub empties : List Structure → List (List Ref)
empties [] = []
empties (x ∷ xs) = [] ∷ empties xs

-- a pool of as many slots as there are indexes, without nodes, and a structure for each index, all hashed ones with the secret
pub record IsOpened (secret : ℕ) (s : Shape) (m : Pooled Stored) (xs : List Structure) : Type 0 where
  pub pool : m ≡ no_nodes (length s.indexes)
  pub kinds : AllOpenedFor secret s.columns s.indexes 0 xs
  pub stand : AllStand xs 0 m (empties xs)
