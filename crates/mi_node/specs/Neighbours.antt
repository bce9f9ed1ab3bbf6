-- Nodes that are linked through one slot of a pool, as a list of references.
--     AreHeld         each node of a list is held
--     IsLinked        after one node and before another stand these, each knowing its neighbours
--     with_back, with_forth, joined      the pool after one side of a node's link was set, and of two nodes' links
--     kept_if         an end that is another where no node stands on that side
use Rattle.std.specs.Prelude.{◌≡◌, ℕ, List, [], ◌∷◌, Option, Some, None}
use Rattle.mi_node.specs.Pool.{Pooled, link_of, IsHeld, with_link}
use Rattle.mi_node.specs.Refs.{Ref, first_of}

-- the old end, or where there is no neighbour on that side a new one
abbrev pub kept_if : {A : Type 0} → Option Ref → A → A → A
kept_if None old new = new
kept_if (Some r) old new = old

module _ {T : Type 0} where
  abbrev pub AreHeld : Pooled T → List Ref → Type 0
  AreHeld m [] = Unit {0}
  AreHeld m (r ∷ rs) = IsHeld m r × AreHeld m rs

  -- after b and before f stand the nodes rs, each knowing its neighbours in slot s
  abbrev pub IsLinked : Pooled T → ℕ → Option Ref → List Ref → Option Ref → Type 0
  IsLinked m s b [] f = Unit {0}
  IsLinked m s b (r ∷ rs) f = IsHeld m r × ((link_of m r.name s).back ≡ b) × ((link_of m r.name s).forth ≡ first_of rs f) × IsLinked m s (Some r) rs f

  unfoldable pub with_back : Pooled T → ℕ → Ref → Option Ref → Pooled T
  with_back m s r b = with_link m r.name s (record (link_of m r.name s) { back = b })

  unfoldable pub with_forth : Pooled T → ℕ → Ref → Option Ref → Pooled T
  with_forth m s r f = with_link m r.name s (record (link_of m r.name s) { forth = f })

  abbrev pub with_back_if : Pooled T → ℕ → Option Ref → Option Ref → Pooled T
  with_back_if m s None b = m
  with_back_if m s (Some r) b = with_back m s r b

  abbrev pub with_forth_if : Pooled T → ℕ → Option Ref → Option Ref → Pooled T
  with_forth_if m s None f = m
  with_forth_if m s (Some r) f = with_forth m s r f

  -- the node b, if there is one, has l after it, and the node f has r before it
  abbrev pub joined : Pooled T → ℕ → Option Ref → Option Ref → Option Ref → Option Ref → Pooled T
  joined m s b l f r = with_back_if (with_forth_if m s b l) s f r
