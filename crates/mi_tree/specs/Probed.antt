-- What a probe finds in a list of nodes.
use Rattle.std.specs.Prelude.{◌≡◌, ℕ, Bool, true, false, cond, not, List, [], ◌∷◌, Option, Some, None}
use Rattle.std.specs.declared.cmp.Ordering.{Ordering}
use Rattle.std.specs.declared.cmp.Ordering.TheVariants.{Less, Equal, Greater}
use Rattle.std.specs.Ordering.{is_eq}
use Rattle.mi_node.specs.Pool.{Pooled, value_of}
use Rattle.mi_node.specs.Refs.{Ref}

-- the probe isn't after, or with `is_upper` it is before
abbrev pub past : Bool → Ordering → Bool
past is_upper Less = false
past is_upper Equal = not is_upper
past is_upper Greater = true

-- a probe has a tag, which says all of its key
abbrev pub is_decided : (ℕ → Bool) → Option ℕ → Bool
is_decided exact None = false
is_decided exact (Some tag) = exact tag

module _ {T : Type 0} where
  -- where a value stands, if there is one
  abbrev pub place_at : (T → Ordering) → Option T → Ordering
  place_at place None = Equal
  place_at place (Some v) = place v

  abbrev pub past_value : Bool → (T → Ordering) → Option T → Bool
  past_value is_upper place None = false
  past_value is_upper place (Some v) = past is_upper (place v)

  unfoldable pub is_past_node : Bool → (T → Ordering) → Pooled T → Ref → Bool
  is_past_node is_upper place m r = past_value is_upper place (value_of m r.name)

module _ {T : Type 0} where
  abbrev pub is_value_at : (T → Ordering) → Option T → Bool
  is_value_at place None = false
  is_value_at place (Some v) = is_eq (place v)

  -- the node's key is the probe's
  unfoldable pub is_node_at : (T → Ordering) → Pooled T → Ref → Bool
  is_node_at place m r = is_value_at place (value_of m r.name)

-- the first of the nodes that passes the test
abbrev pub first_where : (Ref → Bool) → List Ref → Option Ref
first_where f [] = None
first_where f (r ∷ rs) = cond (f r) (Some r) (first_where f rs)

abbrev pub AllWhere : (Ref → Bool) → List Ref → Type 0
AllWhere f [] = Unit {0}
AllWhere f (r ∷ rs) = (f r ≡ true) × AllWhere f rs

-- once true, true of all later nodes
abbrev pub IsSteady : (Ref → Bool) → List Ref → Type 0
IsSteady f [] = Unit {0}
IsSteady f (r ∷ rs) = (f r ≡ true → AllWhere f rs) × IsSteady f rs
