-- The heads of the buckets after a call.
use Rattle.std.specs.Prelude.{ℕ, List, Option, Some, None, slice_set}
use Rattle.mi_node.specs.Refs.{Ref}

-- with another head of a bucket, where no node stands before
abbrev pub heads_joined : Option Ref → List (Option Ref) → ℕ → Option Ref → List (Option Ref)
heads_joined None heads i f = slice_set heads i f
heads_joined (Some r) heads i f = heads
