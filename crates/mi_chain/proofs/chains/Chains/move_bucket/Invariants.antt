-- some groups have moved; other buckets that had none have none
use Rattle.std.proofs.Common.{◌≡◌, ◌<◌, ℕ, List as Seq, None, vec_len, slice_index_or}
use Rattle.mi_node.specs.Pool.{Keeps, node_count, link_of}
use Rattle.mi_node.specs.Refs.{Ref}
use Rattle.mi_chain.specs.Moves.{AreBetween, hops, next_group}
use Rattle.mi_chain.proofs.chains.Chains.move_bucket.Given as goal

abbrev pub invariant-loop-first : goal.invariant-loop-first
invariant-loop-first g l = let k = g.H.KeyHash.keying l.fn.self.keys in
    ((rs : Seq Ref) → AreBetween l.fn.self l.fn.old.items (vec_len l.fn.old) k l.fn.p rs
    → AreBetween l.self l.old.items (vec_len l.old) k l.p rs × Keeps l.fn.p l.p l.fn.self.slot rs)
    × ((i : ℕ) → i < vec_len l.fn.old → slice_index_or l.fn.old.items i None ≡ None → slice_index_or l.old.items i None ≡ None)
    × (vec_len l.old ≡ vec_len l.fn.old) × (vec_len l.self.buckets ≡ vec_len l.fn.self.buckets)
    × (l.self.slot ≡ l.fn.self.slot) × (l.self.keys ≡ l.fn.self.keys)
    × ((q : ℕ) → (link_of l.p q l.fn.self.slot).tag ≡ (link_of l.fn.p q l.fn.self.slot).tag)

abbrev pub decreases-loop-first : goal.decreases-loop-first
decreases-loop-first g l = hops (next_group l.p l.fn.self.slot) (node_count l.p) (slice_index_or l.old.items l.bucket None)
