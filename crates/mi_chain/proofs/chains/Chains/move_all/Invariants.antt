-- the buckets so far have no nodes
use Rattle.std.proofs.Common.{◌≡◌, ◌<◌, ℕ, List as Seq, None, vec_len, slice_index_or}
use Rattle.mi_node.specs.Pool.{Keeps, link_of}
use Rattle.mi_node.specs.Refs.{Ref}
use Rattle.mi_chain.specs.Moves.{AreBetween}
use Rattle.mi_chain.proofs.chains.Chains.move_all.Given as goal

abbrev pub invariant-loop-bucket : goal.invariant-loop-bucket
invariant-loop-bucket g l = let k = g.H.KeyHash.keying l.fn.self.keys in
    ((rs : Seq Ref) → AreBetween l.fn.self l.fn.old.items (vec_len l.fn.old) k l.fn.p rs
    → AreBetween l.self l.old.items (vec_len l.old) k l.p rs × Keeps l.fn.p l.p l.fn.self.slot rs)
    × ((i : ℕ) → i < l.bucket → slice_index_or l.old.items i None ≡ None)
    × (vec_len l.old ≡ vec_len l.fn.old) × (vec_len l.self.buckets ≡ vec_len l.fn.self.buckets)
    × (l.self.slot ≡ l.fn.self.slot) × (l.self.keys ≡ l.fn.self.keys)
    × ((q : ℕ) → (link_of l.p q l.fn.self.slot).tag ≡ (link_of l.fn.p q l.fn.self.slot).tag)
