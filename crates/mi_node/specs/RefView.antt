-- The reference that bits stand for.
use Rattle.std.specs.Prelude.{◌≡◌, ℕ, ◌+◌, ◌*◌, ◌/◌, ◌%◌, ◌<◌}
use Rattle.std.proofs.Common.{ap}
use native.Mathlib.Omega.{arith}
use Rattle.mi_node.specs.Refs.{Ref}
use Rattle.mi_node.specs.declared.node_ref.NodeRef.TheInside.{Inside}

abbrev pub ref_seen : Inside → Ref
ref_seen a = record { name = a.bits / 2; generation = a.bits % 2 }

abbrev pub IsSomebody : Inside → Type 0
IsSomebody a = a.bits < 4294967294

abbrev pub bits_of : Ref → Inside
bits_of r = record { bits = r.name * 2 + r.generation }

halves : (b : ℕ) → b / 2 * 2 + b % 2 ≡ b
halves b = omega arith

pub bits_of-ref_seen : (a : Inside) → IsSomebody a → bits_of (ref_seen a) ≡ a
bits_of-ref_seen a h = ap (λ (b : ℕ). record { bits = b }) (halves a.bits)
