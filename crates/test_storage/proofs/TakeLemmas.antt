-- Which nodes are held after `take`.
-- Cited by `chains::two_of_one_key` and `nodes::take_three`.
use Rattle.std.proofs.Common.{◌≡◌, None, sym, subst}
use Rattle.mi_node.specs.Pool.{Pooled, ref_of, IsHeld, taken}
use Rattle.mi_node.specs.Refs.{Ref}
use Rattle.mi_node.proofs.EntryLemmas.{held_taken, held-taken}

module _ {T : Type 0} (m : Pooled T) {n : Pooled T} (r : Ref) (v : T) (e : n ≡ taken m r v) where
  pub held_now : IsHeld n r
  held_now = subst (λ z. IsHeld z r) (sym e) (held_taken m r v)

  pub held_then : {q : Ref} → ref_of m r.name ≡ None → IsHeld m q → IsHeld n q
  held_then {q} free h = subst (λ z. IsHeld z q) (sym e) (held-taken m q r v h free)
