-- A list of nodes with one more.
-- Cited by `PathLemmas` and `StandingLemmas`.
use Rattle.std.proofs.Common.{◌≡◌, ℕ, ◌+◌, List, ◌∷◌, length, sym, ap, subst, arith, length-append}
use Rattle.std.specs.declared.cmp.Ordering.{Ordering}
use Rattle.mi_node.specs.Refs.{Ref, IsOut, IsApart}
use Rattle.mi_node.proofs.RefLemmas.{out_left, out_right, out_both, apart_insert}
use Rattle.mi_tree.specs.Sorted.{IsPutIn}

-- the names of a list with one more
pub put_out : (k : ℕ) (R : Ref → Ref → Ordering) (x : Ref) (rs us : List Ref) → IsPutIn (R x) x rs us → IsOut k (x ∷ rs) → IsOut k us
put_out k R x rs us p o =
    let w = subst (IsOut k) p.was o.1 in subst (IsOut k) (sym p.now) (out_both k p.xs (x ∷ p.ys) (out_left k p.xs p.ys w) (o.0, out_right k p.xs p.ys w))

pub put_length : (R : Ref → Ref → Ordering) (x : Ref) (rs us : List Ref) → IsPutIn (R x) x rs us → length us ≡ length rs + 1
put_length R x rs us p =
    let a = ap length p.was in let b = ap length p.now in let c = length-append p.xs p.ys in let d = length-append p.xs (x ∷ p.ys) in omega arith

pub put_apart : (R : Ref → Ref → Ordering) (x : Ref) (rs us : List Ref) → IsPutIn (R x) x rs us → IsApart rs → IsOut x.name rs → IsApart us
put_apart R x rs us p a o = subst IsApart (sym p.now) (apart_insert p.xs x p.ys (subst IsApart p.was a) (subst (IsOut x.name) p.was o))
