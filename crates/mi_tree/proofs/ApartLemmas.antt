-- Names that stand apart, in lists and in trees.
-- Cited by `JoinLemmas`.
use Rattle.std.proofs.Common.{List, ◌∷◌, ◌++◌, sym, subst, append_assoc}
use Rattle.mi_node.specs.Refs.{Ref, IsOut, IsApart}
use Rattle.mi_node.proofs.RefLemmas.{out_left, out_right, between}

-- three lists with nodes between them
pub record Thrice (A : List Ref) (x : Ref) (B : List Ref) (y : Ref) (C : List Ref) : Type 0 where
  pub low_left : IsApart (A ++ x ∷ B)
  pub low_right : IsApart (B ++ y ∷ C)
  pub turned : IsApart ((A ++ x ∷ B) ++ y ∷ C)
  pub right : IsApart C
  pub x_C : IsOut x.name C
  pub y_A : IsOut y.name A

pub thrice : (A : List Ref) (x : Ref) (B : List Ref) (y : Ref) (C : List Ref) → IsApart (A ++ x ∷ (B ++ y ∷ C)) → Thrice A x B y C
thrice A x B y C h =
    let turned = subst IsApart (sym (append_assoc A (x ∷ B) (y ∷ C))) h in
    let p = between A x (B ++ y ∷ C) h in let w = between (A ++ x ∷ B) y C turned in record {
      low_left = w.left;
      low_right = p.right;
      turned = turned;
      right = w.right;
      x_C = (out_right x.name B (y ∷ C) p.out_right).1;
      y_A = out_left y.name A (x ∷ B) w.out_left;
    }
