-- What a structure answers.
-- Cited by `Structure::count`, `Structure::find`, `look::find_in_chains`, `look::last_in_tree`, `look::place_in_chains` and 1 more.
use Rattle.std.proofs.Common.{◌≡◌, ℕ, suc, Bool, true, false, cond, List, [], ◌∷◌, ◌++◌, length, Some, None, refl, sym, ap, ◌∙◌}
use Rattle.std.specs.List.{filter}
use Rattle.mi_node.specs.Pool.{Pooled, IsHeld}
use Rattle.mi_node.specs.Refs.{Ref, first_of, last_of}
use Rattle.mi_node.specs.Neighbours.{AreHeld}
use Rattle.mi_list.proofs.ChangeLemmas.{nothing_after}
use Rattle.mi_tree.specs.BinaryTree.{nth_of}
use Rattle.mi_tree.specs.Probed.{first_where}
use Rattle.mi_tree.proofs.BinaryTreeLemmas.{nth-last}
use Rattle.mi_index.specs.Standing.{Stands}
use Rattle.mi_order.specs.declared.stored.Stored.{Stored}
use Rattle.mi_index.specs.declared.structure.Structure.{Structure}
use Rattle.mi_index.proofs.OtherNodeLemmas.{nodes_held}

pub first_filter : (f : Ref → Bool) (rs : List Ref) → first_of (filter f rs) None ≡ first_where f rs
first_filter f [] = refl
first_filter f (r ∷ rs) = (elim (f r) as (λ b. first_of (cond b (r ∷ filter f rs) (filter f rs)) None ≡ cond b (Some r) (first_where f rs)) [
  | true ↦ refl
  | false ↦ first_filter f rs
])

pub none_where : (rs : List Ref) → None ≡ first_where (λ q. false) rs
none_where [] = refl
none_where (r ∷ rs) = none_where rs

pub none_pass : (rs : List Ref) → 0 ≡ length (filter (λ q. false) rs)
none_pass [] = refl
none_pass (r ∷ rs) = none_pass rs

pub last_nth : (rs : List Ref) (n : ℕ) → length rs ≡ suc n → nth_of rs n ≡ last_of None rs
last_nth rs n e = ap (λ l. nth_of l n) (sym (nothing_after rs)) ∙ nth-last rs [] n e

among : (m : Pooled Stored) (xs : List Ref) (r : Ref) (ys : List Ref) → AreHeld m (xs ++ r ∷ ys) → IsHeld m r
among m [] r ys h = h.0
among m (x ∷ xs) r ys h = among m xs r ys h.1

pub held_there : (x : Structure) (m : Pooled Stored) (xs : List Ref) (r : Ref) (ys : List Ref) → Stands x m (xs ++ r ∷ ys) → IsHeld m r
held_there x m xs r ys h = among m xs r ys (nodes_held x m (xs ++ r ∷ ys) h)
