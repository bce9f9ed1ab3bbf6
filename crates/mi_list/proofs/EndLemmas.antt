-- The ends of a list after a node was taken out or put in.
-- Cited by `ChangeLemmas`.
use Rattle.std.proofs.Common.{◌≡◌, List, [], ◌∷◌, ◌++◌, Option, Some, None, refl, sym, ◌∙◌}
use Rattle.mi_node.specs.Neighbours.{kept_if}
use Rattle.mi_node.specs.Refs.{Ref, first_of, last_of}
use Rattle.mi_node.proofs.RefLemmas.{last_push, last_both}

last_is_some : (x : Ref) (xs : List Ref) (o w : Option Ref) → kept_if (last_of (Some x) xs) o w ≡ o
last_is_some x [] o w = refl
last_is_some x (y ∷ xs) o w = last_is_some y xs o w

-- the ends of the list
pub first_kept : (xs zs ws : List Ref) → kept_if (last_of None xs) (first_of (xs ++ zs) None) (first_of ws None) ≡ first_of (xs ++ ws) None
first_kept [] zs ws = refl
first_kept (x ∷ xs) zs ws = last_is_some x xs (Some x) (first_of ws None)

pub last_unlinked : (xs : List Ref) (x : Ref) (ys : List Ref)
    → kept_if (first_of ys None) (last_of None (xs ++ x ∷ ys)) (last_of None xs) ≡ last_of None (xs ++ ys)
last_unlinked xs x [] = sym (last_both None xs [])
last_unlinked xs x (y ∷ ys) = last_push None xs x (y ∷ ys) ∙ sym (last_push None xs y ys)

pub last_relinked : (xs : List Ref) (x : Ref) (ys : List Ref) → kept_if (first_of ys None) (last_of None (xs ++ ys)) (Some x) ≡ last_of None (xs ++ x ∷ ys)
last_relinked xs x [] = sym (last_push None xs x [])
last_relinked xs x (y ∷ ys) = last_push None xs y ys ∙ sym (last_push None xs x (y ∷ ys))
