-- Room for nodes: none is asked for no node, and where there is enough nothing grows.
-- Cited by `Structures::grow`, `Structures::make_room`, `Structures::new`, `all::make_room_all` and `mi_multi`.
use Rattle.std.proofs.Common.{ℕ, ◌+◌, ◌<◌, ◌≤◌, List, [], ◌∷◌, ◌++◌, length, take, set, refl, sym, subst, arith}
use Rattle.std.proofs.lemmas.List.{take_more_set}
use Rattle.mi_node.specs.Pool.{Pooled}
use Rattle.mi_node.specs.Refs.{Ref}
use Rattle.mi_index.specs.Standing.{IsLike, IsRoomy}
use Rattle.mi_index.specs.Places.{KeepsTags}
use Rattle.mi_index.specs.Pass.{AllStand, AllGiven, AllLike, AllRoomy, IsPass}
use Rattle.mi_index.specs.Passes.{nothing_asked, grown}
use Rattle.mi_order.specs.declared.stored.Stored.{Stored}
use Rattle.mi_index.specs.declared.structure.Structure.{Structure}
use Rattle.mi_index.specs.declared.structure.Structure.TheVariants.{Sorted, Hashed, Sequenced}

fewer_one : (x : Structure) (k n : ℕ) → k ≤ n → IsRoomy x n → IsRoomy x k
fewer_one (Sorted t) k n l h = tt
fewer_one (Hashed c) k n l h = omega (arith, l, h)
fewer_one (Sequenced q) k n l h = tt

-- room for n nodes is room for fewer
pub fewer_all : (xs : List Structure) (k n : ℕ) → k ≤ n → AllRoomy xs n → AllRoomy xs k
fewer_all [] k n l h = tt
fewer_all (x ∷ xs) k n l h = (fewer_one x k n l h.0, fewer_all xs k n l h.1)

none_one : (x : Structure) → IsRoomy x 0
none_one (Sorted t) = tt
none_one (Hashed c) = omega arith
none_one (Sequenced q) = tt

pub none_all : (xs : List Structure) → AllRoomy xs 0
none_all [] = tt
none_all (x ∷ xs) = (none_one x, none_all xs)

both_roomy : (xs : List Structure) (y : Structure) (n : ℕ) → AllRoomy xs n → IsRoomy y n → AllRoomy (xs ++ y ∷ []) n
both_roomy [] y n g h = (h, tt)
both_roomy (x ∷ xs) y n g h = (g.0, both_roomy xs y n g.1 h)

-- one more has room
pub roomy_more : (xs : List Structure) (i : ℕ) (y : Structure) (n : ℕ) → i < length xs → AllRoomy (take i xs) n → IsRoomy y n
    → AllRoomy (take (i + 1) (set xs i y)) n
roomy_more xs i y n l g h = subst (λ zs. AllRoomy zs n) (sym (take_more_set xs i y l)) (both_roomy (take i xs) y n g h)

like_itself : (x : Structure) → IsLike x x
like_itself (Sorted t) = (refl, refl)
like_itself (Hashed c) = (refl, refl, omega arith)
like_itself (Sequenced q) = refl

pub all_like : (xs : List Structure) → AllLike xs xs
all_like [] = tt
all_like (x ∷ xs) = (like_itself x, all_like xs)

tags_stay : (x : Structure) (m : Pooled Stored) → KeepsTags x m m
tags_stay (Sorted t) m = λ k. refl
tags_stay (Hashed c) m = λ k. refl
tags_stay (Sequenced q) m = tt

all_given : (xs : List Structure) (s : ℕ) (m : Pooled Stored) (rss : List (List Ref)) → AllStand xs s m rss → AllGiven grown xs s m m rss rss
all_given [] s m [] h = tt
all_given [] s m (rs ∷ rss) h = absurd h
all_given (x ∷ xs) s m [] h = absurd h
all_given (x ∷ xs) s m (rs ∷ rss) h = (record { list = refl; tags = tags_stay x m }, all_given xs (s + 1) m rss h.2)

-- nothing has grown
pub nothing_grown : (r : Ref) (s : ℕ) (xs : List Structure) (m : Pooled Stored) → IsPass nothing_asked grown r s xs xs m m
nothing_grown r s xs m rss h c = record {
  uss = rss;
  done = all_given xs s m rss h;
  stand = h;
  keeps = record { refs = λ k. refl; values = λ k. refl; slots = refl; earlier_slots = λ k t l. refl; other_nodes = λ k t d out. refl };
}
