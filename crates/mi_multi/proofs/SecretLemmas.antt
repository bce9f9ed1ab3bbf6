-- A change of the structures leaves each its secret.
-- Cited by `MultiIndex::erase_for`, `MultiIndex::insert_accepted`, `MultiIndex::put`, `MultiIndex::restamp` and 4 more.
use Rattle.std.proofs.Common.{◌≡◌, Some, List, [], ◌∷◌, map, refl, ap, ◌∙◌}
use Rattle.mi_index.specs.declared.structure.Structure.{Structure}
use Rattle.mi_index.specs.Standing.{IsLike}
use Rattle.mi_index.specs.Pass.{AllLike}
use Rattle.mi_index.proofs.LikeLemmas.{by_kind}
use Rattle.mi_multi.specs.Seen.{Seen, secret_in, seen_of}
use Rattle.mi_multi.specs.declared.multi.MultiIndex.TheInside.{Inside}

one_secret : (x y : Structure) → IsLike x y → secret_in y ≡ secret_in x
one_secret x y = by_kind (λ x y. secret_in y ≡ secret_in x) (λ a c l. refl) (λ a c l. ap (λ k. Some k.secret) l.1) (λ a c l. refl) x y

all_secrets : (xs ys : List Structure) → AllLike xs ys → map secret_in ys ≡ map secret_in xs
all_secrets [] [] l = refl
all_secrets [] (y ∷ ys) l = absurd l
all_secrets (x ∷ xs) [] l = absurd l
all_secrets (x ∷ xs) (y ∷ ys) l = λ j. one_secret x y l.0 j ∷ all_secrets xs ys l.1 j

-- those that contracts saw before are seen afterwards
pub secrets_kept : (i : Inside) {w : Seen} → seen_of i ≡ w → (ys : List Structure) → AllLike i.nodes.structures.items ys → map secret_in ys ≡ w.secrets
secrets_kept i seen ys like = all_secrets i.nodes.structures.items ys like ∙ ap (λ (w : Seen). w.secrets) seen
