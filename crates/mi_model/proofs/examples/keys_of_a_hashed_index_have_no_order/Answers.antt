-- For each whole key the two tables show one list, so they are the same.
use Rattle.std.proofs.Common.{◌≡◌, ℕ, zero, suc, true, false, List, [], ◌∷◌, refl, arith}
use Rattle.mi_value.specs.declared.value.Value.{Value}
use Rattle.mi_value.specs.declared.value.Value.TheVariants.{Int, Text, Flag}
use Rattle.mi_catalog.specs.Shape.{index_at}
use Rattle.mi_catalog.specs.Accounts.{accounts}
use Rattle.mi_catalog.specs.Key.{IsWholeKey}
use Rattle.mi_model.specs.View.{of_key}
use Rattle.mi_model.specs.Same.{SameView}
use Rattle.mi_model.specs.Examples.{one_vip, one_vip_later}
use Rattle.mi_model.proofs.examples.keys_of_a_hashed_index_have_no_order.Goals as goal

-- by vip: each key in turn
by_vip : (key : List Value) → IsWholeKey (index_at accounts 3).parts key → of_key accounts one_vip 3 key ≡ of_key accounts one_vip_later 3 key
by_vip [] whole = absurd (omega arith)
by_vip (Int n ∷ []) whole = refl
by_vip (Text bytes ∷ []) whole = refl
by_vip (Flag true ∷ []) whole = refl
by_vip (Flag false ∷ []) whole = refl
by_vip (v ∷ w ∷ vs) whole = absurd (omega arith)

same_views : (x : ℕ) → SameView (index_at accounts x).kind accounts x one_vip one_vip_later
same_views zero = refl
same_views (suc zero) = λ key whole. refl
same_views (suc (suc zero)) = refl
same_views (suc (suc (suc zero))) = by_vip
same_views (suc (suc (suc (suc zero)))) = refl
same_views (suc (suc (suc (suc (suc zero))))) = refl
same_views (suc (suc (suc (suc (suc (suc x)))))) = λ key whole. refl

pub returns : goal.returns
returns c = (refl, refl, record { rows = refl; next = refl; arrivals = refl; views = same_views })
