-- A change that was made can be taken back or settled.
-- Cited by `laws::made_is_undone` and `mi_bench`.
use Rattle.std.proofs.Common.{◌≡◌, sym, ◌∙◌, subst}
use Rattle.mi_container.specs.Data.{Data, IsData}
use Rattle.mi_container.specs.Inverse.{Inverse, taken_back}
use Rattle.mi_container.specs.Fits.{Ready}
use Rattle.mi_container.specs.Run.{changed}
use Rattle.mi_container.specs.Made.{MadeIsUndone}
use Rattle.mi_container.proofs.FitLemmas.{ready_keeps}
use Rattle.mi_container.proofs.LawLemmas.{change_is_undone}

pub made_is_undone : MadeIsUndone
made_is_undone s c old i new is made =
    let undone = change_is_undone s c old is made.allowed in
    let ready : Ready i new = subst (λ (d : Data). Ready i d) (sym made.changed_data)
    (subst (λ (j : Inverse). Ready j (changed c old)) (sym made.inverse) undone.0) in
    let back : taken_back i new ≡ old = (λ n. taken_back (made.inverse n) (made.changed_data n)) ∙ undone.1 in
    (ready, subst (IsData s) (sym back) is, ready_keeps i new ready, back)
