-- Refusals that are handed on.
-- Cited by `edits::edits_of` and `mi_embed`.
use Rattle.std.proofs.Common.{◌≡◌, Option, Some, None, Result, Err, refl, sym, ap, ◌∙◌, subst}
use Rattle.std.specs.Option.{ok_or}
use Rattle.mi_value.specs.declared.refusal.Refusal.{Refusal}
use Rattle.mi_value.specs.declared.refusal.Refusal.TheVariants.{Memory}
use Rattle.mi_request.specs.Answers.{IsAnswer}

-- where a part is missing the whole is
part_refused : {A B : Type 0} (x missing : Refusal) (part : Option A) (whole : Option B)
    → (part ≡ None → whole ≡ None) → IsAnswer (Err x) (ok_or part missing) → IsAnswer (Err x) (ok_or whole missing)
part_refused Memory missing part whole none h = tt
part_refused x missing None whole none h = let gone = ap (λ o. ok_or o missing) (none refl) in cc
part_refused x missing (Some a) whole none h = absurd (cc)

pub refused : {A B : Type 0} (r : Result B Refusal) (e x missing : Refusal) (part : Option A) (whole : Option B)
    → r ≡ Err e → e ≡ x → (part ≡ None → whole ≡ None) → IsAnswer (Err x) (ok_or part missing) → IsAnswer r (ok_or whole missing)
refused r e x missing part whole is same none h =
    subst (λ s. IsAnswer s (ok_or whole missing)) (sym (is ∙ ap Err same)) (part_refused x missing part whole none h)
