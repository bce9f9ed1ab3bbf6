-- What taking back and settling ask of the inverse of a change that was just made.
-- Cited by `Accounts::add`, `Accounts::add_and_unwind` and `Accounts::erase_and_unwind`.
use Rattle.std.proofs.Common.{◌≡◌, ℕ, sym, subst}
use Rattle.std.specs.declared.option.Option.{Option}
use Rattle.std.specs.declared.option.Option.TheVariants.{None, Some}
use Rattle.mi_catalog.specs.Shape.{Shape}
use Rattle.mi_container.specs.Data.{Data, IsData}
use Rattle.mi_container.specs.Inverse.{Inverse, taken_back}
use Rattle.mi_container.specs.Fits.{Ready, KeptBy}
use Rattle.mi_container.specs.Run.{Change}
use Rattle.mi_container.specs.Run.Change.{Erase}
use Rattle.mi_container.specs.Makes.{Makes, MakesModify}
use Rattle.mi_container.proofs.MadeLemmas.{made_is_undone}

change_back : (s s' : Shape) (k : Change) (old : Data) (i : Inverse) (new : Data) → IsData s old → s' ≡ s → Makes s k old i new
    → Ready i new × IsData s' (taken_back i new)
change_back s s' k old i new is same made =
    let undone = made_is_undone s k old i new is made in
    (undone.0, subst (λ (x : Shape). IsData x (taken_back i new)) (sym same) undone.1)

pub erase_back : (s s' : Shape) (e : ℕ) (old : Data) (i : Inverse) (new : Data) → IsData s old → s' ≡ s → Makes s (Erase e None) old i new
    → Ready i new × IsData s' (taken_back i new)
erase_back s s' e old i new is same made = change_back s s' (Erase e None) old i new is same made

pub modify_back : (s s' : Shape) (why : Option (ℕ × ℕ)) (e : ℕ) (old : Data) (i : Inverse) (new : Data) → IsData s old → s' ≡ s
    → MakesModify why s e old i new → Ready i new × IsData s' (taken_back i new)
modify_back s s' None e old i new is same made = change_back s s' _ old i new is same made.1
modify_back s s' (Some at) e old i new is same made = change_back s s' _ old i new is same made

-- and settled
change_kept : (s : Shape) (k : Change) (old : Data) (i : Inverse) (new : Data) → IsData s old → Makes s k old i new → KeptBy i new
change_kept s k old i new is made = (made_is_undone s k old i new is made).2

pub modify_kept : (s : Shape) (why : Option (ℕ × ℕ)) (e : ℕ) (old : Data) (i : Inverse) (new : Data) → IsData s old → MakesModify why s e old i new
    → KeptBy i new
modify_kept s None e old i new is made = change_kept s _ old i new is made.1
modify_kept s (Some at) e old i new is made = change_kept s _ old i new is made
