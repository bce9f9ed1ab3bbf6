-- The laws as their contracts state them.
-- Cited by `laws::change_fits`, `laws::change_is_tables`, `laws::change_is_undone`, 6 more, `mi_multi` and `test_container`.
use Rattle.std.proofs.Common.{ℕ, [], ◌∷◌, ◌++◌, refl, subst}
use Rattle.std.specs.declared.option.Option.{Option}
use Rattle.std.specs.declared.option.Option.TheVariants.{None, Some}
use Rattle.mi_container.specs.Inverse.{Inverse, keeps}
use Rattle.mi_container.specs.Fits.{Fits}
use Rattle.mi_container.specs.Laws.{OpensEmpty, ChangeIsTables, ChangeIsUndone, ChangeFits, NewestIsBack, OldestIsSettled, KeepOthers, SettledLater, KeptByOne}
use Rattle.mi_container.proofs.OpeningLemmas.{table_opened, is_data_opened}
use Rattle.mi_container.proofs.FitLemmas.{DifferFrom, settled_back, settled_data, settled_table, keeps_still, fits_settled, fits_names, unnamed}
use Rattle.mi_container.proofs.RunLemmas.{change_back, change_ready, change_table, change_data, change_fits as change_extends}

pub opens_empty : OpensEmpty
opens_empty s kept = (is_data_opened s kept, table_opened s)

pub change_is_tables : ChangeIsTables
change_is_tables s c d is a = (change_data s c d is a, change_table s c d is a)

pub change_is_undone : ChangeIsUndone
change_is_undone s c d is a = (change_ready s c d is a, change_back s c d is a)

pub change_fits : ChangeFits
change_fits s c is ts d holds a fits = change_extends s c is ts d holds a fits

pub newest_is_back : NewestIsBack
newest_is_back s i is t ts d fits = (fits.0, fits.1, fits.2, fits.3)

pub oldest_is_settled : OldestIsSettled
oldest_is_settled s f is t ts d holds fits = (
  keeps_still s f is [] (ts ++ t ∷ []) d fits,
  settled_data s f d holds,
  settled_table f d,
  fits_settled s f is t ts d fits,
)

keeps_other : (o : Option ℕ) (j : Inverse) → KeepOthers o j → DifferFrom o j
keeps_other None j others = tt
keeps_other (Some e) j others = others e refl

pub settled_later : SettledLater
settled_later f j d others = settled_back f j d (keeps_other (keeps f) j others)

pub kept_by_one : KeptByOne
kept_by_one s is ts d holds fits = (
  fits_names s is ts d fits,
  λ later older r why same. unnamed s r why later older ts d holds (subst (λ q. Fits s q ts d) same fits),
)
