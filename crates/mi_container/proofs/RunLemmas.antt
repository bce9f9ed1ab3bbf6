-- Runs of changes unwind.
-- Cited by `laws::runs_unwind`, `LawLemmas` and `mi_database`.
use Rattle.std.proofs.Common.{◌≡◌, List, [], ◌∷◌, ◌++◌, refl, ap, ◌∙◌}
use Rattle.mi_catalog.specs.Shape.{Shape}
use Rattle.mi_model.specs.Table.{Table}
use Rattle.mi_container.specs.Data.{Data, as_table, IsData}
use Rattle.mi_container.specs.Inverse.{Inverse, taken_back}
use Rattle.mi_container.specs.Fits.{Ready, Fits}
use Rattle.mi_container.specs.Run.{Change, changed, inverse_of, table_changed, Allowed, after_changes, inverses, all_back, table_run}
use Rattle.mi_container.specs.Laws.{RunsUnwind}
use Rattle.mi_container.specs.Run.Change.{Insert, Replace, Erase, Relocate}
use Rattle.mi_container.proofs.InverseLemmas.{insert_back, insert_ready, put_back, put_ready, erase_back, erase_ready, relocate_back, relocate_ready}
use Rattle.mi_container.proofs.TableLemmas.{table_inserted, table_replaced, table_erased, table_relocated}
use Rattle.mi_container.proofs.DataLemmas.{is_data_inserted, is_data_replaced, is_data_erased, is_data_relocated}
use Rattle.mi_container.proofs.FitLemmas.{fits_more}

-- The four laws of a change

pub change_back : (s : Shape) (c : Change) (d : Data) → IsData s d → Allowed s c d → taken_back (inverse_of c d) (changed c d) ≡ d
change_back s (Insert p at r) d is a = insert_back s p at r d is
change_back s (Replace e r) d is a = put_back s e r d a.0
change_back s (Erase e why) d is a = erase_back s e why d is a
change_back s (Relocate x e b) d is a = relocate_back s x e b d is a.0 a.1

pub change_ready : (s : Shape) (c : Change) (d : Data) → IsData s d → Allowed s c d → Ready (inverse_of c d) (changed c d)
change_ready s (Insert p at r) d is a = insert_ready s p at r d is
change_ready s (Replace e r) d is a = put_ready s e r d is a.0
change_ready s (Erase e why) d is a = erase_ready s e why d is a
change_ready s (Relocate x e b) d is a = relocate_ready s x e b d is a.0 a.1

pub change_table : (s : Shape) (c : Change) (d : Data) → IsData s d → Allowed s c d → as_table (changed c d) ≡ table_changed s c (as_table d)
change_table s (Insert p at r) d is a = table_inserted s p at r d is a.0
change_table s (Replace e r) d is a = table_replaced s e r d is a.0
change_table s (Erase e why) d is a = table_erased e d a
change_table s (Relocate x e b) d is a = table_relocated x e b d a.1

pub change_data : (s : Shape) (c : Change) (d : Data) → IsData s d → Allowed s c d → IsData s (changed c d)
change_data s (Insert p at r) d is a = is_data_inserted s p at r d is a.0 a.1 a.2
change_data s (Replace e r) d is a = is_data_replaced s e r d is a.0 a.1
change_data s (Erase e why) d is a = is_data_erased s e d is a
change_data s (Relocate x e b) d is a = is_data_relocated s x e b d is a.0 a.1

-- a change extends a fitting list by its inverse, with the table before
pub change_fits : (s : Shape) (c : Change) (is : List Inverse) (ts : List Table) (d : Data) → IsData s d
    → Allowed s c d → Fits s is ts d → Fits s (inverse_of c d ∷ is) (as_table d ∷ ts) (changed c d)
change_fits s c is ts d holds a fits = fits_more s (inverse_of c d) is ts d (changed c d) (change_ready s c d holds a) (change_back s c d holds a) holds fits

back-append : (is js : List Inverse) (d : Data) → all_back (is ++ js) d ≡ all_back js (all_back is d)
back-append [] js d = refl
back-append (i ∷ is) js d = back-append is js (taken_back i d)

pub runs_unwind : RunsUnwind
runs_unwind s [] d is a = (is, refl, refl)
runs_unwind s (c ∷ cs) d is a =
    let h = runs_unwind s cs (changed c d) (change_data s c d is a.0) a.1 in (
      h.0,
      h.1 ∙ ap (table_run s cs) (change_table s c d is a.0),
      back-append (inverses cs (changed c d)) (inverse_of c d ∷ []) (after_changes cs (changed c d))
          ∙ ap (taken_back (inverse_of c d)) h.2 ∙ change_back s c d is a.0,
    )
