-- What changes, taking back and settling leave of a container and the inverses of its changes.
-- Cited by `Journaled::modify`, `Undoable::erase`, `Undoable::insert`, `Undoable::modify`, `Undoable::relocate` and 3 more.
use Rattle.std.proofs.Common.{◌≡◌, ℕ, Some, None, List, [], ◌∷◌, ◌++◌, reverse, refl, ap, sym, ◌∙◌, subst}
use Rattle.std.specs.declared.option.Option.{Option}
use Rattle.std.proofs.lemmas.List.{reverse-append}
use Rattle.mi_catalog.specs.Shape.{Shape}
use Rattle.mi_model.specs.Table.{Table}
use Rattle.mi_container.specs.Data.{Data, IsData, as_table}
use Rattle.mi_container.specs.Changes.{opened_data}
use Rattle.mi_container.specs.Inverse.{Inverse, taken_back, settled}
use Rattle.mi_container.specs.Fits.{KeptBy, Fits}
use Rattle.mi_container.specs.Run.{Change, changed, inverse_of}
use Rattle.mi_container.specs.Makes.{Makes, MakesModify}
use Rattle.mi_container.proofs.LawLemmas.{change_fits, oldest_is_settled}
use Rattle.test_container.specs.Undone.{CanTakeBack}

pub opened : (schema shape : Shape) (d : Data) → shape ≡ schema → d ≡ opened_data schema → CanTakeBack schema shape d []
opened schema shape d same is = (sym same, [], ap (λ (x : Data). x.kept) is)

-- nothing changed
pub stays : (schema shape shape' : Shape) (d d' : Data) (is : List Inverse) → shape' ≡ shape → d' ≡ d
    → CanTakeBack schema shape d is → CanTakeBack schema shape' d' is
stays schema shape shape' d d' is same was holds =
    subst (λ s. CanTakeBack schema s d' is) (sym same) (subst (λ x. CanTakeBack schema shape x is) (sym was) holds)

-- one change more, whose inverse is put behind the others in room made for it
pub makes : {schema shape shape' : Shape} {d d' : Data} {i : Inverse} {is room after : List Inverse} (k : Change) → IsData shape d → shape' ≡ shape
    → Makes shape k d i d' → room ≡ is → after ≡ room ++ i ∷ [] → CanTakeBack schema shape d is → CanTakeBack schema shape' d' after
makes {schema} {shape} {shape'} {d} {d'} {i} {is} k good same made reserved pushed holds =
    let fits : Fits shape (inverse_of k d ∷ reverse is) (as_table d ∷ holds.1) (changed k d) =
    change_fits shape k (reverse is) holds.1 d good made.allowed holds.2 in
    let fits' : Fits shape (i ∷ reverse is) (as_table d ∷ holds.1) d' =
    subst (λ j. Fits shape (j ∷ reverse is) (as_table d ∷ holds.1) d') (sym made.inverse)
    (subst (λ x. Fits shape (inverse_of k d ∷ reverse is) (as_table d ∷ holds.1) x) (sym made.changed_data) fits) in
    let fits'' : Fits shape (reverse (is ++ i ∷ [])) (as_table d ∷ holds.1) d' =
    subst (λ js. Fits shape js (as_table d ∷ holds.1) d') (sym (reverse-append is (i ∷ []))) fits' in
    let more : CanTakeBack schema shape d' (is ++ i ∷ []) = (holds.0, as_table d ∷ holds.1, fits'') in
    subst (λ js. CanTakeBack schema shape' d' js) (sym (pushed ∙ ap (λ js. js ++ i ∷ []) reserved))
    (subst (λ s. CanTakeBack schema s d' (is ++ i ∷ [])) (sym same) more)

-- whatever a modify made, it is one change
pub one_change : (why : Option (ℕ × ℕ)) (shape : Shape) (e : ℕ) (d : Data) (i : Inverse) (d' : Data) → MakesModify why shape e d i d'
    → (k : Change) × Makes shape k d i d'
one_change None shape e d i d' made = (_, made.1)
one_change (Some at) shape e d i d' made = (_, made)

turned : (schema shape : Shape) (d : Data) (i : Inverse) (is : List Inverse)
    → (holds : CanTakeBack schema shape d (is ++ i ∷ [])) → Fits shape (i ∷ reverse is) holds.1 d
turned schema shape d i is holds = subst (λ js. Fits shape js holds.1 d) (reverse-append is (i ∷ [])) holds.2

-- the oldest can be settled
pub tables_split : (shape : Shape) (f : Inverse) (is : List Inverse) (ts : List Table) (d : Data) → Fits shape (is ++ f ∷ []) ts d
    → (newer : List Table) × (t : Table) × (ts ≡ newer ++ t ∷ [])
tables_split shape f [] [] d fits = absurd fits
tables_split shape f [] (t ∷ []) d fits = ([], t, refl)
tables_split shape f [] (t ∷ u ∷ ts) d fits = absurd fits.3
tables_split shape f (i ∷ is) [] d fits = absurd fits
tables_split shape f (i ∷ is) (t ∷ ts) d fits =
    let split = tables_split shape f is ts (taken_back i d) fits.3 in
    (t ∷ split.0, split.1, ap (λ us. t ∷ us) split.2)

oldest : (schema shape : Shape) (d : Data) (f : Inverse) (is : List Inverse) → IsData shape d → CanTakeBack schema shape d (f ∷ is)
    → KeptBy f d × (newer : List Table) × Fits shape (reverse is) newer (settled f d)
oldest schema shape d f is good holds =
    let fits : Fits shape (reverse is ++ f ∷ []) holds.1 d = subst (λ js. Fits shape js holds.1 d) (reverse-append (f ∷ []) is) holds.2 in
    let split = tables_split shape f (reverse is) holds.1 d fits in
    let law = oldest_is_settled shape f (reverse is) split.1 split.0 d good (subst (λ ts. Fits shape (reverse is ++ f ∷ []) ts d) split.2 fits) in
    (law.0, split.0, law.3)

pub oldest_kept : (schema shape : Shape) (d : Data) (f : Inverse) (is : List Inverse) → IsData shape d → CanTakeBack schema shape d (f ∷ is) → KeptBy f d
oldest_kept schema shape d f is good holds = (oldest schema shape d f is good holds).0

pub oldest_settled : (schema shape shape' : Shape) (d d' : Data) (f : Inverse) (is : List Inverse) → IsData shape d → shape' ≡ shape → d' ≡ settled f d
    → CanTakeBack schema shape d (f ∷ is) → CanTakeBack schema shape' d' is
oldest_settled schema shape shape' d d' f is good same settles holds =
    let rest = oldest schema shape d f is good holds in
    stays schema shape shape' (settled f d) d' is same settles (holds.0, rest.1, rest.2)
