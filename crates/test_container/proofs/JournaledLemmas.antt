-- What changes, taking back and settling leave of a container and the journal of its changes.
-- Cited by `Journaled::back`, `Journaled::end_oldest`, `Journaled::insert`, `Journaled::modify` and `Journaled::settle`.
use Rattle.std.proofs.Common.{◌≡◌, ℕ, ◌<◌, Option, Some, None, List, [], ◌∷◌, ◌++◌, map, length, refl, ap, sym, ◌∙◌, subst, arith}
use Rattle.std.proofs.lemmas.List.{append_assoc, append-nil, map-append}
use Rattle.mi_catalog.specs.Shape.{Shape}
use Rattle.mi_model.specs.Table.{Table}
use Rattle.mi_container.specs.Data.{Data, IsData, as_table}
use Rattle.mi_container.specs.Inverse.{Inverse, taken_back, settled}
use Rattle.mi_container.specs.Fits.{Ready, KeptBy, Fits}
use Rattle.mi_container.specs.Run.{Change, changed, inverse_of}
use Rattle.mi_container.specs.Makes.{Makes}
use Rattle.mi_container.proofs.PairLemmas.{none_some, some_is}
use Rattle.mi_container.proofs.LawLemmas.{change_fits, oldest_is_settled}
use Rattle.mi_journal.specs.Noted.{noted, newest_entry, without_entry, TakesOldest}
use Rattle.test_container.specs.Journaled.{inverses_of, CanGoBack}
use Rattle.test_container.proofs.UndoneLemmas.{tables_split}

abbrev pub Sessions : Type 0
Sessions = List (List (ℕ × Inverse))

abbrev plain_of : List (ℕ × Inverse) → List Inverse
plain_of es = map (λ (e : ℕ × Inverse). e.1) es

-- one change more, whose inverse is noted
inverses_noted : (n : ℕ) (i : Inverse) (s : Sessions) → 0 < length s → inverses_of (noted (n, i) s) ≡ i ∷ inverses_of s
inverses_noted n i [] some = absurd (omega (arith, some))
inverses_noted n i (newest ∷ older) some = refl

pub notes : {schema shape shape' : Shape} {d d' : Data} {i : Inverse} {s room after : Sessions} (k : Change) → IsData shape d → shape' ≡ shape
    → Makes shape k d i d' → room ≡ s → 0 < length room → after ≡ noted (0, i) room → CanGoBack schema shape d s → CanGoBack schema shape' d' after
notes {schema} {shape} {shape'} {d} {d'} {i} {s} {room} {after} k good same made reserved some noted_ holds =
    let fits : Fits shape (inverse_of k d ∷ inverses_of s) (as_table d ∷ holds.1) (changed k d) =
    change_fits shape k (inverses_of s) holds.1 d good made.allowed holds.2 in
    let fits' : Fits shape (i ∷ inverses_of s) (as_table d ∷ holds.1) d' =
    subst (λ j. Fits shape (j ∷ inverses_of s) (as_table d ∷ holds.1) d') (sym made.inverse)
    (subst (λ x. Fits shape (inverse_of k d ∷ inverses_of s) (as_table d ∷ holds.1) x) (sym made.changed_data) fits) in
    let is : inverses_of after ≡ i ∷ inverses_of s = ap inverses_of noted_ ∙ inverses_noted 0 i room some ∙ ap (λ q. i ∷ inverses_of q) reserved in
    let more : CanGoBack schema shape d' after = (holds.0, as_table d ∷ holds.1, subst (λ js. Fits shape js (as_table d ∷ holds.1) d') (sym is) fits') in
    subst (λ q. CanGoBack schema q d' after) (sym same) more

-- nothing changed
pub stays : (schema shape shape' : Shape) (d d' : Data) (s s' : Sessions) → shape' ≡ shape → d' ≡ d → s' ≡ s
    → CanGoBack schema shape d s → CanGoBack schema shape' d' s'
stays schema shape shape' d d' s s' same was left holds =
    subst (λ q. CanGoBack schema shape' d' q) (sym left)
    (subst (λ q. CanGoBack schema q d' s) (sym same) (subst (λ x. CanGoBack schema shape x s) (sym was) holds))

-- The newest is taken back

newest_split : (e : ℕ × Inverse) (s : Sessions) → Some e ≡ newest_entry s → inverses_of s ≡ e.1 ∷ inverses_of (without_entry s)
newest_split e [] is = absurd (none_some (sym is))
newest_split e ([] ∷ older) is = absurd (none_some (sym is))
newest_split e ((x ∷ newest) ∷ older) is = ap (λ (q : ℕ × Inverse). q.1 ∷ (plain_of newest ++ inverses_of older)) (sym (some_is is))

fits_newest : (shape : Shape) (i : Inverse) (is : List Inverse) (ts : List Table) (d : Data) → Fits shape (i ∷ is) ts d
    → Ready i d × IsData shape (taken_back i d) × (us : List Table) × Fits shape is us (taken_back i d)
fits_newest shape i is [] d fits = absurd fits
fits_newest shape i is (t ∷ ts) d fits = (fits.0, fits.1, ts, fits.3)

newest : (schema shape : Shape) (d : Data) (e : ℕ × Inverse) (s : Sessions) → Some e ≡ newest_entry s → CanGoBack schema shape d s
    → Ready e.1 d × IsData shape (taken_back e.1 d) × (us : List Table) × Fits shape (inverses_of (without_entry s)) us (taken_back e.1 d)
newest schema shape d e s is holds =
    fits_newest shape e.1 (inverses_of (without_entry s)) holds.1 d (subst (λ js. Fits shape js holds.1 d) (newest_split e s is) holds.2)

pub newest_back : (schema shape shape' : Shape) (d d' : Data) (e : ℕ × Inverse) (s s' : Sessions) → Some e ≡ newest_entry s → s' ≡ without_entry s
    → shape' ≡ shape → d' ≡ taken_back e.1 d → CanGoBack schema shape d s → CanGoBack schema shape' d' s'
newest_back schema shape shape' d d' e s s' is left same back holds =
    let rest = newest schema shape d e s is holds in
    stays schema shape shape' (taken_back e.1 d) d' (without_entry s) s' same back left (holds.0, rest.2, rest.3)

-- The oldest is settled

inverses-append : (s t : Sessions) → inverses_of (s ++ t) ≡ inverses_of s ++ inverses_of t
inverses-append [] t = refl
inverses-append (es ∷ s) t = ap (λ q. plain_of es ++ q) (inverses-append s t) ∙ sym (append_assoc (plain_of es) (inverses_of s) (inverses_of t))

inverses_push : (newer : Sessions) (es : List (ℕ × Inverse)) → inverses_of (newer ++ es ∷ []) ≡ inverses_of newer ++ plain_of es
inverses_push newer es = inverses-append newer (es ∷ []) ∙ ap (λ q. inverses_of newer ++ q) (append-nil (plain_of es))

oldest_split : (newer : Sessions) (rest : List (ℕ × Inverse)) (e : ℕ × Inverse)
    → inverses_of (newer ++ (rest ++ e ∷ []) ∷ []) ≡ inverses_of (newer ++ rest ∷ []) ++ e.1 ∷ []
oldest_split newer rest e =
    inverses_push newer (rest ++ e ∷ []) ∙ ap (λ q. inverses_of newer ++ q) (map-append (λ (x : ℕ × Inverse). x.1) rest (e ∷ []))
    ∙ sym (append_assoc (inverses_of newer) (plain_of rest) (e.1 ∷ [])) ∙ ap (λ q. q ++ e.1 ∷ []) (sym (inverses_push newer rest))

oldest : (schema shape : Shape) (d : Data) (e : ℕ × Inverse) (s s' : Sessions) → IsData shape d → TakesOldest (Some e) s s' → CanGoBack schema shape d s
    → KeptBy e.1 d × (newer : List Table) × Fits shape (inverses_of s') newer (settled e.1 d)
oldest schema shape d e s s' good takes holds =
    let is : inverses_of s ≡ inverses_of s' ++ e.1 ∷ [] = ap inverses_of takes.2 ∙ oldest_split takes.0 takes.1 e
    ∙ ap (λ q. inverses_of q ++ e.1 ∷ []) (sym takes.3) in
    let fits : Fits shape (inverses_of s' ++ e.1 ∷ []) holds.1 d = subst (λ js. Fits shape js holds.1 d) is holds.2 in
    let split = tables_split shape e.1 (inverses_of s') holds.1 d fits in
    let law = oldest_is_settled shape e.1 (inverses_of s') split.1 split.0 d good
    (subst (λ ts. Fits shape (inverses_of s' ++ e.1 ∷ []) ts d) split.2 fits) in
    (law.0, split.0, law.3)

pub oldest_kept : (schema shape : Shape) (d : Data) (e : ℕ × Inverse) (s s' : Sessions) → IsData shape d → TakesOldest (Some e) s s'
    → CanGoBack schema shape d s → KeptBy e.1 d
oldest_kept schema shape d e s s' good takes holds = (oldest schema shape d e s s' good takes holds).0

pub oldest_settled : (schema shape shape' : Shape) (d d' : Data) (e : ℕ × Inverse) (s s' : Sessions) → IsData shape d → TakesOldest (Some e) s s'
    → shape' ≡ shape → d' ≡ settled e.1 d → CanGoBack schema shape d s → CanGoBack schema shape' d' s'
oldest_settled schema shape shape' d d' e s s' good takes same settles holds =
    let rest = oldest schema shape d e s s' good takes holds in
    stays schema shape shape' (settled e.1 d) d' s' s' same settles refl (holds.0, rest.1, rest.2)

-- The oldest session ends, which has no change

pub oldest_ended : (schema shape : Shape) (d : Data) (s s' : Sessions) → s ≡ s' ++ [] ∷ [] → CanGoBack schema shape d s → CanGoBack schema shape d s'
oldest_ended schema shape d s s' is holds =
    let same : inverses_of s ≡ inverses_of s' = ap inverses_of is ∙ inverses_push s' [] ∙ append-nil (inverses_of s') in
    (holds.0, holds.1, subst (λ js. Fits shape js holds.1 d) same holds.2)

pub none_taken : (o : Option (ℕ × Inverse)) (s s' : Sessions) → o ≡ None → TakesOldest o s s' → s' ≡ s
none_taken None s s' is takes = takes.0
none_taken (Some e) s s' is takes = absurd (none_some (sym is))
