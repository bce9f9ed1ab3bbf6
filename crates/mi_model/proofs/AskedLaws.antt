-- What fits a schema is what its indexes are asked.
-- Cited by `mi_sessions`.
use Rattle.std.proofs.Common.{◌≡◌, ℕ, ◌<◌, zero, suc, Bool, true, false, ◌&&◌, List, [], ◌∷◌, length, get_or, refl, ap, sym, subst, arith, eqb-true}
use Rattle.std.specs.Prelude.{◌==◌, nat_lt, IsTrue}
use Rattle.std.specs.List.{list_all, AllByRecursion}
use Rattle.mi_value.specs.declared.value.Value.{Value}
use Rattle.mi_value.specs.declared.compare.KeyPart.{KeyPart}
use Rattle.mi_catalog.specs.declared.index.Column.{Column}
use Rattle.mi_catalog.specs.declared.index.Index.{Index}
use Rattle.mi_catalog.specs.declared.index.IndexKind.{IndexKind}
use Rattle.mi_catalog.specs.declared.index.IndexKind.TheVariants.{Ordered, Ranked, Hashed, Sequenced}
use Rattle.mi_catalog.specs.Shape.{index_at}
use Rattle.mi_catalog.specs.Kinds.{is_hashed}
use Rattle.mi_catalog.specs.Fits.{fits_type, fits_record, fits_key}
use Rattle.mi_catalog.specs.Rules.{is_key, keeps_kind, is_declared_index, are_indexes}
use Rattle.mi_catalog.specs.Key.{IsAskedBy}
use Rattle.mi_model.specs.Table.{row}
use Rattle.mi_model.specs.Alike.{WhatFitsIsAsked, RecordsThatFitHaveWholeKeys}
use Rattle.mi_model.proofs.NextLaws.{whole_key_long}
use borrow.Author.Tests.{ltb-true}

asked_by : (kind : IndexKind) (cs : List Column) (ps : List KeyPart) (key : List Value) → IsTrue (fits_key cs ps (is_hashed kind) key) → IsAskedBy kind ps key
asked_by Hashed cs ps key fits = whole_key_long cs ps key fits
asked_by Ordered cs ps key fits = tt
asked_by Ranked cs ps key fits = tt
asked_by Sequenced cs ps key fits = tt

pub what_fits_is_asked : WhatFitsIsAsked
what_fits_is_asked s x key = (whole_key_long s.columns (index_at s x).parts key, asked_by (index_at s x).kind s.columns (index_at s x).parts key)

and_left : (b c : Bool) → (b && c) ≡ true → b ≡ true
and_left true c is = refl
and_left false c is = absurd (cc)

and_right : (b c : Bool) → (b && c) ≡ true → c ≡ true
and_right true c is = is
and_right false c is = absurd (cc)

all_true : {X : Type 0} (p : X → Bool) (xs : List X) → list_all p xs ≡ true → AllByRecursion (λ x. p x ≡ true) xs
all_true p [] is = tt
all_true p (x ∷ xs) is = (and_left (p x) (list_all p xs) is, all_true p xs (and_right (p x) (list_all p xs) is))

each : {X : Type 0} {P Q : X → Type 0} → ((x : X) → P x → Q x) → (xs : List X) → AllByRecursion P xs → AllByRecursion Q xs
each f [] all = tt
each f (x ∷ xs) all = (f x all.0, each f xs all.1)

-- each part is of a column below this number
abbrev InColumns : ℕ → List KeyPart → Type 0
InColumns columns ps = AllByRecursion (λ p. p.column < columns) ps

in_none : (columns : ℕ) (ps : List KeyPart) → (length ps == 0) ≡ true → InColumns columns ps
in_none columns [] is = tt
in_none columns (p ∷ ps) is = absurd (let none : length (p ∷ ps) ≡ 0 = eqb-true (length (p ∷ ps)) 0 is in omega arith)

in_key : (columns : ℕ) (ps : List KeyPart) → is_key columns ps ≡ true → InColumns columns ps
in_key columns ps is =
    each (λ p less. ltb-true p.column columns less) ps
    (all_true (λ (p : KeyPart). nat_lt p.column columns) ps (and_right _ (list_all (λ (p : KeyPart). nat_lt p.column columns) ps) (and_left _ _ is)))

in_kind : (columns : ℕ) (kind : IndexKind) (one_each : Bool) (ps : List KeyPart) → keeps_kind columns kind one_each ps ≡ true → InColumns columns ps
in_kind columns Ordered one_each ps is = in_key columns ps is
in_kind columns Ranked one_each ps is = in_key columns ps is
in_kind columns Hashed one_each ps is = in_key columns ps (and_left (is_key columns ps) _ is)
in_kind columns Sequenced one_each ps is = in_none columns ps (and_right _ (length ps == 0) is)

-- of the index of any number, or past the last, which has no part
at_number : (columns : ℕ) (is : List Index) (d : Index) (n : ℕ) → InColumns columns d.parts → AllByRecursion (λ (i : Index). InColumns columns i.parts) is
    → InColumns columns (get_or is n d).parts
at_number columns [] d n past all = past
at_number columns (i ∷ is) d zero past all = all.0
at_number columns (i ∷ is) d (suc n) past all = at_number columns is d n past all.1

in_index : (columns : ℕ) (is : List Index) (d : Index) (n : ℕ) → InColumns columns d.parts → are_indexes columns is ≡ true
    → InColumns columns (get_or is n d).parts
in_index columns [] d n past keeps = past
in_index columns (i ∷ is) d n past keeps =
    let both = and_left _ _ (and_left _ _ keeps) in
    at_number columns (i ∷ is) d n past (
      in_none columns i.parts (and_right _ (length i.parts == 0) (and_left _ (list_all (is_declared_index columns) is) both)),
      each (λ (j : Index) declared. in_kind columns j.kind j.«unique» j.parts (and_right _ _ declared)) is
          (all_true (is_declared_index columns) is (and_right _ (list_all (is_declared_index columns) is) both)),
    )

record_long : (cs : List Column) (r : List Value) → fits_record cs r ≡ true → length r ≡ length cs
record_long [] [] is = refl
record_long [] (v ∷ r) is = absurd (cc)
record_long (c ∷ cs) [] is = absurd (cc)
record_long (c ∷ cs) (v ∷ r) is = ap suc (record_long cs r (and_right (fits_type c.kind v) (fits_record cs r) is))

pub records_that_fit_have_whole_keys : RecordsThatFitHaveWholeKeys
records_that_fit_have_whole_keys s t x e keeps fits =
    subst (λ n. InColumns n (index_at s x).parts) (sym (record_long s.columns (row t e).1 fits))
    (in_index (length s.columns) s.indexes _ x tt (and_right _ (are_indexes (length s.columns) s.indexes) (and_left _ _ keeps)))
