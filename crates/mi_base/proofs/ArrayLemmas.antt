-- What an array of JSON values is, value by value.
-- Cited by `lists::list_of`, `lists::numbers_in`, `rows::row_of` and `KnownLemmas`.
use Rattle.std.proofs.Common.{◌≡◌, ℕ, zero, suc, ◌<◌, ◌+◌, List, [], ◌∷◌, ◌++◌, take, map, length, get_or, Option, Some, None, Result, Ok, Err, refl, sym, ap, ◌∙◌, arith}
use Rattle.std.proofs.lemmas.List.{take_more}
use Rattle.std.specs.Prelude.{IfOk, IfSome, IsSome, option_and_then}
use Rattle.std.specs.declared.alloc.Global.{Global}
use Rattle.std.specs.declared.vec.Vec.{Vec}
use Rattle.mi_base.specs.Base.{id_data, list_data, value_data, row_data}
use Rattle.mi_base.specs.Reads.{FitsRow}
use Rattle.mi_catalog.specs.Shape.{Shape}
use Rattle.mi_catalog.specs.Key.{Row}
use Rattle.serde_json.specs.Data.{Data, array, number, unsigned}
use Rattle.serde_json.specs.Find.{as_array, as_number, as_u64}
use Rattle.serde_json.specs.View.{view, items_of, items_view}
use Rattle.serde_json.specs.declared.value.Value.{Value}

pub items_injective : (ds es : List Data) → items_of ds ≡ items_of es → ds ≡ es
items_injective [] [] h = refl
items_injective [] (e ∷ es) h = absurd (cc)
items_injective (d ∷ ds) [] h = absurd (cc)
items_injective (d ∷ ds) (e ∷ es) h =
    let head : d ≡ e = cc in
    let tail : items_of ds ≡ items_of es = cc in
    ap (λ t. d ∷ t) (items_injective ds es tail) ∙ ap (λ x. x ∷ es) head

pub array_holds : (vs : List Value) (d : Data) (ds : List Data) → Some (items_view vs) ≡ as_array d → d ≡ array (items_of ds) → map view vs ≡ ds
array_holds vs d ds h e =
    let same : Some (items_of (map view vs)) ≡ Some (items_of ds) = h ∙ ap as_array e in
    let inside : items_of (map view vs) ≡ items_of ds = cc in
    items_injective (map view vs) ds inside

pub array_is : (d : Data) (ds : List Data) → None ≡ as_array d → d ≡ array (items_of ds) → ⊥
array_is d ds h e = let both : None ≡ Some (items_of ds) = h ∙ ap as_array e in absurd (cc)

pub if_ok : {A E : Type 0} (P Q : A → Type 0) → ((a : A) → P a → Q a) → (r : Result A E) → IfOk r P → IfOk r Q
if_ok P Q f (Ok a) h = f a h
if_ok P Q f (Err e) h = tt

-- one of the values that are ids
pub id_here : (vs : List Value) (ids : List ℕ) (i : ℕ) (v : Value) (n : Option ℕ) → map view vs ≡ map id_data ids → i < length vs → v ≡ get_or vs i v
    → n ≡ option_and_then as_u64 (as_number (view v)) → (i < length ids) × (n ≡ Some (get_or ids i 0))
id_here [] ids i v n e l is q = absurd (omega arith)
id_here (w ∷ vs) [] i v n e l is q = absurd (cc)
id_here (w ∷ vs) (id ∷ ids) zero v n e l is q =
    let head : view w ≡ id_data id = cc in
    (omega arith, q ∙ ap (λ x. option_and_then as_u64 (as_number (view x))) is ∙ ap (λ d. option_and_then as_u64 (as_number d)) head)
id_here (w ∷ vs) (id ∷ ids) (suc i) v n e l is q =
    let tail : map view vs ≡ map id_data ids = cc in
    let r = id_here vs ids i v n tail (omega arith) is q in
    (omega (arith, r.0), r.1)

-- what is found in an array is found in what is the array
pub list_found : {E : Type 0} (d : Data) (vs : List Value) (r : Result (Option (Vec ℕ Global)) E) → Some (items_view vs) ≡ as_array d
    → IfOk r (λ found. (ids : List ℕ) → map view vs ≡ map id_data ids → IsSome found × IfSome found (λ list. list.items ≡ ids))
    → IfOk r (λ found. (ids : List ℕ) → d ≡ list_data ids → IsSome found × IfSome found (λ list. list.items ≡ ids))
unfolding list_data
list_found d vs (Ok found) is h = λ ids e. h ids (array_holds vs d (map id_data ids) is e)
list_found d vs (Err e) is h = tt

pub ids_more : (ids : List ℕ) (i id : ℕ) (old new : List ℕ) (n : Option ℕ) → old ≡ take i ids → new ≡ old ++ id ∷ [] → i < length ids
    → n ≡ Some (get_or ids i 0) → n ≡ Some id → new ≡ take (i + 1) ids
ids_more ids i id old new n before push l at is =
    let same : id ≡ get_or ids i 0 = cc in
    push ∙ ap (λ t. t ++ id ∷ []) before ∙ ap (λ x. take i ids ++ x ∷ []) same ∙ sym (take_more ids i 0 l)

pub row_found : {E : Type 0} (s : Shape) (d : Data) (vs : List Value) (q : Result (Option Row) E) → Some (items_view vs) ≡ as_array d
    → IfOk q (λ found. (r : Row) → map view vs ≡ number (unsigned r.0) ∷ map value_data r.1 → FitsRow s r → found ≡ Some r)
    → IfOk q (λ found. (r : Row) → d ≡ row_data r → FitsRow s r → found ≡ Some r)
unfolding row_data
row_found s d vs (Ok found) is h = λ r e fits. h r (array_holds vs d (number (unsigned r.0) ∷ map value_data r.1) is e) fits
row_found s d vs (Err e) is h = tt
