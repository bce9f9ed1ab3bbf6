-- Rows, column by column.
-- Cited by `row::put_in_order` and `row::record_of`.
use Rattle.std.proofs.Common.{◌≡◌, ℕ, List, [], ◌∷◌, map, not, ◌&&◌, Bool, true, false}
use Rattle.std.proofs.Common.{Option, Some, None, ◌++◌, option_map, option_and_then, refl, sym, ap, ap₂, ◌∙◌, ◌||◌, true≢false, subst, append_assoc}
use Rattle.std.proofs.Common.{if◌then◌else◌}
use Rattle.std.specs.List.{list_any, list_all}
use Rattle.std.specs.Str.{bytes_eq}
use Rattle.std.proofs.lemmas.Bool.{and_parts}
use Rattle.std.proofs.lemmas.Slice.Eq.{bytes_eq-Decides}
use Rattle.serde_json.specs.Data.{Members, no_members, put}
use Rattle.mi_value.specs.declared.value.Value.{Value}
use Rattle.mi_value.specs.declared.value.ValueRef.{ValueRef}
use Rattle.mi_value.specs.Lent.{lent}
use Rattle.mi_catalog.specs.declared.index.Column.{Column}
use Rattle.mi_catalog.specs.Rules.{are_distinct}
use Rattle.mi_request.proofs.ObjectLemmas.{Member, has_only-names, present}
use Rattle.mi_request.specs.Json.{option_map₂}
use Rattle.mi_request.specs.Places.{or_first, last_at}
use Rattle.mi_tokens.specs.Meaning.{meaning, members_meaning}
use Rattle.mi_protocol.specs.Values.{fitting, values_of, bound_row}

-- ---- from an object to a record

append_one : (front : List ValueRef) (v : ValueRef) (vs : List Value) → map lent (front ++ v ∷ []) ++ vs ≡ map lent front ++ (lent v ∷ vs)
append_one [] v vs = refl
append_one (w ∷ front) v vs = ap (λ us. lent w ∷ us) (append_one front v vs)

-- one value more in front
pub one_more : (front : List ValueRef) (v : ValueRef) (r : Option (List Value))
    → option_map (λ vs. map lent (front ++ v ∷ []) ++ vs) r ≡ option_map (λ vs. map lent front ++ vs) (option_map₂ (λ w vs. w ∷ vs) (Some (lent v)) r)
one_more front v None = refl
one_more front v (Some vs) = ap Some (append_one front v vs)

not_or : (a b : Bool) → not (a || b) ≡ true → (a ≡ false) × (not b ≡ true)
not_or true b h = absurd (true≢false (sym h))
not_or false b h = (refl, h)

-- ---- members in the columns' order

abbrev pub names : List Member → List (List ℕ)
names ms = map (λ m. m.0.now) ms

abbrev pub names_of : List Column → List (List ℕ)
names_of cs = map (λ c. c.name) cs

-- each member's value in the column of its place
abbrev pub pairwise : List Column → List Member → Option (List Value)
pairwise [] ms = Some []
pairwise (c ∷ cs) [] = None
pairwise (c ∷ cs) (m ∷ ms) = option_map₂ (λ v vs. v ∷ vs) (fitting c.kind (meaning m.1)) (pairwise cs ms)

none_of : (name : List ℕ) (ms : List Member) → not (list_any (λ n. bytes_eq name n) (names ms)) ≡ true → last_at name ms ≡ None
none_of name [] h = refl
none_of name (m ∷ ms) h = let p = not_or (bytes_eq name m.0.now) _ h in ap₂ or_first p.0 (none_of name ms p.1)

abbrev first_of_names : List (List ℕ) → List ℕ
first_of_names [] = []
first_of_names (n ∷ ns) = n

abbrev others_of_names : List (List ℕ) → List (List ℕ)
others_of_names [] = []
others_of_names (n ∷ ns) = ns

values_pairwise : (cs : List Column) (ms : List Member) (found : Members) → names ms ≡ names_of cs → are_distinct (names_of cs) ≡ true
    → values_of cs (members_meaning ms found) ≡ pairwise cs ms
values_pairwise [] ms found same h = refl
values_pairwise (c ∷ cs) [] found same h = absurd (cc)
values_pairwise (c ∷ cs) (m ∷ ms) found same h =
    let p = and_parts _ _ h in
    let first : m.0.now ≡ c.name = ap first_of_names same in
    let rest : names ms ≡ names_of cs = ap others_of_names same in
    let alone = none_of c.name ms (subst (λ ns. not (list_any (λ n. bytes_eq c.name n) ns) ≡ true) (sym rest) p.0) in
    let here : last_at c.name (m ∷ ms) ≡ Some 0 = ap₂ or_first ((bytes_eq-Decides c.name m.0.now).1 (sym first)) alone in
    ap₂ (λ o vs. option_map₂ (λ w ws. w ∷ ws) (option_and_then (fitting c.kind) o) vs) (present c.name (m ∷ ms) found 0 m here)
    (values_pairwise cs ms (put m.0.now (meaning m.1) found) rest p.1)

or_true : (b : Bool) → (b || true) ≡ true
or_true true = refl
or_true false = refl

any_behind : (name : List ℕ) (front cs : List Column) (c : Column) → bytes_eq name c.name ≡ true → list_any (λ d. bytes_eq name d.name) (front ++ c ∷ cs) ≡ true
any_behind name [] cs c same = ap (λ b. b || list_any (λ d. bytes_eq name d.name) cs) same
any_behind name (d ∷ front) cs c same = ap (λ b. bytes_eq name d.name || b) (any_behind name front cs c same) ∙ or_true (bytes_eq name d.name)

all_named : (front cs : List Column) (ms : List Member) → names ms ≡ names_of cs
    → list_all (λ m. list_any (λ c. bytes_eq m.0.now c.name) (front ++ cs)) ms ≡ true
all_named front cs [] same = refl
all_named front [] (m ∷ ms) same = absurd (cc)
all_named front (c ∷ cs) (m ∷ ms) same =
    let first : m.0.now ≡ c.name = ap first_of_names same in
    let rest = all_named (front ++ c ∷ []) cs ms (ap others_of_names same) in
    let others = subst (λ ds. list_all (λ m. list_any (λ d. bytes_eq m.0.now d.name) ds) ms ≡ true) (append_assoc front (c ∷ []) cs) rest in
    ap₂ (λ a b. a && b) (any_behind m.0.now front cs c ((bytes_eq-Decides m.0.now c.name).1 first)) others

pub row_in_order : (cs : List Column) (ms : List Member) → names ms ≡ names_of cs → are_distinct (names_of cs) ≡ true
    → bound_row cs (members_meaning ms no_members) ≡ pairwise cs ms
row_in_order cs ms same h =
    ap (λ b. if b then values_of cs (members_meaning ms no_members) else None) (sym (has_only-names (λ c. c.name) cs ms) ∙ all_named [] cs ms same)
    ∙ values_pairwise cs ms no_members same h
