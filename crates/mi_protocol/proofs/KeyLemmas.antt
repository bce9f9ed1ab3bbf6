-- The values of a list of JSON values.
-- Cited by `edits::edits_of`, `keys::key_of` and `row::record_of`.
use Rattle.std.proofs.Common.{◌≡◌, ℕ, ◌+◌, List, [], ◌∷◌, ◌++◌, length, Option, Some, None, option_map, Ok, refl, sym, ap, ◌∙◌, append_assoc, arith}
use Rattle.std.specs.Option.{ok_or}
use Rattle.serde_json.specs.Data.{Data}
use Rattle.mi_value.specs.declared.refusal.Refusal.TheVariants.{Key}
use Rattle.mi_value.specs.declared.value.Value.{Value}
use Rattle.mi_request.specs.Json.{option_map₂}
use Rattle.mi_tokens.specs.Meaning.{meaning, items_meaning}
use Rattle.mi_tokens.specs.declared.value.Json.{Json}
use Rattle.mi_protocol.specs.Keys.{plain_value, plain_values}

abbrev pub read : List Json → Option (List Value)
read [] = Some []
read (v ∷ vs) = option_map₂ (λ w ws. w ∷ ws) (plain_value (meaning v)) (read vs)

pub read_all : (vs : List Json) → read vs ≡ plain_values (items_meaning vs)
read_all [] = refl
read_all (v ∷ vs) = ap (option_map₂ (λ w ws. w ∷ ws) (plain_value (meaning v))) (read_all vs)

-- nothing in front
pub in_front_none : {A : Type 0} (r : Option (List A)) → option_map (λ vs. [] ++ vs) r ≡ r
in_front_none None = refl
in_front_none (Some vs) = refl

-- one value more

is_value : {v : Value} (o : Option Value) → ok_or o Key ≡ Ok v → o ≡ Some v
is_value (Some v) e = cc
is_value None e = absurd (cc)

moved_front : (front : List Value) (v : Value) (r : Option (List Value))
    → option_map (λ vs. (front ++ v ∷ []) ++ vs) r ≡ option_map (λ vs. front ++ vs) (option_map₂ (λ w ws. w ∷ ws) (Some v) r)
moved_front front v None = refl
moved_front front v (Some vs) = ap Some (append_assoc front (v ∷ []) vs)

pub read_step : {key : Option (List Value)} (front values : List Value) {x : Json} {d : Data} {v : Value} (rest all : List Json)
    → values ≡ front ++ v ∷ [] → d ≡ meaning x → ok_or (plain_value d) Key ≡ Ok v → all ≡ x ∷ rest
    → option_map (λ vs. front ++ vs) (read all) ≡ key → option_map (λ vs. values ++ vs) (read rest) ≡ key
read_step {key} front values {x} {d} {v} rest all pushed is good next before =
    let one : plain_value (meaning x) ≡ Some v = ap plain_value (sym is) ∙ is_value (plain_value d) good in
    ap (λ (ws : List Value). option_map (λ vs. ws ++ vs) (read rest)) pushed ∙ moved_front front v (read rest)
    ∙ ap (λ o. option_map (λ vs. front ++ vs) (option_map₂ (λ w ws. w ∷ ws) o (read rest))) (sym one)
    ∙ ap (λ (vs : List Json). option_map (λ ws. front ++ ws) (read vs)) (sym next) ∙ before

pub one_less : {A : Type 0} {n m : ℕ} {x : A} (rest all : List A) → n + 1 ≡ m → m ≡ length all → all ≡ x ∷ rest → n ≡ length rest
one_less rest all more is next = grind arith
