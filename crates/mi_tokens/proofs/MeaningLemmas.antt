-- The meaning of a value, level by level, and of items and members one by one.
-- Cited by `pass::+pass` and `mi_request`.
use Rattle.std.proofs.Common.{◌≡◌, ℕ, List, [], ◌∷◌, ◌++◌, Bor, Option, Some, None, refl, ap, rules}
use Rattle.json.specs.Json.{parse_map}
use Rattle.json.specs.Token.{Token}
use Rattle.serde_json.specs.Data.{array, object, Items, no_items, item, Members, no_members, put}
use Rattle.mi_tokens.specs.Meaning.{meaning, items_meaning, members_meaning}
use Rattle.mi_tokens.specs.declared.value.Json.{Json, Array, Object, the_lemmas}

pub meaning-Array : (xs : Bor (List Json)) → meaning (Array xs) ≡ array (items_meaning xs.now)
meaning-Array xs = search (rules, the_lemmas)

pub meaning-Object : (ms : Bor (List (Bor (List ℕ) × Json))) → meaning (Object ms) ≡ object (members_meaning ms.now no_members)
meaning-Object ms = search (rules, the_lemmas)

-- ---- one item more

abbrev pub items_before : List Json → Items → Items
items_before [] rest = rest
items_before (v ∷ vs) rest = item (meaning v) (items_before vs rest)

pub items_before-no_items : (vs : List Json) → items_before vs no_items ≡ items_meaning vs
items_before-no_items [] = refl
items_before-no_items (v ∷ vs) = ap (item (meaning v)) (items_before-no_items vs)

items_push : (vs : List Json) (v : Json) (rest : Items) → items_before vs (item (meaning v) rest) ≡ items_before (vs ++ v ∷ []) rest
items_push [] v rest = refl
items_push (w ∷ vs) v rest = ap (item (meaning w)) (items_push vs v rest)

pub one_more_item : (vs : List Json) (v : Json) (r : Option (Items × List Token))
    → parse_map (items_before vs) (parse_map (item (meaning v)) r) ≡ parse_map (items_before (vs ++ v ∷ [])) r
one_more_item vs v None = refl
one_more_item vs v (Some p) = ap (λ ds. Some (ds, p.1)) (items_push vs v p.0)

-- ---- one member more

pub members_push : (ms : List (Bor (List ℕ) × Json)) (m : Bor (List ℕ) × Json) (found : Members)
    → members_meaning (ms ++ m ∷ []) found ≡ put m.0.now (meaning m.1) (members_meaning ms found)
members_push [] m found = refl
members_push (n ∷ ms) m found = members_push ms m (put n.0.now (meaning n.1) found)
