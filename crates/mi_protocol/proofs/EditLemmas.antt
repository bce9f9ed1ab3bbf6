-- Edits, column by column.
-- Cited by `edits::edits_of`.
use Rattle.std.proofs.Common.{◌≡◌, ℕ, suc, ◌+◌, ◌<◌, List, [], ◌∷◌, ◌++◌, length, drop, get_or, Option, Some, None, option_map, Ok}
use Rattle.std.proofs.Common.{refl, sym, ap, ◌∙◌, append_assoc, append-nil, arith}
use Rattle.std.proofs.lemmas.List.{drop_more}
use Rattle.std.specs.Option.{ok_or}
use Rattle.serde_json.specs.Data.{Members}
use Rattle.serde_json.specs.Find.{get_member}
use Rattle.mi_value.specs.declared.edit.Edit.{Edit}
use Rattle.mi_value.specs.declared.refusal.Refusal.TheVariants.{Row}
use Rattle.mi_catalog.specs.declared.index.Column.{Column}
use Rattle.mi_protocol.specs.Edits.{edit_of, with_edit, edits_from}
use Rattle.mi_request.specs.Json.{option_map₂}

is_edit : {found : Option Edit} (o : Option (Option Edit)) → ok_or o Row ≡ Ok found → o ≡ Some found
is_edit (Some e) h = cc
is_edit None h = absurd (cc)

one_front : (front : List Edit) (found : Option Edit) (r : Option (List Edit))
    → option_map (λ es. (front ++ with_edit found []) ++ es) r ≡ option_map (λ es. front ++ es) (option_map₂ with_edit (Some found) r)
one_front front found None = refl
one_front front None (Some es) = ap (λ (ds : List Edit). Some (ds ++ es)) (append-nil front)
one_front front (Some e) (Some es) = ap Some (append_assoc front (e ∷ []) es)

next_place : (i : ℕ) → i + 1 ≡ suc i
next_place i = omega arith

module _ {key : Option (List Edit)} (front : List Edit) (i : ℕ) (cs : List Column) (c : Column) (set add : Members) (here : c ≡ get_or cs i c)
    (within : i < length cs) (before : option_map (λ es. front ++ es) (edits_from i (drop i cs) set add) ≡ key) where
  next : drop i cs ≡ c ∷ drop (i + 1) cs
  next = drop_more cs i c within ∙ ap (λ d. d ∷ drop (i + 1) cs) (sym here)

  -- one column more
  pub edits_step : (edits : List Edit) (found : Option Edit) → ok_or (edit_of i c.kind (get_member c.name set) (get_member c.name add)) Row ≡ Ok found
      → edits ≡ front ++ with_edit found [] → option_map (λ es. edits ++ es) (edits_from (i + 1) (drop (i + 1) cs) set add) ≡ key
  edits_step edits found good pushed =
      let rest = edits_from (suc i) (drop (i + 1) cs) set add in
      let one : edit_of i c.kind (get_member c.name set) (get_member c.name add) ≡ Some found =
      is_edit (edit_of i c.kind (get_member c.name set) (get_member c.name add)) good in
      ap (λ n. option_map (λ es. edits ++ es) (edits_from n (drop (i + 1) cs) set add)) (next_place i)
      ∙ ap (λ (ds : List Edit). option_map (λ es. ds ++ es) rest) pushed ∙ one_front front found rest
      ∙ ap (λ o. option_map (λ es. front ++ es) (option_map₂ with_edit o rest)) (sym one)
      ∙ ap (λ (ds : List Column). option_map (λ es. front ++ es) (edits_from i ds set add)) (sym next) ∙ before

  -- a column whose edit is refused
  pub no_step : edit_of i c.kind (get_member c.name set) (get_member c.name add) ≡ None → key ≡ None
  no_step none =
      let rest = edits_from (suc i) (drop (i + 1) cs) set add in
      sym before ∙ ap (λ (ds : List Column). option_map (λ es. front ++ es) (edits_from i ds set add)) next
      ∙ ap (λ o. option_map (λ es. front ++ es) (option_map₂ with_edit o rest)) none
