-- The values so far are those of the columns that were gone over.
use Rattle.std.proofs.Common.{◌∷◌, ◌++◌, ◌+◌, Some, map, option_map, option_and_then, drop, length, ap, sym, ◌≡◌, ◌∙◌, arith}
use Rattle.std.proofs.lemmas.List.{drop_more}
use Rattle.serde_json.specs.Find.{get_member}
use Rattle.mi_request.specs.Json.{option_map₂}
use Rattle.mi_protocol.specs.Values.{fitting, values_of}
use Rattle.mi_value.specs.Lent.{lent}
use Rattle.mi_protocol.proofs.KeyLemmas.{in_front_none}
use Rattle.mi_protocol.proofs.RowLemmas.{one_more}
use Rattle.mi_protocol.proofs.row.record_of.Goals as goal

pub columns-init : goal.columns-init
columns-init c = (
  ap length c.new-values.ensures,
  ap (λ front. option_map (λ vs. map lent front ++ vs) (values_of c.args.columns.now c.args.row.now)) c.new-values.ensures
      ∙ in_front_none (values_of c.args.columns.now c.args.row.now),
)

pub columns-preserved : goal.columns-preserved
columns-preserved c =
    let cs = c.args.columns.now in let i = c.columns.column-index in let here = c.column-item.result in let rest = drop (i + 1) cs in
    let ms = c.args.row.now in let others = values_of rest ms in let front = c.columns.values.items in
    let there : drop i cs ≡ here ∷ rest = drop_more cs i here (omega arith) ∙ ap (λ x. x ∷ rest) (sym c.column-item.is) in
    let first : Some (lent c.in-Some.value) ≡ option_and_then (fitting here.kind) (get_member here.name ms) =
    ap (option_map lent) (sym c.in-Some.is) ∙ c.value_in.ensures in (
      c.push.ensures.len ∙ ap (λ n. n + 1) c.columns.invariant.0,
      ap (λ items. option_map (λ vs. map lent items ++ vs) others) c.push.ensures.items
          ∙ one_more front c.in-Some.value others
          ∙ ap (λ o. option_map (λ vs. map lent front ++ vs) (option_map₂ (λ v vs. v ∷ vs) o others)) first
          ∙ sym (ap (λ xs. option_map (λ vs. map lent front ++ vs) (values_of xs ms)) there)
          ∙ c.columns.invariant.1,
    )
