-- What is taken out are the rows of the key.
use Rattle.std.proofs.Common.{◌≡◌, rules, List, ℕ, length, ap, sym, ◌∙◌, vec_len}
use Rattle.std.specs.List.{filter}
use Rattle.std.specs.Ordering.{is_eq}
use Rattle.std.specs.declared.result.Result.TheVariants.{Ok}
use Rattle.mi_catalog.specs.declared.index.Index.{Index}
use Rattle.mi_model.specs.Table.{list_of}
use Rattle.mi_model.specs.View.{compare_to_id}
use Rattle.mi_model.specs.Change.{erase_all}
use Rattle.mi_plain.proofs.KeyLemmas.{has_key, count-of_key, erase_key-is}
use Rattle.mi_plain.proofs.table.PlainTable.erase_key.Goals as goal

pub returns : goal.returns
returns c =
    let found : c.in_ok-ids.ids.items ≡ filter (has_key c.args.schema.now c.args.self.now c.args.x c.args.key.now) (list_of c.args.self.now c.args.x) =
    c.in_ok-ids.ensures
    ∙ ap (λ (i : Index). filter (λ id. is_eq (compare_to_id i c.args.self.now c.args.key.now id)) (list_of c.args.self.now c.args.x)) c.index.ensures in
    let len : vec_len c.in_ok-ids.ids ≡ length c.in_ok-ids.ids.items = search rules in (
      ap Ok (count-of_key c.args.schema.now c.args.self.now c.args.x c.args.key.now ∙ sym (ap length found) ∙ sym len ∙ sym c.len.ensures),
      c.remove_all.ensures ∙ ap (λ (ids : List ℕ). erase_all ids c.args.self.now) (c.as_slice.ensures.value ∙ found)
          ∙ sym (erase_key-is c.args.schema.now c.args.self.now c.args.x c.args.key.now),
    )
