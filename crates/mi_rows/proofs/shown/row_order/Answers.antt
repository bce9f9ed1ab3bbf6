-- The members so far are `id` and the columns that were gone over, by their names.
use Rattle.std.proofs.Common.{◌≡◌, ◌+◌, get_or, drop, ◌∷◌, true, sym, ap, ap₂, ◌∙◌, arith, rules}
use Rattle.std.proofs.lemmas.List.{drop_more}
use Rattle.serde_json.specs.Data.{put}
use Rattle.mi_value.specs.declared.value.Value.TheVariants as value
use Rattle.mi_rows.specs.Rows.{value_data, with_values}
use Rattle.mi_rows.specs.Shown.{first_data, shown_members}
use Rattle.mi_rows.proofs.ShownLemmas.{shown_members-with_member}
use Rattle.mi_rows.proofs.LabelLemmas.{room_step, members_room-grown}
use Rattle.mi_rows.proofs.shown.row_order.Goals as goal

pub columns-preserved : goal.columns-preserved
columns-preserved c = (
  omega (arith, c.columns.invariant.0, c.add_member-in-columns.ensures.len),
  λ id vs long.
      let i = c.columns.i in
      let old = shown_members id vs c.columns.order.items in
      let v = get_or vs i (value.Flag true) in
      let there : drop i vs ≡ v ∷ drop (i + 1) vs = drop_more vs i (value.Flag true) (omega arith) in
      let named : c.as_str.result.now ≡ c.index-columns-i.result.name = search rules in
      let added : shown_members id vs c.add_member-in-columns.new.order.items ≡ put c.index-columns-i.result.name (value_data v) old =
      ap (shown_members id vs) c.add_member-in-columns.ensures.members ∙ shown_members-with_member id vs _ c.columns.order.items
      ∙ ap₂ (λ k d. put k d old) named (ap first_data there) in
      let cs = drop (i + 1) c.args.columns.now in
      let here : drop i c.args.columns.now ≡ c.index-columns-i.result ∷ cs =
      drop_more c.args.columns.now i c.index-columns-i.result (omega arith) ∙ ap (λ x. x ∷ cs) (sym c.index-columns-i.is) in
      ap (with_values cs (drop (i + 1) vs)) added ∙ sym (ap₂ (λ xs ys. with_values xs ys old) here there) ∙ c.columns.invariant.1 id vs long,
  λ vs.
      let i = c.columns.i in
      let added = members_room-grown vs _ c.columns.order.items _ c.add_member-in-columns.ensures.members in
      omega (arith, added, room_step vs i, c.columns.invariant.2 vs),
)
