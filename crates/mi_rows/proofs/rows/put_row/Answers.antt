-- A member is put behind those so far.
use Rattle.std.proofs.Common.{◌≡◌, ◌+◌, List, ◌∷◌, ◌++◌, drop, arith, ap, sym, ◌∙◌, append_assoc, subst, map}
use Rattle.std.proofs.lemmas.List.{drop_more, drop_all}
use Rattle.json.specs.Filled.{Placed}
use Rattle.json.proofs.Printed.Places.{Placed-then}
use Rattle.mi_value.specs.declared.value.Value.{Value}
use Rattle.mi_rows.specs.Labels.{held, labelled_text, labels_room, first_room}
use Rattle.mi_rows.proofs.rows.put_row.Goals as goal

pub put_member-end-requires-clause-room : goal.put_member-end-requires-clause-room
put_member-end-requires-clause-room c =
    let vs : List Value = map held c.args.row_values.now in
    let i = c.members.label-index in
    let label = c.label-item.result in
    let rest = drop (i + 1) c.args.labels.now in
    let inv = c.members.invariant in
    let there : drop i c.args.labels.now ≡ label ∷ rest = drop_more c.args.labels.now i label c.members-test.true ∙ ap (λ l. l ∷ rest) (sym c.label-item.is) in
    let room : labels_room vs (drop i c.args.labels.now) ≡ 64 + first_room (drop label.place vs) + labels_room vs rest = ap (labels_room vs) there in
    omega (arith, room, inv.3, inv.1.len, c.requires.room)

pub members-preserved : goal.members-preserved
members-preserved c =
    let vs : List Value = map held c.args.row_values.now in
    let i = c.members.label-index in
    let label = c.label-item.result in
    let rest = drop (i + 1) c.args.labels.now in
    let inv = c.members.invariant in
    let put = c.put_member-end.ensures in
    let there : drop i c.args.labels.now ≡ label ∷ rest = drop_more c.args.labels.now i label c.members-test.true ∙ ap (λ l. l ∷ rest) (sym c.label-item.is) in
    let room : labels_room vs (drop i c.args.labels.now) ≡ 64 + first_room (drop label.place vs) + labels_room vs rest = ap (labels_room vs) there in (
      inv.0 ++ _,
      Placed-then inv.1 put.value,
      append_assoc inv.0 _ (labelled_text vs rest) ∙ ap (λ ls. inv.0 ++ labelled_text vs ls) (sym there) ∙ inv.2,
      omega (arith, put.bound, room, inv.3),
    )

pub returns : goal.returns
returns c =
    let inv = c.members.invariant in
    let none = drop_all c.members.label-index c.args.labels.now c.members-test.false in
    let whole = ap (λ ls. inv.0 ++ labelled_text (map held c.args.row_values.now) ls) (sym none) ∙ inv.2 in
    subst (λ text. Placed c.args.buf.now c.put_byte.new.buf c.args.at text c.put_byte.result) whole (Placed-then inv.1 c.put_byte.ensures)
