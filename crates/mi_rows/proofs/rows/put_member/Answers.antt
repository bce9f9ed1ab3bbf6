-- The value of the label's value is put behind the label.
use Rattle.std.proofs.Common.{◌≡◌, ◌≤◌, ◌+◌, arith, length, take, ◌++◌, subst, rules}
use Rattle.std.specs.Prelude.{pos}
use Rattle.json.specs.Filled.{Placed}
use Rattle.json.proofs.Printed.Places.{Placed-then}
use Rattle.serde_json.specs.Data.{Data}
use Rattle.serde_json.specs.Written.{compact_text}
use Rattle.mi_rows.specs.declared.row_values.RowValue.TheVariants.{Int}
use Rattle.mi_rows.proofs.LabelLemmas.{room_there, data_there}
use Rattle.mi_rows.proofs.rows.put_member.Goals as goal

pub put_value-requires : goal.put_value-requires
put_value-requires c =
    let same : c.args.label.now.place ≡ c.label.inside.place = search rules in
    let short : length c.args.label.now.text ≤ 36 = search rules in
    let begun : c.put_label-begun.result ≤ c.args.at + 36 = search rules in
    omega (arith, begun, c.requires.room, c.put_label-begun.ensures.len, room_there c.args.row_values.now c.args.label.now.place c.label.inside.place (Int (pos 0)) same c.requires.there)

pub returns-clause-value : goal.returns-clause-value
returns-clause-value c =
    let same : c.args.label.now.place ≡ c.label.inside.place = search rules in
    let label : c.args.label.now.text ≡ take c.label.inside.len c.label.inside.bytes = search rules in
    subst (λ (d : Data). Placed c.args.buf.now c.put_value.new.buf c.args.at (c.args.label.now.text ++ compact_text d) c.put_value.result)
    (data_there c.args.row_values.now c.args.label.now.place c.label.inside.place (Int (pos 0)) same c.requires.there)
    (rw label (Placed-then c.put_label-begun.ensures c.put_value.ensures.value))

pub returns-clause-bound : goal.returns-clause-bound
returns-clause-bound c =
    let same : c.args.label.now.place ≡ c.label.inside.place = search rules in
    let begun : c.put_label-begun.result ≤ c.args.at + 36 = search rules in
    omega (arith, begun, c.put_value.ensures.bound, room_there c.args.row_values.now c.args.label.now.place c.label.inside.place (Int (pos 0)) same c.requires.there)
