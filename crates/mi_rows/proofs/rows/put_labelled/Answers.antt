-- The labels' room is that of the row's texts and of its numbers and names.
use Rattle.std.proofs.Common.{ap₂, arith}
use Rattle.mi_rows.specs.Labels.{labels_room}
use Rattle.mi_rows.proofs.LabelLemmas.{six_times}
use Rattle.mi_rows.proofs.rows.put_labelled.Goals as goal

pub put_row-requires-clause-room : goal.put_row-requires-clause-room
put_row-requires-clause-room c =
    omega (
      arith,
      ap₂ labels_room c.if-not-lend_values.ensures.row_values c.as_slice.ensures.value,
      c.requires.labels.1 c.args.id c.args.row.now,
      six_times c.args.row.now,
      c.requires.room,
    )
