-- Head, rows and lists are the table's lines.
use Rattle.std.proofs.Common.{ap, length, ◌∙◌}
use Rattle.std.proofs.Common.{drop}
use Rattle.mi_base.proofs.TableLemmas.{puts_image}
use Rattle.mi_base.proofs.write.put_image.Goals as goal

pub returns : goal.returns
returns g c =
    puts_image c.args.schema.now c.args.image.now _ _ _ _ _ _ _ _ _ _ _ _ _ c.table_name.ensures
    (ap (λ rows. record { arrivals = c.args.image.now.arrivals; next = c.args.image.now.next; rows = length rows }) c.as_slice.ensures.value)
    c.as_slice-2.ensures.value (c.others.ensures ∙ ap (drop 1) c.as_slice-3.ensures.value) c.in_ok-put_head.ensures c.in_ok-put_rows.ensures c.put_lists.ensures
