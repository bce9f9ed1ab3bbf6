-- The table that is refused is one of the new catalog's.
use Rattle.mi_serving.proofs.MovedLemmas.{table_refused}
use Rattle.mi_serving.proofs.moving.restored_under.Goals as goal

pub returns-in-Err-Table-clause-refused : goal.returns-in-Err-Table-clause-refused
returns-in-Err-Table-clause-refused g c =
    let why = rw c.in-Err-Table.field-0-is at c.in-Err-Table.ensures.fault in
    table_refused c.args.to.now c.in-Ok.catalog c.args.images.items c.args.revision c.in-Err-Table.table c.in-Err-Table.fault c.table.result.now
    c.table_fault.result c.in-Ok.ensures c.table.ensures why c.table_fault.ensures.failure c.table_fault.ensures.rows
