-- one index more has been looked at
use Rattle.std.proofs.Common.{◌<◌, false, [], length, ap, arith}
use Rattle.mi_catalog.specs.declared.index.Index.{Index}
use Rattle.mi_catalog.specs.declared.index.IndexKind.TheVariants.{Hashed}
use Rattle.mi_database.specs.Most.{key_of}
use Rattle.mi_database.proofs.MostLemmas.{keyed_up, key_some, key_none}
use Rattle.mi_database.proofs.linked.keyed_indexes.Goals.{then-parts-gt0, else-parts-gt0}
use Rattle.mi_database.proofs.linked.keyed_indexes.Goals as goal

pub loop-i-preserved : goal.loop-i-preserved
loop-i-preserved c =
    let is = c.args.table.now.indexes in
    let none : Index = record { name = []; kind = Hashed; «unique» = false; parts = [] } in
    let test = c.loop-i-test.true in
    let end = c.index_count-i-end.ensures in
    let last = c.loop-i.auto.i-end in
    let within : c.loop-i.i < length is = omega (arith, test, end, last) in
    let up = keyed_up is c.loop-i.i none within in
    let before = c.loop-i.invariant.0 in
    let few = c.loop-i.invariant.1 in
    let there = ap key_of c.parts.ensures in
    elim c.if-parts-gt0.branch [
      | then-parts-gt0 w ↦
          let one = key_some c.parts.result.now w.if-parts-gt0.true in
          let count = w.count-is in
          (omega (arith, up, before, there, one, count), omega (arith, few, count))
      | else-parts-gt0 w ↦
          let one = key_none c.parts.result.now w.if-parts-gt0.false in
          let count = w.count-is in
          (omega (arith, up, before, there, one, count), omega (arith, few, count))
    ]
