-- One value more is passed over, and at the end as many as were asked.
use Rattle.std.proofs.Common.{◌≡◌, arith}
use Rattle.mi_value.proofs.NumberLemmas.{passed_none, passed_more, texts_left}
use Rattle.mi_value.proofs.record.behind.Goals as goal

pub columns-init : goal.columns-init
columns-init c = passed_none c.args.bytes.now

pub pass-requires : goal.pass-requires
pass-requires c = texts_left c.columns._column c.args.bytes.now c.columns.left.now c.columns.invariant c.requires

pub columns-preserved : goal.columns-preserved
columns-preserved c = passed_more c.columns._column c.args.bytes.now c.columns.left.now c.in_ok-left.left.now c.columns.invariant c.in_ok-left.ensures

pub returns : goal.returns
returns c = let end : c.columns._column ≡ c.args.column = omega arith in rw (← end) c.columns.invariant
