-- The first value's bytes come off, whatever is behind them.
use Rattle.mi_value.specs.Lent.{lent}
use Rattle.mi_value.proofs.NumberLemmas.{passed_one}
use Rattle.mi_value.proofs.record.pass.Goals as goal

pub returns : goal.returns
returns c =
    passed_one c.args.bytes.now c.in_ok-tag.content.now c.in_ok-rest.rest.now c.in_ok-tag.tag.now (lent c.in_ok-rest.field-0-0)
    c.in_ok-tag.ensures.cases.0 c.in_ok-rest.ensures
