-- What the laws say of the reshaped table holds of the result.
use Rattle.mi_reshape.proofs.ResultLemmas.{result_fits, result_holds}
use Rattle.mi_reshape.proofs.reshape.reshaped.Goals as goal

pub returns-clause-fits : goal.returns-clause-fits
returns-clause-fits c = result_fits c.args.from.now c.args.to.now c.args.image c.put_under.result c.put_under.ensures.table c.put_under.ensures.types

pub returns-clause-holds : goal.returns-clause-holds
returns-clause-holds c = result_holds c.args.from.now c.args.to.now c.args.image c.put_under.result c.put_under.ensures.table
