-- What holds of all tables holds of the result's.
use Rattle.mi_reshape.proofs.CatalogLemmas.{result_hold, result_fit}
use Rattle.mi_reshape.proofs.catalogs.reshaped_all.Goals as goal

pub returns-clause-fits : goal.returns-clause-fits
returns-clause-fits c =
    let of = c.put_all.ensures in
    result_fit c.args.from.now c.args.to.now c.args.images.items _ c.put_all.result c.requires c.as_slice.ensures.value of.tables of.types

pub returns-clause-holds : goal.returns-clause-holds
returns-clause-holds c =
    result_hold c.args.from.now c.args.to.now c.args.images.items _ c.put_all.result c.requires c.as_slice.ensures.value c.put_all.ensures.tables
