-- A page has no more rows than were asked for.
use Rattle.mi_embed.proofs.RowLemmas.{on_ok, page_fits}
use Rattle.mi_embed.proofs.engine.Engine.range_page.Goals as goal

pub returns-clause-few : goal.returns-clause-few
returns-clause-few c = on_ok c.range.result _ _ c.range.ensures.rows (λ p is. page_fits _ _ p.rows.items c.args.limit _ is)
