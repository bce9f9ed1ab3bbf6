-- The rows that are put are those of the page.
use Rattle.std.proofs.Common.{Ok, Err, map, refl}
use Rattle.mi_embed.proofs.engine.Engine.range.Goals as goal

pub returns-in-Ok : goal.returns-in-Ok
returns-in-Ok c = (Ok (map (λ r. (r.0, r.1.now)) c.in-Ok.page.rows.items, c.in-Ok.page.more), rw c.page_limit-limit.ensures at c.in-Ok.ensures.rows, c.show_page.ensures)

pub returns-in-Err : goal.returns-in-Err
returns-in-Err c = (Err c.in-Err.refusal, rw c.page_limit-limit.ensures at c.in-Err.ensures.rows, (c.refused.ensures, refl, refl, refl))
