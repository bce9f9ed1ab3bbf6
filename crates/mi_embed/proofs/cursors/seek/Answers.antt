-- What the key finds is found by the cells that it is.
use Rattle.std.proofs.Common.{◌∙◌, List, ap}
use Rattle.mi_value.specs.declared.value.Value.{Value}
use Rattle.mi_embed.specs.Cursors.{bound}
use Rattle.mi_embed.proofs.CursorLemmas.{sought}
use Rattle.mi_embed.proofs.cursors.seek.Goals as goal

pub returns : goal.returns
returns g c =
    let d = g.D.Sessions.state c.args.db.now in
    sought c.catalog.result.now d c.args.table c.args.index c.args.key.now c.args.texts.now c.args.beyond c.in_ok-key.key c.bound.result c.catalog.ensures
    c.in_ok-key.ensures.key (c.bound.ensures ∙ ap (λ (k : List Value). bound d c.args.table c.args.index k c.args.beyond) c.values.ensures)
