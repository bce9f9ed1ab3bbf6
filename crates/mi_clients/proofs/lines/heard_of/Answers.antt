-- Of one that begins as no command does the first line is heard.
use Rattle.std.proofs.Common.{◌++◌, ◌∙◌, ◌&&◌, sym, ap}
use Rattle.mi_clients.specs.Heard.{is_foreign}
use Rattle.mi_clients.proofs.HeardLemmas.{heard_foreign}
use Rattle.mi_clients.proofs.lines.heard_of.Goals as goal

pub returns-then-is_foreign : goal.returns-then-is_foreign
returns-then-is_foreign c =
    let w = c.args.waiting.now in
    let p = c.args.piece.now in
    ap (λ t. w ++ t) c.first_line.ensures
    ∙ heard_foreign c.args.first w p c.requires
    (ap (λ b. b && is_foreign (w ++ p)) c.if-first.true ∙ sym c.is_foreign.ensures ∙ c.if-is_foreign.true)
