-- each session is that of its entries
use Rattle.std.proofs.Common.{◌∙◌, ap, sym, length, reverse}
use Rattle.mi_journal.specs.Stored.{Stored}
use Rattle.mi_journal.proofs.DecodedLemmas.{length-decoded_all}
use Rattle.mi_journal.proofs.inverses.Inverses.depth.Goals as goal

pub returns : goal.returns
returns c =
    let a = c.self.inside in
    c.depth.ensures ∙ sym (length-decoded_all a.entries.sessions (reverse a.records.items) (reverse a.places.items))
    ∙ ap (λ (v : Stored). length v.sessions) c.self.view_is
