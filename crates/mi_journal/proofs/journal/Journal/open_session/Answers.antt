-- the new count is 0, and the last
use Rattle.std.proofs.Common.{◌≡◌, ◌∙◌, ◌+◌, [], ◌∷◌, ap, reverse, arith}
use Rattle.std.specs.List.{sum}
use Rattle.mi_journal.specs.Noted.{Noted, cut}
use Rattle.mi_journal.proofs.CutLemmas.{opened_cut, sum_push}
use Rattle.mi_journal.proofs.journal.Journal.open_session.Goals as goal

pub invariant_of-self : goal.invariant_of-self
invariant_of-self g c =
    let cs = c.self.inside.counts.items in
    let same : sum cs + 0 ≡ sum cs = omega arith in
    ap sum c.push_back_reserved.ensures.items ∙ sum_push cs 0 ∙ same ∙ c.self.invariant

pub returns-clause-sessions : goal.returns-clause-sessions
returns-clause-sessions g c =
    let cs = c.self.inside.counts.items in
    let es = c.self.inside.entries.items in
    ap (λ q. cut (reverse q) (reverse es)) c.push_back_reserved.ensures.items ∙ opened_cut cs es
    ∙ ap (λ (v : Noted g.row.T.Denot). [] ∷ v.sessions) c.self.view_is

pub returns-clause-changes : goal.returns-clause-changes
returns-clause-changes g c = ap (λ (v : Noted g.row.T.Denot). v.changes) c.self.view_is
