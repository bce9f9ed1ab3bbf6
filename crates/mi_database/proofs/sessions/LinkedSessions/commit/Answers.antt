-- one session after another ends
use Rattle.std.proofs.Common.{◌≡◌, ◌∙◌, ◌-◌, ◌≤◌, min, ap, length, subst, arith}
use Rattle.mi_database.specs.LinkedData.{LinkedData}
use Rattle.mi_database.proofs.KeptLemmas.{end_keeps}
use Rattle.mi_database.proofs.EndLemmas.{Ending, ending_from, ending_more, ended_all}
use Rattle.mi_database.proofs.sessions.LinkedSessions.commit.Goals as goal

pub loop-init : goal.loop-init
loop-init g c = ending_from c.args.self.now

pub loop-preserved : goal.loop-preserved
loop-preserved g c = ending_more c.loop.counter c.args.self.now c.loop.self c.end_oldest.new.self c.loop.invariant c.end_oldest.ensures

pub returns : goal.returns
returns g c =
    let first = c.args.self.now in
    let last = c.loop.auto.counter-end in
    let done : c.loop.counter ≡ c.min-ending.result = omega (arith, last, c.loop-test.false) in
    let ended : Ending c.min-ending.result first c.loop.self = subst (λ n. Ending n first c.loop.self) done c.loop.invariant in
    let revision : c.self.inside.revision ≡ first.revision = ap (λ (h : LinkedData). h.revision) c.self.view_is in
    let opens : c.depth-open.result ≡ length first.journal = c.depth-open.ensures ∙ ap (λ (h : LinkedData). length h.journal) c.self.view_is in
    let within : length first.journal ≤ first.revision = subst (λ (h : LinkedData). length h.journal ≤ h.revision) c.self.view_is c.self.invariant.0.numbered in
    let many : c.min-ending.result ≡ min (c.args.number - (first.revision - c.depth-open.result)) c.depth-open.result =
    c.min-ending.ensures ∙ ap (λ n. min n c.depth-open.result) (c.saturating_sub.ensures ∙ ap (λ n. c.args.number - (n - c.depth-open.result)) revision) in
    let all = ended_all c.min-ending.result c.args.number c.depth-open.result first c.loop.self ended opens many within in
    record {
      answer = all.0;
      state = all.1;
      footprint = end_keeps c.min-ending.result c.args.number first c.loop.self.journal ended.journal all.0;
      changes = ended.changes;
      secrets = ended.secrets;
      starts = ended.starts;
    }
