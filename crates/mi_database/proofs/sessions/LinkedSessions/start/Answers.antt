-- a session opens where the revision and the depth allow it
use Rattle.std.proofs.Common.{◌≡◌, ◌≢◌, ◌∙◌, ℕ, ◌+◌, [], ◌∷◌, map, length, ap, sym}
use Rattle.std.specs.Prelude.{Ok}
use Rattle.std.specs.declared.result.Result.{Result}
use Rattle.mi_value.specs.declared.refusal.Refusal.{Refusal}
use Rattle.mi_value.specs.declared.limits.TheConstants.{LAST_COUNT, MAX_SESSIONS}
use Rattle.mi_model.specs.Database.{started}
use Rattle.mi_database.specs.Journal.{Journal, state_of}
use Rattle.mi_database.specs.LinkedData.{LinkedData, meaning}
use Rattle.mi_database.specs.Journal.{kept_in}
use Rattle.mi_model.specs.Footprint.{kept_on_start}
use Rattle.mi_database.specs.Kept.{kept_rows}
use Rattle.mi_database.proofs.EndLemmas.{start_full, start_opens}
use Rattle.mi_database.proofs.sessions.LinkedSessions.start.Goals as goal

pub returns-then-depth-eq-MAX_SESSIONS-clause-outcome : goal.returns-then-depth-eq-MAX_SESSIONS-clause-outcome
returns-then-depth-eq-MAX_SESSIONS-clause-outcome g c =
    let h = c.args.self.now in
    let low : h.revision ≢ LAST_COUNT = λ same. c.if-self-eq-LAST_COUNT.false (ap (λ (q : LinkedData). q.revision) c.self.view_is ∙ same) in
    let full : length h.journal ≡ MAX_SESSIONS = sym (ap (λ (q : LinkedData). length q.journal) c.self.view_is) ∙ sym c.depth.ensures
    ∙ c.if-depth-eq-MAX_SESSIONS.true in
    let is = start_full h low full in
    (ap (λ q. q.0) is, sym (ap (λ q. q.1) is))

pub returns-clause-outcome : goal.returns-clause-outcome
returns-clause-outcome g c =
    let h = c.args.self.now in
    let a = c.self-2.inside in
    let low : h.revision ≢ LAST_COUNT = λ same. c.if-self-eq-LAST_COUNT.false (ap (λ (q : LinkedData). q.revision) c.self.view_is ∙ same) in
    let few : length h.journal ≢ MAX_SESSIONS = λ full. c.if-depth-eq-MAX_SESSIONS.false
    (c.depth.ensures ∙ ap (λ (q : LinkedData). length q.journal) c.self.view_is ∙ full) in
    let is = start_opens h low few in
    let revision : a.revision ≡ h.revision = ap (λ (q : LinkedData). q.revision) c.self-2.view_is
    ∙ ap (λ (q : LinkedData). q.revision) c.reserve_session.ensures.same in
    let same = ap meaning c.self-2.view_is ∙ ap meaning c.reserve_session.ensures.same in (
      ap (λ q. q.0) is ∙ ap (λ (n : ℕ). Ok (n + 1)) (sym revision),
      ap (λ (j : Journal). state_of a.catalog (map g.C.Container.plain a.containers.items) j (a.revision + 1)) c.open_session.ensures.sessions
          ∙ ap started same ∙ sym (ap (λ q. q.1) is),
    )

pub returns-then-depth-eq-MAX_SESSIONS-clause-footprint : goal.returns-then-depth-eq-MAX_SESSIONS-clause-footprint
returns-then-depth-eq-MAX_SESSIONS-clause-footprint g c =
    sym (ap (λ (r : Result ℕ Refusal). kept_on_start r (kept_rows c.args.self.now)) (returns-then-depth-eq-MAX_SESSIONS-clause-outcome g c).0)

pub returns-clause-footprint : goal.returns-clause-footprint
returns-clause-footprint g c =
    ap (map kept_in) c.open_session.ensures.sessions ∙ ap (λ (h : LinkedData). [] ∷ kept_rows h) (c.self-2.view_is ∙ c.reserve_session.ensures.same)
    ∙ sym (ap (λ (r : Result ℕ Refusal). kept_on_start r (kept_rows c.args.self.now)) (returns-clause-outcome g c).0)
