-- the only session ends, or the newest joins the one below
use Rattle.std.proofs.Common.{◌≡◌, ◌≢◌, ◌∙◌, ◌-◌, [], ap, sym, length}
use Rattle.std.specs.Prelude.{Ok}
use Rattle.mi_database.specs.Journal.{state_of}
use Rattle.mi_database.specs.LinkedData.{LinkedData, meaning}
use Rattle.mi_database.proofs.LoopLemmas.{linked_data}
use Rattle.mi_model.specs.Database.{squash_step}
use Rattle.std.proofs.Common.{map}
use Rattle.mi_database.specs.Journal.{kept_in}
use Rattle.mi_model.specs.Footprint.{kept_on_squash}
use Rattle.mi_database.specs.Kept.{kept_rows}
use Rattle.mi_database.proofs.KeptLemmas.{join_keeps}
use Rattle.mi_database.proofs.EndLemmas.{squash_alone, squash_joins}
use Rattle.mi_database.proofs.sessions.LinkedSessions.squash.Goals as goal

pub returns-then-open-eq1-clause-answer : goal.returns-then-open-eq1-clause-answer
returns-then-open-eq1-clause-answer g c =
    let one : length c.args.self.now.journal ≡ 1 = sym (ap (λ (q : LinkedData). length q.journal) c.self.view_is) ∙ sym c.depth-open.ensures
    ∙ c.if-open-eq1.true in
    ap (λ (h : LinkedData). Ok (h.revision - 1)) c.self-then-open-eq1.view_is ∙ (squash_alone c.args.self.now c.end_oldest.new.self c.end_oldest.ensures one).0

pub returns-then-open-eq1-clause-state : goal.returns-then-open-eq1-clause-state
returns-then-open-eq1-clause-state g c =
    let one : length c.args.self.now.journal ≡ 1 = sym (ap (λ (q : LinkedData). length q.journal) c.self.view_is) ∙ sym c.depth-open.ensures
    ∙ c.if-open-eq1.true in
    ap (λ (h : LinkedData). state_of h.catalog h.datas h.journal (h.revision - 1)) c.self-then-open-eq1.view_is
    ∙ (squash_alone c.args.self.now c.end_oldest.new.self c.end_oldest.ensures one).1

pub returns-clause-state : goal.returns-clause-state
returns-clause-state g c =
    let h = c.args.self.now in
    let a = c.self.inside in
    let some : length a.journal.sessions ≢ 0 = λ none. c.if-open-eq0.false (c.depth-open.ensures ∙ none) in
    let more : length a.journal.sessions ≢ 1 = λ one. c.if-open-eq1.false (c.depth-open.ensures ∙ one) in
    (squash_joins (linked_data a.catalog _ a.journal.sessions a.revision a.journal.changes a.journal.starts [] []) c.join_top.new.self.sessions
    c.join_top.ensures.sessions
    some more).1
    ∙ ap (λ (q : LinkedData). (squash_step (meaning q)).1) c.self.view_is

pub returns-clause-footprint : goal.returns-clause-footprint
returns-clause-footprint g c =
    let more : length c.self.inside.journal.sessions ≢ 1 = λ one. c.if-open-eq1.false (c.depth-open.ensures ∙ one) in
    ap (map kept_in) c.join_top.ensures.sessions ∙ join_keeps c.self.inside.journal.sessions more
    ∙ ap (λ (h : LinkedData). kept_on_squash (kept_rows h)) c.self.view_is
