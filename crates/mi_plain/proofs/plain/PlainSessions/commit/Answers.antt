-- The oldest copies are the first.
use Rattle.std.proofs.Common.{◌≡◌, ℕ, min, subst, sym, ◌∙◌, ap, length, rules, vec_len}
use Rattle.mi_model.specs.Database.{Database, IsDatabase, committed}
use Rattle.mi_model.specs.Run.Command.{Commit}
use Rattle.mi_model.proofs.DatabaseLaws.{is_database_after}
use Rattle.mi_plain.specs.contracts.plain.Plain.{the_view}
use Rattle.mi_plain.proofs.SessionLemmas.{commit_left, fewer_left}
use Rattle.mi_plain.proofs.plain.PlainSessions.commit.Goals as goal

pub invariant_of-self : goal.invariant_of-self
invariant_of-self c =
    let len : vec_len c.self.inside.old ≡ length c.self.inside.old.items = search rules in
    let is : IsDatabase (committed c.args.number (the_view c.self.inside)) =
    is_database_after (Commit c.args.number) (the_view c.self.inside) c.self.invariant.0 in
    let left = c.drop-drain.ensures.items ∙ c.drain.ensures.kept in (
      subst IsDatabase
          (sym (commit_left c.args.number _ c.len-open.result _ _ _ _ _ c.self.invariant.2 left
          (c.min-ending.ensures ∙ ap (λ (n : ℕ). min n c.len-open.result) c.saturating_sub.ensures) (c.len-open.ensures ∙ len)))
          is,
      c.self.invariant.1,
      fewer_left _ _ _ _ c.self.invariant.2 left,
      c.self.invariant.3,
    )

pub returns-clause-state : goal.returns-clause-state
returns-clause-state c =
    let len : vec_len c.self.inside.old ≡ length c.self.inside.old.items = search rules in
    let left = c.drop-drain.ensures.items ∙ c.drain.ensures.kept in
    commit_left c.args.number _ c.len-open.result _ _ _ _ _ c.self.invariant.2 left
    (c.min-ending.ensures ∙ ap (λ (n : ℕ). min n c.len-open.result) c.saturating_sub.ensures) (c.len-open.ensures ∙ len)
    ∙ ap (λ (d : Database). committed c.args.number d) c.self.view_is
