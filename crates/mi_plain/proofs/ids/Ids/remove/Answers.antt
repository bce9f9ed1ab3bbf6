-- What is kept is what the test passes.
use Rattle.std.proofs.Common.{◌≡◌, rules, subst}
use Rattle.std.proofs.lemmas.Fn.{filter_same}
use Rattle.std.specs.Prelude.{ℕ, List, not, ◌==◌}
use Rattle.mi_model.specs.Change.{without}
use Rattle.mi_plain.proofs.ids.Ids.remove.Goals as goal

pub returns : goal.returns
returns c =
    subst (λ (ids : List ℕ). c.retain.new.self.items ≡ without c.args.e ids) c.self.view_is
    (filter_same _ (λ a. not (a == c.args.e)) _ (λ x b f' k. search rules) _ _ c.retain.ensures.filtered)
