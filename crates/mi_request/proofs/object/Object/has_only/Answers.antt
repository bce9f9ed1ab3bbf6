-- That each name is among these is asked of the names alone.
use Rattle.std.proofs.Common.{ℕ, List, Bor, ◌∙◌, ap, map}
use Rattle.mi_request.specs.Json.{has_only}
use Rattle.mi_request.proofs.ObjectLemmas.{has_only-names}
use Rattle.mi_request.proofs.object.Object.has_only.Goals as goal

pub returns : goal.returns
returns c =
    let names = map (λ (n : Bor (List ℕ)). n.now) c.args.names.now in
    c.are_named.ensures ∙ has_only-names (λ (n : Bor (List ℕ)). n.now) c.args.names.now _ ∙ ap (has_only names) c.self.view_is
