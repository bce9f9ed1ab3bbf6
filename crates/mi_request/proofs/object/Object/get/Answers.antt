-- The last member of the name has the value; none has it where no place is found.
use Rattle.std.proofs.Common.{option_map, sym, ap, ◌∙◌}
use Rattle.serde_json.specs.Data.{no_members}
use Rattle.serde_json.specs.Find.{get_member}
use Rattle.mi_tokens.specs.Meaning.{meaning}
use Rattle.mi_request.proofs.ObjectLemmas.{absent, present}
use Rattle.mi_request.proofs.object.Object.get.Goals as goal

pub returns-in_err-at : goal.returns-in_err-at
returns-in_err-at c =
    let name = c.args.name.now in
    ap (option_map (λ v. meaning v.now)) c.from_residual.ensures ∙ sym (absent name c.self.inside.members.now no_members (sym c.in_err-at.ensures.found))
    ∙ ap (get_member name) c.self.view_is

pub returns : goal.returns
returns c =
    let name = c.args.name.now in
    let m = c.index-self-at.result in
    sym (present name c.self.inside.members.now no_members c.in_ok-at.at m (sym c.in_ok-at.ensures.found))
    ∙ ap (get_member name) c.self.view_is
