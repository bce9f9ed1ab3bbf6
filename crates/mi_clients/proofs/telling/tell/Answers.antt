-- A line of the service is a step: its text is owed, and the hub is as it was.
use Rattle.std.proofs.Common.{◌≡◌, ◌∷◌, ◌++◌, [], length, drop, refl, sym, ap, ◌∙◌, subst}
use Rattle.std.proofs.KnownBytes.{Keeps-refl}
use Rattle.std.proofs.Math.Seq.{drop-append_seam}
use Rattle.mi_hub.specs.Ended.{ended}
use Rattle.mi_durable.specs.Durable.{hub_of}
use Rattle.mi_clients.specs.Client.{Owes, Takes}
use Rattle.mi_clients.specs.Input.{waiting}
use Rattle.mi_clients.specs.ServiceLines.{line_of, told_to}
use Rattle.mi_clients.specs.Steps.{tells}
use Rattle.mi_clients.specs.declared.input.Input.{Input}
use Rattle.mi_clients.proofs.InputLemmas.{unended_drop, count_line}
use Rattle.mi_clients.proofs.StepLemmas.{makes_none, makes_kept, tells_makes}
use Rattle.mi_clients.proofs.ServedLemmas.{owes_none}
use Rattle.mi_clients.proofs.TellLemmas.{line_some, told_some, schema_some, tells_one_given, tells_one_asked, takes_none, takes_line, owes_passed}
use Rattle.mi_clients.proofs.telling.tell.Goals as goal

pub returns-in_default-clause-tells : goal.returns-in_default-clause-tells
returns-in_default-clause-tells g c =
    let old = c.args.client.now in
    ([], tt, tt, owes_none old, takes_none old c.in_default.ensures, makes_none (hub_of c.args.durable.now) _ _ (Keeps-refl _))

-- where no line waited none does
pub invariant_of-client-clause-all_asked : goal.invariant_of-client-clause-all_asked
invariant_of-client-clause-all_asked g c = λ is.
    ap ended c.pass.ensures.waiting ∙ unended_drop _ (waiting c.args.client.now.input) (c.args.client.now.all_asked is)

pub returns-clause-tells : goal.returns-clause-tells
returns-clause-tells g c =
    let old = c.args.client.now in
    let new = c.give.new.client in
    let status = c.args.status.now in
    let schema = line_of c.args.schema.now in
    let line = c.in-Some.line.now in
    let text = c.told_to-text.result.now in
    let may = c.in-Some.ensures in
    let gave = c.in_ok-give.ensures in
    let so : text ≡ told_to status schema line = c.told_to-text.ensures ∙ ap (λ s. told_to status s line) c.as_slice.ensures in
    let some : ¬ (text ≡ []) =
    subst (λ t. ¬ (t ≡ [])) (sym so) (told_some status schema line c.requires.some (schema_some schema c.args.schema.now.some)) in
    let passed : waiting c.pass.new.self ≡ may.3 =
    c.pass.ensures.waiting ∙ ap (drop (length line)) may.4 ∙ drop-append_seam line may.3 in
    let waits : waiting old.input ≡ line ++ waiting new.input = may.4 ∙ ap (λ t. line ++ t) (sym (ap waiting gave.input ∙ passed)) in (
      tells old.conn line text ∷ [],
      (refl, tt),
      (so, tt),
      subst (λ t. Owes t old new) (sym (tells_one_given old.conn line text)) (owes_passed text old new gave.owes refl refl refl refl),
      subst (λ t. Takes t old new) (sym (tells_one_asked old.conn line text))
          (takes_line line old new may.0 (line_some line may.1) gave.owes.conn gave.owes.stream waits
          (ap (λ (i : Input). i.is_first) gave.input ∙ c.pass.ensures.first)
          (ap (λ (i : Input). i.lines) gave.input ∙ c.pass.ensures.lines ∙ sym (count_line old.input.lines line may.1))
          (ap (λ (i : Input). i.since) gave.input ∙ c.pass.ensures.since) gave.far gave.has_lines (gave.ends ∙ c.ended_in-ends.ensures)),
      makes_kept (tells old.conn line text ∷ []) (hub_of c.args.durable.now) (hub_of c.args.durable.now) (hub_of c.give.new.durable) _ _ _
          (tells_makes old.conn line text (hub_of c.args.durable.now) _ _ may.2 some (Keeps-refl _)) c.give.ensures.hub c.give.ensures.appended,
    )
