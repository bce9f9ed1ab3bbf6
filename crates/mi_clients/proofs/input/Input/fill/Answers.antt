-- Where a newline came, the first line has; and what is kept of a piece without one has none.
use Rattle.std.proofs.Common.{◌≡◌, ◌++◌, ◌∙◌, [], sym, ap, drop}
use Rattle.mi_hub.specs.Ended.{ended}
use Rattle.mi_clients.specs.Heard.{still_first, is_last}
use Rattle.mi_clients.specs.Input.{waiting}
use Rattle.mi_clients.proofs.HeardLemmas.{still_is, last_is, heard_unended, unended_filled}
use Rattle.mi_clients.proofs.input.Input.fill.Goals as goal

pub returns-clause-first : goal.returns-clause-first
returns-clause-first c =
    let w = waiting c.args.self.now in
    let p = c.args.piece.now in
    let says = c.is_still_first-self.ensures in
    still_is w p c.requires c.compact.new.self.is_first c.is_still_first-self.result says.0 says.1 ∙ ap (λ b. still_first b (w ++ p)) c.compact.ensures.first

pub returns-clause-last : goal.returns-clause-last
returns-clause-last c =
    let p = c.args.piece.now in
    let same = c.waiting.ensures ∙ c.compact.ensures.waiting in
    let says = c.is_last-is_last.ensures in
    last_is c.waiting.result.now p (ap ended same ∙ c.requires) c.compact.new.self.is_first c.is_last-is_last.result says.0 says.1
    ∙ ap (λ b. is_last b (c.waiting.result.now ++ p)) c.compact.ensures.first ∙ ap (λ w. is_last c.args.self.now.is_first (w ++ p)) same

pub invariant_of-self-2-clause-first : goal.invariant_of-self-2-clause-first
invariant_of-self-2-clause-first c = λ is.
    let p = c.args.piece.now in
    let none : ended p ≡ [] = (c.is_still_first-self.ensures.0 is).1 in
    let second = c.waiting-2.ensures ∙ c.compact.ensures.waiting in
    let third = c.waiting-3.ensures ∙ c.compact.ensures.waiting in
    let part = c.heard_of-heard.result.now in
    let unended : ended part ≡ [] =
    heard_unended c.waiting-2.result.now p (ap ended second ∙ c.requires) c.compact.new.self.is_first part none c.heard_of-heard.ensures in
    ap (λ n. ended (drop n c.extend_from_slice.new.self.items)) c.compact.ensures.none
    ∙ ap ended (c.in_ok-extend_from_slice.ensures.items
    ∙ ap (λ t. t ++ c.kept_of-kept.result.now) (c.compact.ensures.let_go ∙ sym c.waiting-3.ensures))
    ∙ unended_filled c.waiting-3.result.now part c.kept_of-kept.result.now (ap ended third ∙ c.requires) c.kept_of-kept.ensures.kept unended
