-- What stands up to and with the first newline is a whole line.
use Rattle.std.proofs.Common.{◌≡◌, ◌+◌, ◌++◌, ◌∙◌, [], refl, sym, ap, subst, take, drop, arith}
use Rattle.std.proofs.lemmas.List.{take-append-drop}
use Rattle.mi_hub.specs.Ended.{ended}
use Rattle.mi_hub.proofs.LineLemmas.{unended_take, unended_all}
use Rattle.mi_clients.proofs.InputLemmas.{line_at}
use Rattle.mi_clients.proofs.input.Input.line.Goals as goal

pub returns : goal.returns
returns c =
    let found = c.in_ok-at.ensures in
    let w = c.waiting-waiting.result.now in
    let at = c.in_ok-at.at in (
      (
        take at w,
        c.split_at.ensures.front ∙ line_at at (at + 1) w refl found.0.high found.1,
        unended_take at w (λ k lt e. found.0.before k (omega arith) lt e),
      ),
      drop (at + 1) w,
      sym c.waiting-waiting.ensures ∙ sym (take-append-drop (at + 1) w) ∙ ap (λ t. t ++ drop (at + 1) w) (sym c.split_at.ensures.front),
    )

pub returns-in_err-at : goal.returns-in_err-at
returns-in_err-at c =
    rw c.from_residual.ensures
    (subst (λ w. ended w ≡ []) c.waiting-waiting.ensures
    (unended_all c.waiting-waiting.result.now (λ k lt e. c.in_err-at.ensures k (omega arith) lt e)))
