-- The front of the header is these bytes.
use Rattle.std.proofs.Common.{◌≡◌, ◌++◌, ◌∙◌, sym, ap}
use Rattle.std.proofs.lemmas.List.{take-append-drop}
use Rattle.std.proofs.lemmas.Slice.Eq.{bytes_eq-Decides}
use Rattle.mi_recovery.proofs.opening.is_beginning.Goals as goal

pub returns : goal.returns
returns c = λ is.
    let same : c.split_at.result.0.now ≡ c.args.bytes.now = (bytes_eq-Decides c.split_at.result.0.now c.args.bytes.now).0 (sym c.eq.ensures ∙ is) in
    let parts : c.args.header.now ≡ c.split_at.result.0.now ++ c.split_at.result.1.now =
    rw (c.split_at.ensures.front, c.split_at.ensures.back) (sym (take-append-drop _ _)) in
    (c.split_at.result.1.now, parts ∙ ap (λ t. t ++ c.split_at.result.1.now) same)
