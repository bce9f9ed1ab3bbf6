-- A front stands at the beginning just where the first bytes, as many, are the same.
use Rattle.std.proofs.Common.{◌≡◌, None, length, take, drop, option_map, ap, sym, ◌∙◌, true≢false, rules}
use Rattle.mi_request.proofs.WordLemmas.{not_behind, is_behind, short_of}
use Rattle.mi_request.proofs.words.behind.Goals as goal

pub returns-in_err-first : goal.returns-in_err-first
returns-in_err-first c =
    let nothing : c.from_residual.result ≡ None = search rules in
    ap (option_map (λ r. r.now)) nothing ∙ short_of c.args.front.now c.args.line.now c.in_err-first.ensures.cases

pub returns-then-are_same : goal.returns-then-are_same
returns-then-are_same c =
    let first : c.in_ok-first.first.now ≡ take (length c.args.front.now) c.args.line.now = search rules in
    let rest : c.in_ok-first.rest.now ≡ drop (length c.args.front.now) c.args.line.now = search rules in
    is_behind c.args.front.now c.args.line.now c.in_ok-first.rest.now (sym first ∙ c.are_same.ensures.0 c.if-are_same.true) rest

pub returns-else-are_same : goal.returns-else-are_same
returns-else-are_same c =
    let first : c.in_ok-first.first.now ≡ take (length c.args.front.now) c.args.line.now = search rules in
    not_behind c.args.front.now c.args.line.now (λ same. true≢false (sym (c.are_same.ensures.1 (first ∙ same)) ∙ c.if-are_same.false))
