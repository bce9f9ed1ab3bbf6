-- A text and a colon are a key, wherever one may stand.
use Rattle.std.proofs.Common.{◌≡◌, true, sym, ap, ◌∙◌, arith}
use Rattle.json.specs.Json.{read_key}
use Rattle.json.specs.Lex.{between, lex, may_begin, punctuate}
use Rattle.mi_tokens.specs.Tokens.{place_of}
use Rattle.mi_tokens.proofs.TokenLemmas.{begins_key}
use Rattle.mi_tokens.proofs.tokens.Tokens.take_key.Goals as goal

pub returns : goal.returns
returns g c s is plain =
    let a = c.self.inside in
    let may : may_begin (place_of a.context) ≡ true = grind arith in
    ap read_key (sym c.self.view_is ∙ ap (punctuate (place_of a.context)) (c.if-not-pass_name.ensures s is plain)
    ∙ begins_key (place_of a.context) s (lex between c.pass_name.new.self) may)
