-- The members stand one behind another, and nothing else; they are what the command asks.
use Rattle.std.proofs.Common.{Ok, codes, refl, sym, ap, ◌∙◌}
use Rattle.json.specs.Print.{escape_byte}
use Rattle.serde_json.specs.Data.{array, string}
use Rattle.mi_request.specs.Flat.{keyed_members}
use Rattle.mi_request.specs.Keyed.{key_name}
use Rattle.mi_request.proofs.FlatLemmas.{rest_member, rest_last, key_asked, line_from, key_plain}
use Rattle.mi_request.proofs.flat.keyed.Goals as goal

pub returns : goal.returns
unfolding escape_byte
returns c =
    let t = c.in_ok-table.ensures in
    let command = key_name c.args.command in
    let i = string c.in_ok-index.index in
    let k = array c.in_ok-key.key in
    let all = keyed_members command t.0 i k in
    let key = rest_last _ (codes "key") k _ c.in_ok-key.ensures in
    let index = rest_member _ _ (codes "index") i _ all c.in_ok-index.ensures key in
    line_from command c.args.text.now _ _ t.0 all _ (key_plain c.args.command) c.utf8.text c.in_ok-tokens.ensures t.1 index
    (key_asked c.args.command t.0 i k _ _ _ t.2 refl refl) ∙ ap Ok (sym c.request.ensures)
