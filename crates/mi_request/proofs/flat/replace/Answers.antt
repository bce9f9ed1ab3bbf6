-- The table, the id and the row are all that a replace has.
use Rattle.std.proofs.Common.{codes, refl}
use Rattle.json.specs.Print.{escape_byte}
use Rattle.serde_json.specs.Data.{object, put}
use Rattle.mi_request.specs.Flat.{put_if, named}
use Rattle.mi_request.proofs.FlatLemmas.{rest_member, rest_last, replace_asked, line_from}
use Rattle.mi_request.proofs.flat.replace.Goals as goal

pub returns : goal.returns
unfolding escape_byte
returns c =
    let t = c.in_ok-table.ensures in
    let i = c.in_ok-id.ensures (codes "id") refl refl in
    let d = object c.in_ok-row.row in
    let first = put_if (codes "table") t.0 (named (codes "replace")) in
    let second = put (codes "id") i.0 first in
    let all = put (codes "row") d second in
    let row = rest_last _ (codes "row") d second c.in_ok-row.ensures in
    let id = rest_member _ _ (codes "id") i.0 first all i.1 row in
    line_from (codes "replace") c.args.text.now _ _ t.0 all _ refl c.utf8.text c.in_ok-tokens.ensures t.1 id
    (replace_asked t.0 i.0 d _ _ _ t.2 i.2 refl)
