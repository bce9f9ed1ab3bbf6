-- The table and the row are all that an insert has.
use Rattle.std.proofs.Common.{codes, refl}
use Rattle.json.specs.Print.{escape_byte}
use Rattle.serde_json.specs.Data.{object, put}
use Rattle.mi_request.specs.Flat.{put_if, named}
use Rattle.mi_request.proofs.FlatLemmas.{rest_last, insert_asked, line_from}
use Rattle.mi_request.proofs.flat.insert.Goals as goal

pub returns : goal.returns
unfolding escape_byte
returns c =
    let t = c.in_ok-table.ensures in
    let d = object c.in_ok-row.row in
    let first = put_if (codes "table") t.0 (named (codes "insert")) in
    let all = put (codes "row") d first in
    let row = rest_last _ (codes "row") d first c.in_ok-row.ensures in
    line_from (codes "insert") c.args.text.now _ _ t.0 all _ refl c.utf8.text c.in_ok-tokens.ensures t.1 row
    (insert_asked t.0 d _ _ t.2 refl)
