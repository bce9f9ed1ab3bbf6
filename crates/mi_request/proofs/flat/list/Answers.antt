-- The table, the index, the id before it and the limit are all that a list has.
use Rattle.std.proofs.Common.{codes, refl}
use Rattle.json.specs.Print.{escape_byte}
use Rattle.serde_json.specs.Data.{put, string}
use Rattle.mi_request.specs.Flat.{put_if, named}
use Rattle.mi_request.proofs.FlatLemmas.{rest_end, rest_member, rest_maybe, list_asked, line_from}
use Rattle.mi_request.proofs.flat.list.Goals as goal

pub returns : goal.returns
unfolding escape_byte
returns c =
    let t = c.in_ok-table.ensures in
    let i = string c.in_ok-index.index in
    let a = c.in_ok-after.ensures in
    let m = c.in_ok-limit.ensures in
    let first = put_if (codes "table") t.0 (named (codes "list")) in
    let second = put (codes "index") i first in
    let third = put_if (codes "after") a.0 second in
    let all = put_if (codes "limit") m.0 third in
    let limit = rest_maybe _ _ (codes "limit") m.0 third all m.1 (rest_end _ all (c.if-not-take_end.ensures refl)) in
    let after = rest_maybe _ _ (codes "after") a.0 second all a.1 limit in
    let index = rest_member _ _ (codes "index") i first all c.in_ok-index.ensures after in
    line_from (codes "list") c.args.text.now _ _ t.0 all _ refl c.utf8.text c.in_ok-tokens.ensures t.1 index
    (list_asked t.0 i a.0 m.0 _ _ _ _ t.2 refl a.2 m.2)
