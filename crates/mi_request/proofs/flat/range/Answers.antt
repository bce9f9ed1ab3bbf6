-- The table, the index, both ends, the direction and the limit are all that a range has.
use Rattle.std.proofs.Common.{codes, refl}
use Rattle.json.specs.Print.{escape_byte}
use Rattle.serde_json.specs.Data.{put, string}
use Rattle.mi_request.specs.Flat.{put_if, named}
use Rattle.mi_request.proofs.FlatLemmas.{rest_end, rest_member, rest_maybe, range_asked, line_from}
use Rattle.mi_request.proofs.flat.range.Goals as goal

pub returns : goal.returns
unfolding escape_byte
returns c =
    let t = c.in_ok-table.ensures in
    let i = string c.in_ok-index.index in
    let l = c.in_ok-lower.ensures in
    let u = c.in_ok-upper.ensures in
    let r = c.in_ok-reverse.ensures (codes "reverse") refl refl in
    let m = c.in_ok-limit.ensures in
    let first = put_if (codes "table") t.0 (named (codes "range")) in
    let second = put (codes "index") i first in
    let third = put_if (codes "lower") l.0 second in
    let fourth = put_if (codes "upper") u.0 third in
    let fifth = put_if (codes "reverse") r.0 fourth in
    let all = put_if (codes "limit") m.0 fifth in
    let limit = rest_maybe _ _ (codes "limit") m.0 fifth all m.1 (rest_end _ all (c.if-not-take_end.ensures refl)) in
    let reverse = rest_maybe _ _ (codes "reverse") r.0 fourth all r.1 limit in
    let upper = rest_maybe _ _ (codes "upper") u.0 third all u.1 reverse in
    let lower = rest_maybe _ _ (codes "lower") l.0 second all l.1 upper in
    let index = rest_member _ _ (codes "index") i first all c.in_ok-index.ensures lower in
    line_from (codes "range") c.args.text.now _ _ t.0 all _ refl c.utf8.text c.in_ok-tokens.ensures t.1 index
    (range_asked t.0 i l.0 u.0 r.0 m.0 _ _ _ _ _ _ t.2 refl l.2 u.2 r.2 m.2)
