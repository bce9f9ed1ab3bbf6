-- The table, the id, what is set and added, and whether it rolls back, are all that a modify has.
use Rattle.std.proofs.Common.{codes, refl}
use Rattle.json.specs.Print.{escape_byte}
use Rattle.serde_json.specs.Data.{put}
use Rattle.mi_request.specs.Flat.{put_if, named}
use Rattle.mi_request.proofs.FlatLemmas.{rest_end, rest_member, rest_maybe, modify_asked, line_from}
use Rattle.mi_request.proofs.flat.modify.Goals as goal

pub returns : goal.returns
unfolding escape_byte
returns c =
    let t = c.in_ok-table.ensures in
    let i = c.in_ok-id.ensures (codes "id") refl refl in
    let s = c.in_ok-set.ensures (codes "set") refl refl in
    let a = c.in_ok-add.ensures (codes "add") refl refl in
    let first = put_if (codes "table") t.0 (named (codes "modify")) in
    let second = put (codes "id") i.0 first in
    let third = put_if (codes "set") s.0 second in
    let r = c.in_ok-rollback.ensures (codes "rollback") refl refl in
    let fourth = put_if (codes "add") a.0 third in
    let all = put_if (codes "rollback") r.0 fourth in
    let rollback = rest_maybe _ _ (codes "rollback") r.0 fourth all r.1 (rest_end _ all (c.if-not-take_end.ensures refl)) in
    let add = rest_maybe _ _ (codes "add") a.0 third all a.1 rollback in
    let set = rest_maybe _ _ (codes "set") s.0 second all s.1 add in
    let id = rest_member _ _ (codes "id") i.0 first all i.1 set in
    line_from (codes "modify") c.args.text.now _ _ t.0 all _ refl c.utf8.text c.in_ok-tokens.ensures t.1 id
    (modify_asked t.0 i.0 s.0 a.0 r.0 _ _ _ _ _ t.2 i.2 s.2 a.2 r.2)
