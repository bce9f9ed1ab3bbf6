-- The rows so far are those that the index shows from the first id on.
use Rattle.std.proofs.Common.{◌≡◌, ◌+◌, [], ◌∷◌, ◌++◌, map, inl, inr, ap, sym, ◌∙◌, arith, length, take, drop, length-append}
use Rattle.std.specs.Prelude.{slice_get}
use Rattle.std.proofs.lemmas.List.{map-append}
use Rattle.std.specs.Option.{option_copied}
use Rattle.mi_model.specs.Table.{row}
use Rattle.mi_model.specs.View.{view}
use Rattle.mi_model.specs.LookUp.{rank_in}
use Rattle.mi_model.specs.Walk.{turned}
use Rattle.mi_model.proofs.WalkLaws.{each_listed, each_turned, at_rank_there, walk_more, walk_ends}
use Rattle.mi_plain.proofs.table.PlainTable.walk.Goals as goal
use Rattle.mi_plain.proofs.table.PlainTable.walk.Goals.{else-ids-test, then-ids-test+in_default}

pub ids-init : goal.ids-init
ids-init c =
    let t = c.args.self.now in
    let ids = view c.args.schema.now t c.args.x in
    let shown = turned c.args.reverse ids in
    let each = each_turned c.args.reverse t ids (each_listed c.args.schema.now t c.args.x c.requires.is c.requires.kind) in
    let none : length c.new-rows.result.items ≡ 0 = ap length c.new-rows.ensures.items in
    record {
      there = c.requires.first;
      taken = ap (map (λ r. (r.0, r.1.now))) c.new-rows.ensures.items ∙ sym (ap (λ n. map (row t) (take n (drop (rank_in shown c.args.first) shown))) none);
      next = sym (at_rank_there t shown each c.args.first c.requires.first)
          ∙ ap (slice_get shown) (let e : rank_in shown c.args.first ≡ rank_in shown c.args.first + length c.new-rows.result.items = omega arith in e);
      within = omega arith;
    }

pub ids-preserved : goal.ids-preserved
ids-preserved c =
    let t = c.args.self.now in
    let shown = turned c.args.reverse (view c.args.schema.now t c.args.x) in
    let at = rank_in shown c.args.first in
    let n = length c.ids.rows.items in
    let pushed = c.in_ok-push.ensures.items in
    let long : length c.push.new.self.items ≡ n + 1 = ap length pushed ∙ length-append c.ids.rows.items _ in
    let here : slice_get shown (at + n) ≡ _ = sym c.ids.invariant.next ∙ c.in-Some.is in
    record {
      there = c.following-next.ensures.there;
      taken =
          ap (map (λ r. (r.0, r.1.now))) pushed
          ∙ map-append (λ r. (r.0, r.1.now)) c.ids.rows.items _
          ∙ ap (λ rows. rows ++ (c.in-Some.id, c.in-Some-get.row.now) ∷ []) c.ids.invariant.taken
          ∙ sym (walk_more t shown at n c.in-Some.id c.in-Some-get.row.now here (sym c.get.ensures ∙ ap option_copied c.in-Some-get.is))
          ∙ ap (λ k. map (row t) (take k (drop at shown))) (sym long);
      next = c.following-next.ensures.next (at + n) here ∙ ap (slice_get shown) (let e : (at + n) + 1 ≡ at + length c.push.new.self.items = omega arith in e);
      within = omega arith;
    }

pub returns-clause-rows : goal.returns-clause-rows
returns-clause-rows c =
    let t = c.args.self.now in
    let shown = turned c.args.reverse (view c.args.schema.now t c.args.x) in
    let at = rank_in shown c.args.first in
    c.ids.invariant.taken
    ∙ ap (map (row t)) (walk_ends shown at (length c.ids.rows.items) c.args.limit c.ids.invariant.within
    (elim c.ids-test.branch [
      | else-ids-test w ↦ inl (omega (arith, w.ids-test.false, c.len.ensures))
      | then-ids-test+in_default w ↦ inr (sym c.ids.invariant.next ∙ w.in_default.is)
    ]))
