-- An id that goes in at the place of b stands before it.
use Rattle.std.proofs.Common.{◌≡◌, ◌≤◌, ℕ, List, length, vec_len, ap, sym, ◌∙◌, arith, rules}
use Rattle.std.proofs.lemmas.List.Sums.{prefix_len-le-length}
use Rattle.std.specs.Prelude.{not, ◌==◌}
use Rattle.std.specs.List.{insert}
use Rattle.mi_model.specs.Change.{stand_before}
use Rattle.mi_model.specs.LookUp.{rank_in}
use Rattle.mi_plain.proofs.RowLemmas.{stand_before-is}
use Rattle.mi_plain.proofs.ids.Ids.with_before.Goals as goal

pub insert-requires : goal.insert-requires
insert-requires c =
    let place : c.place_in-place.result ≡ rank_in c.in_ok-ids.ids.items c.args.b =
    c.place_in-place.ensures ∙ ap (λ (ids : List ℕ). rank_in ids c.args.b) c.as_slice-2.ensures.value in
    let within : rank_in c.in_ok-ids.ids.items c.args.b ≤ length c.in_ok-ids.ids.items =
    prefix_len-le-length (λ (a : ℕ). not (a == c.args.b)) c.in_ok-ids.ids.items in
    let len : vec_len c.in_ok-ids.ids ≡ length c.in_ok-ids.ids.items = search rules in
    omega (arith, place, within, len)

pub returns : goal.returns
returns c =
    let place : c.place_in-place.result ≡ rank_in c.in_ok-ids.ids.items c.args.b =
    c.place_in-place.ensures ∙ ap (λ (ids : List ℕ). rank_in ids c.args.b) c.as_slice-2.ensures.value in
    c.in_ok-insert.ensures.items
    ∙ ap (λ (n : ℕ). insert c.in_ok-ids.ids.items n c.args.e) place
    ∙ sym (stand_before-is c.args.b c.args.e c.in_ok-ids.ids.items)
    ∙ ap (stand_before c.args.b c.args.e) (c.in_ok-ids.ensures.items ∙ c.as_slice.ensures.value ∙ c.self.view_is)
