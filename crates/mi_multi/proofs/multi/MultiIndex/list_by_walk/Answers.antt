-- The walk from the first row is the list.
use Rattle.std.proofs.Common.{◌∙◌, ap, sym, map, false}
use Rattle.std.proofs.lemmas.Result.{IfOk-weaker}
use Rattle.mi_catalog.specs.Kinds.{shows_one_list}
use Rattle.mi_model.specs.Walk.{rows_from}
use Rattle.mi_model.proofs.PlaceLaws.{listed_within}
use Rattle.mi_container.specs.Data.{as_table}
use Rattle.mi_multi.proofs.ImagingLemmas.{walk_starts, walked_list}
use Rattle.mi_multi.proofs.multi.MultiIndex.list_by_walk.Goals as goal

pub walk-requires-clause-first : goal.walk-requires-clause-first
walk-requires-clause-first c =
    walk_starts c.args.self.now.shape c.args.self.now.plain c.keeps_rules.ensures c.args.index
    (listed_within c.args.self.now.shape c.args.index (ap shows_one_list c.requires)) c.in-Some.first (sym c.in-Some.is ∙ c.first.ensures)

pub returns : goal.returns
returns c =
    let s = c.args.self.now.shape in let t = as_table c.args.self.now.plain in let x = c.args.index in
    IfOk-weaker c.lent_ids.result _ _
    (λ list is.
    is
    ∙ ap (map (λ r. r.0)) c.as_slice.ensures.value
    ∙ walked_list s c.args.self.now.plain c.keeps_rules.ensures x (listed_within s x (ap shows_one_list c.requires)) c.requires
    c.in-Some.first (sym c.in-Some.is ∙ c.first.ensures) c.in_ok-lent.lent.items
    (c.in_ok-lent.ensures ∙ ap (λ n. rows_from s t x false c.in-Some.first n) c.size.ensures))
    c.lent_ids.ensures
