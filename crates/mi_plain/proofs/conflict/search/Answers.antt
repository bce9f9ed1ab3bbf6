-- The search goes by a row's id.
use Rattle.std.proofs.Common.{rules}
use Rattle.std.proofs.lemmas.List.Sorted.{answers_always}
use Rattle.mi_plain.proofs.SearchLemmas.{searched}
use Rattle.mi_plain.proofs.conflict.search.Goals as goal

pub returns : goal.returns
returns c =
    let by_id = c.binary_search_by_key.ensures.position (λ row. row.0) (answers_always _ _ _ (λ f a r g called. search rules)) in
    searched c.args.rows.now c.requires c.args.id _ c.binary_search_by_key.ensures.bound by_id
