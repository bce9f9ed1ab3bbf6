-- The ids are those of the rows.
use Rattle.std.proofs.Common.{◌∙◌, ap, map}
use Rattle.mi_container.proofs.RestoreLemmas.{plain_ids}
use Rattle.mi_multi.proofs.multi.MultiIndex.image.Goals as goal

pub lists-requires : goal.lists-requires
lists-requires c =
    c.as_slice-2.ensures.value ∙ c.in_ok-ids.ensures
    ∙ ap (map (λ r. r.0)) (c.as_slice.ensures.value ∙ c.in_ok-rows.ensures)
    ∙ plain_ids c.args.self.now.plain.rows
