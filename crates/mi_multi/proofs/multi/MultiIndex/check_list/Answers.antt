-- The index goes by the ids alone, and the list is another.
use Rattle.std.proofs.Common.{◌∙◌, inr, refl, sym}
use Rattle.mi_container.proofs.RestoreLemmas.{plain_ids}
use Rattle.mi_multi.proofs.RestoringLemmas.{ids_alone}
use Rattle.mi_multi.proofs.multi.MultiIndex.check_list.Goals as goal

pub returns-in-Ids-clause-fault : goal.returns-in-Ids-clause-fault
returns-in-Ids-clause-fault c =
    let d = c.args.self.now.plain in (
      refl,
      inr (
        ids_alone c.args.self.now.shape d.orders c.args.index c.keeping.result c.keeps_rules.ensures.kinds c.requires.index c.keeping.ensures c.in-Ids.is,
        λ same. c.if-not-are_same.ensures.no refl (same ∙ plain_ids d.rows ∙ sym c.requires.ids),
      ),
    )
