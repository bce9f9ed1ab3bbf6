-- The images are the very tables.
use Rattle.std.proofs.Common.{◌∙◌, ap, length}
use Rattle.mi_model.proofs.InvariantLaws.{zip_length}
use Rattle.mi_rebase.proofs.ImageLemmas.{followed}
use Rattle.mi_rebase.proofs.images.LinkedImaged.images.Goals as goal

pub returns : goal.returns
returns g c = followed _ _ c.images.result
    (λ images is. record { one_each = ap length is ∙ zip_length _ _ c.keeps_rules.ensures.tables; are = is }) c.images.ensures
