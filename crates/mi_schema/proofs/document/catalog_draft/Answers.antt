-- A document in format 2 describes several tables.
use Rattle.std.proofs.Common.{rules}
use Rattle.mi_schema.specs.Members.{catalog_draft}
use Rattle.mi_schema.proofs.document.catalog_draft.Goals as goal

pub returns-then-format-eq2 : goal.returns-then-format-eq2
unfolding catalog_draft
returns-then-format-eq2 c = search rules
