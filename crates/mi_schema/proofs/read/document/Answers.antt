-- What the parser reads is the document that the text is; what it refuses, but for memory, is none.
use Rattle.std.proofs.Common.{inr, refl, rules}
use Rattle.mi_schema.proofs.DocumentLaws.{document_found, document_refused}
use Rattle.mi_schema.proofs.read.document.Goals as goal

pub returns-in-Ok-clause-ok : goal.returns-in-Ok-clause-ok
returns-in-Ok-clause-ok c = document_found c.args.text.now _ c.in-Ok.ensures.ok.0 c.in-Ok.ensures.ok.1

pub returns-else-is_memory-clause-err : goal.returns-else-is_memory-clause-err
returns-else-is_memory-clause-err c = inr (refl, document_refused c.args.text.now (λ utf8. search rules))
