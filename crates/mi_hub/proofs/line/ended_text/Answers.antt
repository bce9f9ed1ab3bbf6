-- An over-long text is an over-long line.
use Rattle.std.proofs.Common.{ap, sym, arith}
use Rattle.mi_hub.specs.Lines.{ended_line}
use Rattle.mi_hub.proofs.LineLemmas.{marked-long}
use Rattle.mi_hub.proofs.line.ended_text.Goals as goal

pub returns-then-text-gt-MAX_LINE : goal.returns-then-text-gt-MAX_LINE
returns-then-text-gt-MAX_LINE c = ap ended_line (sym (marked-long c.args.text.now (omega arith)))
