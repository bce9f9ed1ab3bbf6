-- What a value's text is read as is the value.
use Rattle.std.proofs.Common.{subst, sym, ap, ◌∙◌}
use Rattle.std.specs.Str.{IsUtf8}
use Rattle.std.proofs.lemmas.Str.{IsUtf8-had}
use Rattle.serde_json.specs.Read.{read}
use Rattle.mi_base.proofs.line.line_of.Goals as goal

pub returns-clause-plain : goal.returns-clause-plain
returns-clause-plain c =
    let text = c.in_ok-line.ensures.text c.requires.whole in
    record {
      whole = c.requires.whole;
      utf8 = subst IsUtf8 text (IsUtf8-had _ c.in_ok-line.line.ok);
      reads = sym (ap read text) ∙ c.in_ok-line.ensures.reads_back c.requires.shallow;
    }
