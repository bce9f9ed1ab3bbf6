-- One byte more than the limit is asked for, so a longer text is told.
use Rattle.std.proofs.Common.{rules, ◌≡◌, ◌≤◌, length}
use Rattle.std.specs.Vec.{vec_len}
use Rattle.mi_value.specs.declared.limits.TheConstants.{MAX_SCHEMA_FILE}
use Rattle.mi_program.proofs.TextLemmas.{whole_read}
use Rattle.mi_program.proofs.source.whole_text.Goals as goal

pub returns-else-len-gt-MAX_SCHEMA_FILE : goal.returns-else-len-gt-MAX_SCHEMA_FILE
returns-else-len-gt-MAX_SCHEMA_FILE g c =
    let text = c.read_to_end.new.buf in
    let len : vec_len text ≡ length text.items = search rules in
    let fits : length text.items ≤ MAX_SCHEMA_FILE = rw (← len, ← c.len.ensures) c.if-len-gt-MAX_SCHEMA_FILE.false in
    let read = rw (c.take-limited.ensures.limit, c.take-limited.ensures.inner, c.new-text.ensures.items) at c.in-Ok.ensures.bytes in
    record {
      ok = whole_read _ _ _ read fits;
      err = tt;
    }
