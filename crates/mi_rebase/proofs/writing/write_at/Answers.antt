-- The heading that was made is that of the base that was written.
use Rattle.std.proofs.Common.{subst}
use Rattle.mi_rebase.specs.Rebase.{IsHeadingAt}
use Rattle.mi_rebase.proofs.writing.write_at.Goals as goal

pub returns : goal.returns
returns g c =
    let written = c.in_ok-file.ensures in (
      c.in-Ok.heading,
      subst (λ r. IsHeadingAt c.args.schema.now r c.args.place.now c.in-Ok.heading) c.revision.ensures c.in-Ok.ensures,
      record {
        before = c.args.new.file;
        after = c.in_ok-file.file;
        images = written.0;
        seen = c.requires.seen;
        locked = c.requires.locked;
        are = written.1;
        written = written.2;
        stay = written.3;
      },
    )
