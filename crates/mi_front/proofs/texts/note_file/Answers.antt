-- The text alone is read.
use Rattle.std.proofs.Common.{ap, ◌∙◌, take, option_map}
use Rattle.std.specs.String.{string_bytes}
use Rattle.mi_recovery.specs.JournalFile.{from_byte}
use Rattle.mi_front.proofs.TextLemmas.{has_text}
use Rattle.mi_front.proofs.texts.note_file.Goals as goal

pub returns-in-Ok-clause-noted : goal.returns-in-Ok-clause-noted
returns-in-Ok-clause-noted g c =
    let contents = g.F.Device.contents in
    let reader = c.take-reader.result.inner in
    let noted = c.in-Ok.ensures.noted in
    let same = ap (λ n. option_map (λ bytes. take n bytes) (from_byte (contents reader.file.now) reader.at)) c.take-reader.ensures.limit
    ∙ ap (λ (r : _). option_map (λ bytes. take c.args.text bytes) (from_byte (contents r.file.now) r.at)) c.take-reader.ensures.inner
    ∙ ap (λ o. option_map (λ bytes. take c.args.text bytes) o) c.new.ensures in (
      noted.0,
      noted.1,
      has_text (contents c.args.file.now) _ c.args.text c.as_bytes.result.now (string_bytes c.args.place.now.header) c.args.place.now.skip c.in-Ok.found
          noted.0 c.requires.text same c.as_bytes.ensures.value noted.2,
    )
