-- The base that was found is the one that the position names, and its tables stand.
use Rattle.std.proofs.Common.{option_map}
use Rattle.std.specs.String.{string_bytes}
use Rattle.mi_rebase.specs.declared.base.Base.{Base}
use Rattle.mi_serving.specs.Served.{HasBase, path_of}
use Rattle.mi_serving.proofs.ServedLemmas.{holds_there}
use Rattle.mi_serving.proofs.start.standing.Goals as goal

pub returns-in_ok-hub-in-Some : goal.returns-in_ok-hub-in-Some
returns-in_ok-hub-in-Some g c = (
  c.in-Some.field-0.heading,
  c.in-Some.field-0.images.items,
  holds_there
      (λ (base : Base). HasBase (g.P.JournalFiles.is_seen c.args.files.now) g.P.File.Device.contents c.args.catalog (string_bytes c.args.schema.now.hash)
      (path_of (option_map (λ words. words.now) c.args.journal)) base.heading base.images.items)
      c.in_ok-heading.field-0 c.in-Some.field-0 c.in-Some.is c.in_ok-heading.ensures,
  c.position_of.ensures,
  c.in_ok-hub-in-Some.ensures,
)
