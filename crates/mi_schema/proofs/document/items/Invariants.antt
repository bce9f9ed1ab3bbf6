-- what was read, and what is still read
use Rattle.std.proofs.Common.{◌≡◌, drop}
use Rattle.toml.specs.View.{items_view}
use Rattle.mi_schema.specs.Members.{each}
use Rattle.mi_schema.proofs.DocumentLaws.{with_front}
use Rattle.mi_schema.proofs.document.items.Given as goal

abbrev pub invariant-loop-value : goal.invariant-loop-value
invariant-loop-value g l = with_front l.items.items (each g.T.Item.kind (items_view (drop l.value-index l.values))) ≡ each g.T.Item.kind (items_view l.values)
