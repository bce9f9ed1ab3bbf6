-- Behind a flag stand 62 bits of the second part's tag, turned round where that part descends.
use Rattle.std.proofs.Common.{option_map, ap, ◌∙◌}
use Rattle.mi_value.specs.Lent.{lent}
use Rattle.mi_order.specs.Tags.{directed_tag}
use Rattle.mi_order.specs.Prefixes.{short_tag, pair_tag}
use Rattle.mi_order.proofs.prefixes.two_tag.Goals as goal

pub returns-in-Flag : goal.returns-in-Flag
returns-in-Flag c =
    let second = c.directed_tag-tag.ensures ∙ ap (directed_tag c.args.next.now.descending) c.column_tag.ensures in
    let behind = c.short_tag.ensures.tag ∙ ap (short_tag c.args.types.now.second) second in
    rw c.in-Flag.is (c.pair_tag.ensures ∙ ap (pair_tag c.args.part.now.descending (option_map lent c.args.value)) behind)
