-- Where the key changes, the place is the stamp and in a hashed index the neighbours.
use Rattle.std.proofs.Common.{ap, ◌∙◌}
use Rattle.std.specs.Option.{option_map}
use Rattle.mi_container.specs.Backs.{place_seen}
use Rattle.mi_multi.proofs.PutCallLemmas.{few_items, its_slot, its_node, no_place, some_place, kept_stamp}
use Rattle.mi_multi.proofs.multi.MultiIndex.old_place.Goals as goal

pub returns-then-not-changed : goal.returns-then-not-changed
returns-then-not-changed c =
    ap (option_map place_seen) c.none.ensures
    ∙ no_place c.self.inside c.self.invariant c.args.self.now c.self.view_is c.args.row c.requires.row
    c.args.index c.requires.index c.args.new.now c.args.changed c.requires.changed c.if-not-changed.true

pub structure_at-structure-requires : goal.structure_at-structure-requires
structure_at-structure-requires c = few_items c.self.inside c.self.invariant c.args.self.now
    c.self.view_is c.args.row c.requires.row c.args.index c.requires.index

pub place-requires-clause-slot : goal.place-requires-clause-slot
place-requires-clause-slot c =
    its_slot c.self.inside c.self.invariant c.args.self.now c.self.view_is c.args.row c.requires.row
    c.args.index c.requires.index c.structure_at-structure.result.now c.structure_at-structure.ensures

pub place-requires-clause-node : goal.place-requires-clause-node
place-requires-clause-node c =
    its_node c.self.inside c.self.invariant c.args.self.now c.self.view_is c.args.row c.requires.row
    c.args.index c.requires.index c.structure_at-structure.result.now c.structure_at-structure.ensures

pub new-requires : goal.new-requires
new-requires c =
    kept_stamp c.self.inside c.self.invariant c.args.self.now c.self.view_is c.args.row c.requires.row
    c.args.index c.requires.index c.args.new.now c.args.changed c.requires.changed c.if-not-changed.false
    c.structure_at-structure.result.now c.structure_at-structure.ensures c.place.result c.place.ensures

pub returns : goal.returns
returns c =
    ap (option_map place_seen) c.new.ensures
    ∙ some_place c.self.inside c.self.invariant c.args.self.now c.self.view_is c.args.row c.requires.row
    c.args.index c.requires.index c.args.new.now c.args.changed c.requires.changed c.if-not-changed.false
    c.structure_at-structure.result.now c.structure_at-structure.ensures c.place.result c.place.ensures
