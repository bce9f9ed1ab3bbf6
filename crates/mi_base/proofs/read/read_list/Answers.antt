-- A line that is the known one is that of the known list alone.
use Rattle.std.proofs.Common.{◌∙◌, ap}
use Rattle.mi_base.proofs.KnownLemmas.{known_list}
use Rattle.mi_base.proofs.read.read_list.Goals as goal

pub returns-then-take_same-clause-exact : goal.returns-then-take_same-clause-exact
returns-then-take_same-clause-exact g c =
    known_list _ _ _ _ c.args.ids.now c.in_ok-from_slice.field-0.items c.requires.plain
    (c.take_same.ensures.same c.if-take_same.true ∙ c.requires.known) c.in_ok-from_slice.ensures.items
    (ap g.R.Read.remaining c.take_same.ensures.reader) c.in_ok-advance.ensures.exact
