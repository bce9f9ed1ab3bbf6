use Rattle.std.proofs.Common.{map}
use Rattle.mi_base.specs.Base.{list_data}
use Rattle.mi_base.specs.Reader.{reader_of}
use Rattle.mi_base.proofs.ReadLemmas.{HasRead}
use Rattle.mi_base.proofs.read.read_lists.Given as goal

-- the lists so far
abbrev pub invariant-lists : goal.invariant-lists
invariant-lists g l =
    HasRead list_data (λ _. Unit {0}) l.count (g.R.Read.remaining (reader_of l.fn.lines)) (g.R.Read.remaining (reader_of l.lines))
    l.fn.lines.digest l.lines.digest l._list (map (λ x. x.items) l.lists.items)
