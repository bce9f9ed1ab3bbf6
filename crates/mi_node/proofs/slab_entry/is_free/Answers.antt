-- A place is free exactly where it has no value.
use Rattle.std.proofs.Common.{sym, subst}
use Rattle.std.proofs.lemmas.Bool.{false≢true}
use Rattle.mi_node.specs.Slab.{IsFree}
use Rattle.mi_node.proofs.EntryLemmas.{none_some}
use Rattle.mi_node.proofs.slab_entry.is_free.Goals as goal

pub returns-in-Held : goal.returns-in-Held
returns-in-Held g c = record { free = λ free. absurd (false≢true free); held = λ e. absurd (none_some _ (sym (subst IsFree c.in-Held.is e))) }
