-- Journals of two runs, one behind the other, are a journal of both.
-- Cited by `laws::journals_join`, `FrontLemmas` and `mi_clients`.
use Rattle.std.proofs.Common.{[], ◌∷◌, ◌++◌, sym, ap, ◌∙◌, subst, append_assoc}
use Rattle.mi_replay.specs.Journal.{JournalOf}
use Rattle.mi_replay.specs.ReplayLaws.{JournalsJoin}

pub journals_join : JournalsJoin
journals_join old mid new [] later lines more p q =
    subst (λ s. JournalOf s later (lines ++ more) new) p.1 (subst (λ ls. JournalOf mid later (ls ++ more) new) (sym p.0) q)
journals_join old mid new (act ∷ acts) later lines more p q = (
  p.0,
  p.1,
  p.2 ++ more,
  p.3,
  p.4,
  journals_join p.0 mid new acts later p.2 more p.5 q,
  ap (λ ls. ls ++ more) p.6 ∙ append_assoc p.1 p.2 more,
)
