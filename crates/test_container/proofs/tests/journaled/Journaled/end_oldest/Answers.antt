-- the oldest session, which has no change, ends
use Rattle.std.proofs.Common.{◌≡◌, None, refl, rules}
use Rattle.test_container.proofs.JournaledLemmas.{stays, oldest_ended, none_taken}
use Rattle.test_container.proofs.tests.journaled.Journaled.end_oldest.Goals as goal

pub returns : goal.returns
returns g c =
    let none : c.take_oldest.result ≡ None = search rules in
    oldest_ended _ _ _ _ _ c.end_oldest.ensures.sessions
    (stays _ _ _ _ _ _ _ refl refl (none_taken _ _ _ none c.take_oldest.ensures.sessions) c.requires)
