-- What was asked was found; the base is that of what it leaves.
use Rattle.std.proofs.Common.{◌≡◌, true, subst}
use Rattle.std.specs.String.{string_bytes}
use Rattle.mi_model.specs.Database.{Database}
use Rattle.mi_rebase.specs.Rebase.{IsHeadingAt, IsWritten, base_place}
use Rattle.mi_rebase.proofs.RebaseLemmas.{asked_after, on_ok_then}
use Rattle.mi_rebase.proofs.rebasing.rebased_alone.Goals as goal

pub stand_of-requires-clause-text : goal.stand_of-requires-clause-text
stand_of-requires-clause-text g c = c.in_ok-front.ensures.front.noted.behind.text

pub stand_of-requires-clause-found : goal.stand_of-requires-clause-found
stand_of-requires-clause-found g c =
    let asked = c.in_ok-front.front.asked in
    let behind = c.in_ok-front.ensures.front.noted.behind in
    asked_after (g.P.File.Device.contents asked.file) (string_bytes asked.place.header) asked.place.skip asked.found behind.mid _ behind.newest

pub returns : goal.returns
returns g c =
    let stand = c.in_ok-stand.stand in
    on_ok_then _ _ c.made.result c.made.ensures (λ written. record {
      there = c.requires.there;
      front = c.in_ok-front.front;
      new = c.ask_front.new.hub.held;
      within = stand.within;
      next = stand.next;
      heading = written.0;
      asked = c.in_ok-front.ensures.front;
      stands = c.in_ok-stand.ensures.within;
      number = c.in_ok-stand.ensures.number;
      closes = c.in_ok-stand.ensures.closes;
      at = subst (λ (d : Database). IsHeadingAt c.args.schema.now d.revision (base_place stand.within stand.next) written.0) c.database.ensures written.1;
      is = subst (λ (d : Database). IsWritten (λ file. g.P.File.JournalFile.is_locked file ≡ true) (g.P.JournalFiles.is_seen c.args.files.now)
          g.P.File.Device.contents g.P.File.Device.stays c.args.path.now written.0 d) c.database.ensures written.2;
    })
