-- What was asked gives the base, which stands at its place.
use Rattle.std.proofs.Common.{◌≡◌, ◌⊎◌, true, option_map, subst}
use Rattle.mi_model.specs.Database.{Database}
use Rattle.mi_base.specs.declared.heading.Heading.{Heading}
use Rattle.mi_rebase.specs.Rebase.{IsHeadingAt, IsWritten, IsStanding}
use Rattle.mi_rebase.proofs.RebaseLemmas.{on_ok}
use Rattle.mi_rebase.proofs.beside.rebased_beside.Goals as goal

pub returns : goal.returns
returns g c =
    let place = c.in_ok-place.place in
    on_ok _ c.keep_names.result record {
      newest = c.args.newest;
      is_last = c.requires.newest;
      there = c.requires.there;
      place = place;
      new = c.ask_closed.new.hub.held;
      asked = c.in_ok-place.ensures.front;
      put = subst (λ (d : Database). IsStanding (option_map (λ p. p.now) c.args.position) place ⊎ ((heading : Heading)
          × IsHeadingAt c.args.schema.now d.revision place heading × IsWritten (λ file. g.P.File.JournalFile.is_locked file ≡ true)
          (g.P.JournalFiles.is_seen c.args.files.now) g.P.File.Device.contents g.P.File.Device.stays c.args.path.now heading d)) c.database.ensures
          c.in_ok-put_at.ensures;
    }
