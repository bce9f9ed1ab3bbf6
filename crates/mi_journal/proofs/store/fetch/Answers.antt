-- another entry than that of a put is what it is settled by
use Rattle.std.proofs.Common.{◌∙◌, ap, sym, refl, drop, reverse}
use Rattle.mi_journal.proofs.SettleLemmas.{settled_itself}
use Rattle.mi_journal.proofs.store.fetch.Goals as goal

pub returns-in_default : goal.returns-in_default
returns-in_default c =
    let own = settled_itself c.args.entry c.in_default.not-Put in
    let rs = reverse c.args.records.now.items in
    let ps = reverse c.args.places.now.items in
    record {
      is = c.plain_step.ensures rs ps _ ∙ own.0 rs ps;
      records_rest = sym (ap (λ n. drop n rs) own.1);
      places_rest = sym (ap (λ n. drop n ps) own.2);
      records_capacity = refl;
      places_capacity = refl;
    }
