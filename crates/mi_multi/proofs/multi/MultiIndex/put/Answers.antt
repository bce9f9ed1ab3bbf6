-- The node gets its new record and its new places, and the data are those of the put.
use Rattle.std.proofs.Common.{refl, sym}
use Rattle.mi_container.specs.Data.{content_of}
use Rattle.mi_container.specs.Inverse.{old_places}
use Rattle.mi_multi.proofs.PutCallLemmas.{row_held, put_ready, now_multi, now_made}
use Rattle.mi_container.specs.declared.inverse.RowRef.{RowRef as Row}
use Rattle.mi_multi.proofs.SecretLemmas.{secrets_kept}
use Rattle.mi_multi.proofs.multi.MultiIndex.put.Goals as goal

pub rekey-old-requires-clause-held : goal.rekey-old-requires-clause-held
rekey-old-requires-clause-held c =
    let row : Row = record { id = c.args.id; node = c.args.node } in
    row_held c.self.inside c.self.invariant c.args.self.now c.self.view_is row c.requires.live

pub rekey-old-requires-clause-places : goal.rekey-old-requires-clause-places
rekey-old-requires-clause-places c =
    put_ready c.self.inside c.self.invariant c.args.self.now c.self.view_is c.args.id c.args.node c.requires.live c.args.row c.requires.allowed
    c.args.marks.now c.requires.marks

pub invariant_of-self : goal.invariant_of-self
invariant_of-self c =
    now_multi c.self.inside c.self.invariant c.args.self.now c.self.view_is c.args.id c.args.node c.requires.live c.args.row c.requires.allowed
    c.args.marks.now c.requires.marks c.rekey-old.new.self.pool c.rekey-old.new.self.structures.items
    c.rekey-old.ensures.like c.rekey-old.ensures.rekeyed c.requires.times

pub returns-clause-made : goal.returns-clause-made
returns-clause-made c =
    let d = c.args.self.now.plain in
    let own = content_of d.rows c.args.id in
    let ps = old_places 0 d.rows c.args.id own.values c.args.row d.orders own.stamps in (
      ps,
      (λ noted. sym (c.lay_places.ensures.places noted)),
      now_made c.self.inside c.self.invariant c.args.self.now c.self.view_is c.args.id c.args.node c.requires.live c.args.row c.requires.allowed
          c.args.marks.now c.requires.marks c.rekey-old.new.self.pool c.rekey-old.new.self.structures.items
          c.rekey-old.ensures.like c.rekey-old.ensures.rekeyed ps refl c.rekey-old.result c.rekey-old.ensures.value _ refl,
    )

pub returns-clause-secrets : goal.returns-clause-secrets
returns-clause-secrets c = secrets_kept c.self.inside c.self.view_is _ c.rekey-old.ensures.like
