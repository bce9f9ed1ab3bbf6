-- The row's node moves in the index, and the data are those with the other stamp.
use Rattle.mi_multi.proofs.RestampLemmas.{its_node, its_ready, call_multi, call_seen}
use Rattle.mi_multi.proofs.SecretLemmas.{secrets_kept}
use Rattle.mi_multi.proofs.multi.MultiIndex.restamp.Goals as goal

pub restamp-requires : goal.restamp-requires
restamp-requires c = record {
  held = its_node c.self.inside c.self.invariant c.args.self.now c.self.view_is c.args.row c.requires.row
      c.args.index c.args.stamp c.requires.stamped c.requires.free c.args.marks.now c.requires.marks;
  places = its_ready c.self.inside c.self.invariant c.args.self.now c.self.view_is c.args.row c.requires.row
      c.args.index c.args.stamp c.requires.stamped c.requires.free c.args.marks.now c.requires.marks;
}

pub invariant_of-self : goal.invariant_of-self
invariant_of-self c =
    call_multi c.self.inside c.self.invariant c.args.self.now c.self.view_is c.args.row c.requires.row
    c.args.index c.args.stamp c.requires.stamped c.requires.free c.args.marks.now c.requires.marks
    c.restamp.new.self.pool c.restamp.new.self.structures.items c.restamp.ensures.like c.restamp.ensures.restamped c.requires.early

pub returns-clause-plain : goal.returns-clause-plain
returns-clause-plain c =
    call_seen c.self.inside c.self.invariant c.args.self.now c.self.view_is c.args.row c.requires.row
    c.args.index c.args.stamp c.requires.stamped c.requires.free c.args.marks.now c.requires.marks
    c.restamp.new.self.pool c.restamp.new.self.structures.items c.restamp.ensures.like c.restamp.ensures.restamped

pub returns-clause-secrets : goal.returns-clause-secrets
returns-clause-secrets c = secrets_kept c.self.inside c.self.view_is _ c.restamp.ensures.like
