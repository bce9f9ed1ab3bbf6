-- One more is ended.
use Rattle.std.proofs.Common.{◌≡◌, inl, inr, refl, sym, ◌∙◌, subst, arith}
use Rattle.mi_clients.specs.Clients.{ids}
use Rattle.mi_clients.specs.Ending.{HasAsked, IsBroken}
use Rattle.mi_clients.proofs.EndingLemmas.{takes_ids, takes_one, ended_count, takes_asked, takes_from, takes_first_asked, takes_broken, takes_before, none_asked}
use Rattle.mi_clients.proofs.EndingLemmas.{ended_asked, ended_from, ended_broken, ended_self, ended_before, before_same}
use Rattle.mi_clients.proofs.ending.end_asked.Goals as goal

pub asked-init : goal.asked-init
asked-init g c = record {
  ids = refl;
  ended = λ n there. inl there;
  asked = λ n there. there;
  others = λ n never. before_same n c.args.clients.now.items;
}

pub asked-smaller : goal.asked-smaller
asked-smaller g c =
    let fewer = takes_one c.in-Some.conn c.asked.clients.items c.next_end.new.clients.items c.in-Some.ensures in
    let same = ended_count c.in-Some.conn c.next_end.new.clients.items c.end_one.new.clients.items c.end_one.ensures.ended in
    omega (arith, fewer, same)

pub asked-preserved : goal.asked-preserved
asked-preserved g c =
    let before = c.asked.invariant in
    let m = c.in-Some.conn in
    let olds = c.args.clients.now.items in
    let a = c.asked.clients.items in
    let b = c.next_end.new.clients.items in
    let d = c.end_one.new.clients.items in
    let took = c.in-Some.ensures in
    let ended = c.end_one.ensures.ended in
    let same : ids b ≡ ids olds = takes_ids m a b took ∙ before.ids in record {
      ids = c.end_one.ensures.ids ∙ same;
      ended = λ n there. elim (before.ended n there) [
        | inl still ↦ elim (takes_asked n m a b took still) [
          | inl is ↦ inr (subst (λ k. IsBroken k d) (sym is) (ended_self m b d ended))
          | inr more ↦ inl (ended_asked n m b d ended more)
        ]
        | inr broken ↦ inr (ended_broken n m b d ended (takes_broken n m a b took broken))
      ];
      asked = λ n there. before.asked n (takes_from n m a b took (ended_from n m b d ended there));
      others = λ n never.
          ended_before n m olds b d (λ is. never (subst (λ k. HasAsked k olds) (sym is) (before.asked m (takes_first_asked m a b took)))) same ended
          (takes_before n m olds a b took (before.others n never));
    }

pub returns-clause-ended : goal.returns-clause-ended
returns-clause-ended g c = λ n there.
    let last = c.in_default.ensures in
    elim (c.asked.invariant.ended n there) [
      | inl still ↦ absurd (none_asked n c.asked.clients.items last.1 still)
      | inr broken ↦ subst (IsBroken n) (sym last.0) broken
    ]
