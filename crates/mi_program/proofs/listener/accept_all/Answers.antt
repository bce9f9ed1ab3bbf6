-- The connections so far have come under the numbers from 1 on, and are the row's.
use Rattle.std.proofs.Common.{◌≡◌, ◌+◌, [], ◌∷◌, ◌++◌, refl, sym, ap, ◌∙◌, subst, arith, rules}
use Rattle.std.specs.VecDeque.{deque_len}
use Rattle.mi_hub.specs.Run.{HubState}
use Rattle.mi_program.specs.Turns.{client_ids, HaveCome}
use Rattle.mi_program.proofs.TurnLemmas.{not_come, come_one, ids_one, serves_come, sound_last, same_hub}
use Rattle.mi_program.proofs.listener.accept_all.Goals as goal

pub accept-requires : goal.accept-requires
accept-requires g c = not_come c.row.before _ c.args.hub.now c.row.hub refl c.row.invariant.hub

pub cut_all-requires : goal.cut_all-requires
cut_all-requires g c = serves_come (client_ids c.row.row.items) c.row.before c.args.hub.now c.accept.new.hub
    c.row.invariant.come.numbered (c.in-Err.ensures.fault ∙ c.row.invariant.hub)

pub row-preserved : goal.row-preserved
row-preserved g c =
    let came = c.in-Ok-accept.ensures.ok in
    let client = c.in-Ok-accept.client in
    let items : c.push_back.new.self.items ≡ c.row.row.items ++ client ∷ [] = search rules in
    let len : deque_len c.push_back.new.self ≡ deque_len c.row.row + 1 = search rules in record {
      hub = came.1 ∙ come_one c.row.before _ c.args.hub.now c.row.hub refl c.row.invariant.hub;
      come = subst (HaveCome (c.row.before + 1)) (sym items) (record {
        numbered = ids_one c.row.row.items c.row.before client c.row.invariant.come.numbered came.0;
        sound = sound_last c.row.row.items client c.row.invariant.come.sound came.2;
      });
      len = omega (arith, len, c.row.invariant.len);
      room = omega (arith, c.row.invariant.room, c.push_back.ensures.capacity);
    }

pub returns-in-Err-clause-unserved : goal.returns-in-Err-clause-unserved
returns-in-Err-clause-unserved g c = λ nobody.
    let before = c.in-Err.ensures.fault ∙ c.row.invariant.hub in
    same_hub c.args.hub.now c.cut_all.new.hub
    (c.cut_all.ensures.held (ap (λ (s : HubState). s.held.holder) before ∙ nobody) ∙ ap (λ (s : HubState). s.held) before)
    (c.cut_all.ensures.none ∙ sym c.requires)
