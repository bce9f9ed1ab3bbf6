-- The nodes of chains stay in their order while they grow.
use Rattle.std.proofs.Common.{rules, refl}
use Rattle.mi_index.proofs.JoinLemmas.{chains_kept, keeps_all}
use Rattle.mi_index.proofs.structure.room_in_chains.Goals as goal

pub returns-clause-step : goal.returns-clause-step
returns-clause-step c r s rs h j =
    let d = c.args.chains.now in let e = c.make_room.ensures in
    record {
      us = rs;
      done = record { list = refl; tags = e.tags };
      stands = chains_kept d c.make_room.new.self c.args.p.now c.make_room.new.p rs e.slot e.keys e.tags (e.list rs h.0) h.1;
      keeps = keeps_all d.slot c.args.p.now c.make_room.new.p r rs rs refl (e.keeps rs h.0);
    }

pub returns-clause-room : goal.returns-clause-room
returns-clause-room c = search rules
