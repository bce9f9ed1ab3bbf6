-- A conflict says that the record isn't lost.
use Rattle.std.proofs.Common.{◌≡◌, ◌++◌, codes, decimal, subst, rules}
use Rattle.json.specs.Filled.{Placed}
use Rattle.mi_protocol.specs.Replies.{modify_refusal_text}
use Rattle.mi_protocol.proofs.reply.put_modify_refusal.Goals as goal

pub returns-in-Unique-clause-text : goal.returns-in-Unique-clause-text
returns-in-Unique-clause-text c =
    let same : codes "{\"error\":\"unique\",\"id\":" ++ decimal c.in-Unique.id ++ codes ",\"index\":\"" ++ c.index_name-name.result.now
    ++ codes "\",\"lost\":false,\"ok\":false}" ≡ modify_refusal_text c.args.catalog.now c.args.table c.args.refusal = search rules in
    subst (λ t. Placed c.args.buf.now c.put_conflict.new.buf c.args.at t c.put_conflict.result) same c.put_conflict.ensures.text
