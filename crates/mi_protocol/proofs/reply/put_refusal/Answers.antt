-- A conflict names its index; any other refusal is its word.
use Rattle.std.proofs.Common.{◌≡◌, ◌++◌, codes, decimal, subst, rules, arith}
use Rattle.json.specs.Filled.{Placed}
use Rattle.mi_protocol.specs.Replies.{refusal_text}
use Rattle.mi_protocol.proofs.reply.put_refusal.Goals as goal

pub returns-in-Unique-clause-text : goal.returns-in-Unique-clause-text
returns-in-Unique-clause-text c =
    let same : codes "{\"error\":\"unique\",\"id\":" ++ decimal c.in-Unique.id ++ codes ",\"index\":\"" ++ c.index_name-name.result.now ++ codes "\",\"ok\":false}"
    ≡ refusal_text c.args.catalog.now c.args.table c.args.refusal = search rules in
    subst (λ t. Placed c.args.buf.now c.put_conflict.new.buf c.args.at t c.put_conflict.result) same c.put_conflict.ensures.text

pub returns-in_default : goal.returns-in_default
returns-in_default c =
    let same : codes "{\"error\":\"" ++ c.as_bytes.result.now ++ codes "\",\"ok\":false}" ≡ refusal_text c.args.catalog.now c.args.table c.args.refusal = search rules in
    record {
      text = subst (λ t. Placed c.args.buf.now c.put_parts.new.buf c.args.at t c.put_parts.result) same c.put_parts.ensures.text;
      bound = omega (arith, c.put_parts.ensures.bound, c.word.ensures.short, c.as_bytes.ensures.len);
    }
