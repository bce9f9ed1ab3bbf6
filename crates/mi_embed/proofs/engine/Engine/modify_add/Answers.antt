-- What is told of the addition that is asked is told of the call. A number is what it is in 64 bits.
use Rattle.std.proofs.Common.{ℤ, refl, subst}
use Rattle.std.specs.Int.{w64}
use Rattle.std.proofs.lemmas.Int.{to_z-of_z}
use Rattle.mi_protocol.specs.declared.command.Command.TheVariants as command
use Rattle.mi_request.specs.Answers.{IsAnswer}
use Rattle.mi_embed.specs.Calls as call
use Rattle.mi_embed.specs.Calls.{Call, of_table}
use Rattle.mi_embed.proofs.CallLemmas.{tells}
use Rattle.mi_embed.proofs.engine.Engine.modify_add.Goals as goal

pub returns : goal.returns
returns c =
    let k = λ (n : ℤ). call.modify_add c.args.table c.args.id c.args.column n c.args.rollback in
    let asked = subst (λ n. IsAnswer (of_table command.Change c.args.table c.modify_add_asked-asked.result) (call.asked c.args.self.now.held c.args.conn (k n)))
    (to_z-of_z w64 c.args.n c.ranges.n) c.modify_add_asked-asked.ensures.asked in
    tells c.args.conn (k c.args.n) c.args.table c.modify_add_asked-asked.result c.told.result c.args.self.now c.told.new.self refl asked c.told.ensures
