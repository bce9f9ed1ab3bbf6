-- A rank is told as the definitions say it.
use Rattle.std.proofs.Common.{◌≡◌, false, inl, sym, subst, List}
use Rattle.mi_value.specs.declared.value.Value.{Value}
use Rattle.mi_protocol.specs.Replies.{said, is_short}
use Rattle.mi_protocol.specs.declared.look_ups.KeyLookUp.TheVariants as by_key
use Rattle.mi_commands.specs.Performed.{key_looked}
use Rattle.mi_commands.specs.Told.{SaidOrMemory}
use Rattle.mi_commands.proofs.executor.Executor.look_by_keys.Goals as goal

pub returns-in-LowerRank-clause-told : goal.returns-in-LowerRank-clause-told
returns-in-LowerRank-clause-told g c =
    let d = c.args.self.now.database in
    let asks = λ (key : List Value). key_looked d c.args.table (by_key.LowerRank c.in-LowerRank.index key) in
    subst (λ k. SaidOrMemory (is_short (key_looked d c.args.table k) ≡ false) (key_looked d c.args.table k) (said c.lower_rank.result)) (sym c.in-LowerRank.is)
    (inl (subst (λ key. said c.lower_rank.result ≡ asks key) c.values-in-LowerRank.ensures c.lower_rank.ensures.said))

pub returns-in-UpperRank-clause-told : goal.returns-in-UpperRank-clause-told
returns-in-UpperRank-clause-told g c =
    let d = c.args.self.now.database in
    let asks = λ (key : List Value). key_looked d c.args.table (by_key.UpperRank c.in-UpperRank.index key) in
    subst (λ k. SaidOrMemory (is_short (key_looked d c.args.table k) ≡ false) (key_looked d c.args.table k) (said c.upper_rank.result)) (sym c.in-UpperRank.is)
    (inl (subst (λ key. said c.upper_rank.result ≡ asks key) c.values-in-UpperRank.ensures c.upper_rank.ensures.said))
