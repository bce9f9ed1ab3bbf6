-- Where nothing waits, what the stream takes comes right behind what it has.
use Rattle.mi_program.proofs.BufferLemmas.{stream_takes, none_waits}
use Rattle.mi_program.proofs.buffered.Buffered.pass.Goals as goal

pub returns-clause-bytes : goal.returns-clause-bytes
returns-clause-bytes g c = stream_takes _ _ _ _ _ (none_waits c.args.self.now.gathered.items c.args.self.now.sent c.requires) c.write.ensures.bytes
