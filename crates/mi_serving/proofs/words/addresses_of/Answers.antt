-- The port and the path are those of the matches.
use Rattle.std.proofs.Common.{◌∙◌, codes}
use Rattle.clap.specs.Words.{found_of}
use Rattle.clap.proofs.WalkLemmas.{first_value-rows}
use Rattle.mi_serving.proofs.words.addresses_of.Goals as goal

pub returns : goal.returns
returns c = record {
  port = c.in_ok-port.ensures;
  unix = c.in_ok-unix.ensures ∙ c.get_str.ensures ∙ first_value-rows (found_of c.args.matches.now) (codes "unix");
}
