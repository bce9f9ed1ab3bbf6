-- Its parts stand one behind another.
use Rattle.std.proofs.Common.{codes, decimal}
use Rattle.std.specs.String.{string_bytes}
use Rattle.std.proofs.lemmas.Result.{on_ok_weaker}
use Rattle.mi_clients.proofs.TellLemmas.{three_joined, on_ok_of}
use Rattle.mi_clients.proofs.status.add_end.Goals as goal

pub returns : goal.returns
returns c =
    on_ok_weaker c.push_str-2.result (λ added.
    three_joined (string_bytes c.args.text.now) (codes "],\"uptime\":") (decimal c.args.seconds) (codes ",\"version\":\"0.1.0\"}\n")
    (string_bytes c.push_str.new.self) (string_bytes c.add_number.new.text) (string_bytes c.push_str-2.new.self)
    c.in_ok-push_str.ensures.bytes c.in_ok-add_number.ensures added)
    (on_ok_of c.push_str-2.result _ _ _ c.push_str-2.ensures.bytes)
