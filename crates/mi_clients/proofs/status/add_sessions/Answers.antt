-- Its parts stand one behind another.
use Rattle.std.proofs.Common.{◌∙◌, ◌++◌, ap, codes, decimal}
use Rattle.std.specs.String.{string_bytes}
use Rattle.std.proofs.lemmas.Result.{on_ok_weaker}
use Rattle.mi_model.specs.Database.{depth}
use Rattle.mi_clients.specs.Status.{number_or_null, journal_text}
use Rattle.mi_clients.proofs.TellLemmas.{six_joined}
use Rattle.mi_clients.proofs.status.add_sessions.Goals as goal

pub returns : goal.returns
returns g c =
    on_ok_weaker c.add_journal.result (λ added.
    six_joined (string_bytes c.args.text.now) (codes "],\"depth\":") (decimal (depth (g.D.Sessions.state c.args.database.now))) (codes ",\"holder\":")
    (number_or_null c.args.holder) (codes ",\"journal\":") (journal_text c.args.journal) (string_bytes c.push_str.new.self) (string_bytes c.add_number.new.text)
    (string_bytes c.push_str-2.new.self) (string_bytes c.add_optional.new.text) (string_bytes c.push_str-3.new.self) (string_bytes c.add_journal.new.text)
    c.in_ok-push_str.ensures.bytes (c.in_ok-add_number.ensures ∙ ap (λ n. string_bytes c.push_str.new.self ++ decimal n) c.depth.ensures) c.in_ok-push_str-2.ensures.bytes c.in_ok-add_optional.ensures c.in_ok-push_str-3.ensures.bytes added)
    c.add_journal.ensures
