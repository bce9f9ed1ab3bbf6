-- Its parts stand one behind another.
use Rattle.std.proofs.Common.{◌∙◌, ◌++◌, ap, codes}
use Rattle.std.specs.String.{string_bytes}
use Rattle.std.proofs.lemmas.Result.{on_ok_weaker}
use Rattle.mi_clients.specs.Status.{sessions_text, listed, table_text, end_text}
use Rattle.mi_clients.proofs.TellLemmas.{four_joined}
use Rattle.mi_clients.proofs.status.add_database.Goals as goal

pub returns : goal.returns
returns g c =
    let f = c.args.figures.now in
    let d = g.D.Sessions.state c.args.database.now in
    on_ok_weaker c.add_end.result (λ added.
    four_joined (string_bytes c.args.text.now) (sessions_text c.args.holder f.journal d) (codes ",\"ok\":true,\"tables\":[")
    (listed (table_text d f.memories.items) 0 d.catalog.tables) (end_text f.seconds) (string_bytes c.add_sessions.new.text)
    (string_bytes c.push_str.new.self) (string_bytes c.add_tables.new.text) (string_bytes c.add_end.new.text)
    c.in_ok-add_sessions.ensures c.in_ok-push_str.ensures.bytes
    (c.in_ok-add_tables.ensures ∙ ap (λ ms. string_bytes c.push_str.new.self ++ listed (table_text d ms) 0 d.catalog.tables) c.as_slice.ensures.value)
    added) c.add_end.ensures
