use Rattle.std.proofs.Common.{◌≡◌, ◌++◌, drop}
use Rattle.json.specs.Tree.{members_tokens}
use Rattle.serde_json.specs.Written.{members_outline}
use Rattle.mi_rows.specs.Shown.{shown_members}
use Rattle.mi_rows.proofs.shown.write_ordered.Given as goal

-- the members so far are written: with those to come they are all
abbrev pub invariant-members : goal.invariant-members
invariant-members l =
    (l.writer.tokens ++ members_tokens (members_outline (shown_members l.id l.row (drop l.member-index l.order)))
    ≡ l.initial.writer.tokens ++ members_tokens (members_outline (shown_members l.id l.row l.order)))
    × (l.writer.before ≡ l.initial.writer.before)
