-- The items and members so far are those that were gone over.
use Rattle.std.proofs.Common.{◌≡◌, List, ◌++◌, take, map}
use Rattle.serde_json.specs.Data.{no_members}
use Rattle.serde_json.specs.View.{view, members_view}
use Rattle.serde_json.proofs.Views.{Entry}
use Rattle.mi_tokens.specs.Meaning.{meaning, members_meaning}
use Rattle.mi_request.proofs.lending.+lend.Given as goal

abbrev pub invariant-lend_items-items : goal.invariant-lend_items-items
invariant-lend_items-items l = map meaning l.lent.items ≡ map view (take l.item-index l.item-items)

abbrev pub invariant-lend_members-members : goal.invariant-lend_members-members
invariant-lend_members-members l =
    (done : List Entry) × (l.members.entries ≡ done ++ l.name-iterator) × (members_meaning l.lent.items no_members ≡ members_view done)
