-- The rows are those behind the record that is given.
use Rattle.weltiyo.proofs.pages.listed.Goals as goal

pub returns-clause-told : goal.returns-clause-told
returns-clause-told c = rw c.optional_id.ensures at c.list.ensures
