-- What replies that are held are.
use Rattle.std.specs.Prelude.{ℕ, List}
use Rattle.mi_durable.specs.declared.replies.HeldReplies.{HeldReplies}

abbrev pub bytes_of : HeldReplies → List ℕ
bytes_of r = r.bytes.items
