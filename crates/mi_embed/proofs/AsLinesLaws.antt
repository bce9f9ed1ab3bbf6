-- What a line and a call ask is bound alike, part by part.
-- Cited by `laws::calls_answer_as_lines`.
use Rattle.std.proofs.Common.{◌≡◌, ℕ, Bool, true, false, ◌&&◌, not, cond, nat_lt, List, length, Option, Some, None, Result, Ok, Err, refl, ap, ap₂, ◌∙◌}
use Rattle.std.specs.Option.{ok_or}
use Rattle.mi_value.specs.declared.value.Value.{Value}
use Rattle.mi_value.specs.declared.refusal.Refusal.{Refusal}
use Rattle.mi_value.specs.declared.refusal.Refusal.TheVariants.{NoTable, Index, Kind, Busy, Row, Key}
use Rattle.mi_catalog.specs.declared.index.IndexKind.{IndexKind}
use Rattle.mi_catalog.specs.Kinds.{has_keys, is_sorted, is_sequenced, is_ranked}
use Rattle.mi_catalog.specs.Shape.{Shape, CatalogShape, schema_at, index_at}
use Rattle.mi_request.specs.Commands.{keeps_out}
use Rattle.mi_request.specs.declared.request.ChangeRequest.TheVariants as change_request
use Rattle.mi_request.specs.declared.request.KeyLookUpRequest.TheVariants as key_request
use Rattle.mi_request.specs.declared.request.NumberLookUpRequest.TheVariants as number_request
use Rattle.mi_request.specs.declared.request.Request.{Request}
use Rattle.mi_request.specs.declared.request.Request.TheVariants as request
use Rattle.mi_protocol.specs.Binding.{and_then, of_kind, table_number, index_number, bound_command}
use Rattle.mi_request.specs.declared.request.SessionCommand.TheVariants as session
use Rattle.mi_protocol.specs.declared.changes.Change.TheVariants as change
use Rattle.mi_protocol.specs.declared.command.Command.{Command}
use Rattle.mi_protocol.specs.declared.command.Command.TheVariants as command
use Rattle.mi_protocol.specs.declared.look_ups.KeyLookUp.TheVariants as key_look_up
use Rattle.mi_protocol.specs.declared.look_ups.NumberLookUp.TheVariants as number_look_up
use Rattle.mi_commands.specs.Answer.{command_answer, command_of}
use Rattle.mi_commands.specs.Holder.{is_busy}
use Rattle.mi_embed.specs.Asked.{table_in, index_in, lower_in, upper_in}
use Rattle.mi_embed.specs.AsLines.{IsTable, IsIndex, AsksAs, CallsAnswerAsLines}
use Rattle.mi_embed.specs.EditCells.{edits_for}
use Rattle.mi_embed.specs.Calls as call
use Rattle.mi_embed.specs.Calls.{Call, insert_in, addition_in, modify_in, ends_in, of_table, command_in, looks}

-- what follows from a value that may be refused is the same where it is the same of the value
same_if : {A B : Type 0} (b : Bool) (v : A) (e : Refusal) (f g : A → Result B Refusal) → f v ≡ g v → and_then f (cond b (Ok v) (Err e)) ≡ and_then g (cond b (Ok v) (Err e))
same_if true v e f g h = h
same_if false v e f g h = refl

by_table : {B : Type 0} (c : CatalogShape) (name : Option (List ℕ)) (n : ℕ) (f g : ℕ → Result B Refusal) → IsTable c name n → f n ≡ g n
    → and_then f (table_number c name) ≡ and_then g (table_in c n)
by_table c name n f g is h = ap (and_then f) is ∙ same_if (nat_lt n (length c.tables)) n NoTable f g h

same_kind : {B : Type 0} (kinds : IndexKind → Bool) (s : Shape) (b : Bool) (x : ℕ) (f g : ℕ → Result B Refusal) → f x ≡ g x
    → and_then f (and_then (of_kind kinds s) (cond b (Ok x) (Err Index))) ≡ and_then g (and_then (of_kind kinds s) (cond b (Ok x) (Err Index)))
same_kind kinds s true x f g h = same_if (kinds (index_at s x).kind) x Kind f g h
same_kind kinds s false x f g h = refl

by_index : {B : Type 0} (kinds : IndexKind → Bool) (c : CatalogShape) (n : ℕ) (name : List ℕ) (x : ℕ) (f g : ℕ → Result B Refusal) → IsIndex c n name x
    → f x ≡ g x → and_then f (index_number kinds (schema_at c n) name) ≡ and_then g (index_in kinds (schema_at c n) x)
by_index kinds c n name x f g is h =
    ap (λ r. and_then f (and_then (of_kind kinds (schema_at c n)) r)) is ∙ same_kind kinds (schema_at c n) (nat_lt x (length (schema_at c n).indexes)) x f g h

-- a key of an index
abbrev found_key : ℕ → Option (List Value) → Result (ℕ × List Value) Refusal
found_key x key = and_then (λ values. Ok (x, values)) (ok_or key Key)

module _ (c : CatalogShape) where
  bound_as : (r : Request) (k : Call) → AsksAs c r k → bound_command c r ≡ command_in c k
  bound_as (request.Change table (change_request.Insert row None)) (call.insert n cells bytes) h =
      by_table c table n _ _ h.0 (ap (of_table command.Change n) (ap (λ o. insert_in o (Ok None)) h.1))
  bound_as (request.Change table (change_request.Insert row (Some p))) (call.insert_before n cells bytes x before) h =
      by_table c table n _ _ h.0 (ap (of_table command.Change n) (ap₂ (λ o at. insert_in o at) h.3
      (by_index is_sequenced c n p.index x (λ i. Ok (Some (i, p.id))) (λ i. Ok (Some (i, before))) h.1 (ap (λ e. Ok (Some (x, e))) h.2))))
  bound_as (request.Change table (change_request.Replace id row)) (call.replace n e cells bytes) h =
      by_table c table n _ _ h.0 (ap (of_table command.Change n) (ap₂ (λ i o. and_then (λ values. Ok (change.Replace i values)) (ok_or o Row)) h.1 h.2))
  bound_as (request.Change table (change_request.Modify id set add rollback)) (call.modify n e cells bytes rolls) h =
      by_table c table n _ _ h.0 (ap (of_table command.Change n) (ap (λ o. modify_in id o rollback) h.3
      ∙ ap₂ (λ i b. modify_in i (edits_for (schema_at c n).columns bytes cells) b) h.1 h.2))
  bound_as (request.Change table (change_request.Modify id set add rollback)) (call.modify_add n e x k rolls) h =
      by_table c table n _ _ h.0 (ap (of_table command.Change n) (ap (λ o. modify_in id o rollback) h.3
      ∙ ap₂ (λ i b. modify_in i (addition_in (schema_at c n).columns x k) b) h.1 h.2))
  bound_as (request.Change table (change_request.Erase id)) (call.erase n e) h =
      by_table c table n _ _ h.0 (ap (of_table command.Change n) (ap (λ i. Ok (change.Erase i)) h.1))
  bound_as (request.Change table (change_request.EraseKey index key)) (call.erase_key n x cells bytes) h =
      by_table c table n _ _ h.0 (ap (of_table command.Change n) (ap (and_then (λ k. Ok (change.EraseKey k.0 k.1)))
      (by_index has_keys c n index x _ _ h.1 (ap (found_key x) h.2))))
  bound_as (request.Change table (change_request.Relocate index id before)) (call.relocate n x e place) h =
      by_table c table n _ _ h.0
      (ap (of_table command.Change n) (by_index is_sequenced c n index x _ _ h.1 (ap₂ (λ i b. Ok (change.Relocate x i b)) h.2 h.3)))
  bound_as (request.Session session.Start) call.start h = refl
  bound_as (request.Session session.Undo) call.undo h = refl
  bound_as (request.Session session.Squash) call.squash h = refl
  bound_as (request.Session (session.Commit revision)) (call.commit number) h = ap (λ n. Ok (command.Session (session.Commit n))) h
  bound_as (request.Session session.UndoAll) call.undo_all h = refl
  bound_as (request.Session session.Push) call.push h = refl
  bound_as (request.NumberLookUp table (number_request.Get id)) (call.get n e) h =
      by_table c table n _ _ h.0 (ap (of_table command.NumberLookUp n) (ap (λ i. Ok (number_look_up.Get i)) h.1))
  bound_as (request.KeyLookUp table (key_request.Find index key)) (call.find n x cells bytes) h =
      by_table c table n _ _ h.0 (ap (of_table command.KeyLookUp n) (ap (and_then (λ k. Ok (key_look_up.Find k.0 k.1))) (by_index has_keys c n index x _ _ h.1 (ap (found_key x) h.2))))
  bound_as (request.NumberLookUp table (number_request.Nth index place)) (call.nth n x at) h =
      by_table c table n _ _ h.0 (ap (of_table command.NumberLookUp n) (by_index is_ranked c n index x _ _ h.1 (ap (λ i. Ok (number_look_up.Nth x i)) h.2)))
  bound_as (request.KeyLookUp table (key_request.Count index key)) (call.count n x cells bytes) h =
      by_table c table n _ _ h.0 (ap (of_table command.KeyLookUp n) (ap (and_then (λ k. Ok (key_look_up.Count k.0 k.1))) (by_index has_keys c n index x _ _ h.1 (ap (found_key x) h.2))))
  bound_as (request.KeyLookUp table (key_request.Range index low high reverse limit)) (call.range n x lower lower_key upper upper_key bytes backward most) h =
      let s = schema_at c n in
      by_table c table n _ _ h.0 (ap (of_table command.KeyLookUp n) (by_index is_sorted c n index x _ _ h.1
      (ap₂ (λ l u. and_then (λ e. Ok (key_look_up.Range x e.0 e.1 reverse limit)) (ends_in l u)) h.2 h.3
      ∙ ap₂ (λ b m. and_then (λ e. Ok (key_look_up.Range x e.0 e.1 b m)) (ends_in (lower_in s x lower bytes lower_key) (upper_in s x upper bytes upper_key))) h.4 h.5)))
  bound_as (request.NumberLookUp table (number_request.List index after limit)) (call.list n x behind most) h =
      by_table c table n _ _ h.0 (ap (of_table command.NumberLookUp n) (by_index is_sequenced c n index x _ _ h.1 (ap₂ (λ a m. Ok (number_look_up.List x a m)) h.2 h.3)))
  bound_as (request.NumberLookUp table (number_request.Rank index id)) (call.rank n x e) h =
      by_table c table n _ _ h.0 (ap (of_table command.NumberLookUp n) (by_index is_ranked c n index x _ _ h.1 (ap (λ i. Ok (number_look_up.Rank x i)) h.2)))
  bound_as (request.KeyLookUp table (key_request.LowerRank index key)) (call.lower_rank n x cells bytes) h =
      by_table c table n _ _ h.0
      (ap (of_table command.KeyLookUp n) (ap (and_then (λ k. Ok (key_look_up.LowerRank k.0 k.1))) (by_index is_ranked c n index x _ _ h.1 (ap (found_key x) h.2))))
  bound_as (request.KeyLookUp table (key_request.UpperRank index key)) (call.upper_rank n x cells bytes) h =
      by_table c table n _ _ h.0
      (ap (of_table command.KeyLookUp n) (ap (and_then (λ k. Ok (key_look_up.UpperRank k.0 k.1))) (by_index is_ranked c n index x _ _ h.1 (ap (found_key x) h.2))))
  bound_as (request.NumberLookUp table number_request.Size) (call.size n) h = by_table c table n _ _ h refl
  bound_as r k h = absurd h

  -- both are kept out, or neither
  kept_as : (r : Request) (k : Call) → AsksAs c r k → keeps_out r ≡ not (looks k)
  kept_as (request.Change table (change_request.Insert row None)) (call.insert n cells bytes) h = refl
  kept_as (request.Change table (change_request.Insert row (Some p))) (call.insert_before n cells bytes x before) h = refl
  kept_as (request.Change table (change_request.Replace id row)) (call.replace n e cells bytes) h = refl
  kept_as (request.Change table (change_request.Modify id set add rollback)) (call.modify n e cells bytes rolls) h = refl
  kept_as (request.Change table (change_request.Modify id set add rollback)) (call.modify_add n e x k rolls) h = refl
  kept_as (request.Change table (change_request.Erase id)) (call.erase n e) h = refl
  kept_as (request.Change table (change_request.EraseKey index key)) (call.erase_key n x cells bytes) h = refl
  kept_as (request.Change table (change_request.Relocate index id before)) (call.relocate n x e place) h = refl
  kept_as (request.Session session.Start) call.start h = refl
  kept_as (request.Session session.Undo) call.undo h = refl
  kept_as (request.Session session.Squash) call.squash h = refl
  kept_as (request.Session (session.Commit revision)) (call.commit number) h = refl
  kept_as (request.Session session.UndoAll) call.undo_all h = refl
  kept_as (request.Session session.Push) call.push h = refl
  kept_as (request.NumberLookUp table (number_request.Get id)) (call.get n e) h = refl
  kept_as (request.KeyLookUp table (key_request.Find index key)) (call.find n x cells bytes) h = refl
  kept_as (request.NumberLookUp table (number_request.Nth index place)) (call.nth n x at) h = refl
  kept_as (request.KeyLookUp table (key_request.Count index key)) (call.count n x cells bytes) h = refl
  kept_as (request.KeyLookUp table (key_request.Range index low high reverse limit)) (call.range n x lower lower_key upper upper_key bytes backward most) h = refl
  kept_as (request.NumberLookUp table (number_request.List index after limit)) (call.list n x behind most) h = refl
  kept_as (request.NumberLookUp table (number_request.Rank index id)) (call.rank n x e) h = refl
  kept_as (request.KeyLookUp table (key_request.LowerRank index key)) (call.lower_rank n x cells bytes) h = refl
  kept_as (request.KeyLookUp table (key_request.UpperRank index key)) (call.upper_rank n x cells bytes) h = refl
  kept_as (request.NumberLookUp table number_request.Size) (call.size n) h = refl
  kept_as r k h = absurd h

-- the command of the one where it isn't kept out is that of the other
unless_kept : (out look busy : Bool) (line it : Result Command Refusal) → out ≡ not look → line ≡ it
    → cond (out && busy) (Err Busy) line ≡ cond look it (cond busy (Err Busy) it)
unless_kept out true busy line it kept same = ap (λ o. cond (o && busy) (Err Busy) line) kept ∙ same
unless_kept out false busy line it kept same =
    ap (λ o. cond (o && busy) (Err Busy) line) kept ∙ ap (λ q. cond busy (Err Busy) q) same

pub calls_answer_as_lines : CallsAnswerAsLines
calls_answer_as_lines s conn line r k is asks =
    ap (λ q. command_answer s conn (command_of s conn q)) is
    ∙ ap (λ q. command_answer s conn q) (unless_kept (keeps_out r) (looks k) (is_busy s.holder conn) (bound_command s.database.catalog r)
    (command_in s.database.catalog k) (kept_as s.database.catalog r k asks) (bound_as s.database.catalog r k asks))
