-- Look-ups tell the answers of their commands, case by case: the table, the index and its kind, the key.
-- Cited by `laws::look_ups_answer`.
use Rattle.std.proofs.Common.{◌≡◌, ℕ, Bool, true, false, cond, nat_lt, List, length, Option, Some, None, Result, Ok, Err, refl}
use Rattle.std.specs.Option.{ok_or}
use Rattle.mi_value.specs.declared.bound.Lower.{Lower}
use Rattle.mi_value.specs.declared.bound.Upper.{Upper}
use Rattle.mi_value.specs.declared.value.Value.{Value}
use Rattle.mi_value.specs.declared.refusal.Refusal.{Refusal}
use Rattle.mi_value.specs.declared.refusal.Refusal.TheVariants.{NoTable, Index, Kind, Key, NoId}
use Rattle.mi_catalog.specs.declared.index.IndexKind.{IndexKind}
use Rattle.mi_catalog.specs.Kinds.{has_keys, is_sorted, is_sequenced, is_ranked, is_hashed}
use Rattle.mi_catalog.specs.Shape.{Shape, CatalogShape, schema_at, index_at}
use Rattle.mi_model.specs.Table.{Table, get, has, size}
use Rattle.mi_model.specs.LookUp as look
use Rattle.mi_model.specs.Page as page
use Rattle.mi_model.specs.Verdict.{has_place}
use Rattle.mi_model.specs.Database.{table_of, schema_of}
use Rattle.mi_protocol.specs.Binding.{and_then, of_kind}
use Rattle.mi_protocol.specs.Replies as say
use Rattle.mi_protocol.specs.declared.command.Command.TheVariants as command
use Rattle.mi_protocol.specs.declared.look_ups.KeyLookUp.{KeyLookUp}
use Rattle.mi_protocol.specs.declared.look_ups.KeyLookUp.TheVariants as key_look_up
use Rattle.mi_protocol.specs.declared.look_ups.NumberLookUp.{NumberLookUp}
use Rattle.mi_protocol.specs.declared.look_ups.NumberLookUp.TheVariants as number_look_up
use Rattle.mi_commands.specs.Answer.{command_answer}
use Rattle.mi_commands.specs.Holder.{HeldDatabase}
use Rattle.mi_commands.specs.Performed as performed
use Rattle.mi_commands.specs.Performed.{show_found}
use Rattle.mi_embed.specs.declared.cell.Cell.{Cell}
use Rattle.mi_embed.specs.Asked.{table_in, index_in, key_in, lower_in, upper_in, asked_index}
use Rattle.mi_embed.specs.Calls.{key_of, ends_in, of_table, over}
use Rattle.mi_embed.specs.LookUps.{rank_in, found, row_of}
use Rattle.mi_embed.specs.Looked.{SaysRow, SaysFound, SaysPage, LookUpsAnswer}
use Rattle.mi_embed.specs.Pages as pages
use Rattle.mi_embed.specs.CallResults.{number_told, told_of}

-- a table that is there, or none
table_cases : (P : Result ℕ Refusal → Type 0) (c : CatalogShape) (n : ℕ) → ((e : Refusal) → P (Err e)) → P (Ok n) → P (table_in c n)
table_cases P c n refused there = by (nat_lt n (length c.tables))
  where
    by : (b : Bool) → P (cond b (Ok n) (Err NoTable))
    by true = there
    by false = refused NoTable

-- an index that is there and of a kind, or none
index_cases : (P : Result ℕ Refusal → Type 0) (kinds : IndexKind → Bool) (s : Shape) (x : ℕ) → ((e : Refusal) → P (Err e)) → P (Ok x) → P (index_in kinds s x)
index_cases P kinds s x refused there = by (nat_lt x (length s.indexes))
  where
    of : (b : Bool) → P (cond b (Ok x) (Err Kind))
    of true = there
    of false = refused Kind

    by : (b : Bool) → P (and_then (of_kind kinds s) (cond b (Ok x) (Err Index)))
    by true = of (kinds (index_at s x).kind)
    by false = refused Index

-- a value, or none
value_cases : {V : Type 0} (P : Result V Refusal → Type 0) (o : Option V) → P (Err Key) → ((v : V) → P (Ok v)) → P (ok_or o Key)
value_cases P None refused there = refused
value_cases P (Some v) refused there = there v

module _ (s : HeldDatabase) (conn n : ℕ) where
  abbrev c : CatalogShape
  c = s.database.catalog

  abbrev t : Table
  t = table_of s.database n

  abbrev shape : Shape
  shape = schema_of s.database n

  -- what a look-up by numbers over a schema is answered
  abbrev number_answered : (Shape → Result NumberLookUp Refusal) → say.Said
  number_answered bound = (command_answer s conn (over command.NumberLookUp bound c n)).0

  abbrev number_answered_here : Result NumberLookUp Refusal → say.Said
  number_answered_here bound = (command_answer s conn (of_table command.NumberLookUp n bound)).0

  -- and one by keys
  abbrev answered : (Shape → Result KeyLookUp Refusal) → say.Said
  answered bound = (command_answer s conn (over command.KeyLookUp bound c n)).0

  abbrev answered_here : Result KeyLookUp Refusal → say.Said
  answered_here bound = (command_answer s conn (of_table command.KeyLookUp n bound)).0

  -- what is answered by an index, and what its command says
  by_index : {A : Type 0} (Says : Result A Refusal → say.Said → Type 0) (kinds : IndexKind → Bool) (x : ℕ) (answer : ℕ → Result A Refusal)
      (asks : ℕ → Result NumberLookUp Refusal) → ((e : Refusal) → Says (Err e) (say.refused 0 e)) → Says (answer x) (number_answered_here (asks x))
      → Says (and_then answer (asked_index kinds s n x)) (number_answered (λ sh. and_then asks (index_in kinds sh x)))
  by_index Says kinds x answer asks refused there =
      table_cases (λ r. Says (and_then answer (and_then (λ m. index_in kinds (schema_at c m) x) r))
      (command_answer s conn (and_then (λ m. of_table command.NumberLookUp m (and_then asks (index_in kinds (schema_at c m) x))) r)).0) c n refused
      (index_cases (λ r. Says (and_then answer r) (number_answered_here (and_then asks r))) kinds shape x refused there)

  -- the same, where a key of the index is judged too
  by_key : {A : Type 0} (Says : Result A Refusal → say.Said → Type 0) (kinds whole : IndexKind → Bool) (x : ℕ) (cells : List Cell) (bytes : List ℕ)
      (answer : List Value → Result A Refusal) (asks : ℕ × List Value → Result KeyLookUp Refusal) → ((e : Refusal) → Says (Err e) (say.refused 0 e))
      → ((key : List Value) → Says (answer key) (answered_here (asks (x, key))))
      → Says (and_then answer (and_then (λ i. ok_or (key_in shape i (whole (index_at shape i).kind) bytes cells) Key) (asked_index kinds s n x)))
      (answered (λ sh. and_then asks (key_of kinds whole sh x cells bytes)))
  by_key Says kinds whole x cells bytes answer asks refused there =
      table_cases (λ r. Says (and_then answer (and_then (λ i. ok_or (key_in shape i (whole (index_at shape i).kind) bytes cells) Key)
      (and_then (λ m. index_in kinds (schema_at c m) x) r)))
      (command_answer s conn (and_then (λ m. of_table command.KeyLookUp m (and_then asks (key_of kinds whole (schema_at c m) x cells bytes))) r)).0) c n refused
      (index_cases (λ r. Says (and_then answer (and_then (λ i. ok_or (key_in shape i (whole (index_at shape i).kind) bytes cells) Key) r))
      (answered_here (and_then asks (and_then (λ i. and_then (λ values. Ok (i, values))
      (ok_or (key_in shape i (whole (index_at shape i).kind) bytes cells) Key)) r)))) kinds shape x refused
      (value_cases (λ r. Says (and_then answer r) (answered_here (and_then asks (and_then (λ values. Ok (x, values)) r))))
      (key_in shape x (whole (index_at shape x).kind) bytes cells) (refused Key) there))

  abbrev SaysNumber : Result ℕ Refusal → say.Said → Type 0
  SaysNumber r said = number_told r ≡ told_of said

  found_row : (id : ℕ) (row : Option (List Value)) → SaysFound (row_of id row) (performed.found n id row)
  found_row id None = (n, refl)
  found_row id (Some row) = (n, refl)

  found_id : (id : Option ℕ) → SaysFound (found t id) (show_found n t id)
  found_id None = (n, refl)
  found_id (Some id) = found_row id (get t id)

  ranked : (b : Bool) (rank : ℕ) → SaysNumber (cond b (Ok rank) (Err NoId)) (cond b (say.ranked rank) (say.refused n NoId))
  ranked true rank = refl
  ranked false rank = refl

  got_row : (id : ℕ) (row : Option (List Value)) → SaysRow id (ok_or row NoId) (performed.found n id row)
  got_row id None = (n, refl)
  got_row id (Some row) = (n, refl)

  got_of : (id : ℕ) (b : Bool) → SaysRow id (cond b (ok_or (get t id) NoId) (Err NoTable))
      (command_answer s conn (and_then (λ m. of_table command.NumberLookUp m (Ok (number_look_up.Get id))) (cond b (Ok n) (Err NoTable)))).0
  got_of id true = got_row id (get t id)
  got_of id false = (0, refl)

  sized : (b : Bool) → SaysNumber (and_then (λ _. Ok (size t)) (cond b (Ok n) (Err NoTable)))
      (command_answer s conn (and_then (λ m. of_table command.NumberLookUp m (Ok number_look_up.Size)) (cond b (Ok n) (Err NoTable)))).0
  sized true = refl
  sized false = refl

  listed : (b : Bool) (p : page.Page) → SaysPage (cond b (Ok (pages.rows_of t p)) (Err NoId))
      (cond b (performed.show_page n t p) (say.refused n NoId))
  listed true p = (n, refl)
  listed false p = (n, refl)

  -- the bounds of a range
  by_ends : (x : ℕ) (reverse : Bool) (limit : ℕ) (low : Option Lower) (high : Option Upper)
      → SaysPage (and_then (λ e. Ok (pages.rows_of t (page.range shape t x e.0 e.1 reverse limit))) (ends_in low high))
      (answered_here (and_then (λ e. Ok (key_look_up.Range x e.0 e.1 reverse limit)) (ends_in low high)))
  by_ends x reverse limit None high = (0, refl)
  by_ends x reverse limit (Some low) None = (0, refl)
  by_ends x reverse limit (Some low) (Some high) = (n, refl)

  ranged : (x lower : ℕ) (lower_key : List Cell) (upper : ℕ) (upper_key : List Cell) (bytes : List ℕ) (reverse : Bool) (limit : ℕ)
      → SaysPage (pages.range_by s n x lower lower_key upper upper_key bytes reverse limit)
      (answered (λ sh. and_then (λ i. and_then (λ e. Ok (key_look_up.Range i e.0 e.1 reverse limit))
      (ends_in (lower_in sh i lower bytes lower_key) (upper_in sh i upper bytes upper_key))) (index_in is_sorted sh x)))
  ranged x lower lower_key upper upper_key bytes reverse limit =
      table_cases (λ r. SaysPage (and_then (λ e. Ok (pages.rows_of t (page.range shape t x e.0 e.1 reverse limit)))
      (and_then (λ i. ends_in (lower_in shape i lower bytes lower_key) (upper_in shape i upper bytes upper_key)) (and_then (λ m. index_in is_sorted (schema_at c m) x) r)))
      (command_answer s conn (and_then (λ m. of_table command.KeyLookUp m (and_then (λ i. and_then (λ e. Ok (key_look_up.Range i e.0 e.1 reverse limit))
      (ends_in (lower_in (schema_at c m) i lower bytes lower_key) (upper_in (schema_at c m) i upper bytes upper_key)))
      (index_in is_sorted (schema_at c m) x))) r)).0) c n (λ e. (0, refl))
      (index_cases (λ r. SaysPage (and_then (λ e. Ok (pages.rows_of t (page.range shape t x e.0 e.1 reverse limit)))
      (and_then (λ i. ends_in (lower_in shape i lower bytes lower_key) (upper_in shape i upper bytes upper_key)) r))
      (answered_here (and_then (λ i. and_then (λ e. Ok (key_look_up.Range i e.0 e.1 reverse limit))
      (ends_in (lower_in shape i lower bytes lower_key) (upper_in shape i upper bytes upper_key))) r))) is_sorted shape x (λ e. (0, refl))
      (by_ends x reverse limit (lower_in shape x lower bytes lower_key) (upper_in shape x upper bytes upper_key)))

pub look_ups_answer : LookUpsAnswer
look_ups_answer = record {
  size = λ s conn n. sized s conn n (nat_lt n (length s.database.catalog.tables));
  count = λ s conn n x key texts. by_key s conn n (SaysNumber s conn n) has_keys is_hashed x key texts
      (λ k. Ok (look.count (schema_of s.database n) (table_of s.database n) x k)) (λ k. Ok (key_look_up.Count k.0 k.1)) (λ e. refl) (λ k. refl);
  rank = λ s conn n x id. by_index s conn n (SaysNumber s conn n) is_ranked x (λ _. rank_in s n x id) (λ i. Ok (number_look_up.Rank i id)) (λ e. refl)
      (ranked s conn n (has (table_of s.database n) id) (look.rank (schema_of s.database n) (table_of s.database n) x id));
  lower_rank = λ s conn n x key texts. by_key s conn n (SaysNumber s conn n) is_ranked (λ _. false) x key texts
      (λ k. Ok (look.lower_rank (schema_of s.database n) (table_of s.database n) x k)) (λ k. Ok (key_look_up.LowerRank k.0 k.1)) (λ e. refl) (λ k. refl);
  upper_rank = λ s conn n x key texts. by_key s conn n (SaysNumber s conn n) is_ranked (λ _. false) x key texts
      (λ k. Ok (look.upper_rank (schema_of s.database n) (table_of s.database n) x k)) (λ k. Ok (key_look_up.UpperRank k.0 k.1)) (λ e. refl) (λ k. refl);
  get = λ s conn n id. got_of s conn n id (nat_lt n (length s.database.catalog.tables));
  find = λ s conn n x key texts. by_key s conn n SaysFound has_keys is_hashed x key texts
      (λ k. found (table_of s.database n) (look.find (schema_of s.database n) (table_of s.database n) x k)) (λ k. Ok (key_look_up.Find k.0 k.1))
      (λ e. (0, refl)) (λ k. found_id s conn n (look.find (schema_of s.database n) (table_of s.database n) x k));
  nth = λ s conn n x place. by_index s conn n SaysFound is_ranked x
      (λ _. found (table_of s.database n) (look.nth (schema_of s.database n) (table_of s.database n) x place)) (λ i. Ok (number_look_up.Nth i place))
      (λ e. (0, refl)) (found_id s conn n (look.nth (schema_of s.database n) (table_of s.database n) x place));
  range = λ s conn n x lower lower_key upper upper_key texts reverse limit. ranged s conn n x lower lower_key upper upper_key texts reverse limit;
  list = λ s conn n x after limit. by_index s conn n SaysPage is_sequenced x (λ _. pages.list_in s n x after limit) (λ i. Ok (number_look_up.List i after limit))
      (λ e. (0, refl)) (listed s conn n (has_place (table_of s.database n) after) (page.list (schema_of s.database n) (table_of s.database n) x after limit));
}
