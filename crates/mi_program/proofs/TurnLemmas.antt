-- Clients by turns: which connections stay, and how turns come one behind another.
-- Cited by `listener::accept_all`, `listener::client_turn`, `listener::cut_all`, `listener::next_turn`, `listener::serve_all` and 3 more.
use Rattle.std.proofs.Common.{◌≡◌, ◌⊎◌, ℕ, zero, suc, ◌+◌, ◌<◌, ◌≤◌, List, [], ◌∷◌, ◌++◌, length, map, Bool, true, false, cond, nat_eq}
use Rattle.std.proofs.Common.{Option, Some, None, IsSome, is_some, Result, Ok, Err, refl, sym, ap, ◌∙◌, subst, arith, inl, inr, length-append}
use Rattle.std.specs.Prelude.{⊤, ◌||◌, OnOk, OnErr}
use Rattle.mi_hub.specs.Watching.{has_failed, Writes}
use Rattle.mi_hub.specs.declared.watched.Watched.{Watched}
use Rattle.mi_hub.specs.ConnectionTurn.{Gave}
use Rattle.mi_program.specs.Buffer.{contents_of, remaining_of}
use Rattle.mi_program.specs.declared.buffered.Buffered.{Buffered}
use Rattle.mi_hub.specs.IoNotes.{reads_fail, writes_fail, with_read, with_write}
use Rattle.mi_hub.specs.declared.io_errors.IoErrors.{IoErrors}
use Rattle.std.specs.Result.{result_and}
use Rattle.std.specs.List.{range_with_len}
use Rattle.std.proofs.lemmas.Bool.{eqb-true}
use Rattle.std.proofs.lemmas.List.{map-append, length-map}
use Rattle.mi_hub.specs.Lines.{Rest}
use Rattle.mi_hub.specs.Connections.{rest_at, with_rest, others}
use Rattle.mi_hub.specs.Run.{HubState, with_connection, cut, gone, Done}
use Rattle.mi_hub.specs.declared.connection.Connection.{Connection}
use Rattle.mi_hub.specs.declared.fault.HubFault.{HubFault}
use Rattle.mi_hub.specs.declared.fault.HubFault.TheVariants.{NotAttached}
use Rattle.mi_hub.specs.declared.fault.ServeFault.{ServeFault}
use Rattle.mi_hub.specs.declared.fault.ServeFault.TheVariants.{Read, Turns, Accept, Memory, Write as ServeWrite}
use Rattle.mi_hub.proofs.ConnectionLemmas.{some_with_rest}
use Rattle.mi_hub.proofs.PieceLemmas.{unsent_piece_gone, unsent_close_gone, same_err}
use Rattle.mi_hub.specs.ConnectionTurn.{ConnectionTurn, fed, ended, unread, unanswered, unended, unflushed, unflushed_end}
use Rattle.mi_hub.specs.ConnectionTurn.{conn_of, outcome, given_in, Made, TellsFlush}
use Rattle.mi_program.specs.Turns.{fresh, with_clients, TakesTurn, ByTurns, row_after, turn_fault, first_fault, with_turn}
use Rattle.mi_program.specs.Turns.{all_noted, client_ids, AllSound, AllAttached, IsNoneOf, AllDiffer, Serves}
use Rattle.mi_program.specs.declared.listener.Client.{Client}

-- ---- attached connections

test_of : (b : Bool) → (b ≡ true) ⊎ (b ≡ false)
test_of true = inl refl
test_of false = inr refl

other_test : (x y : ℕ) → x < y → nat_eq x y ≡ false
other_test x y h = grind arith

apart : (x k n : ℕ) → nat_eq x n ≡ false → nat_eq k n ≡ true → nat_eq k x ≡ false
apart x k n h e = grind arith

rest_at_here : (conn : ℕ) (c : Connection) (cs : List Connection) → nat_eq c.id conn ≡ true → rest_at conn (c ∷ cs) ≡ Some c.rest
rest_at_here conn c cs h = ap (λ b. cond b (Some c.rest) (rest_at conn cs)) h

rest_at_later : (conn : ℕ) (c : Connection) (cs : List Connection) → nat_eq c.id conn ≡ false → rest_at conn (c ∷ cs) ≡ rest_at conn cs
rest_at_later conn c cs h = ap (λ b. cond b (Some c.rest) (rest_at conn cs)) h

others_here : (conn : ℕ) (c : Connection) (cs : List Connection) → nat_eq c.id conn ≡ true → others conn (c ∷ cs) ≡ cs
others_here conn c cs h = ap (λ b. cond b cs (c ∷ others conn cs)) h

others_later : (conn : ℕ) (c : Connection) (cs : List Connection) → nat_eq c.id conn ≡ false → others conn (c ∷ cs) ≡ c ∷ others conn cs
others_later conn c cs h = ap (λ b. cond b cs (c ∷ others conn cs)) h

-- another one stays attached
rest_at_others : (k conn : ℕ) (cs : List Connection) → nat_eq conn k ≡ false → rest_at k (others conn cs) ≡ rest_at k cs
rest_at_others k conn [] h = refl
rest_at_others k conn (c ∷ cs) h = elim (test_of (nat_eq c.id conn)) [
  | inl is ↦ ap (rest_at k) (others_here conn c cs is) ∙ sym (rest_at_later k c cs (differs c.id conn k is h))
  | inr other ↦ ap (rest_at k) (others_later conn c cs other) ∙ ap (λ o. cond (nat_eq c.id k) (Some c.rest) o) (rest_at_others k conn cs h)
]
  where
    differs : (x y z : ℕ) → nat_eq x y ≡ true → nat_eq y z ≡ false → nat_eq x z ≡ false
    differs x y z e n = grind arith

-- one less is attached
length_others : (conn : ℕ) (cs : List Connection) → IsSome (rest_at conn cs) → length (others conn cs) + 1 ≡ length cs
length_others conn [] h = absurd (false_true h)
  where
    false_true : false ≡ true → ⊥
    false_true e = cc
length_others conn (c ∷ cs) h = elim (test_of (nat_eq c.id conn)) [
  | inl is ↦ let e : length cs + 1 ≡ suc (length cs) = omega arith in ap (λ xs. length xs + 1) (others_here conn c cs is) ∙ e
  | inr other ↦
      let less : length (others conn cs) + 1 ≡ length cs = length_others conn cs (sym (ap is_some (rest_at_later conn c cs other)) ∙ h) in
      let e : suc (length (others conn cs)) + 1 ≡ suc (length cs) = omega (arith, less) in
      ap (λ xs. length xs + 1) (others_later conn c cs other) ∙ e
]

length_with_rest : (conn : ℕ) (r : Rest) (cs : List Connection) → length (with_rest conn r cs) ≡ length cs
length_with_rest conn r [] = refl
length_with_rest conn r (c ∷ cs) = elim (test_of (nat_eq c.id conn)) [
  | inl is ↦ ap (λ b. length (cond b (record { id = c.id; rest = r } ∷ cs) (c ∷ with_rest conn r cs))) is
  | inr other ↦ ap (λ b. length (cond b (record { id = c.id; rest = r } ∷ cs) (c ∷ with_rest conn r cs))) other ∙ ap suc (length_with_rest conn r cs)
]

-- ---- rows

-- the same ones are attached
all_same : (row : List ℕ) (cs ds : List Connection) → ((k : ℕ) → is_some (rest_at k ds) ≡ is_some (rest_at k cs)) → AllAttached row cs → AllAttached row ds
all_same [] cs ds same h = tt
all_same (k ∷ row) cs ds same h = (same k ∙ h.0, all_same row cs ds same h.1)

all_but : (conn : ℕ) (row : List ℕ) (cs : List Connection) → IsNoneOf conn row → AllAttached row cs → AllAttached row (others conn cs)
all_but conn [] cs other h = tt
all_but conn (k ∷ row) cs other h = (ap is_some (rest_at_others k conn cs other.0) ∙ h.0, all_but conn row cs other.1 h.1)

all_last : (row : List ℕ) (conn : ℕ) (cs : List Connection) → AllAttached row cs → IsSome (rest_at conn cs) → AllAttached (row ++ conn ∷ []) cs
all_last [] conn cs h last = (last, tt)
all_last (k ∷ row) conn cs h last = (h.0, all_last row conn cs h.1 last)

turned : (x y : ℕ) → nat_eq x y ≡ false → nat_eq y x ≡ false
turned x y h = grind arith

none_last : (k : ℕ) (row : List ℕ) (conn : ℕ) → IsNoneOf k row → nat_eq k conn ≡ false → IsNoneOf k (row ++ conn ∷ [])
none_last k [] conn h last = (last, tt)
none_last k (x ∷ row) conn h last = (h.0, none_last k row conn h.1 last)

differ_last : (row : List ℕ) (conn : ℕ) → AllDiffer row → IsNoneOf conn row → AllDiffer (row ++ conn ∷ [])
differ_last [] conn h none = (tt, tt)
differ_last (x ∷ row) conn h none = (none_last x row conn h.0 (turned conn x none.0), differ_last row conn h.1 none.1)

none_range : (k a n : ℕ) → k < a → IsNoneOf k (range_with_len a n)
none_range k a zero h = tt
none_range k a (suc n) h = (other_test k a h, none_range k (a + 1) n (omega arith))

differ_range : (a n : ℕ) → AllDiffer (range_with_len a n)
differ_range a zero = tt
differ_range a (suc n) = (none_range a (a + 1) n (omega arith), differ_range (a + 1) n)

-- ---- who has come

-- a number above all that have come isn't attached
none_yet : (conn a n : ℕ) → a + n ≤ conn → rest_at conn (map fresh (range_with_len a n)) ≡ None
none_yet conn a zero h = refl
none_yet conn a (suc n) h =
    rest_at_later conn (fresh a) (map fresh (range_with_len (a + 1) n)) (other_test a conn (omega arith)) ∙ none_yet conn (a + 1) n (omega arith)

one_more : (a n j : ℕ) → a + n ≡ j → range_with_len a (suc n) ≡ range_with_len a n ++ j ∷ []
one_more a zero j h = let e : a ≡ j = omega arith in ap (λ x. x ∷ []) e
one_more a (suc n) j h = ap (λ xs. a ∷ xs) (one_more (a + 1) n j (omega arith))

one_longer : (n j : ℕ) → j ≡ n + 1 → range_with_len 1 (n + 1) ≡ range_with_len 1 n ++ j ∷ []
one_longer n j h = let next : n + 1 ≡ suc n = omega arith in ap (range_with_len 1) next ∙ one_more 1 n j (omega arith)

same_test : (x : ℕ) → nat_eq x x ≡ true
same_test x = grind arith

-- those that come before others stay attached
all_under : (row : List ℕ) (c : Connection) (cs : List Connection) → AllAttached row cs → AllAttached row (c ∷ cs)
all_under [] c cs h = tt
all_under (k ∷ row) c cs h = (either (nat_eq c.id k) (rest_at k cs) h.0, all_under row c cs h.1)
  where
    either : (b : Bool) (o : Option Rest) → IsSome o → IsSome (cond b (Some c.rest) o)
    either true o some = refl
    either false o some = some

all_fresh : (row : List ℕ) → AllAttached row (map fresh row)
all_fresh [] = tt
all_fresh (k ∷ row) = (ap is_some (rest_at_here k (fresh k) (map fresh row) (same_test k)), all_under row (fresh k) (map fresh row) (all_fresh row))

pub come_one : (n j : ℕ) (s t : HubState) → j ≡ n + 1 → t ≡ with_clients n s → with_connection j t ≡ with_clients (n + 1) s
come_one n j s t is h =
    ap (with_connection j) h
    ∙ ap (λ cs. record { held = s.held; attached = cs }) (sym (map-append fresh (range_with_len 1 n) (j ∷ [])) ∙ ap (map fresh) (sym (one_longer n j is)))

pub not_come : (n j : ℕ) (s t : HubState) → j ≡ n + 1 → t ≡ with_clients n s → rest_at j t.attached ≡ None
not_come n j s t is h = ap (λ (u : HubState). rest_at j u.attached) h ∙ none_yet j 1 n (omega arith)

-- n clients have come
pub serves_come : (row : List ℕ) (n : ℕ) (s t : HubState) → row ≡ range_with_len 1 n → t ≡ with_clients n s → Serves row t.attached
serves_come row n s t is h =
    subst (λ (u : HubState). Serves row u.attached) (sym h) (subst (λ xs. Serves xs (map fresh (range_with_len 1 n))) (sym is) (record {
      there = all_fresh (range_with_len 1 n);
      count = length-map (range_with_len 1 n) fresh;
      differ = differ_range 1 n;
    }))

-- some client has come
pub some_come : {S : Type 0} (row : List (Client S)) (n : ℕ) → client_ids row ≡ range_with_len 1 n → 1 ≤ n → 0 < length row
some_come [] zero is some = absurd (omega arith)
some_come [] (suc n) is some = absurd (cc)
some_come (c ∷ row) n is some = omega arith

-- ---- who goes away

-- where nobody holds sessions none are undone
gone_alone : (conn : ℕ) (s : HubState) → s.held.holder ≡ None → (gone conn s).held ≡ s.held
gone_alone conn s nobody =
    ap (λ o. (gone conn (record s { held = record s.held { holder = o } })).held) nobody ∙ sym (ap (λ o. record s.held { holder = o }) nobody)

pub cut_alone : (r : Result ⊤ HubFault) (conn : ℕ) (old new : HubState) → OnOk r (Done old (cut conn) [] new)
    → OnErr r ((r ≡ Err NotAttached) × (new ≡ old)) → old.held.holder ≡ None → new.held ≡ old.held
cut_alone (Ok v) conn old new done refused nobody = ap (λ (s : HubState). s.held) done.2 ∙ gone_alone conn old nobody
cut_alone (Err e) conn old new done refused nobody = ap (λ (s : HubState). s.held) refused.1

pub same_hub : (old new : HubState) → new.held ≡ old.held → new.attached ≡ old.attached → new ≡ old
same_hub old new held attached = ap (λ h. record new { held = h }) held ∙ ap (λ cs. record old { attached = cs }) attached

-- ---- turns

-- the numbers of the row that a turn leaves
abbrev ids_after : ConnectionTurn → List ℕ → List ℕ
ids_after (fed conn bytes) ids = ids ++ conn ∷ []
ids_after (ended conn) ids = ids
ids_after (unread conn) ids = ids
ids_after (unanswered conn bytes) ids = ids
ids_after (unended conn) ids = ids
ids_after (unflushed conn bytes) ids = ids
ids_after (unflushed_end conn) ids = ids

-- the first of the row is gone
serves_gone : (conn : ℕ) (row : List ℕ) (cs ds : List Connection) → Serves (conn ∷ row) cs → ds ≡ others conn cs → Serves row ds
serves_gone conn row cs ds p is = subst (Serves row) (sym is) (record {
  there = all_but conn row cs p.differ.0 p.there.1;
  count = less (length (others conn cs)) (length cs) (length row) (length_others conn cs p.there.0) p.count;
  differ = p.differ.1;
})
  where
    less : (a b n : ℕ) → a + 1 ≡ b → b ≡ suc n → a ≡ n
    less a b n h k = omega arith

-- the row and the hub after a turn of its first
serves_after : (turn : ConnectionTurn) (row out : List ℕ) (old new : HubState)
    → Serves (conn_of turn ∷ row) old.attached → Made old turn out new → Serves (ids_after turn row) new.attached
serves_after (fed conn bytes) row out old new p made = subst (Serves (row ++ conn ∷ [])) (sym made.0.3) (record {
  there = all_same (row ++ conn ∷ []) old.attached (with_rest conn _ old.attached)
      (λ k. some_with_rest k conn _ old.attached) (all_last row conn old.attached p.there.1 p.there.0);
  count = length_with_rest conn _ old.attached ∙ p.count ∙ one_end row;
  differ = differ_last row conn p.differ.1 p.differ.0;
})
  where
    one_end : (xs : List ℕ) → suc (length xs) ≡ length (xs ++ conn ∷ [])
    one_end xs = omega (arith, length-append xs (conn ∷ []))
serves_after (ended conn) row out old new p made = serves_gone conn row old.attached new.attached p (ap (λ (s : HubState). s.attached) made.4)
serves_after (unread conn) row out old new p made = serves_gone conn row old.attached new.attached p (ap (λ (s : HubState). s.attached) made.2)
serves_after (unanswered conn bytes) row out old new p made =
    serves_gone conn row old.attached new.attached p (unsent_piece_gone conn bytes out old new (inl made.0))
serves_after (unended conn) row out old new p made =
    serves_gone conn row old.attached new.attached p (unsent_close_gone conn out old new (inl made))
serves_after (unflushed conn bytes) row out old new p made =
    serves_gone conn row old.attached new.attached p (unsent_piece_gone conn bytes out old new (inr made.0))
serves_after (unflushed_end conn) row out old new p made =
    serves_gone conn row old.attached new.attached p (unsent_close_gone conn out old new (inr made))

-- no row, no connections
pub none_left : (row : List ℕ) (cs : List Connection) → Serves row cs → length row ≡ 0 → cs ≡ []
none_left row [] p h = refl
none_left row (c ∷ cs) p h = absurd (omega (arith, p.count))

and_assoc : (a b c : Result ⊤ ServeFault) → result_and a (result_and b c) ≡ result_and (result_and a b) c
and_assoc (Ok x) b c = refl
and_assoc (Err e) b c = refl

and_ok : (a : Result ⊤ ServeFault) → result_and a (Ok tt) ≡ a
and_ok (Ok tt) = refl
and_ok (Err e) = refl

pub fault_more : (turns : List ConnectionTurn) (turn : ConnectionTurn) → first_fault (turns ++ turn ∷ []) ≡ result_and (first_fault turns) (turn_fault (outcome turn))
fault_more [] turn = and_ok (turn_fault (outcome turn))
fault_more (t ∷ turns) turn = ap (result_and (turn_fault (outcome t))) (fault_more turns turn)
    ∙ and_assoc (turn_fault (outcome t)) (first_fault turns) (turn_fault (outcome turn))

pub not_zero : (n : ℕ) (b : Bool) → b ≡ nat_eq n 0 → b ≡ false → 0 < n
not_zero n b is h = grind arith

pub is_zero : (n : ℕ) (b : Bool) → b ≡ nat_eq n 0 → b ≡ true → n ≡ 0
is_zero n b is h = eqb-true n 0 (sym is ∙ h)

no_turns : (a : Result ⊤ ServeFault) → ◌≡◌ {A = Result ⊤ ServeFault} (Ok tt) a → a ≡ Err Turns → ⊥
no_turns a h k = ok_err (h ∙ k)
  where
    ok_err : ◌≡◌ {A = Result ⊤ ServeFault} (Ok tt) (Err Turns) → ⊥
    ok_err e = cc

pub write_turns : ◌≡◌ {A = Result ⊤ ServeFault} (Err ServeWrite) (Err Turns) → ⊥
write_turns e = cc

-- no turn has this fault
pub not_turns : (turns : List ConnectionTurn) → first_fault turns ≡ Err Turns → ⊥
not_turns [] h = no_turns (Ok tt) refl h
not_turns (fed conn bytes ∷ turns) h = not_turns turns h
not_turns (ended conn ∷ turns) h = not_turns turns h
not_turns (unread conn ∷ turns) h = read h
  where
    read : ◌≡◌ {A = Result ⊤ ServeFault} (Err Read) (Err Turns) → ⊥
    read e = cc
not_turns (unanswered conn bytes ∷ turns) h = write_turns h
not_turns (unended conn ∷ turns) h = write_turns h
not_turns (unflushed conn bytes ∷ turns) h = write_turns h
not_turns (unflushed_end conn ∷ turns) h = write_turns h

module _ {S : Type 0} where
  pub no_clients : (clients : List (Client S)) → length clients ≡ 0 → clients ≡ []
  no_clients [] h = refl
  no_clients (c ∷ clients) h = absurd (omega arith)

  -- the next client has come
  pub ids_one : (clients : List (Client S)) (n : ℕ) (x : Client S) → client_ids clients ≡ range_with_len 1 n
      → x.conn ≡ n + 1 → client_ids (clients ++ x ∷ []) ≡ range_with_len 1 (n + 1)
  ids_one clients n x h is = map-append (λ c. c.conn) clients (x ∷ []) ∙ ap (λ ns. ns ++ x.conn ∷ []) h ∙ sym (one_longer n x.conn is)

  -- a client comes behind the others
  pub ids_last : (clients : List (Client S)) (x : Client S) → client_ids (clients ++ x ∷ []) ≡ client_ids clients ++ x.conn ∷ []
  ids_last clients x = map-append (λ c. c.conn) clients (x ∷ [])

  -- the first client is gone
  pub client_gone : (clients later : List (Client S)) (x : Client S) (cs ds : List Connection) → Serves (client_ids clients) cs → clients ≡ x ∷ later
      → (IsSome (rest_at x.conn cs) → ds ≡ others x.conn cs) → Serves (client_ids later) ds
  client_gone clients later x cs ds p first gone =
      let q : Serves (x.conn ∷ client_ids later) cs = subst (λ xs. Serves (client_ids xs) cs) first p in
      serves_gone x.conn (client_ids later) cs ds q (gone q.there.0)

module _ {S : Type 0} where
  -- a connection that stays open goes behind the others
  pub stays_open : (turn : ConnectionTurn) (after : Client S) (others : List (Client S)) → ◌≡◌ {A = Result Bool ServeFault} (Ok true) (outcome turn)
      → row_after turn after others ≡ others ++ after ∷ []
  stays_open (fed conn bytes) after others is = refl
  stays_open (ended conn) after others is = absurd (cc)
  stays_open (unread conn) after others is = absurd (cc)
  stays_open (unanswered conn bytes) after others is = absurd (cc)
  stays_open (unended conn) after others is = absurd (cc)
  stays_open (unflushed conn bytes) after others is = absurd (cc)
  stays_open (unflushed_end conn) after others is = absurd (cc)

  -- one that has ended is let go
  pub has_ended : (turn : ConnectionTurn) (after : Client S) (others : List (Client S)) → ◌≡◌ {A = Result Bool ServeFault} (Ok false) (outcome turn)
      → row_after turn after others ≡ others
  has_ended (fed conn bytes) after others is = absurd (cc)
  has_ended (ended conn) after others is = refl
  has_ended (unread conn) after others is = refl
  has_ended (unanswered conn bytes) after others is = refl
  has_ended (unended conn) after others is = refl
  has_ended (unflushed conn bytes) after others is = refl
  has_ended (unflushed_end conn) after others is = refl

  -- and one whose stream has failed
  pub has_broken : (turn : ConnectionTurn) (after : Client S) (others : List (Client S)) (fault : ServeFault)
      → ◌≡◌ {A = Result Bool ServeFault} (Err fault) (outcome turn) → row_after turn after others ≡ others
  has_broken (fed conn bytes) after others fault is = absurd (cc)
  has_broken (ended conn) after others fault is = refl
  has_broken (unread conn) after others fault is = refl
  has_broken (unanswered conn bytes) after others fault is = refl
  has_broken (unended conn) after others fault is = refl
  has_broken (unflushed conn bytes) after others fault is = refl
  has_broken (unflushed_end conn) after others fault is = refl

  ids_of_after : (turn : ConnectionTurn) (after : Client S) (others : List (Client S)) → after.conn ≡ conn_of turn
      → client_ids (row_after turn after others) ≡ ids_after turn (client_ids others)
  ids_of_after (fed conn bytes) after others is = ids_last others after ∙ ap (λ k. client_ids others ++ k ∷ []) is
  ids_of_after (ended conn) after others is = refl
  ids_of_after (unread conn) after others is = refl
  ids_of_after (unanswered conn bytes) after others is = refl
  ids_of_after (unended conn) after others is = refl
  ids_of_after (unflushed conn bytes) after others is = refl
  ids_of_after (unflushed_end conn) after others is = refl

  module _ (remaining contents : S → Option (List ℕ)) where
    -- one turn more
    pub serves_next : (turn : ConnectionTurn) (row others later : List (Client S)) (first after : Client S) (out : List ℕ) (old new : HubState)
        → Serves (client_ids row) old.attached → row ≡ first ∷ others → TakesTurn remaining contents turn out first after → Made old turn out new
        → later ≡ row_after turn after others → Serves (client_ids later) new.attached
    serves_next turn row others later first after out old new p is takes made rest =
        let ids : client_ids row ≡ conn_of turn ∷ client_ids others = ap client_ids is ∙ ap (λ k. k ∷ client_ids others) (sym takes.conn) in
        subst (λ xs. Serves xs new.attached) (sym (ap client_ids rest ∙ ids_of_after turn after others (takes.same ∙ sym takes.conn)))
        (serves_after turn (client_ids others) out old new (subst (λ xs. Serves xs old.attached) ids p) made)

    turns_more : (turns : List ConnectionTurn) (turn : ConnectionTurn) (row others : List (Client S)) (first after : Client S) (out : List ℕ) (old mid new : HubState)
        → ByTurns remaining contents row old turns (first ∷ others) mid → TakesTurn remaining contents turn out first after → Made mid turn out new
        → ByTurns remaining contents row old (turns ++ turn ∷ []) (row_after turn after others) new
    turns_more [] turn row others first after out old mid new p takes made =
        (first, after, others, out, new, sym p.0, takes, subst (λ s. Made s turn out new) p.1 made, (refl, refl))
    turns_more (t ∷ turns) turn row others first after out old mid new p takes made = (
      p.0,
      p.1,
      p.2,
      p.3,
      p.4,
      p.5,
      p.6,
      p.7,
      turns_more turns turn (row_after t p.1 p.2) others first after out p.4 mid new p.8 takes made,
    )

    pub turns_next : (turns : List ConnectionTurn) (turn : ConnectionTurn) (row now others later : List (Client S)) (first after : Client S) (out : List ℕ)
        (old mid new : HubState) → ByTurns remaining contents row old turns now mid → now ≡ first ∷ others
        → TakesTurn remaining contents turn out first after → Made mid turn out new → later ≡ row_after turn after others
        → ByTurns remaining contents row old (turns ++ turn ∷ []) later new
    turns_next turns turn row now others later first after out old mid new p is takes made rest =
        subst (λ xs. ByTurns remaining contents row old (turns ++ turn ∷ []) xs new) (sym rest)
        (turns_more turns turn row others first after out old mid new (subst (λ xs. ByTurns remaining contents row old turns xs mid) is p) takes made)

-- ---- what is noted

or_true : (b : Bool) → (b || true) ≡ true
or_true true = refl
or_true false = refl

or_false : (b : Bool) → (b || false) ≡ b
or_false true = refl
or_false false = refl

pub noted_more : (turns : List ConnectionTurn) (turn : ConnectionTurn) (e : IoErrors) → all_noted (turns ++ turn ∷ []) e ≡ with_turn (outcome turn) (all_noted turns e)
noted_more [] turn e = refl
noted_more (t ∷ turns) turn e = noted_more turns turn (with_turn (outcome t) e)

-- a read was sound, and then what was written failed or didn't
pub written_noted : (r : Result Bool ServeFault) (failed : Bool) (e : IoErrors) → OnOk r (failed ≡ false) → OnErr r ((r ≡ Err ServeWrite) × (failed ≡ true))
    → with_write failed (with_read false e) ≡ with_turn r e
written_noted (Ok is_open) failed e ok err =
    ap (λ b. with_write b (with_read false e)) ok ∙ (λ i. record { read = or_false e.read i; write = or_false e.write i })
written_noted (Err fault) failed e ok err =
    ap (λ b. with_write b (with_read false e)) err.1 ∙ (λ i. record { read = or_false e.read i; write = e.write || true }) ∙ sym (ap (λ r. with_turn r e) err.0)

reads_stay : (turns : List ConnectionTurn) (e : IoErrors) → reads_fail e ≡ true → reads_fail (all_noted turns e) ≡ true
reads_stay [] e h = h
reads_stay (fed conn bytes ∷ turns) e h = reads_stay turns e h
reads_stay (ended conn ∷ turns) e h = reads_stay turns e h
reads_stay (unread conn ∷ turns) e h = reads_stay turns (with_read true e) (or_true e.read)
reads_stay (unanswered conn bytes ∷ turns) e h = reads_stay turns (with_write true e) h
reads_stay (unended conn ∷ turns) e h = reads_stay turns (with_write true e) h
reads_stay (unflushed conn bytes ∷ turns) e h = reads_stay turns (with_write true e) h
reads_stay (unflushed_end conn ∷ turns) e h = reads_stay turns (with_write true e) h

writes_stay : (turns : List ConnectionTurn) (e : IoErrors) → writes_fail e ≡ true → writes_fail (all_noted turns e) ≡ true
writes_stay [] e h = h
writes_stay (fed conn bytes ∷ turns) e h = writes_stay turns e h
writes_stay (ended conn ∷ turns) e h = writes_stay turns e h
writes_stay (unread conn ∷ turns) e h = writes_stay turns (with_read true e) h
writes_stay (unanswered conn bytes ∷ turns) e h = writes_stay turns (with_write true e) (or_true e.write)
writes_stay (unended conn ∷ turns) e h = writes_stay turns (with_write true e) (or_true e.write)
writes_stay (unflushed conn bytes ∷ turns) e h = writes_stay turns (with_write true e) (or_true e.write)
writes_stay (unflushed_end conn ∷ turns) e h = writes_stay turns (with_write true e) (or_true e.write)

ok_read : ◌≡◌ {A = Result ⊤ ServeFault} (Ok tt) (Err Read) → ⊥
ok_read e = cc

ok_write : ◌≡◌ {A = Result ⊤ ServeFault} (Ok tt) (Err ServeWrite) → ⊥
ok_write e = cc

write_read : ◌≡◌ {A = Result ⊤ ServeFault} (Err ServeWrite) (Err Read) → ⊥
write_read e = cc

-- the first fault is noted
pub read_noted : (turns : List ConnectionTurn) (e : IoErrors) → first_fault turns ≡ Err Read → reads_fail (all_noted turns e) ≡ true
read_noted [] e h = absurd (ok_read h)
read_noted (fed conn bytes ∷ turns) e h = read_noted turns e h
read_noted (ended conn ∷ turns) e h = read_noted turns e h
read_noted (unread conn ∷ turns) e h = reads_stay turns (with_read true e) (or_true e.read)
read_noted (unanswered conn bytes ∷ turns) e h = absurd (write_read h)
read_noted (unended conn ∷ turns) e h = absurd (write_read h)
read_noted (unflushed conn bytes ∷ turns) e h = absurd (write_read h)
read_noted (unflushed_end conn ∷ turns) e h = absurd (write_read h)

pub write_noted : (turns : List ConnectionTurn) (e : IoErrors) → first_fault turns ≡ Err ServeWrite → writes_fail (all_noted turns e) ≡ true
write_noted [] e h = absurd (ok_write h)
write_noted (fed conn bytes ∷ turns) e h = write_noted turns e h
write_noted (ended conn ∷ turns) e h = write_noted turns e h
write_noted (unread conn ∷ turns) e h = absurd (write_read (sym h))
write_noted (unanswered conn bytes ∷ turns) e h = writes_stay turns (with_write true e) (or_true e.write)
write_noted (unended conn ∷ turns) e h = writes_stay turns (with_write true e) (or_true e.write)
write_noted (unflushed conn bytes ∷ turns) e h = writes_stay turns (with_write true e) (or_true e.write)
write_noted (unflushed_end conn ∷ turns) e h = writes_stay turns (with_write true e) (or_true e.write)

-- where no turn has a fault nothing is noted
pub none_noted : (turns : List ConnectionTurn) (e : IoErrors) → ◌≡◌ {A = Result ⊤ ServeFault} (first_fault turns) (Ok tt) → all_noted turns e ≡ e
none_noted [] e h = refl
none_noted (fed conn bytes ∷ turns) e h = none_noted turns e h
none_noted (ended conn ∷ turns) e h = none_noted turns e h
none_noted (unread conn ∷ turns) e h = absurd (ok_read (sym h))
none_noted (unanswered conn bytes ∷ turns) e h = absurd (ok_write (sym h))
none_noted (unended conn ∷ turns) e h = absurd (ok_write (sym h))
none_noted (unflushed conn bytes ∷ turns) e h = absurd (ok_write (sym h))
none_noted (unflushed_end conn ∷ turns) e h = absurd (ok_write (sym h))

pub read_turns : ◌≡◌ {A = Result ⊤ ServeFault} (Err Read) (Err Turns) → ⊥
read_turns e = cc

pub read_accept : ◌≡◌ {A = Result ⊤ ServeFault} (Err Read) (Err Accept) → ⊥
read_accept e = cc

pub read_memory : ◌≡◌ {A = Result ⊤ ServeFault} (Err Read) (Err Memory) → ⊥
read_memory e = cc

pub write_accept : ◌≡◌ {A = Result ⊤ ServeFault} (Err ServeWrite) (Err Accept) → ⊥
write_accept e = cc

pub write_memory : ◌≡◌ {A = Result ⊤ ServeFault} (Err ServeWrite) (Err Memory) → ⊥
write_memory e = cc

pub ok_accept : ◌≡◌ {A = Result ⊤ ServeFault} (Ok tt) (Err Accept) → ⊥
ok_accept e = cc

pub ok_memory : ◌≡◌ {A = Result ⊤ ServeFault} (Ok tt) (Err Memory) → ⊥
ok_memory e = cc

pub accept_turns : ◌≡◌ {A = Result ⊤ ServeFault} (Err Accept) (Err Turns) → ⊥
accept_turns e = cc

pub memory_turns : ◌≡◌ {A = Result ⊤ ServeFault} (Err Memory) (Err Turns) → ⊥
memory_turns e = cc

pub ok_turns : ◌≡◌ {A = Result ⊤ ServeFault} (Ok tt) (Err Turns) → ⊥
ok_turns e = cc

-- no turn has another fault than Read and Write
not_fault : (turns : List ConnectionTurn) (fault : ServeFault) → (Read ≡ fault → ⊥) → (ServeWrite ≡ fault → ⊥) → first_fault turns ≡ Err fault → ⊥
not_fault [] fault r w h = ok_err fault h
  where
    ok_err : (f : ServeFault) → ◌≡◌ {A = Result ⊤ ServeFault} (Ok tt) (Err f) → ⊥
    ok_err f e = cc
not_fault (fed conn bytes ∷ turns) fault r w h = not_fault turns fault r w h
not_fault (ended conn ∷ turns) fault r w h = not_fault turns fault r w h
not_fault (unread conn ∷ turns) fault r w h = r (same_err h)
not_fault (unanswered conn bytes ∷ turns) fault r w h = w (same_err h)
not_fault (unended conn ∷ turns) fault r w h = w (same_err h)
not_fault (unflushed conn bytes ∷ turns) fault r w h = w (same_err h)
not_fault (unflushed_end conn ∷ turns) fault r w h = w (same_err h)

pub not_accept : (turns : List ConnectionTurn) → first_fault turns ≡ Err Accept → ⊥
not_accept turns h = not_fault turns Accept (λ e. cc) (λ e. cc) h

pub not_memory : (turns : List ConnectionTurn) → first_fault turns ≡ Err Memory → ⊥
not_memory turns h = not_fault turns Memory (λ e. cc) (λ e. cc) h

pub on_ok : (s : Result ⊤ ServeFault) (P : Type 0) → (s ≡ Ok tt → P) → OnOk s P
on_ok (Ok tt) P f = f refl
on_ok (Err e) P f = tt

-- ---- the fault of a turn, by what was read

on_err_of_ok : (r : Result Bool ServeFault) (b : Bool) (P : Type 0) → r ≡ Ok b → OnErr r P
on_err_of_ok (Ok x) b P is = tt
on_err_of_ok (Err fault) b P is = absurd (err_ok fault is)
  where
    err_ok : (f : ServeFault) → ◌≡◌ {A = Result Bool ServeFault} (Err f) (Ok b) → ⊥
    err_ok f e = cc

pub on_err_of : (r : Result Bool ServeFault) (P : Type 0) → P → OnErr r P
on_err_of (Ok x) P p = tt
on_err_of (Err fault) P p = p

-- where the read gave bytes or their end, only a write has failed
pub answered_fault : (turn : ConnectionTurn) (bytes : List ℕ) (r : Result Bool ServeFault) (failed : Bool) → given_in turn ≡ Some bytes → r ≡ outcome turn
    → (r ≡ Err ServeWrite → failed ≡ true) → OnErr r ((r ≡ Err ServeWrite) × (failed ≡ true))
answered_fault (fed conn xs) bytes r failed given is write = on_err_of_ok r true _ is
answered_fault (ended conn) bytes r failed given is write = on_err_of_ok r false _ is
answered_fault (unread conn) bytes r failed given is write = absurd (none_some given)
  where
    none_some : ◌≡◌ {A = Option (List ℕ)} None (Some bytes) → ⊥
    none_some e = cc
answered_fault (unanswered conn xs) bytes r failed given is write = on_err_of r _ (is, write is)
answered_fault (unended conn) bytes r failed given is write = on_err_of r _ (is, write is)
answered_fault (unflushed conn xs) bytes r failed given is write = on_err_of r _ (is, write is)
answered_fault (unflushed_end conn) bytes r failed given is write = on_err_of r _ (is, write is)

pub on_err_kept : (r : Result Bool ServeFault) (A P : Type 0) → OnErr r (A × P) → OnErr r P
on_err_kept (Ok x) A P p = tt
on_err_kept (Err fault) A P p = p.1

-- ---- sound streams

pub sound_last : {S : Type 0} (clients : List (Client S)) (c : Client S) → AllSound clients → has_failed c.stream ≡ false → AllSound (clients ++ c ∷ [])
sound_last [] c h last = (last, tt)
sound_last (x ∷ clients) c h last = (h.0, sound_last clients c h.1 last)

-- what a turn of the first of a row is, by what becomes of the row
pub turn_taken : {S : Type 0} (remaining contents : S → Option (List ℕ)) (row left : List (Client S)) (old new : HubState) (before noted : IoErrors)
    (first after : Client S) (others : List (Client S)) (answer : Result Bool ServeFault) (result : Result ⊤ ServeFault) → row ≡ first ∷ others
    → (turn : ConnectionTurn) × (out : List ℕ) × TakesTurn remaining contents turn out first after × (answer ≡ outcome turn) × Made old turn out new
    → noted ≡ with_turn answer before
    → ((turn : ConnectionTurn) → answer ≡ outcome turn → (left ≡ row_after turn after others) × (result ≡ turn_fault (outcome turn)))
    → (turn : ConnectionTurn) × (out : List ℕ) × (first : Client S) × (after : Client S) × (others : List (Client S)) × (row ≡ first ∷ others)
    × TakesTurn remaining contents turn out first after × Made old turn out new × (left ≡ row_after turn after others)
    × (result ≡ turn_fault (outcome turn)) × (noted ≡ with_turn (outcome turn) before)
turn_taken remaining contents row left old new before noted first after others answer result is made notes ends =
    let e = ends made.0 made.3 in
    (made.0, made.1, first, after, others, is, made.2, made.4, e.0, e.1, notes ∙ ap (λ r. with_turn r before) made.3)

-- what a turn of a client is, by what its stream gave and has been written
pub client_turned : {S : Type 0} (remaining contents : S → Option (List ℕ)) (old new : Client S) (between : Watched (Buffered S)) (piece : Option (List ℕ))
    (answer : Result Bool ServeFault) (before after : HubState) → new.conn ≡ old.conn
    → (turn : ConnectionTurn) × (out : List ℕ) × (conn_of turn ≡ old.conn) × (given_in turn ≡ piece) × (answer ≡ outcome turn)
    × Writes (contents_of contents) between new.stream out × TellsFlush turn between new.stream × Made before turn out after
    → Gave (remaining_of remaining) old.stream between piece → OnErr answer (has_failed new.stream ≡ true)
    → (turn : ConnectionTurn) × (out : List ℕ) × TakesTurn remaining contents turn out old new × (answer ≡ outcome turn) × Made before turn out after
client_turned remaining contents old new between piece answer before after same made gave failed = (
  made.0,
  made.1,
  record {
    conn = made.2;
    same = same;
    between = between;
    read = subst (Gave (remaining_of remaining) old.stream between) (sym made.3) gave;
    written = made.5;
    told = made.6;
    failed = subst (λ (r : Result Bool ServeFault). OnErr r (has_failed new.stream ≡ true)) made.4 failed;
  },
  made.4,
  made.7,
)
