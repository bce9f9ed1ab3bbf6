-- What is known of the nodes of live ids, and of those that are only kept.
-- Cited by `CallLemmas`, `ConflictLemmas`, `EraseLemmas`, `ImagingLemmas`, `InsertLemmas` and 22 more.
use Rattle.std.proofs.Common.{◌≡◌, ◌≢◌, ℕ, ◌+◌, ◌<◌, Bool, true, false, cond, inl, inr, List, [], ◌∷◌, ◌++◌, refl, ap, sym, ◌∙◌, subst, arith}
use Rattle.std.specs.Prelude.{◌==◌}
use Rattle.std.specs.Option.{option_and_then, is_some}
use Rattle.std.specs.Ordering.{nat_cmp}
use Rattle.std.specs.FinMap.{FinMap, get, insert, entries, len, len-insert}
use Rattle.std.proofs.lemmas.Cmp.{nat_cmp_total}
use Rattle.std.specs.List.{AllByRecursion}
use Rattle.std.proofs.lemmas.Bool.{false≢true}
use Rattle.std.proofs.lemmas.Bool.Decides.{eqb_tells}
use Rattle.std.specs.declared.option.Option.TheVariants.{Some}
use Rattle.mi_model.specs.Table.{times}
use Rattle.mi_model.proofs.ViewLaws.{Lacks}
use Rattle.mi_node.specs.Pool.{Pooled, value_of}
use Rattle.mi_node.specs.Refs.{Ref, IsOut}
use Rattle.mi_order.specs.declared.stored.Stored.{Stored}
use Rattle.mi_index.specs.Places.{IsOneOf as Holds, IsWith}
use Rattle.mi_index.specs.Pass.{IsOutOfAll}
use Rattle.mi_container.specs.Data.{Order, node_of}
use Rattle.mi_container.proofs.PairLemmas.{is_other, some_is}
use Rattle.mi_container.proofs.SequenceLemmas.{lacks_of_times}
use Rattle.mi_ids.specs.declared.entry.IdEntry.{IdEntry}
use Rattle.mi_ids.specs.IdMap.{with_mark, with_live}
use Rattle.mi_multi.specs.Physical.{stored_id, picked, node_in, live_in}
use Rattle.mi_multi.specs.Multi.{id_at, ids_at, is_live, AreLive, HasNode}
use Rattle.mi_multi.proofs.PickLemmas.{get_picked}
use Rattle.mi_multi.proofs.ListLemmas.{itself, times_middle, IsRow}
use Rattle.mi_multi.proofs.RowLemmas.{get_here, get_beside}

abbrev entry : Ref → Bool → IdEntry
entry r b = record { node = r; live = b }

-- an entry that says live or not
with_live_is : (ids : FinMap nat_cmp IdEntry) (e : ℕ) (a : IdEntry) (b : Bool)
    → get ids e ≡ Some a → with_live ids e b ≡ insert ids e (record { node = a.node; live = b })
unfolding with_live
with_live_is ids e a b is = ap (with_mark ids e b) is

module _ (ids : FinMap nat_cmp IdEntry) (e : ℕ) (a : IdEntry) (b : Bool) (is : get ids e ≡ Some a) where
  pub marked_here : get (with_live ids e b) e ≡ Some (record { node = a.node; live = b })
  marked_here = ap (λ q. get q e) (with_live_is ids e a b is) ∙ get_here ids e (record { node = a.node; live = b })

  pub marked_beside : (q : ℕ) → q ≢ e → get (with_live ids e b) q ≡ get ids q
  marked_beside q ne = ap (λ k. get k q) (with_live_is ids e a b is) ∙ get_beside ids e q (record { node = a.node; live = b }) ne

pub len_marked : (ids : FinMap nat_cmp IdEntry) (e : ℕ) (a : IdEntry) (b : Bool) → get ids e ≡ Some a → len (with_live ids e b) ≡ len ids
len_marked ids e a b is =
    ap len (with_live_is ids e a b is) ∙ len-insert nat_cmp_total ids e (record { node = a.node; live = b })
    ∙ ap (λ o. cond (is_some o) (len ids) (len ids + 1)) is

-- where one id alone is live in one of two maps, each id is counted once more there if it is that one
pub once_more : (a b : FinMap nat_cmp IdEntry) (e i q : ℕ) → i ≡ e → is_live (get a e) ≡ true → is_live (get b e) ≡ false
    → ((k : ℕ) → k ≢ e → get a k ≡ get b k)
    → cond {A = ℕ} (is_live (get a q)) 1 0 ≡ cond {A = ℕ} (i == q) 1 0 + cond {A = ℕ} (is_live (get b q)) 1 0
once_more a b e i q same live dead others =
    elim (eqb_tells q e) [
      | inl it ↦
          let one_ : cond {A = ℕ} (is_live (get a q)) 1 0 ≡ 1 = ap (λ k. cond {A = ℕ} (is_live (get a k)) 1 0) it.1 ∙ ap (λ t. cond {A = ℕ} t 1 0) live in
          let none_ : cond {A = ℕ} (is_live (get b q)) 1 0 ≡ 0 = ap (λ k. cond {A = ℕ} (is_live (get b k)) 1 0) it.1 ∙ ap (λ t. cond {A = ℕ} t 1 0) dead in
          let here : cond {A = ℕ} (i == q) 1 0 ≡ 1 = ap (λ t. cond {A = ℕ} t 1 0) (itself (same ∙ sym it.1)) in
          omega arith
      | inr isnt ↦
          let still : cond {A = ℕ} (is_live (get a q)) 1 0 ≡ cond {A = ℕ} (is_live (get b q)) 1 0 =
          ap (λ o. cond {A = ℕ} (is_live o) 1 0) (others q isnt.1) in
          let here : cond {A = ℕ} (i == q) 1 0 ≡ 0 = ap (λ t. cond {A = ℕ} t 1 0) (is_other i q (λ k. isnt.1 (sym k ∙ same))) in
          omega arith
    ]

-- the id of an entry's node
pub id_of : (ids : FinMap nat_cmp IdEntry) (m : Pooled Stored) (e : ℕ) (a : IdEntry) → HasNode m e a.node → id_at m a.node ≡ e
id_of ids m e a has = ap stored_id has.is ∙ has.id

-- nodes of two ids have two names
pub names_apart : (m : Pooled Stored) (p q : ℕ) (a b : Ref) → HasNode m p a → HasNode m q b → p ≢ q → (a.name == b.name) ≡ false
names_apart m p q a b f g ne =
    is_other a.name b.name (λ same. ne (sym (ap stored_id f.is ∙ f.id) ∙ ap (λ k. stored_id (value_of m k)) same ∙ (ap stored_id g.is ∙ g.id)))

module _ (ids : FinMap nat_cmp IdEntry) (m : Pooled Stored) where
  abbrev pub IsLiveRef : Ref → Type 0
  IsLiveRef r = get ids (id_at m r) ≡ Some (record { node = r; live = true })

  same_of : (e : ℕ) (r q : Ref) → get ids e ≡ Some (record { node = r; live = true }) → IsLiveRef q → id_at m q ≡ e → q ≡ r
  same_of e r q there live is =
      let both : Some (entry q true) ≡ Some (entry r true) = sym live ∙ ap (get ids) is ∙ there in ap (λ (a : IdEntry). a.node) (some_is both)

  -- the node of a live id stands in the list
  pub found : (e : ℕ) (r : Ref) (rs : List Ref) → get ids e ≡ Some (record { node = r; live = true })
      → AllByRecursion IsLiveRef rs → 0 < times e (ids_at m rs) → Holds r rs
  found e r [] there all some = absurd (omega arith)
  found e r (q ∷ qs) there all some =
      elim (eqb_tells (id_at m q) e) [
        | inl is ↦ record { xs = []; ys = qs; parts = ap (λ k. k ∷ qs) (same_of e r q there all.0 is.1) }
        | inr isnt ↦
            let none : cond {A = ℕ} (id_at m q == e) 1 0 ≡ 0 = ap (λ b. cond {A = ℕ} b 1 0) isnt.0 in
            let rest : 0 < times e (ids_at m qs) = (let n : 0 < cond {A = ℕ} (id_at m q == e) 1 0 + times e (ids_at m qs) = some in omega arith) in
            let h = found e r qs there all.1 rest in record { xs = q ∷ h.xs; ys = h.ys; parts = ap (λ k. q ∷ k) h.parts }
      ]

  pub holds : (e : ℕ) (r : Ref) (rs : List Ref) → get ids e ≡ Some (record { node = r; live = true }) → AreLive ids m rs → Holds r rs
  holds e r rs there live = found e r rs there live.rows
      (let one : times e (ids_at m rs) ≡ 1 = live.each e ∙ ap (λ o. cond {A = ℕ} (is_live o) 1 0) there in omega arith)

  -- of a list with it between xs and ys, those have other ids
  pub lacks_middle : (e : ℕ) (r : Ref) (xs ys : List Ref) → id_at m r ≡ e
      → get ids e ≡ Some (record { node = r; live = true }) → AreLive ids m (xs ++ r ∷ ys) → Lacks e (ids_at m (xs ++ ys))
  lacks_middle e r xs ys is there live =
      lacks_of_times e (ids_at m (xs ++ ys))
      (let one : times e (ids_at m (xs ++ r ∷ ys)) ≡ 1 = live.each e ∙ ap (λ o. cond {A = ℕ} (is_live o) 1 0) there in
      let here : cond {A = ℕ} (id_at m r == e) 1 0 ≡ 1 = ap (λ b. cond {A = ℕ} b 1 0) (itself is) in
      let parts : times e (ids_at m (xs ++ r ∷ ys)) ≡ cond (id_at m r == e) 1 0 + times e (ids_at m (xs ++ ys)) = times_middle (id_at m) e xs r ys in
      omega arith)

  -- a node that is only kept stands in no list
  pub out_of : (e : ℕ) (a : IdEntry) (rs : List Ref) → get ids e ≡ Some a → a.live ≡ false
      → HasNode m e a.node → AllByRecursion IsLiveRef rs → IsOut a.node.name rs
  out_of e a [] there dead has all = tt
  out_of e a (q ∷ qs) there dead has all = (
    is_other a.node.name q.name (λ same.
        let id : id_at m q ≡ e = ap (λ k. stored_id (value_of m k)) (sym same) ∙ id_of ids m e a has in
        let both : Some (entry q true) ≡ Some a = sym all.0 ∙ ap (get ids) id ∙ there in
        false≢true (sym dead ∙ sym (ap (λ (k : IdEntry). k.live) (some_is both)))),
    out_of e a qs there dead has all.1,
  )

  pub out_of_all : (e : ℕ) (a : IdEntry) (rss : List (List Ref)) → get ids e ≡ Some a → a.live ≡ false
      → HasNode m e a.node → AllByRecursion (AreLive ids m) rss → IsOutOfAll a.node.name rss
  out_of_all e a [] there dead has all = tt
  out_of_all e a (rs ∷ rss) there dead has all = (out_of e a rs there dead has all.0.rows, out_of_all e a rss there dead has all.1)

  -- the rows that they mean
  pub node_live : (os : List Order) (r : Ref) → IsLiveRef r → node_of (picked (live_in m os) (entries ids)) (id_at m r) ≡ Some (node_in m os r)
  node_live os r live = get_picked (live_in m os) ids (id_at m r) ∙ ap (option_and_then (live_in m os)) live

  row_of : (os : List Order) (r : Ref) → IsLiveRef r → IsRow (id_at m) (picked (live_in m os) (entries ids)) r
  row_of os r live = (node_in m os r, node_live os r live, refl)

  pub rows_of : (os : List Order) (rs : List Ref) → AllByRecursion IsLiveRef rs → AllByRecursion (IsRow (id_at m) (picked (live_in m os) (entries ids))) rs
  rows_of os [] all = tt
  rows_of os (r ∷ rs) all = (row_of os r all.0, rows_of os rs all.1)

-- parts of what holds of all
module _ {A : Type 0} (P : A → Type 0) where
  pub all_left : (xs ys : List A) → AllByRecursion P (xs ++ ys) → AllByRecursion P xs
  all_left [] ys all = tt
  all_left (x ∷ xs) ys all = (all.0, all_left xs ys all.1)

  pub all_right : (xs ys : List A) → AllByRecursion P (xs ++ ys) → AllByRecursion P ys
  all_right [] ys all = all
  all_right (x ∷ xs) ys all = all_right xs ys all.1

  pub all_append : (xs ys : List A) → AllByRecursion P xs → AllByRecursion P ys → AllByRecursion P (xs ++ ys)
  all_append [] ys a b = b
  all_append (x ∷ xs) ys a b = (a.0, all_append xs ys a.1 b)

-- a list with one node more
pub live_rows_with : (ids new_ids : FinMap nat_cmp IdEntry) (m n : Pooled Stored)
    → ((qs : List Ref) → AllByRecursion (IsLiveRef ids m) qs → AllByRecursion (IsLiveRef new_ids n) qs)
    → (r : Ref) → IsLiveRef new_ids n r → (rs us : List Ref) → IsWith r rs us
    → AllByRecursion (IsLiveRef ids m) rs → AllByRecursion (IsLiveRef new_ids n) us
live_rows_with ids new_ids m n still r live rs us w all =
    let both : AllByRecursion (IsLiveRef ids m) (w.xs ++ w.ys) = subst (AllByRecursion (IsLiveRef ids m)) w.was all in
    subst (AllByRecursion (IsLiveRef new_ids n)) (sym w.now)
    (all_append (IsLiveRef new_ids n) w.xs (r ∷ w.ys) (still w.xs (all_left (IsLiveRef ids m) w.xs w.ys both))
    (live, still w.ys (all_right (IsLiveRef ids m) w.xs w.ys both)))

-- the ids of nodes whose values stay
pub ids_same : (m n : Pooled Stored) (rs : List Ref) → ((k : ℕ) → value_of n k ≡ value_of m k) → ids_at n rs ≡ ids_at m rs
ids_same m n [] values = refl
ids_same m n (r ∷ rs) values = (λ i. stored_id (values r.name i) ∷ ids_same m n rs values i)
