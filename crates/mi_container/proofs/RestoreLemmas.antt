-- Rows that get rising stamps in one index stand there in the order of their list, and rows that go to the end of a list one
-- after another stand in it in their order. Nothing else changes.
-- Cited by `RaiseLemmas` and `mi_multi`.
use Rattle.std.proofs.Common.{◌≡◌, ◌≢◌, ℕ, ◌+◌, ◌<◌, ◌≤◌, zero, suc, true, false, cond, ◌⊎◌, inl, inr, List}
use Rattle.std.proofs.Common.{[], ◌∷◌, ◌++◌, map, length, get_or, take, drop, reverse, refl, ap, sym, ◌∙◌, subst, arith}
use Rattle.std.specs.Prelude.{◌==◌}
use Rattle.std.specs.List.{AllByRecursion}
use Rattle.std.specs.Ordering.{on, nat_cmp}
use Rattle.std.specs.Cmp.{on_total}
use Rattle.std.specs.Option.{is_some}
use Rattle.std.specs.List.{sum_by}
use Rattle.std.specs.List.Sorted.{IsPermutation, IsNonDecreasing}
use Rattle.std.proofs.lemmas.List.Sorted.{sum_by-IsPermutation, length_permutation}
use Rattle.std.proofs.lemmas.List.Sums.{sum_by-cons}
use Rattle.std.specs.Map.{lookup}
use Rattle.std.proofs.lemmas.Cmp.{nat_cmp_total}
use Rattle.std.proofs.lemmas.Bool.{false≢true}
use Rattle.std.proofs.lemmas.Bool.Decides.{eqb_tells, nat_tests}
use Rattle.std.proofs.lemmas.List.{length-set, get_or-set_same, get_or-set_other, take_more, append-nil, append_assoc, reverse-append}
use Rattle.std.specs.declared.cmp.Ordering.TheVariants.{Less}
use Rattle.std.specs.declared.option.Option.TheVariants.{None, Some}
use Rattle.mi_catalog.specs.declared.index.Index.{Index}
use Rattle.mi_catalog.specs.Shape.{Shape}
use Rattle.mi_value.specs.declared.value.Value.{Value}
use Rattle.mi_model.specs.Table.{Table, ListsEach, Rise, times, has, list_of}
use Rattle.mi_model.specs.View.{sorted}
use Rattle.mi_model.specs.Change.{without, relocated, stand}
use Rattle.mi_model.proofs.StampLaws.{Rises, rises_once, times_first}
use Rattle.mi_model.proofs.TableLaws.{all_get}
use Rattle.mi_model.proofs.ViewLaws.{Lacks}
use Rattle.mi_container.specs.Data.{Content, Node, Order, Data, has_stamps, node_of, content_in, content_of, stamp_of, ids_of}
use Rattle.mi_container.specs.Data.{ids_by_stamp, listed, lists_from, order_at, plain_row, as_table, StampFits, StampsFit, KindsFit, Climbs, IsData}
use Rattle.mi_container.specs.Data.Order.{ById, ByKey, ByHash, Listed}
use Rattle.mi_node.specs.Refs.{Ref}
use Rattle.mi_container.specs.Changes.{in_order, relocated_in, new_node, inserted}
use Rattle.mi_container.specs.Fits.{IsThere}
use Rattle.mi_container.specs.Restore.{with_stamp, restamped_in, restamped_all, moved_all, High, Low, SameBut, InOrderTo, AreByIds, HasRows, next_after, IsRowsFault, IsListsFault, IsRestoreFault}
use Rattle.mi_container.specs.declared.restore.RestoreFault.{RestoreFault}
use Rattle.mi_container.specs.declared.restore.RestoreFault.TheVariants as fault
use Rattle.mi_container.proofs.PairLemmas.{none_some, is_other}
use Rattle.mi_container.proofs.TableLemmas.{table_inserted}
use Rattle.mi_container.proofs.SequenceLemmas.{Once, drop_is, drop_isnt, without_lacks}
use Rattle.mi_container.proofs.ContentLemmas.{node_with, node_beside}
use Rattle.mi_container.proofs.InvariantLemmas.{there_has, has_there, each_there, each_once, stamp_there, stamp_early, stamps_long, rows_climb}
use Rattle.mi_container.proofs.ViewLemmas.{stamps_rise_in}
use Rattle.mi_container.proofs.RestampLemmas.{rows_plain, there_still, there_was, stamp_beside, stamp_here, stamp_other, long_lists}

pub all_map : {P Q : ℕ → Type 0} → ((b : ℕ) → P b → Q b) → (ids : List ℕ) → AllByRecursion P ids → AllByRecursion Q ids
all_map f [] all = tt
all_map f (b ∷ ids) all = (f b all.0, all_map f ids all.1)

pub less_is : (a b : ℕ) → a < b → nat_cmp a b ≡ Less
less_is a b l = grind (arith, nat_tests)

-- What is the same

pub same_itself : (x : ℕ) (d : Data) → SameBut x d d
same_itself x d = record {
  rows = refl;
  next = refl;
  arrivals = refl;
  kept = refl;
  long = refl;
  orders = λ y ne. refl;
  stamped = refl;
  stamps = λ y b ne. refl;
}

pub same_both : (x : ℕ) (d n o : Data) → SameBut x d n → SameBut x n o → SameBut x d o
same_both x d n o f g = record {
  rows = g.rows ∙ f.rows;
  next = g.next ∙ f.next;
  arrivals = g.arrivals ∙ f.arrivals;
  kept = g.kept ∙ f.kept;
  long = g.long ∙ f.long;
  orders = λ y ne. g.orders y ne ∙ f.orders y ne;
  stamped = g.stamped ∙ f.stamped;
  stamps = λ y b ne. g.stamps y b ne ∙ f.stamps y b ne;
}

pub plain_ids : (rows : List (ℕ × Node)) → map (λ r. r.0) (map plain_row rows) ≡ ids_of rows
plain_ids [] = refl
plain_ids (r ∷ rows) = ap (λ q. r.0 ∷ q) (plain_ids rows)

pub ids_by_rows : (d n : Data) → map plain_row n.rows ≡ map plain_row d.rows → ids_of n.rows ≡ ids_of d.rows
ids_by_rows d n same = sym (plain_ids n.rows) ∙ ap (map (λ r. r.0)) same ∙ plain_ids d.rows

pub has_by_rows : (d n : Data) → map plain_row n.rows ≡ map plain_row d.rows → (b : ℕ) → has (as_table n) b ≡ has (as_table d) b
has_by_rows d n same b = ap (λ rows. is_some (lookup (λ k. k == b) rows)) same

pub there_by_rows : (d n : Data) → map plain_row n.rows ≡ map plain_row d.rows → (b : ℕ) → IsThere n.rows b → IsThere d.rows b
there_by_rows d n same b there = there_has d b (sym (has_by_rows d n same b) ∙ has_there n b there)

-- the list of another index is the same
pub listed_same : (y : ℕ) (rows other : List (ℕ × Node)) (o : Order) → ids_of other ≡ ids_of rows
    → ((b : ℕ) → stamp_of other y b ≡ stamp_of rows y b) → listed y other o ≡ listed y rows o
listed_same y rows other ById ids stamps = ids
listed_same y rows other (ByKey ps) ids stamps = λ i. sorted (λ a b. nat_cmp (stamps a i) (stamps b i)) (ids i)
listed_same y rows other (ByHash ps) ids stamps = λ i. sorted (λ a b. nat_cmp (stamps a i) (stamps b i)) (ids i)
listed_same y rows other (Listed l) ids stamps = refl

list_from : (y x : ℕ) (rows : List (ℕ × Node)) (os : List Order) → x < length os → get_or (lists_from y rows os) x [] ≡ listed (y + x) rows (get_or os x ById)
list_from y x rows [] l = absurd (omega arith)
list_from y zero rows (o ∷ os) l = let same : y ≡ y + 0 = omega arith in ap (λ n. listed n rows o) same
list_from y (suc x) rows (o ∷ os) l =
    let next : suc y + x ≡ y + suc x = omega arith in list_from (suc y) x rows os (omega arith) ∙ ap (λ n. listed n rows (get_or os x ById)) next

pub list_is : (d : Data) (x : ℕ) → x < length d.orders → list_of (as_table d) x ≡ listed x d.rows (order_at d.orders x)
list_is d x l = let same : 0 + x ≡ x = omega arith in list_from 0 x d.rows d.orders l ∙ ap (λ n. listed n d.rows (get_or d.orders x ById)) same

pub list_beside : (x : ℕ) (d n : Data) → SameBut x d n → (y : ℕ) → y ≢ x → y < length d.orders → list_of (as_table n) y ≡ list_of (as_table d) y
list_beside x d n same y ne l =
    let long = same.long in
    list_is n y (omega (arith, long, l)) ∙ ap (listed y n.rows) (same.orders y ne)
    ∙ listed_same y d.rows n.rows (order_at d.orders y) (ids_by_rows d n same.rows) (λ b. same.stamps y b ne) ∙ sym (list_is d y l)

-- Stamps

-- each row has a stamp there
abbrev pub Long : ℕ → Data → Type 0
Long x d = (b : ℕ) → IsThere d.rows b → x < length (content_of d.rows b).stamps

-- each has the next number, from a on
abbrev pub Numbered : (ℕ → ℕ) → ℕ → List ℕ → Type 0
Numbered f a [] = Unit {0}
Numbered f a (e ∷ ids) = (f e ≡ a) × Numbered f (suc a) ids

numbered_above : (f : ℕ → ℕ) (e a k : ℕ) (ids : List ℕ) → f e ≡ a → a < k → Numbered f k ids → AllByRecursion (λ b. on f nat_cmp e b ≡ Less) ids
numbered_above f e a k [] is l given = tt
numbered_above f e a k (b ∷ ids) is l given = (
  (let at = given.0 in less_is (f e) (f b) (omega (arith, is, at, l))),
  numbered_above f e a (suc k) ids is (omega (arith, l)) given.1,
)

pub numbered_rise : (f : ℕ → ℕ) (a : ℕ) (ids : List ℕ) → Numbered f a ids → Rises (on f nat_cmp) ids
numbered_rise f a [] given = tt
numbered_rise f a (e ∷ ids) given = (numbered_above f e a (suc a) ids given.0 (omega arith) given.1, numbered_rise f (suc a) ids given.1)

module _ (x : ℕ) where
  pub same_one : (e a : ℕ) (d : Data) → IsThere d.rows e → SameBut x d (restamped_in x e a d)
  same_one e a d there = record {
    rows = rows_plain x e a d;
    next = refl;
    arrivals = refl;
    kept = refl;
    long = refl;
    orders = λ y ne. refl;
    stamped = refl;
    stamps = λ y b ne. stamp_other x e a d there y b ne;
  }

  pub long_one : (e a : ℕ) (d : Data) → IsThere d.rows e → Long x d → Long x (restamped_in x e a d)
  long_one e a d there long b here =
      elim (eqb_tells b e) [
        | inl same ↦ subst (λ q. x < length (content_of (restamped_in x e a d).rows q).stamps) (sym same.1)
            (subst (λ (c : Content). x < length c.stamps) (sym (ap content_in (node_with e (with_stamp x a (content_of d.rows e)) d.rows there.0 there.1)))
            (subst (λ n. x < n) (sym (length-set (content_of d.rows e).stamps x a)) (long e there)))
        | inr other ↦ subst (λ (c : Content). x < length c.stamps) (sym (ap content_in (node_beside b e (with_stamp x a (content_of d.rows e)) d.rows other.1)))
            (long b (there_was x e a d there b here))
      ]

  -- rows that are there stay
  there_all : (ids : List ℕ) (a : ℕ) (d : Data) (b : ℕ) → IsThere d.rows b → IsThere (restamped_all x ids a d).rows b
  there_all [] a d b there = there
  there_all (e ∷ ids) a d b there = there_still x e a (restamped_all x ids (suc a) d) b (there_all ids (suc a) d b there)

  pub same_all : (ids : List ℕ) (a : ℕ) (d : Data) → AllByRecursion (IsThere d.rows) ids → SameBut x d (restamped_all x ids a d)
  same_all [] a d all = same_itself x d
  same_all (e ∷ ids) a d all =
      same_both x d (restamped_all x ids (suc a) d) (restamped_all x (e ∷ ids) a d) (same_all ids (suc a) d all.1)
      (same_one e a (restamped_all x ids (suc a) d) (there_all ids (suc a) d e all.0))

  long_all : (ids : List ℕ) (a : ℕ) (d : Data) → AllByRecursion (IsThere d.rows) ids → Long x d → Long x (restamped_all x ids a d)
  long_all [] a d all long = long
  long_all (e ∷ ids) a d all long =
      long_one e a (restamped_all x ids (suc a) d) (there_all ids (suc a) d e all.0) (long_all ids (suc a) d all.1 long)

  head_all : (e : ℕ) (ids : List ℕ) (a : ℕ) (d : Data) → AllByRecursion (IsThere d.rows) (e ∷ ids) → Long x d
      → stamp_of (restamped_all x (e ∷ ids) a d).rows x e ≡ a
  head_all e ids a d all long =
      let there = there_all ids (suc a) d e all.0 in
      stamp_here x e a (restamped_all x ids (suc a) d) there (long_all ids (suc a) d all.1 long e there)

  -- other rows keep the stamps that they were given
  numbered_on : (e a k : ℕ) (d : Data) (ids : List ℕ) → Lacks e ids → Numbered (stamp_of d.rows x) k ids
      → Numbered (stamp_of (restamped_in x e a d).rows x) k ids
  numbered_on e a k d [] lacks given = tt
  numbered_on e a k d (b ∷ ids) lacks given =
      (stamp_beside x e a d x b lacks.0 ∙ given.0, numbered_on e a (suc k) d ids lacks.1 given.1)

  numbered_all : (ids : List ℕ) (a : ℕ) (d : Data) → Once ids → AllByRecursion (IsThere d.rows) ids → Long x d
      → Numbered (stamp_of (restamped_all x ids a d).rows x) a ids
  numbered_all [] a d once all long = tt
  numbered_all (e ∷ ids) a d once all long = (
    head_all e ids a d all long,
    numbered_on e a (suc a) (restamped_all x ids (suc a) d) ids once.0 (numbered_all ids (suc a) d once.1 all.1 long),
  )

  -- their stamps rise
  rises_all : (ids : List ℕ) (a : ℕ) (d : Data) → Once ids → AllByRecursion (IsThere d.rows) ids → Long x d
      → Rises (on (stamp_of (restamped_all x ids a d).rows x) nat_cmp) ids
  rises_all ids a d once all long = numbered_rise (stamp_of (restamped_all x ids a d).rows x) a ids (numbered_all ids a d once all long)

  -- a stamp is one that was given, or the row's own
  given_all : (ids : List ℕ) (a : ℕ) (d : Data) → AllByRecursion (IsThere d.rows) ids → Long x d → (b : ℕ)
      → ((a ≤ stamp_of (restamped_all x ids a d).rows x b) × (stamp_of (restamped_all x ids a d).rows x b < a + length ids))
      ⊎ ((times b ids ≡ 0) × (stamp_of (restamped_all x ids a d).rows x b ≡ stamp_of d.rows x b))
  given_all [] a d all long b = inr (refl, refl)
  given_all (e ∷ ids) a d all long b =
      elim (eqb_tells e b) [
        | inl same ↦ inl (let h = subst (λ q. stamp_of (restamped_all x (e ∷ ids) a d).rows x q ≡ a) same.1 (head_all e ids a d all long) in
            (omega (arith, h), omega (arith, h)))
        | inr other ↦
            let kept = stamp_beside x e a (restamped_all x ids (suc a) d) x b (λ same. other.1 (sym same)) in
            elim (given_all ids (suc a) d all.1 long b) [
              | inl l ↦ inl (let low = l.0 in let high = l.1 in (omega (arith, low, kept), omega (arith, high, kept)))
              | inr own ↦ inr (
                (let n : cond {A = ℕ} (e == b) 1 0 ≡ 0 = ap (λ t. cond {A = ℕ} t 1 0) other.0 in let z = own.0 in omega (arith, n, z)),
                kept ∙ own.1,
              )
            ]
      ]

  -- where no row has one of the stamps that are given, the one before the first that was given is free
  pub next_free : (ids : List ℕ) (k n : ℕ) (d : Data) → AllByRecursion (IsThere d.rows) ids → Long x d → High x n d → k < n
      → (b : ℕ) → IsThere (restamped_all x ids (suc k) d).rows b → stamp_of (restamped_all x ids (suc k) d).rows x b ≢ k
  next_free ids k n d all long high l b there same =
      elim (given_all ids (suc k) d all long b) [
        | inl given ↦ let low = given.0 in absurd (omega (arith, low, same))
        | inr own ↦
            let h = high b (there_by_rows d (restamped_all x ids (suc k) d) (same_all ids (suc k) d all).rows b there) in
            let g = own.1 in absurd (omega (arith, h, g, same, l))
      ]

  -- and in the end all rows have low ones
  pub all_low : (ids : List ℕ) (d : Data) → ListsEach (as_table d) ids → Long x d
      → Low x (length ids) (restamped_all x ids 0 d)
  all_low ids d each long b there =
      let all = each_there d ids each in
      elim (given_all ids 0 d all long b) [
        | inl given ↦ let l = given.1 in omega (arith, l)
        | inr own ↦
            let was = there_by_rows d (restamped_all x ids 0 d) (same_all ids 0 d all).rows b there in
            let n : times b ids ≡ 1 = each b ∙ ap (λ t. cond {A = ℕ} t 1 0) (has_there d b was) in
            let z = own.0 in absurd (omega (arith, n, z))
      ]

pub long_of : (s : Shape) (d : Data) → IsData s d → (x : ℕ) → x < length d.orders → Long x d
long_of s d is x l b there = let long = stamps_long s d is b there in omega (arith, long, l)

pub one_stamped : (o : Order) (x : ℕ) (rows : List (ℕ × Node)) → has_stamps o ≡ true → listed x rows o ≡ ids_by_stamp x rows
one_stamped ById x rows has_ = absurd (false≢true has_)
one_stamped (ByKey ps) x rows has_ = refl
one_stamped (ByHash ps) x rows has_ = refl
one_stamped (Listed ids) x rows has_ = absurd (false≢true has_)

pub each_by_rows : (d n : Data) → map plain_row n.rows ≡ map plain_row d.rows → (ids : List ℕ) → ListsEach (as_table d) ids → ListsEach (as_table n) ids
each_by_rows d n same ids each e = each e ∙ ap (λ b. cond {A = ℕ} b 1 0) (sym (has_by_rows d n same e))

-- an index whose stamps rise along a list stands in its order
pub rising_list : (s : Shape) (x : ℕ) (ids : List ℕ) (n : Data) → IsData s n → x < length n.orders → has_stamps (order_at n.orders x) ≡ true
    → ListsEach (as_table n) ids → Rises (on (stamp_of n.rows x) nat_cmp) ids → list_of (as_table n) x ≡ ids
rising_list s x ids n after few has_now given up =
    let list : list_of (as_table n) x ≡ ids_by_stamp x n.rows = list_is n x few ∙ one_stamped (order_at n.orders x) x n.rows has_now in
    let whole : ListsEach (as_table n) (list_of (as_table n) x) =
    all_get (ListsEach (as_table n)) (as_table n).lists x after.table.complete (let f = long_lists 0 n.rows n.orders in omega (arith, f, few)) in
    let mine : ListsEach (as_table n) (ids_by_stamp x n.rows) = subst (ListsEach (as_table n)) list whole in
    list ∙ rises_once (on (stamp_of n.rows x) nat_cmp) (on_total (stamp_of n.rows x) nat_cmp_total) (ids_by_stamp x n.rows) ids
    (stamps_rise_in s n after x few has_now) up (λ e. mine e ∙ sym (given e))

-- the index stands in the order of the list
pub restamped_list : (s : Shape) (x : ℕ) (ids : List ℕ) (d : Data) → IsData s d → IsData s (restamped_all x ids 0 d) → x < length d.orders
    → has_stamps (order_at d.orders x) ≡ true → ListsEach (as_table d) ids → list_of (as_table (restamped_all x ids 0 d)) x ≡ ids
restamped_list s x ids d is after l has_ each =
    let n : Data = restamped_all x ids 0 d in
    let all = each_there d ids each in
    let same : SameBut x d n = same_all x ids 0 d all in
    let long = same.long in
    rising_list s x ids n after (omega (arith, long, l)) (same.stamped ∙ has_) (each_by_rows d n same.rows ids each)
    (rises_all x ids 0 d (each_once (as_table d) ids each) all (long_of s d is x l))

-- The list of a sequenced index

times_lacks : (e : ℕ) (ids : List ℕ) → Lacks e ids → times e ids ≡ 0
times_lacks e [] lacks = refl
times_lacks e (a ∷ ids) lacks =
    let none : cond {A = ℕ} (a == e) 1 0 ≡ 0 = ap (λ b. cond {A = ℕ} b 1 0) (is_other a e lacks.0) in
    let rest = times_lacks e ids lacks.1 in omega (arith, none, rest)

lacks_push : (b e : ℕ) (ids : List ℕ) → e ≢ b → Lacks b ids → Lacks b (ids ++ e ∷ [])
lacks_push b e [] ne lacks = (ne, tt)
lacks_push b e (a ∷ ids) ne lacks = (lacks.0, lacks_push b e ids ne lacks.1)

without_append : (e : ℕ) (xs ys : List ℕ) → without e (xs ++ ys) ≡ without e xs ++ without e ys
without_append e [] ys = refl
without_append e (a ∷ xs) ys =
    elim (eqb_tells a e) [
      | inl same ↦ drop_is e a (xs ++ ys) same.0 ∙ without_append e xs ys ∙ ap (λ q. q ++ without e ys) (sym (drop_is e a xs same.0))
      | inr other ↦ drop_isnt e a (xs ++ ys) other.0 ∙ ap (λ q. a ∷ q) (without_append e xs ys) ∙ ap (λ q. q ++ without e ys) (sym (drop_isnt e a xs other.0))
    ]

without_times : (b e : ℕ) (ids : List ℕ) → times b (without e ids) ≡ cond (e == b) 0 (times b ids)
without_times b e [] = elim (e == b) as (λ t. 0 ≡ cond {A = ℕ} t 0 0) [ true ↦ refl | false ↦ refl ]
without_times b e (a ∷ ids) =
    elim (eqb_tells e b) [
      | inl same ↦
          elim (eqb_tells a e) [
            | inl it ↦ ap (times b) (drop_is e a ids it.0) ∙ without_times b e ids
                ∙ ap (λ t. cond t 0 (times b ids)) same.0 ∙ sym (ap (λ t. cond t 0 (times b (a ∷ ids))) same.0)
            | inr isnt ↦ ap (times b) (drop_isnt e a ids isnt.0)
                ∙ (let rest = without_times b e ids ∙ ap (λ t. cond t 0 (times b ids)) same.0 in
                let none : cond {A = ℕ} (a == b) 1 0 ≡ 0 = ap (λ t. cond {A = ℕ} t 1 0) (is_other a b (λ h. isnt.1 (h ∙ sym same.1))) in
                let all : cond {A = ℕ} (a == b) 1 0 + times b (without e ids) ≡ 0 = omega (arith, rest, none) in all)
                ∙ sym (ap (λ t. cond t 0 (times b (a ∷ ids))) same.0)
          ]
      | inr other ↦
          elim (eqb_tells a e) [
            | inl it ↦ ap (times b) (drop_is e a ids it.0) ∙ without_times b e ids ∙ ap (λ t. cond t 0 (times b ids)) other.0
                ∙ (let none : cond {A = ℕ} (a == b) 1 0 ≡ 0 = ap (λ t. cond {A = ℕ} t 1 0) (is_other a b (λ h. other.1 (sym it.1 ∙ h))) in
                let all : times b ids ≡ cond {A = ℕ} (a == b) 1 0 + times b ids = omega (arith, none) in all)
                ∙ sym (ap (λ t. cond t 0 (times b (a ∷ ids))) other.0)
            | inr isnt ↦ ap (times b) (drop_isnt e a ids isnt.0)
                ∙ ap (λ n. cond {A = ℕ} (a == b) 1 0 + n) (without_times b e ids ∙ ap (λ t. cond t 0 (times b ids)) other.0)
                ∙ sym (ap (λ t. cond t 0 (times b (a ∷ ids))) other.0)
          ]
    ]

-- each goes to the end of a list
abbrev pub all_last : List ℕ → List ℕ → List ℕ
all_last [] l = l
all_last (e ∷ ids) l = all_last ids (without e l ++ e ∷ [])

all_last_is : (ids l done : List ℕ) → Once ids → ((b : ℕ) → times b l ≡ times b ids) → ((b : ℕ) → 0 < times b ids → Lacks b done)
    → all_last ids (l ++ done) ≡ done ++ ids
all_last_is [] [] done once same apart = sym (append-nil done)
all_last_is [] (a ∷ l) done once same apart = absurd (let n : times a (a ∷ l) ≡ 0 = same a in let p = times_first a l in omega (arith, n, p))
all_last_is (e ∷ ids) l done once same apart =
    let step : without e (l ++ done) ++ e ∷ [] ≡ without e l ++ (done ++ e ∷ []) =
    ap (λ q. q ++ e ∷ []) (without_append e l done ∙ ap (λ q. without e l ++ q) (without_lacks e done (apart e (times_first e ids))))
    ∙ append_assoc (without e l) done (e ∷ []) in
    let none : times e ids ≡ 0 = times_lacks e ids once.0 in
    ap (all_last ids) step
    ∙ all_last_is ids (without e l) (done ++ e ∷ []) once.1
    (λ b. without_times b e l ∙ elim (eqb_tells e b) [
      | inl it ↦ ap (λ t. cond t 0 (times b l)) it.0 ∙ sym (ap (λ q. times q ids) (sym it.1) ∙ none)
      | inr isnt ↦ ap (λ t. cond t 0 (times b l)) isnt.0
          ∙ (let h : times b l ≡ cond {A = ℕ} (e == b) 1 0 + times b ids = same b in
          let z : cond {A = ℕ} (e == b) 1 0 ≡ 0 = ap (λ t. cond {A = ℕ} t 1 0) isnt.0 in
          let q : times b l ≡ times b ids = omega (arith, h, z) in q)
    ])
    (λ b some. lacks_push b e done (λ it. absurd (let z : times b ids ≡ 0 = ap (λ q. times q ids) (sym it) ∙ none in omega (arith, z, some)))
    (apart b (omega (arith, some))))
    ∙ append_assoc done (e ∷ []) ids

one_has : (f : List ℕ → List ℕ) (o : Order) → has_stamps (in_order f o) ≡ has_stamps o
one_has f ById = refl
one_has f (ByKey ps) = refl
one_has f (ByHash ps) = refl
one_has f (Listed l) = refl

module _ (x : ℕ) where
  same_move : (e : ℕ) (d : Data) → x < length d.orders → SameBut x d (relocated_in x e None d)
  same_move e d l = record {
    rows = refl;
    next = refl;
    arrivals = refl;
    kept = refl;
    long = length-set d.orders x (in_order (relocated None e) (order_at d.orders x));
    orders = λ y ne. get_or-set_other d.orders x y (in_order (relocated None e) (order_at d.orders x)) ById ne;
    stamped = ap has_stamps (get_or-set_same d.orders x (in_order (relocated None e) (order_at d.orders x)) ById l) ∙ one_has (relocated None e) (order_at d.orders x);
    stamps = λ y b ne. refl;
  }

  few_moved : (e : ℕ) (d : Data) → x < length d.orders → x < length (relocated_in x e None d).orders
  few_moved e d l = subst (λ n. x < n) (sym (length-set d.orders x (in_order (relocated None e) (order_at d.orders x)))) l

  pub same_moved : (ids : List ℕ) (d : Data) → x < length d.orders → SameBut x d (moved_all x ids d)
  same_moved [] d l = same_itself x d
  same_moved (e ∷ ids) d l =
      same_both x d (relocated_in x e None d) (moved_all x ids (relocated_in x e None d)) (same_move e d l)
      (same_moved ids (relocated_in x e None d) (few_moved e d l))

  moved_order_is : (ids l : List ℕ) (d : Data) → x < length d.orders → order_at d.orders x ≡ Listed l
      → order_at (moved_all x ids d).orders x ≡ Listed (all_last ids l)
  moved_order_is [] l d few is = is
  moved_order_is (e ∷ ids) l d few is =
      moved_order_is ids (without e l ++ e ∷ []) (relocated_in x e None d) (few_moved e d few)
      (get_or-set_same d.orders x (in_order (relocated None e) (order_at d.orders x)) ById few ∙ ap (in_order (relocated None e)) is)

  pub moved_more : (ids : List ℕ) (e : ℕ) (d : Data) → moved_all x (ids ++ e ∷ []) d ≡ relocated_in x e None (moved_all x ids d)
  moved_more [] e d = refl
  moved_more (b ∷ ids) e d = moved_more ids e (relocated_in x b None d)

-- the list of the index is the given one
pub moved_list : (s : Shape) (x : ℕ) (ids l : List ℕ) (d : Data) → IsData s d → x < length d.orders → order_at d.orders x ≡ Listed l
    → ListsEach (as_table d) ids → list_of (as_table (moved_all x ids d)) x ≡ ids
moved_list s x ids l d is few listed_ each =
    let n : Data = moved_all x ids d in
    let long = (same_moved x ids d few).long in
    let whole : ListsEach (as_table d) (list_of (as_table d) x) =
    all_get (ListsEach (as_table d)) (as_table d).lists x is.table.complete (let f = long_lists 0 d.rows d.orders in omega (arith, f, few)) in
    let mine : ListsEach (as_table d) l = subst (ListsEach (as_table d)) (list_is d x few ∙ ap (listed x d.rows) listed_) whole in
    list_is n x (omega (arith, long, few)) ∙ ap (listed x n.rows) (moved_order_is x ids l d few listed_)
    ∙ ap (all_last ids) (sym (append-nil l))
    ∙ all_last_is ids l [] (each_once (as_table d) ids each) (λ b. mine b ∙ sym (each b)) (λ b some. tt)

fits_low : (old new : ℕ) (os : List Order) (stamps : List ℕ) → StampsFit old os stamps
    → ((x : ℕ) → has_stamps (get_or os x ById) ≡ true → get_or stamps x 0 < new) → StampsFit new os stamps
fits_low old new [] [] fit low = tt
fits_low old new [] (a ∷ stamps) fit low = absurd fit
fits_low old new (o ∷ os) [] fit low = absurd fit
fits_low old new (o ∷ os) (a ∷ stamps) fit low = (one_low o fit.0 (low 0), fits_low old new os stamps fit.1 (λ x h. low (suc x) h))
  where
    one_low : (o : Order) → StampFits old o a → (has_stamps o ≡ true → a < new) → StampFits new o a
    one_low ById f l = f
    one_low (ByKey ps) f l = l refl
    one_low (ByHash ps) f l = l refl
    one_low (Listed ids) f l = f

-- every stamp is below that count
abbrev pub AllLow : ℕ → Data → Type 0
AllLow n d = (x : ℕ) → has_stamps (order_at d.orders x) ≡ true → Low x n d

-- other counters that are beyond the ids and the stamps
pub is_data_counted : (s : Shape) (d : Data) (a n : ℕ) → IsData s d → d.kept ≡ [] → Rise a (map plain_row d.rows) → AllLow n d
    → IsData s (record d { next = a; arrivals = n })
is_data_counted s d a n is none_kept rise low = record {
  table = record { ordered = rise; one_each = is.table.one_each; complete = is.table.complete };
  unique_keys = is.unique_keys;
  kinds = is.kinds;
  stamped = λ e k h. fits_low d.arrivals n d.orders k.content.stamps (is.stamped e k h)
      (λ x has_. subst (λ q. q < n) (stamp_there d.rows x e (k, h)) (low x has_ e (k, h)));
  apart = is.apart;
  names = is.names;
  kept = subst (Climbs a) (sym none_kept) tt;
  gone = is.gone;
}

pub rise_more : (a n : ℕ) (rows : List (ℕ × List Value)) → a ≤ n → Rise a rows → Rise n rows
rise_more a n [] l up = tt
rise_more a n (r ∷ rows) l up = (let f = up.0 in omega (arith, f, l), up.1, rise_more a n rows l up.2)

-- As far as a loop over the ids has come

pub all_at : (P : ℕ → Type 0) (k : ℕ) (ids : List ℕ) → k < length ids → AllByRecursion P ids → P (get_or ids k 0)
all_at P k [] l all = absurd (omega arith)
all_at P zero (e ∷ ids) l all = all.0
all_at P (suc k) (e ∷ ids) l all = all_at P k ids (omega arith) all.1

all_drop : (P : ℕ → Type 0) (k : ℕ) (ids : List ℕ) → AllByRecursion P ids → AllByRecursion P (drop k ids)
all_drop P zero ids all = all
all_drop P (suc k) [] all = tt
all_drop P (suc k) (e ∷ ids) all = all_drop P k ids all.1

drop_at : (k : ℕ) (ids : List ℕ) → k < length ids → drop k ids ≡ get_or ids k 0 ∷ drop (suc k) ids
drop_at k [] l = absurd (omega arith)
drop_at zero (e ∷ ids) l = refl
drop_at (suc k) (e ∷ ids) l = drop_at k ids (omega arith)

module _ (x : ℕ) (ids : List ℕ) (d : Data) (each : ListsEach (as_table d) ids) (k : ℕ) (few : k < length ids) where
  there_behind : AllByRecursion (IsThere d.rows) (drop (suc k) ids)
  there_behind = all_drop (IsThere d.rows) (suc k) ids (each_there d ids each)

  id_there : (n : Data) → map plain_row n.rows ≡ map plain_row d.rows → IsThere n.rows (get_or ids k 0)
  id_there n same = there_has n (get_or ids k 0)
      (has_by_rows d n same (get_or ids k 0) ∙ has_there d (get_or ids k 0) (all_at (IsThere d.rows) k ids few (each_there d ids each)))

  module _ (p : ℕ) (behind : p ≡ suc k) (n : Data) (now : n ≡ restamped_all x (drop p ids) p d) where
    stands : n ≡ restamped_all x (drop (suc k) ids) (suc k) d
    stands = now ∙ ap (λ q. restamped_all x (drop q ids) q d) behind

    pub same_so_far : SameBut x d n
    same_so_far = subst (SameBut x d) (sym stands) (same_all x (drop (suc k) ids) (suc k) d there_behind)

    pub id_stays : IsThere n.rows (get_or ids k 0)
    id_stays = id_there n same_so_far.rows

    pub free_so_far : Long x d → High x (length ids) d → (b : ℕ) → IsThere n.rows b → stamp_of n.rows x b ≢ k
    free_so_far long high b there same =
        next_free x (drop (suc k) ids) k (length ids) d there_behind long high few b
        (subst (λ (q : Data). IsThere q.rows b) stands there) (ap (λ (q : Data). stamp_of q.rows x b) (sym stands) ∙ same)

    pub restamped_next : (o : Data) → o ≡ restamped_in x (get_or ids k 0) k n → o ≡ restamped_all x (drop k ids) k d
    restamped_next o h = h ∙ ap (restamped_in x (get_or ids k 0) k) stands ∙ ap (λ q. restamped_all x q k d) (sym (drop_at k ids few))

  module _ (l : x < length d.orders) (n : Data) (is : n ≡ moved_all x (take k ids) d) where
    pub moved_so_far : SameBut x d n
    moved_so_far = subst (SameBut x d) (sym is) (same_moved x (take k ids) d l)

    pub id_moves : IsThere n.rows (get_or ids k 0)
    id_moves = id_there n moved_so_far.rows

    pub moved_next : (o : Data) → o ≡ relocated_in x (get_or ids k 0) None n → o ≡ moved_all x (take (k + 1) ids) d
    moved_next o h =
        h ∙ ap (relocated_in x (get_or ids k 0) None) is ∙ sym (moved_more x (take k ids) (get_or ids k 0) d)
        ∙ ap (λ q. moved_all x q d) (sym (take_more ids k 0 few))

-- All indexes, one after another

pub kinds_long : (is : List Index) (os : List Order) → KindsFit is os → length is ≡ length os
kinds_long [] [] k = refl
kinds_long [] (o ∷ os) k = absurd k
kinds_long (i ∷ is) [] k = absurd k
kinds_long (i ∷ is) (o ∷ os) k = ap suc (kinds_long is os k.1)

pub none_ordered : (n : ℕ) (lists : List (List ℕ)) (d : Data) → InOrderTo 0 n lists d d
none_ordered n lists d = record {
  within = omega arith;
  rows = refl;
  next = refl;
  arrivals = refl;
  kept = refl;
  long = refl;
  done = λ y l. absurd (omega (arith, l));
  low = λ y l has_. absurd (omega (arith, l));
  left = λ y l. refl;
  stamps = λ y b l. refl;
}

below_or_at : (y i : ℕ) → y < i + 1 → (y < i) ⊎ (y ≡ i)
below_or_at y i l = elim (eqb_tells y i) [ inl same ↦ inr same.1 | inr other ↦ inl (let ne = other.1 in omega (arith, l, ne)) ]

-- one index more
pub ordered_more : (i n : ℕ) (lists : List (List ℕ)) (d c o : Data) → InOrderTo i n lists d c → i < length d.orders → SameBut i c o
    → list_of (as_table o) i ≡ get_or lists i [] → (has_stamps (order_at o.orders i) ≡ true → Low i n o) → InOrderTo (i + 1) n lists d o
ordered_more i n lists d c o to few same list low_ = record {
  within = omega (arith, few);
  rows = same.rows ∙ to.rows;
  next = same.next ∙ to.next;
  arrivals = same.arrivals ∙ to.arrivals;
  kept = same.kept ∙ to.kept;
  long = same.long ∙ to.long;
  done = λ y l. elim (below_or_at y i l) [
    | inl below ↦ list_beside i c o same y (λ h. absurd (omega (arith, h, below)))
        (let g = to.long in omega (arith, g, few, below)) ∙ to.done y below
    | inr at ↦ subst (λ q. list_of (as_table o) q ≡ get_or lists q []) (sym at) list
  ];
  low = λ y l. elim (below_or_at y i l) [
    | inl below ↦ λ has_ b there.
        let ne : y ≢ i = (λ h. absurd (omega (arith, h, below))) in
        subst (λ q. q < n) (sym (same.stamps y b ne))
        (to.low y below (ap has_stamps (sym (same.orders y ne)) ∙ has_) b (there_by_rows c o same.rows b there))
    | inr at ↦ subst (λ q. has_stamps (order_at o.orders q) ≡ true → Low q n o) (sym at) low_
  ];
  left = λ y l. same.orders y (λ h. absurd (omega (arith, h, l))) ∙ to.left y (omega (arith, l));
  stamps = λ y b l. same.stamps y b (λ h. absurd (omega (arith, h, l))) ∙ to.stamps y b (omega (arith, l));
}

-- what is asked of the next index
module _ (i n : ℕ) (lists : List (List ℕ)) (d c : Data) (to : InOrderTo i n lists d c) where
  pub ordered_each : (ids : List ℕ) → ListsEach (as_table d) ids → ListsEach (as_table c) ids
  ordered_each ids each = each_by_rows d c to.rows ids each

  pub ordered_ids : (ids : List ℕ) → (order_at d.orders i ≡ ById → ids ≡ ids_of d.rows) → order_at c.orders i ≡ ById → ids ≡ ids_of c.rows
  ordered_ids ids by here = by (sym (to.left i (omega arith)) ∙ here) ∙ sym (ids_by_rows d c to.rows)

  -- which is still as it was
  pub ordered_now : i < length d.orders → AreByIds d → list_of (as_table c) i ≡ ids_of c.rows
  ordered_now few by =
      let g = to.long in
      list_is c i (omega (arith, g, few)) ∙ ap (listed i c.rows) (to.left i (omega arith))
      ∙ listed_same i d.rows c.rows (order_at d.orders i) (ids_by_rows d c to.rows) (λ b. to.stamps i b (omega arith))
      ∙ sym (list_is d i few) ∙ by i few ∙ sym (ids_by_rows d c to.rows)

  pub ordered_early : (k : ℕ) → AllLow k d → has_stamps (order_at c.orders i) ≡ true → Low i k c
  ordered_early k low has_ b there =
      subst (λ q. q < k) (sym (to.stamps i b (omega arith)))
      (low i (ap has_stamps (sym (to.left i (omega arith))) ∙ has_) b (there_by_rows d c to.rows b there))

lists_alike : (xs ys : List (List ℕ)) → length xs ≡ length ys → ((y : ℕ) → y < length xs → get_or xs y [] ≡ get_or ys y []) → xs ≡ ys
lists_alike [] [] long same = refl
lists_alike [] (b ∷ ys) long same = absurd (omega (arith, long))
lists_alike (a ∷ xs) [] long same = absurd (omega (arith, long))
lists_alike (a ∷ xs) (b ∷ ys) long same =
    let head = same 0 (omega arith) in
    let tail = lists_alike xs ys (omega (arith, long)) (λ y l. same (suc y) (omega (arith, l))) in
    λ i. head i ∷ tail i

stamps_within : (os : List Order) (x : ℕ) → has_stamps (get_or os x ById) ≡ true → x < length os
stamps_within [] x has_ = absurd (false≢true has_)
stamps_within (o ∷ os) zero has_ = omega arith
stamps_within (o ∷ os) (suc x) has_ = let l = stamps_within os x has_ in omega (arith, l)

-- in the end all lists are the given ones
module _ (i n : ℕ) (lists : List (List ℕ)) (d c : Data) (to : InOrderTo i n lists d c) (all : length d.orders ≤ i) (long : length lists ≡ length d.orders) where
  pub ordered_lists : lists_from 0 c.rows c.orders ≡ lists
  ordered_lists =
      let l = long_lists 0 c.rows c.orders in let g = to.long in
      lists_alike (lists_from 0 c.rows c.orders) lists (omega (arith, l, g, long)) (λ y f. to.done y (omega (arith, l, g, f, all)))

  pub ordered_low : AllLow n c
  ordered_low x has_ = to.low x (let f = stamps_within c.orders x has_ in let g = to.long in omega (arith, f, g, all)) has_

-- A row comes in

mapped_at : (f : List ℕ → List ℕ) (ls : List (List ℕ)) (x : ℕ) → x < length ls → get_or (map f ls) x [] ≡ f (get_or ls x [])
mapped_at f [] x l = absurd (omega arith)
mapped_at f (ids ∷ ls) zero l = refl
mapped_at f (ids ∷ ls) (suc x) l = mapped_at f ls x (omega arith)

pub length_map : {A B : Type 0} (f : A → B) (xs : List A) → length (map f xs) ≡ length xs
length_map f [] = refl
length_map f (a ∷ xs) = ap suc (length_map f xs)

pub map_push : {A B : Type 0} (f : A → B) (xs : List A) (a : A) → map f (xs ++ a ∷ []) ≡ map f xs ++ f a ∷ []
map_push f [] a = refl
map_push f (b ∷ xs) a = ap (λ q. f b ∷ q) (map_push f xs a)

length_push : {A : Type 0} (xs : List A) (a : A) → length (xs ++ a ∷ []) ≡ length xs + 1
length_push [] a = refl
length_push (b ∷ xs) a = let h = length_push xs a in omega (arith, h)

module _ (s : Shape) (rows : List (ℕ × List Value)) (d o : Data) (e : ℕ) (r : List Value) (at : Ref) (has_rows : HasRows rows d)
    (is : IsData s (record d { next = e })) (o_is : o ≡ inserted None at r (record d { next = e })) where
  abbrev new : Node
  new = new_node at r (record d { next = e })

  -- the list of an index has the new id last
  by_ids : AreByIds (inserted None at r (record d { next = e }))
  by_ids x l =
      let long : length (map (in_order (stand None e)) d.orders) ≡ length d.orders = length_map (in_order (stand None e)) d.orders in
      let lists = long_lists 0 d.rows d.orders in
      let few : x < length d.orders = omega (arith, long, l) in
      ap (λ (t : Table). list_of t x) (table_inserted s None at r (record d { next = e }) is tt)
      ∙ mapped_at (stand None e) (lists_from 0 d.rows d.orders) x (omega (arith, few, lists))
      ∙ ap (stand None e) (has_rows.by_ids x few) ∙ sym (map_push (λ (q : ℕ × Node). q.0) d.rows (e, new))

  pub row_added : HasRows (rows ++ (e, r) ∷ []) o
  row_added = subst (HasRows (rows ++ (e, r) ∷ [])) (sym o_is) (record {
    rows_are = map_push plain_row d.rows (e, new) ∙ ap (λ q. q ++ (e, r) ∷ []) has_rows.rows_are;
    by_ids = by_ids;
    arrivals = let a = has_rows.arrivals in let l = length_push rows (e, r) in omega (arith, a, l);
    kept = has_rows.kept;
  })

-- the next row's id may be next
pub next_data : (s : Shape) (d : Data) (e : ℕ) → IsData s d → d.kept ≡ [] → d.next ≤ e → IsData s (record d { next = e })
next_data s d e is none_kept l =
    is_data_counted s d e d.arrivals is none_kept (rise_more d.next e (map plain_row d.rows) l is.table.ordered)
    (λ x has_ b there. stamp_early s d is x has_ b there)

-- other counters while indexes are put in order: every stamp is below how many rows there are
pub rows_low : (s : Shape) (rows : List (ℕ × List Value)) (d : Data) → IsData s d → HasRows rows d → AllLow (length rows) d
rows_low s rows d is h x has_ b there = let l = stamp_early s d is x has_ b there in let a = h.arrivals in omega (arith, l, a)

pub rows_counted : (s : Shape) (rows : List (ℕ × List Value)) (d : Data) (n : ℕ) → IsData s d → HasRows rows d → length rows ≤ n
    → IsData s (record d { arrivals = n })
rows_counted s rows d n is h l =
    is_data_counted s d d.next n is h.kept is.table.ordered (λ x has_ b there. let e = rows_low s rows d is h x has_ b there in omega (arith, e, l))

pub size_is : (rows : List (ℕ × List Value)) (d : Data) → HasRows rows d → length (map plain_row d.rows) ≡ length rows
size_is rows d h = ap (λ (q : List (ℕ × List Value)). length q) h.rows_are

-- Rows that are left in reverse

rows_map : {P Q : ℕ × List Value → Type 0} → ((q : ℕ × List Value) → P q → Q q) → (rows : List (ℕ × List Value)) → AllByRecursion P rows → AllByRecursion Q rows
rows_map f [] all = tt
rows_map f (q ∷ rows) all = (f q all.0, rows_map f rows all.1)

least_rows : (rows : List (ℕ × List Value)) → AllByRecursion (λ (q : ℕ × List Value). 0 ≤ q.0) rows
least_rows [] = tt
least_rows (q ∷ rows) = (omega arith, least_rows rows)

rise_after : (m n : ℕ) (xs : List (ℕ × List Value)) (r : ℕ × List Value) (ys : List (ℕ × List Value)) → Rise m (xs ++ r ∷ ys)
    → AllByRecursion (λ (q : ℕ × List Value). n ≤ q.0) (xs ++ r ∷ ys) → next_after n xs ≤ r.0
rise_after m n [] r ys up least = least.0
rise_after m n (x ∷ xs) r ys up least =
    rise_after m (x.0 + 1) xs r ys up.2
    (rows_map {P = λ (q : ℕ × List Value). x.0 < q.0} {Q = λ (q : ℕ × List Value). x.0 + 1 ≤ q.0} (λ q l. omega (arith, l)) (xs ++ r ∷ ys) up.1)

rise_below : (m : ℕ) (xs : List (ℕ × List Value)) (r : ℕ × List Value) (ys : List (ℕ × List Value)) → Rise m (xs ++ r ∷ ys) → r.0 < m
rise_below m [] r ys up = up.0
rise_below m (x ∷ xs) r ys up = rise_below m xs r ys up.2

pub next_after_push : (n : ℕ) (xs : List (ℕ × List Value)) (r : ℕ × List Value) → next_after n (xs ++ r ∷ []) ≡ r.0 + 1
next_after_push n [] r = refl
next_after_push n (x ∷ xs) r = next_after_push (x.0 + 1) xs r

module _ (all done rest new : List (ℕ × List Value)) (e : ℕ) (r : List Value) (parts : done ++ reverse rest ≡ all) (popped : rest ≡ new ++ (e, r) ∷ []) where
  pub next_row : all ≡ done ++ (e, r) ∷ reverse new
  next_row = sym parts ∙ ap (λ q. done ++ reverse q) popped ∙ ap (λ q. done ++ q) (reverse-append new ((e, r) ∷ []))

  pub next_parts : (done ++ (e, r) ∷ []) ++ reverse new ≡ all
  next_parts = append_assoc done ((e, r) ∷ []) (reverse new) ∙ sym next_row

  -- where the ids rise the next one is above those in front of it, and below the last
  pub next_rises : (m : ℕ) → Rise m all → (next_after 0 done ≤ e) × (e < m)
  next_rises m up =
      let here = subst (Rise m) next_row up in
      (rise_after m 0 done (e, r) (reverse new) here (least_rows (done ++ (e, r) ∷ reverse new)), rise_below m done (e, r) (reverse new) here)

-- The ids of the rows, in their order

ids_above : (a : ℕ) (rows : List (ℕ × Node)) → AllByRecursion (λ (q : ℕ × Node). a < q.0) rows → AllByRecursion (λ b. nat_cmp a b ≡ Less) (ids_of rows)
ids_above a [] all = tt
ids_above a (q ∷ rows) all = (less_is a q.0 all.0, ids_above a rows all.1)

pub ids_rise : (next : ℕ) (rows : List (ℕ × Node)) → Climbs next rows → Rises nat_cmp (ids_of rows)
ids_rise next [] up = tt
ids_rise next (r ∷ rows) up = (ids_above r.0 rows up.1, ids_rise next rows up.2)

none_above : (e : ℕ) (rows : List (ℕ × Node)) → AllByRecursion (λ (q : ℕ × Node). e < q.0) rows → times e (ids_of rows) ≡ 0
none_above e [] all = refl
none_above e (q ∷ rows) all =
    let l = all.0 in
    let z : cond {A = ℕ} (q.0 == e) 1 0 ≡ 0 = ap (λ b. cond {A = ℕ} b 1 0) (is_other q.0 e (λ same. absurd (omega (arith, l, same)))) in
    let rest = none_above e rows all.1 in omega (arith, z, rest)

ids_counted : (next e : ℕ) (rows : List (ℕ × Node)) → Climbs next rows
    → times e (ids_of rows) ≡ cond {A = ℕ} (is_some (lookup (λ k. k == e) (map plain_row rows))) 1 0
ids_counted next e [] up = refl
ids_counted next e (r ∷ rows) up =
    elim (eqb_tells r.0 e) [
      | inl same ↦
          let rest : times e (ids_of rows) ≡ 0 = none_above e rows (subst (λ k. AllByRecursion (λ (q : ℕ × Node). k < q.0) rows) same.1 up.1) in
          let one_ : cond {A = ℕ} (r.0 == e) 1 0 ≡ 1 = ap (λ b. cond {A = ℕ} b 1 0) same.0 in
          let all : times e (ids_of (r ∷ rows)) ≡ 1 = omega (arith, rest, one_) in
          all ∙ sym (ap (λ b. cond {A = ℕ} (is_some (cond b (Some r.1.content.values) (lookup (λ k. k == e) (map plain_row rows)))) 1 0) same.0)
      | inr other ↦
          let zero_ : cond {A = ℕ} (r.0 == e) 1 0 ≡ 0 = ap (λ b. cond {A = ℕ} b 1 0) other.0 in
          let rest = ids_counted next e rows up.2 in
          let all : times e (ids_of (r ∷ rows)) ≡ cond {A = ℕ} (is_some (lookup (λ k. k == e) (map plain_row rows))) 1 0 = omega (arith, zero_, rest) in
          all ∙ sym (ap (λ b. cond {A = ℕ} (is_some (cond b (Some r.1.content.values) (lookup (λ k. k == e) (map plain_row rows)))) 1 0) other.0)
    ]

pub ids_each : (s : Shape) (d : Data) → IsData s d → ListsEach (as_table d) (ids_of d.rows)
ids_each s d is e = ids_counted d.next e d.rows (rows_climb s d is)

-- A list that is sorted

times_sum : (e : ℕ) (ids : List ℕ) → times e ids ≡ sum_by (λ a. cond {A = ℕ} (a == e) 1 0) ids
times_sum e [] = refl
times_sum e (a ∷ ids) = ap (λ n. cond {A = ℕ} (a == e) 1 0 + n) (times_sum e ids) ∙ sym (sum_by-cons (λ a. cond {A = ℕ} (a == e) 1 0) a ids)

times_moved : (xs ys : List ℕ) → IsPermutation xs ys → (e : ℕ) → times e ys ≡ times e xs
times_moved xs ys p e = times_sum e ys ∙ sum_by-IsPermutation (λ a. cond {A = ℕ} (a == e) 1 0) xs ys p ∙ sym (times_sum e xs)

above_all : (a : ℕ) (xs : List ℕ) → ((j : ℕ) → j < length xs → a ≤ get_or xs j 0) → Lacks a xs → AllByRecursion (λ b. nat_cmp a b ≡ Less) xs
above_all a [] f lacks = tt
above_all a (b ∷ xs) f lacks = (
  (let l = f 0 (omega arith) in let ne = lacks.0 in less_is a b (omega (arith, l, ne))),
  above_all a xs (λ j l. f (suc j) (omega (arith, l))) lacks.1,
)

sorted_rises : (xs : List ℕ) → ((i j : ℕ) → i ≤ j → j < length xs → get_or xs i 0 ≤ get_or xs j 0) → Once xs → Rises nat_cmp xs
sorted_rises [] f once = tt
sorted_rises (a ∷ xs) f once = (
  above_all a xs (λ j l. f 0 (suc j) (omega arith) (omega (arith, l))) once.0,
  sorted_rises xs (λ i j le l. f (suc i) (suc j) (omega (arith, le)) (omega (arith, l))) once.1,
)

module _ (s : Shape) (d : Data) (is : IsData s d) (ids list copy : List ℕ) (ids_are : ids ≡ ids_of d.rows) (moved : IsPermutation list copy) where
  pub list_has_ids : copy ≡ ids → ListsEach (as_table d) list
  list_has_ids same e = sym (times_moved list copy moved e) ∙ ap (times e) (same ∙ ids_are) ∙ ids_each s d is e

  pub list_long : copy ≡ ids → length list ≡ length ids
  list_long same = sym (length_permutation list copy moved) ∙ ap (λ (q : List ℕ). length q) same

  pub list_has_others : IsNonDecreasing copy → (copy ≡ ids → ⊥) → ListsEach (as_table d) list → ⊥
  list_has_others sorted_ other each =
      let here : ListsEach (as_table d) copy = λ e. times_moved list copy moved e ∙ each e in
      other (rises_once nat_cmp nat_cmp_total copy (ids_of d.rows)
      (sorted_rises copy (λ i j le l. sorted_ i j 0 le l) (each_once (as_table d) copy here)) (ids_rise d.next d.rows (rows_climb s d is))
      (λ e. here e ∙ sym (ids_each s d is e)) ∙ sym ids_are)

-- a claim on each list
pub each_list : (P : List ℕ → Type 0) (lists : List (List ℕ)) → ((x : ℕ) → x < length lists → P (get_or lists x [])) → AllByRecursion P lists
each_list P [] f = tt
each_list P (ids ∷ lists) f = (f 0 (omega arith), each_list P lists (λ x l. f (suc x) (omega (arith, l))))

-- What a container opens with, with other counters

pub opened_counted : (s : Shape) (d : Data) (n : ℕ) → IsData s d → d.rows ≡ [] → d.kept ≡ [] → IsData s (record d { next = 0; arrivals = n })
opened_counted s d n is none_ none_kept =
    is_data_counted s d 0 n is none_kept (subst (λ (q : List (ℕ × Node)). Rise 0 (map plain_row q)) (sym none_) tt)
    (λ x has_ b there. absurd (none_some (sym (ap (λ (q : List (ℕ × Node)). node_of q b) none_) ∙ there.1)))

nothing_listed : (ids : List ℕ) → ((b : ℕ) → times b ids ≡ 0) → ids ≡ []
nothing_listed [] none = refl
nothing_listed (a ∷ ids) none = absurd (let z = none a in let p = times_first a ids in omega (arith, z, p))

pub opened_rows : (s : Shape) (d : Data) → IsData s d → d.rows ≡ [] → d.kept ≡ [] → HasRows [] (record d { next = 0; arrivals = 0 })
opened_rows s d is none_ none_kept = record {
  rows_are = ap (map plain_row) none_;
  by_ids = λ x l.
      let each : ListsEach (as_table d) (list_of (as_table d) x) =
      all_get (ListsEach (as_table d)) (as_table d).lists x is.table.complete (let f = long_lists 0 d.rows d.orders in omega (arith, f, l)) in
      nothing_listed (list_of (as_table d) x)
      (λ b. each b ∙ ap (λ (q : List (ℕ × Node)). cond {A = ℕ} (is_some (lookup (λ k. k == b) (map plain_row q))) 1 0) none_)
      ∙ sym (ap (map (λ (q : ℕ × Node). q.0)) none_);
  arrivals = refl;
  kept = none_kept;
}

pub rows_fault : (s : Shape) (t : Table) (e : RestoreFault) → IsRowsFault s t.next t.rows e → IsRestoreFault s t e
rows_fault s t fault.Full h = absurd h
rows_fault s t fault.Counters h = absurd h
rows_fault s t fault.Lists h = absurd h
rows_fault s t (fault.Row a) h = absurd h
rows_fault s t (fault.Id a) h = h
rows_fault s t (fault.List x) h = absurd h
rows_fault s t (fault.Unique x a b) h = h
rows_fault s t fault.Memory h = tt

pub lists_fault : (s : Shape) (t u : Table) → u.rows ≡ t.rows → (e : RestoreFault) → IsListsFault s u t.lists e → IsRestoreFault s t e
lists_fault s t u same fault.Full h = absurd h.2
lists_fault s t u same fault.Counters h = absurd h.2
lists_fault s t u same fault.Lists h = absurd h.2
lists_fault s t u same (fault.Row a) h = absurd h.2
lists_fault s t u same (fault.Id a) h = absurd h.2
lists_fault s t u same (fault.List x) h =
    subst (λ rows. IsListsFault s (record { rows = rows; lists = u.lists; next = u.next; arrivals = u.arrivals }) t.lists (fault.List x)) same h
lists_fault s t u same (fault.Unique x a b) h = absurd h.2
lists_fault s t u same fault.Memory h = tt

-- the ids of rows that have come in
pub ids_of_rows : (rows : List (ℕ × List Value)) (d : Data) (ids : List ℕ) → HasRows rows d → ids ≡ map (λ r. r.0) rows → ids ≡ ids_of d.rows
ids_of_rows rows d ids h is = is ∙ ap (map (λ (r : ℕ × List Value). r.0)) (sym h.rows_are) ∙ plain_ids d.rows

pub ids_long : (rows : List (ℕ × List Value)) (d : Data) → HasRows rows d → length (ids_of d.rows) ≡ length rows
ids_long rows d h = length_map (λ (r : ℕ × Node). r.0) d.rows ∙ sym (length_map plain_row d.rows) ∙ ap (λ (q : List (ℕ × List Value)). length q) h.rows_are

-- All in order, with the counters

module _ (s : Shape) (n : ℕ) (rows : List (ℕ × List Value)) (lists : List (List ℕ)) (next arrivals : ℕ) (d c : Data)
    (rows_were : map plain_row d.rows ≡ rows) (none_kept : d.kept ≡ []) (i : ℕ) (to : InOrderTo i n lists d c) (is : IsData s c) (all : length d.orders ≤ i) (long : length lists ≡ length d.orders)
    (below : d.next ≤ next) (enough : n ≤ arrivals) where
  pub filled_kept : c.kept ≡ []
  filled_kept = to.kept ∙ none_kept

  pub filled_data : IsData s (record c { next = next; arrivals = arrivals })
  filled_data =
      is_data_counted s c next arrivals is filled_kept
      (rise_more c.next next (map plain_row c.rows) (let e = to.next in omega (arith, e, below)) is.table.ordered)
      (λ x has_ b there. let l = ordered_low i n lists d c to all long x has_ b there in omega (arith, l, enough))

  pub filled_table : (o : Data) → o ≡ record c { next = next; arrivals = arrivals }
      → as_table o ≡ record { rows = rows; lists = lists; next = next; arrivals = arrivals }
  filled_table o o_is =
      let rows_are = to.rows ∙ rows_were in
      let lists_are = ordered_lists i n lists d c to all long in
      ap as_table o_is ∙ (λ j. record { rows = rows_are j; lists = lists_are j; next = next; arrivals = arrivals })
