-- Rows that get rising stamps above all others in one index stand there behind the others, in the order of their list.
-- Cited by `mi_multi`.
use Rattle.std.proofs.Common.{◌≡◌, ◌≢◌, ℕ, ◌+◌, ◌<◌, ◌≤◌, zero, suc, true, cond, inl, inr, List}
use Rattle.std.proofs.Common.{[], ◌∷◌, ◌++◌, length, get_or, take, drop, refl, ap, sym, ◌∙◌, subst, arith}
use Rattle.std.specs.Prelude.{◌==◌}
use Rattle.std.specs.List.{AllByRecursion}
use Rattle.std.specs.Ordering.{on, nat_cmp}
use Rattle.std.proofs.lemmas.Bool.Decides.{eqb_tells}
use Rattle.std.proofs.lemmas.Cmp.{ranked}
use Rattle.std.proofs.lemmas.List.{take_more}
use Rattle.std.specs.declared.cmp.Ordering.TheVariants.{Less}
use Rattle.mi_catalog.specs.Shape.{Shape}
use Rattle.mi_model.specs.Table.{ListsEach, times, list_of}
use Rattle.mi_model.proofs.StampLaws.{Rises, of_one}
use Rattle.mi_model.proofs.ViewLaws.{Lacks}
use Rattle.mi_container.specs.Data.{Data, has_stamps, stamp_of, ids_of, order_at, as_table, IsData}
use Rattle.mi_container.specs.Fits.{IsThere}
use Rattle.mi_container.specs.Restore.{restamped_in, raised_all, Rising, High, Low, SameBut}
use Rattle.mi_container.proofs.SequenceLemmas.{Once}
use Rattle.mi_container.proofs.InvariantLemmas.{has_there, each_there, each_once, rows_climb}
use Rattle.mi_container.proofs.ViewLemmas.{stamps_rise_in}
use Rattle.mi_container.proofs.RestampLemmas.{there_still, there_was, stamp_beside, stamp_here}
use Rattle.mi_container.proofs.RestoreLemmas.{all_map, all_at, less_is, same_itself, same_both, there_by_rows, list_is, Long, Numbered, numbered_rise}
use Rattle.mi_container.proofs.RestoreLemmas.{same_one, long_one, long_of, one_stamped, each_by_rows, rising_list, ids_each, ids_rise}

module _ (x : ℕ) where
  there_one : (e a : ℕ) (d : Data) (ids : List ℕ) → AllByRecursion (IsThere d.rows) ids → AllByRecursion (IsThere (restamped_in x e a d).rows) ids
  there_one e a d ids all = all_map (λ b there. there_still x e a d b there) ids all

  there_raised : (ids : List ℕ) (a : ℕ) (d : Data) (b : ℕ) → IsThere d.rows b → IsThere (raised_all x ids a d).rows b
  there_raised [] a d b there = there
  there_raised (e ∷ ids) a d b there = there_raised ids (suc a) (restamped_in x e a d) b (there_still x e a d b there)

  pub same_raised : (ids : List ℕ) (a : ℕ) (d : Data) → AllByRecursion (IsThere d.rows) ids → SameBut x d (raised_all x ids a d)
  same_raised [] a d all = same_itself x d
  same_raised (e ∷ ids) a d all =
      same_both x d (restamped_in x e a d) (raised_all x (e ∷ ids) a d) (same_one x e a d all.0)
      (same_raised ids (suc a) (restamped_in x e a d) (there_one e a d ids all.1))

  low_one : (e a : ℕ) (d : Data) → IsThere d.rows e → Long x d → Low x a d → Low x (suc a) (restamped_in x e a d)
  low_one e a d there long low b here =
      elim (eqb_tells b e) [
        | inl same ↦
            let own : stamp_of (restamped_in x e a d).rows x b ≡ a =
            ap (λ q. stamp_of (restamped_in x e a d).rows x q) same.1 ∙ stamp_here x e a d there (long e there) in omega (arith, own)
        | inr other ↦
            let kept = stamp_beside x e a d x b other.1 in
            let l = low b (there_was x e a d there b here) in omega (arith, kept, l)
      ]

  -- where all stamps were below the first that is given, all are below the next one
  pub low_raised : (ids : List ℕ) (a : ℕ) (d : Data) → AllByRecursion (IsThere d.rows) ids → Long x d → Low x a d → Low x (a + length ids) (raised_all x ids a d)
  low_raised [] a d all long low b here = let l = low b here in omega (arith, l)
  low_raised (e ∷ ids) a d all long low b here =
      let l = low_raised ids (suc a) (restamped_in x e a d) (there_one e a d ids all.1) (long_one x e a d all.0 long) (low_one e a d all.0 long low) b here in
      omega (arith, l)

  -- other rows keep theirs
  kept_raised : (b : ℕ) (ids : List ℕ) (a : ℕ) (d : Data) → Lacks b ids → stamp_of (raised_all x ids a d).rows x b ≡ stamp_of d.rows x b
  kept_raised b [] a d lacks = refl
  kept_raised b (e ∷ ids) a d lacks = kept_raised b ids (suc a) (restamped_in x e a d) lacks.1 ∙ stamp_beside x e a d x b (λ same. lacks.0 (sym same))

  numbered_raised : (ids : List ℕ) (a : ℕ) (d : Data) → Once ids → AllByRecursion (IsThere d.rows) ids → Long x d
      → Numbered (stamp_of (raised_all x ids a d).rows x) a ids
  numbered_raised [] a d once all long = tt
  numbered_raised (e ∷ ids) a d once all long = (
    kept_raised e ids (suc a) (restamped_in x e a d) once.0 ∙ stamp_here x e a d all.0 (long e all.0),
    numbered_raised ids (suc a) (restamped_in x e a d) once.1 (there_one e a d ids all.1) (long_one x e a d all.0 long),
  )

  raised_more : (ids : List ℕ) (e a : ℕ) (d : Data) → raised_all x (ids ++ e ∷ []) a d ≡ restamped_in x e (a + length ids) (raised_all x ids a d)
  raised_more [] e a d = let same : a ≡ a + 0 = omega arith in ap (λ n. restamped_in x e n d) same
  raised_more (b ∷ ids) e a d =
      let same : suc a + length ids ≡ a + suc (length ids) = omega arith in
      raised_more ids e (suc a) (restamped_in x b a d) ∙ ap (λ n. restamped_in x e n (raised_all x (b ∷ ids) a d)) same

all_take : (P : ℕ → Type 0) (k : ℕ) (ids : List ℕ) → AllByRecursion P ids → AllByRecursion P (take k ids)
all_take P zero ids all = tt
all_take P (suc k) [] all = tt
all_take P (suc k) (e ∷ ids) all = (all.0, all_take P k ids all.1)

long_take : (k : ℕ) (ids : List ℕ) → k ≤ length ids → length (take k ids) ≡ k
long_take zero ids l = refl
long_take (suc k) [] l = absurd (omega (arith, l))
long_take (suc k) (e ∷ ids) l = ap suc (long_take k ids (omega (arith, l)))

-- As far as a loop over the ids has come

module _ (x : ℕ) (ids : List ℕ) (a : ℕ) (d : Data) (all : AllByRecursion (IsThere d.rows) ids) (k : ℕ) (few : k < length ids)
    (n : Data) (now : n ≡ raised_all x (take k ids) a d) where
  pub raised_so_far : SameBut x d n
  raised_so_far = subst (SameBut x d) (sym now) (same_raised x (take k ids) a d (all_take (IsThere d.rows) k ids all))

  pub id_there : IsThere n.rows (get_or ids k 0)
  id_there = subst (λ (q : Data). IsThere q.rows (get_or ids k 0)) (sym now)
      (there_raised x (take k ids) a d (get_or ids k 0) (all_at (IsThere d.rows) k ids few all))

  pub raised_free : Long x d → Low x a d → (b : ℕ) → IsThere n.rows b → stamp_of n.rows x b ≢ a + k
  raised_free long low b there same =
      let l = subst (Low x (a + length (take k ids))) (sym now) (low_raised x (take k ids) a d (all_take (IsThere d.rows) k ids all) long low) b there in
      let count = long_take k ids (omega (arith, few)) in
      absurd (omega (arith, l, count, same))

  pub raised_next : (o : Data) → o ≡ restamped_in x (get_or ids k 0) (a + k) n → o ≡ raised_all x (take (k + 1) ids) a d
  raised_next o h =
      let count = long_take k ids (omega (arith, few)) in
      h ∙ ap (restamped_in x (get_or ids k 0) (a + k)) now
      ∙ ap (λ q. restamped_in x (get_or ids k 0) (a + q) (raised_all x (take k ids) a d)) (sym count)
      ∙ sym (raised_more x (take k ids) (get_or ids k 0) a d)
      ∙ ap (λ q. raised_all x q a d) (sym (take_more ids k 0 few))

-- All rows get new stamps: none is below the first

numbered_high : (f : ℕ → ℕ) (a : ℕ) (ids : List ℕ) → Numbered f a ids → AllByRecursion (λ b. a ≤ f b) ids
numbered_high f a [] given = tt
numbered_high f a (e ∷ ids) given = (
  (let h = given.0 in omega (arith, h)),
  all_map (λ b l. omega (arith, l)) ids (numbered_high f (suc a) ids given.1),
)

pub high_raised : (x : ℕ) (ids : List ℕ) (a : ℕ) (d : Data) → ListsEach (as_table d) ids → Long x d → High x a (raised_all x ids a d)
high_raised x ids a d each long b there =
    let all = each_there d ids each in
    let was = there_by_rows d (raised_all x ids a d) (same_raised x ids a d all).rows b there in
    of_one (λ q. a ≤ stamp_of (raised_all x ids a d).rows x q) b ids
    (numbered_high (stamp_of (raised_all x ids a d).rows x) a ids (numbered_raised x ids a d (each_once (as_table d) ids each) all long))
    (let n : times b ids ≡ 1 = each b ∙ ap (λ t. cond {A = ℕ} t 1 0) (has_there d b was) in omega (arith, n))

pub there_after : (x : ℕ) (d n : Data) → SameBut x d n → (ids : List ℕ) → ListsEach (as_table d) ids → ListsEach (as_table n) ids
there_after x d n same ids each = each_by_rows d n same.rows ids each

-- The rows of a list behind those that rise get new stamps

-- two lists that rise, the first below the second
rises_both : (f : ℕ → ℕ) (xs ys : List ℕ) → Rises (on f nat_cmp) xs → Rises (on f nat_cmp) ys → AllByRecursion (λ e. AllByRecursion (λ b. on f nat_cmp e b ≡ Less) ys) xs
    → Rises (on f nat_cmp) (xs ++ ys)
rises_both f [] ys up down below = down
rises_both f (e ∷ xs) ys up down below = (both xs up.0, rises_both f xs ys up.1 down below.1)
  where
    both : (zs : List ℕ) → AllByRecursion (λ b. on f nat_cmp e b ≡ Less) zs → AllByRecursion (λ b. on f nat_cmp e b ≡ Less) (zs ++ ys)
    both [] all = below.0
    both (z ∷ zs) all = (all.0, both zs all.1)

-- where a list rises both ways, ids and stamps are in one order
rise_alike : (f : ℕ → ℕ) (xs : List ℕ) → Rises nat_cmp xs → Rises (on f nat_cmp) xs → (e b : ℕ) → 0 < times e xs → 0 < times b xs → e < b → on f nat_cmp e b ≡ Less
rise_alike f [] up stamps e b here there l = absurd (omega (arith, here))
rise_alike f (a ∷ xs) up stamps e b here there l =
    elim (eqb_tells a e) [
      | inl same ↦
          let at = same.1 in
          subst (λ q. on f nat_cmp q b ≡ Less) same.1
          (of_one (λ q. on f nat_cmp a q ≡ Less) b xs stamps.0 (behind b there (λ is. absurd (omega (arith, is, at, l)))))
      | inr other ↦
          let some = behind e here other.1 in
          let less : a < e = ranked a e Less (sym (of_one (λ q. nat_cmp a q ≡ Less) e xs up.0 some)) in
          rise_alike f xs up.1 stamps.1 e b some (behind b there (λ is. absurd (omega (arith, is, less, l)))) l
    ]
  where
    behind : (q : ℕ) → 0 < times q (a ∷ xs) → a ≢ q → 0 < times q xs
    behind q some ne =
        elim (eqb_tells a q) [
          | inl same ↦ absurd (ne same.1)
          | inr isnt ↦ let z : cond {A = ℕ} (a == q) 1 0 ≡ 0 = ap (λ t. cond {A = ℕ} t 1 0) isnt.0 in omega (arith, some, z)
        ]

rises_same : (f g : ℕ → ℕ) (xs : List ℕ) → AllByRecursion (λ e. f e ≡ g e) xs → Rises (on g nat_cmp) xs → Rises (on f nat_cmp) xs
rises_same f g [] all up = tt
rises_same f g (e ∷ xs) all up = (each xs all.1 up.0, rises_same f g xs all.1 up.1)
  where
    each : (ys : List ℕ) → AllByRecursion (λ b. f b ≡ g b) ys → AllByRecursion (λ b. on g nat_cmp e b ≡ Less) ys → AllByRecursion (λ b. on f nat_cmp e b ≡ Less) ys
    each [] same less = tt
    each (b ∷ ys) same less = (ap (λ q. nat_cmp q (f b)) all.0 ∙ ap (nat_cmp (g e)) same.0 ∙ less.0, each ys same.1 less.1)

parts : (k : ℕ) (ids : List ℕ) → take k ids ++ drop k ids ≡ ids
parts zero ids = refl
parts (suc k) [] = refl
parts (suc k) (e ∷ ids) = ap (λ q. e ∷ q) (parts k ids)

all_back : (P : ℕ → Type 0) (xs ys : List ℕ) → AllByRecursion P (xs ++ ys) → AllByRecursion P ys
all_back P [] ys all = all
all_back P (x ∷ xs) ys all = all_back P xs ys all.1

all_front : (P : ℕ → Type 0) (xs ys : List ℕ) → AllByRecursion P (xs ++ ys) → AllByRecursion P xs
all_front P [] ys all = tt
all_front P (x ∷ xs) ys all = (all.0, all_front P xs ys all.1)

once_behind : (xs ys : List ℕ) → Once (xs ++ ys) → Once ys
once_behind [] ys once = once
once_behind (x ∷ xs) ys once = once_behind xs ys once.1

once_apart : (xs ys : List ℕ) → Once (xs ++ ys) → AllByRecursion (λ e. Lacks e ys) xs
once_apart [] ys once = tt
once_apart (x ∷ xs) ys once = (all_back (λ a. a ≢ x) xs ys once.0, once_apart xs ys once.1)

all_both : (P Q R : ℕ → Type 0) (xs : List ℕ) → ((e : ℕ) → P e → Q e → R e) → AllByRecursion P xs → AllByRecursion Q xs → AllByRecursion R xs
all_both P Q R [] f p q = tt
all_both P Q R (x ∷ xs) f p q = (f x p.0 q.0, all_both P Q R xs f p.1 q.1)

module _ (s : Shape) (x : ℕ) (d : Data) (is : IsData s d) (few : x < length d.orders) (has_ : has_stamps (order_at d.orders x) ≡ true)
    (by_ids : list_of (as_table d) x ≡ ids_of d.rows) (ids_up : Rises nat_cmp (ids_of d.rows)) where
  stamps_up : Rises (on (stamp_of d.rows x) nat_cmp) (ids_of d.rows)
  stamps_up = subst (Rises (on (stamp_of d.rows x) nat_cmp))
      (sym (list_is d x few ∙ one_stamped (order_at d.orders x) x d.rows has_) ∙ by_ids) (stamps_rise_in s d is x few has_)

  counted : (b : ℕ) → IsThere d.rows b → 0 < times b (ids_of d.rows)
  counted b there = let n : times b (ids_of d.rows) ≡ 1 = ids_each s d is b ∙ ap (λ t. cond {A = ℕ} t 1 0) (has_there d b there) in omega (arith, n)

  -- a part that rises by its ids rises by its stamps
  front_up : (xs : List ℕ) → AllByRecursion (IsThere d.rows) xs → Rises nat_cmp xs → Rises (on (stamp_of d.rows x) nat_cmp) xs
  front_up [] all up = tt
  front_up (e ∷ xs) all up = (each xs all.1 up.0, front_up xs all.1 up.1)
    where
      each : (ys : List ℕ) → AllByRecursion (IsThere d.rows) ys → AllByRecursion (λ b. nat_cmp e b ≡ Less) ys
          → AllByRecursion (λ b. on (stamp_of d.rows x) nat_cmp e b ≡ Less) ys
      each [] there less = tt
      each (b ∷ ys) there less = (
        rise_alike (stamp_of d.rows x) (ids_of d.rows) ids_up stamps_up e b (counted e all.0) (counted b there.0) (ranked e b Less (sym less.0)),
        each ys there.1 less.1,
      )

  module _ (xs ys : List ℕ) (a : ℕ) (each : ListsEach (as_table d) (xs ++ ys)) (up : Rises nat_cmp xs) (low : Low x a d) where
    abbrev new : Data
    new = raised_all x ys a d

    all : AllByRecursion (IsThere d.rows) (xs ++ ys)
    all = each_there d (xs ++ ys) each

    once : Once (xs ++ ys)
    once = each_once (as_table d) (xs ++ ys) each

    long : Long x d
    long = long_of s d is x few

    -- the rows in front keep their stamps
    kept : AllByRecursion (λ e. stamp_of new.rows x e ≡ stamp_of d.rows x e) xs
    kept = all_map (λ e lacks. kept_raised x e ys a d lacks) xs (once_apart xs ys once)

    behind : AllByRecursion (λ b. a ≤ stamp_of new.rows x b) ys
    behind = numbered_high (stamp_of new.rows x) a ys
        (numbered_raised x ys a d (once_behind xs ys once) (all_back (IsThere d.rows) xs ys all) long)

    across : AllByRecursion (λ e. AllByRecursion (λ b. on (stamp_of new.rows x) nat_cmp e b ≡ Less) ys) xs
    across = all_both (λ e. stamp_of new.rows x e ≡ stamp_of d.rows x e) (IsThere d.rows)
        (λ e. AllByRecursion (λ b. on (stamp_of new.rows x) nat_cmp e b ≡ Less) ys) xs
        (λ e same there. all_map (λ b high. let l = low e there in less_is (stamp_of new.rows x e) (stamp_of new.rows x b) (omega (arith, same, l, high))) ys behind)
        kept (all_front (IsThere d.rows) xs ys all)

    all_up : Rises (on (stamp_of new.rows x) nat_cmp) (xs ++ ys)
    all_up = rises_both (stamp_of new.rows x) xs ys
        (rises_same (stamp_of new.rows x) (stamp_of d.rows x) xs kept (front_up xs (all_front (IsThere d.rows) xs ys all) up))
        (numbered_rise (stamp_of new.rows x) a ys (numbered_raised x ys a d (once_behind xs ys once) (all_back (IsThere d.rows) xs ys all) long))
        across

    pub tail_list : IsData s new → list_of (as_table new) x ≡ xs ++ ys
    tail_list after =
        let same = same_raised x ys a d (all_back (IsThere d.rows) xs ys all) in
        let g = same.long in
        rising_list s x (xs ++ ys) new after (omega (arith, g, few)) (same.stamped ∙ has_) (each_by_rows d new same.rows (xs ++ ys) each) all_up

rising_is : (ids : List ℕ) → Rising ids → Rises nat_cmp ids
rising_is [] up = tt
rising_is (e ∷ ids) up = (all_map (λ b l. less_is e b l) ids up.0, rising_is ids up.1)

-- the same of a list that is cut
module _ (s : Shape) (x : ℕ) (d : Data) (is : IsData s d) (few : x < length d.orders) (has_ : has_stamps (order_at d.orders x) ≡ true)
    (by_ids : list_of (as_table d) x ≡ ids_of d.rows) (ids : List ℕ) (m a : ℕ) (each : ListsEach (as_table d) ids) where
  pub behind_there : AllByRecursion (IsThere d.rows) (drop m ids)
  behind_there = all_back (IsThere d.rows) (take m ids) (drop m ids) (subst (AllByRecursion (IsThere d.rows)) (sym (parts m ids)) (each_there d ids each))

  pub cut_list : Rising (take m ids) → Low x a d → IsData s (raised_all x (drop m ids) a d) → list_of (as_table (raised_all x (drop m ids) a d)) x ≡ ids
  cut_list up low after =
      tail_list s x d is few has_ by_ids (ids_rise d.next d.rows (rows_climb s d is)) (take m ids) (drop m ids) a
      (subst (ListsEach (as_table d)) (sym (parts m ids)) each) (rising_is (take m ids) up) low after
      ∙ parts m ids

-- One more of the first ids of a list that rise

all_push : (P : ℕ → Type 0) (xs : List ℕ) (b : ℕ) → AllByRecursion P xs → P b → AllByRecursion P (xs ++ b ∷ [])
all_push P [] b all one = (one, tt)
all_push P (e ∷ xs) b all one = (all.0, all_push P xs b all.1 one)

rising_push : (xs : List ℕ) (b : ℕ) → Rising xs → AllByRecursion (λ e. e < b) xs → Rising (xs ++ b ∷ [])
rising_push [] b up all = (tt, tt)
rising_push (e ∷ xs) b up all = (all_push (λ q. e < q) xs b up.0 all.0, rising_push xs b up.1 all.1)

-- the first ids rise, and none is above the last
pub record FirstRise (ids : List ℕ) (m last : ℕ) : Type 0 where
  pub up : Rising (take m ids)
  pub most : AllByRecursion (λ e. e ≤ last) (take m ids)

pub first_none : (ids : List ℕ) (last : ℕ) → FirstRise ids 0 last
first_none ids last = record { up = tt; most = tt }

first_below : (b n last : ℕ) (ids : List ℕ) → (0 < n → last < b) → AllByRecursion (λ e. e ≤ last) (take n ids) → AllByRecursion (λ e. e < b) (take n ids)
first_below b zero last ids up all = tt
first_below b (suc n) last ids up all = all_map (λ e le. let more = up (omega arith) in omega (arith, le, more)) (take (suc n) ids) all

pub first_more : (ids : List ℕ) (m last : ℕ) → FirstRise ids m last → m < length ids → (0 < m → last < get_or ids m 0) → FirstRise ids (m + 1) (get_or ids m 0)
first_more ids m last h l above =
    let below = first_below (get_or ids m 0) m last ids above h.most in record {
      up = subst Rising (sym (take_more ids m 0 l)) (rising_push (take m ids) (get_or ids m 0) h.up below);
      most = subst (AllByRecursion (λ e. e ≤ get_or ids m 0)) (sym (take_more ids m 0 l))
          (all_push (λ e. e ≤ get_or ids m 0) (take m ids) (get_or ids m 0) (all_map (λ e le. omega (arith, le)) (take m ids) below) (omega arith));
    }
