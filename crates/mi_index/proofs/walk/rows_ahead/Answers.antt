-- The rows that were read are those of the first nodes ahead that stay in the range, in their order.
use Rattle.std.proofs.Common.{◌≡◌, ◌+◌, ◌≤◌, inl, inr, [], ◌∷◌, ◌++◌, length, map, drop, Some, None, ap, sym, ◌∙◌, subst, arith, length-append}
use Rattle.std.specs.List.{prefix_len}
use Rattle.std.proofs.lemmas.List.{map-append, take-map}
use Rattle.mi_value.specs.declared.steps.Steps.{Steps}
use Rattle.mi_node.specs.Pool.{Pooled, value_of, IsHeld}
use Rattle.mi_node.specs.Refs.{first_of}
use Rattle.mi_node.specs.Counted.{CountedPool}
use Rattle.mi_tree.specs.Walking.{IsWalk}
use Rattle.mi_order.specs.declared.stored.Stored.{Stored}
use Rattle.mi_index.specs.Ranges.{stays_in}
use Rattle.mi_index.specs.Walks.{shown_row}
use Rattle.mi_index.proofs.RangeLemmas.{all_while, some_while, one_more, no_more, none_left}
use Rattle.mi_index.proofs.WalkLemmas.{dropped, held_next, row_next}
use Rattle.mi_index.proofs.walk.rows_ahead.Goals as goal
use Rattle.mi_index.proofs.walk.rows_ahead.Goals.{else-nodes-test, then-nodes-test+in_default, then-nodes-test+in-Some+then-not-goes_on}

pub next-requires : goal.next-requires
next-requires c = let q = c.requires in (q.0, drop (length c.nodes.rows.items) q.1, c.nodes.invariant.ahead q.0 q.1 q.2)

pub value-stored-requires : goal.value-stored-requires
value-stored-requires c =
    let q = c.requires in
    let k = length c.nodes.rows.items in
    let same : c.next.new.p.pool ≡ c.args.p.now.pool = c.next.ensures.pool ∙ c.nodes.invariant.pool in
    let first : first_of (drop k q.1) None ≡ Some c.in-Some.node =
    sym (c.next.ensures.node q.0 (drop k q.1) (c.nodes.invariant.ahead q.0 q.1 q.2)) ∙ c.in-Some.is in
    subst (λ (z : Pooled Stored). IsHeld z c.in-Some.node) (sym same) (held_next c.args.p.now.pool q.1 k c.in-Some.node q.3 first)

pub nodes-preserved : goal.nodes-preserved
nodes-preserved c =
    let m = c.args.p.now.pool in
    let k = length c.nodes.rows.items in
    let v = c.value-stored.result.now in
    let same : c.next.new.p.pool ≡ m = c.next.ensures.pool ∙ c.nodes.invariant.pool in
    let pushed = c.in_ok-push.ensures.items in
    let long : length c.push.new.self.items ≡ k + 1 = ap length pushed ∙ length-append c.nodes.rows.items _ in
    let has : value_of m c.in-Some.node.name ≡ Some v = ap (λ (z : Pooled Stored). value_of z c.in-Some.node.name) (sym same) ∙ c.value-stored.ensures in
    record {
      pool = same;
      ahead = λ levels us h.
          subst (IsWalk c.next.new.self c.next.new.p.pool levels) (dropped us k (length c.push.new.self.items) long)
          (c.next.ensures.walk levels (drop k us) (c.nodes.invariant.ahead levels us h));
      taken = λ levels us h.
          ap (map (λ r. (r.0, r.1.now))) pushed
          ∙ map-append (λ r. (r.0, r.1.now)) c.nodes.rows.items _
          ∙ ap (λ rows. rows ++ (v.id, v.row) ∷ []) (c.nodes.invariant.taken levels us h)
          ∙ sym (row_next m us k (length c.push.new.self.items) c.in-Some.node v long
          (sym (c.next.ensures.node levels (drop k us) (c.nodes.invariant.ahead levels us h)) ∙ c.in-Some.is) has);
      stay = λ levels us h.
          subst (λ n. n ≤ prefix_len (stays_in c.args.range.now) (map (shown_row m) us)) (sym long)
          (one_more m us k c.in-Some.node v (sym (c.next.ensures.node levels (drop k us) (c.nodes.invariant.ahead levels us h)) ∙ c.in-Some.is) has
          (stays_in c.args.range.now) (c.nodes.invariant.stay levels us h)
          (sym c.goes_on.ensures.result ∙ c.if-not-goes_on.false));
      within = omega arith;
      reads = let step = c.next.ensures.reads in let so_far = c.nodes.invariant.reads in omega arith;
      low = λ levels us h. inr (c.next.ensures.depth levels (drop k us) (c.nodes.invariant.ahead levels us h));
      steps = let step = c.goes_on.ensures.steps in let so_far = c.nodes.invariant.steps in omega (arith, step, so_far, long);
    }

pub returns-in_err-push-clause-steps : goal.returns-in_err-push-clause-steps
returns-in_err-push-clause-steps c = λ levels us h.
    let within = some_while (stays_in c.args.range.now) (map (shown_row c.args.p.now.pool) us) (length c.nodes.rows.items) c.args.limit
    c.nodes.invariant.within (c.nodes.invariant.stay levels us h) in
    omega (arith, within, c.goes_on.ensures.steps, c.nodes.invariant.steps)

pub returns-clause-rows : goal.returns-clause-rows
returns-clause-rows c = λ levels us h.
    let m = c.args.p.now.pool in
    let k = length c.nodes.rows.items in
    let p = stays_in c.args.range.now in
    c.nodes.invariant.taken levels us h
    ∙ sym (take-map (shown_row m) k us)
    ∙ all_while p (map (shown_row m) us) k c.args.limit c.nodes.invariant.within (c.nodes.invariant.stay levels us h)
    (elim c.nodes-test.branch [
      | else-nodes-test w ↦ inl (omega (arith, w.nodes-test.false, c.len.ensures))
      | then-nodes-test+in_default w ↦
          inr (none_left m us k p (sym (w.next.ensures.node levels (drop k us) (c.nodes.invariant.ahead levels us h)) ∙ w.in_default.is))
      | then-nodes-test+in-Some+then-not-goes_on w ↦
          let same : w.next.new.p.pool ≡ m = w.next.ensures.pool ∙ c.nodes.invariant.pool in
          inr (no_more m us k w.in-Some.node w.value-stored.result.now
          (sym (w.next.ensures.node levels (drop k us) (c.nodes.invariant.ahead levels us h)) ∙ w.in-Some.is)
          (ap (λ (z : Pooled Stored). value_of z w.in-Some.node.name) (sym same) ∙ w.value-stored.ensures)
          p (c.nodes.invariant.stay levels us h) (sym w.goes_on.ensures.result ∙ w.if-not-goes_on.true))
    ])

pub returns-clause-reads : goal.returns-clause-reads
returns-clause-reads c = λ levels us h.
    let k = length c.nodes.rows.items in
    let so_far = c.nodes.invariant.reads in
    elim c.nodes-test.branch [
      | else-nodes-test w ↦
          let p = ap (λ (z : CountedPool Stored). z.reads) w.p-is in
          elim (c.nodes.invariant.low levels us h) [ inl short ↦ omega arith | inr low ↦ omega arith ]
      | then-nodes-test+in_default w ↦
          let p = ap (λ (z : CountedPool Stored). z.reads) w.p-is in
          let step = w.next.ensures.reads in
          let low = w.next.ensures.depth levels (drop k us) (c.nodes.invariant.ahead levels us h) in
          omega arith
      | then-nodes-test+in-Some+then-not-goes_on w ↦
          let p = ap (λ (z : CountedPool Stored). z.reads) w.p-is in
          let step = w.next.ensures.reads in
          let low = w.next.ensures.depth levels (drop k us) (c.nodes.invariant.ahead levels us h) in
          omega arith
    ]

pub returns-clause-steps : goal.returns-clause-steps
returns-clause-steps c = λ levels us h.
    let so_far = c.nodes.invariant.steps in
    let within = some_while (stays_in c.args.range.now) (map (shown_row c.args.p.now.pool) us) (length c.nodes.rows.items) c.args.limit
    c.nodes.invariant.within (c.nodes.invariant.stay levels us h) in
    elim c.nodes-test.branch [
      | else-nodes-test w ↦ let same = ap (λ (z : Steps). z.count) w.steps-is in omega (arith, same, so_far, within)
      | then-nodes-test+in_default w ↦ let same = ap (λ (z : Steps). z.count) w.steps-is in omega (arith, same, so_far, within)
      | then-nodes-test+in-Some+then-not-goes_on w ↦
          let same = ap (λ (z : Steps). z.count) w.steps-is in omega (arith, same, so_far, within, w.goes_on.ensures.steps)
    ]
