-- The rows that were read are those of the nodes that followed one another, in their order.
use Rattle.std.proofs.Common.{◌≡◌, ◌+◌, inl, inr, [], ◌∷◌, ◌++◌, ◌<◌, length, map, drop, take, Some, None, refl, ap, sym, ◌∙◌, subst, arith, length-append}
use Rattle.std.proofs.lemmas.List.{map-append}
use Rattle.mi_node.specs.Pool.{Pooled, value_of, link_of}
use Rattle.mi_node.specs.Refs.{first_of}
use Rattle.mi_tree.specs.Walking.{far_of}
use Rattle.mi_order.specs.declared.stored.Stored.{Stored}
use Rattle.mi_index.specs.Walks.{shown_row}
use Rattle.mi_index.proofs.WalkLemmas.{held_read, row_next, all_taken, follow_next}
use Rattle.mi_index.proofs.walk.rows_along.Goals as goal
use Rattle.mi_index.proofs.walk.rows_along.Goals.{else-nodes-test, then-nodes-test+in_default}

pub nodes-init : goal.nodes-init
nodes-init c =
    let m = c.args.p.now.pool in
    let none : length c.in_ok-rows.rows.items ≡ 0 = ap length c.in_ok-rows.ensures.items in
    record {
      pool = refl;
      next = λ us h. sym (ap (λ n. first_of (drop n (c.args.first ∷ us)) None) none);
      taken = λ us h. ap (map (λ r. (r.0, r.1.now))) c.in_ok-rows.ensures.items ∙ sym (ap (λ n. map (shown_row m) (take n (c.args.first ∷ us))) none);
      within = omega arith;
      reads = omega arith;
    }

pub value-stored-requires : goal.value-stored-requires
value-stored-requires c =
    let q = c.requires.nodes in
    held_read c.args.p.now.pool _ c.args.slot c.args.direction (c.args.first ∷ q.0) (length c.nodes.rows.items) c.in-Some.node
    c.nodes.invariant.pool q.1 _ (c.nodes.invariant.next q.0 q.1) c.in-Some.is

pub nodes-preserved : goal.nodes-preserved
nodes-preserved c =
    let m = c.args.p.now.pool in
    let k = length c.nodes.rows.items in
    let v = c.value-stored.result.now in
    let node = c.in-Some.node in
    let pushed = c.in_ok-push.ensures.items in
    let long : length c.push.new.self.items ≡ k + 1 = ap length pushed ∙ length-append c.nodes.rows.items _ in
    let has : value_of m node.name ≡ Some v = ap (λ (z : Pooled Stored). value_of z node.name) (sym c.nodes.invariant.pool) ∙ c.value-stored.ensures in
    let linked : c.link.result ≡ link_of m node.name c.args.slot = c.link.ensures.link
    ∙ ap (λ (z : Pooled Stored). link_of z node.name c.args.slot) c.nodes.invariant.pool in
    record {
      pool = c.link.ensures.pool ∙ c.nodes.invariant.pool;
      next = λ us h.
          c.far-next.ensures ∙ ap (far_of c.args.direction) linked
          ∙ follow_next m c.args.slot c.args.direction (c.args.first ∷ us) k (length c.push.new.self.items)
          node long h (sym (c.nodes.invariant.next us h) ∙ c.in-Some.is);
      taken = λ us h.
          ap (map (λ r. (r.0, r.1.now))) pushed
          ∙ map-append (λ r. (r.0, r.1.now)) c.nodes.rows.items _
          ∙ ap (λ rows. rows ++ (v.id, v.row) ∷ []) (c.nodes.invariant.taken us h)
          ∙ sym (row_next m (c.args.first ∷ us) k (length c.push.new.self.items) node v long (sym (c.nodes.invariant.next us h) ∙ c.in-Some.is) has);
      within = omega arith;
      reads = let step = c.link.ensures.reads in let so_far = c.nodes.invariant.reads in omega arith;
    }

pub returns-clause-rows : goal.returns-clause-rows
returns-clause-rows c = λ us h.
    let k = length c.nodes.rows.items in
    c.nodes.invariant.taken us h
    ∙ ap (map (shown_row c.args.p.now.pool)) (all_taken (c.args.first ∷ us) k c.args.limit c.nodes.invariant.within
    (elim c.nodes-test.branch [
      | else-nodes-test w ↦ inl (omega (arith, w.nodes-test.false, c.len.ensures))
      | then-nodes-test+in_default w ↦ inr (sym (c.nodes.invariant.next us h) ∙ w.in_default.is)
    ]))

pub link-requires-clause-held : goal.link-requires-clause-held
link-requires-clause-held c =
    let q = c.requires.nodes in
    held_read c.args.p.now.pool _ c.args.slot c.args.direction (c.args.first ∷ q.0) (length c.nodes.rows.items) c.in-Some.node
    c.nodes.invariant.pool q.1 _ (c.nodes.invariant.next q.0 q.1) c.in-Some.is

pub link-requires-clause-slot : goal.link-requires-clause-slot
link-requires-clause-slot c = subst (λ (z : Pooled Stored). c.args.slot < z.slots) (sym c.nodes.invariant.pool) c.requires.slot

pub returns-clause-reads : goal.returns-clause-reads
returns-clause-reads c = c.nodes.invariant.reads
