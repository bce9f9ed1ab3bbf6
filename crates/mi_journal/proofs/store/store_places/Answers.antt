-- the last of the places that are left is stored, or only marked
use Rattle.std.proofs.Common.{◌∙◌, ◌+◌, [], ◌∷◌, ◌++◌, true, sym, ap, subst, arith}
use Rattle.std.specs.VecDeque.{deque_len}
use Rattle.std.proofs.lemmas.List.Elements.{All-same, All-push}
use Rattle.mi_journal.specs.Filled.{marked, IsThere}
use Rattle.mi_journal.proofs.PlaceLemmas.{Storing, storing_place, storing_none}
use Rattle.mi_journal.proofs.store.store_places.Goals as goal

pub push_back_reserved-requires : goal.push_back_reserved-requires
push_back_reserved-requires c =
    let l = c.loop-place in
    let some = (storing_place c.args.laid.now.items l.laid.items c.pop.new.self.items c.in-Some.place l.marks c.args.ring.now.items l.ring.items
    c.in-Some.ensures.items (sym c.is_some-there.ensures ∙ c.if-there.true) l.invariant.0).0 in
    let count = l.invariant.0.count in
    let len = l.invariant.1 in
    let room = l.invariant.2 in
    let asked = c.requires in
    omega (arith, some, count, len, room, asked)

pub loop-place-preserved-then-there : goal.loop-place-preserved-then-there
loop-place-preserved-then-there c =
    let l = c.loop-place in
    let marks = c.put_first.ensures ∙ ap (λ b. b ∷ l.marks) c.if-there.true in
    let more = (storing_place c.args.laid.now.items l.laid.items c.pop.new.self.items c.in-Some.place l.marks c.args.ring.now.items l.ring.items
    c.in-Some.ensures.items (sym c.is_some-there.ensures ∙ c.if-there.true) l.invariant.0).1 in
    let len = l.invariant.1 in
    let now = c.push_back_reserved.ensures.len in
    let one = ap marked marks in (
      subst (λ q. Storing c.args.laid.now.items c.pop.new.self.items q c.args.ring.now.items c.push_back_reserved.new.self.items) (sym marks)
          (subst (Storing c.args.laid.now.items c.pop.new.self.items (true ∷ l.marks) c.args.ring.now.items) (sym c.push_back_reserved.ensures.items) more),
      omega (arith, len, now, one),
      c.push_back_reserved.ensures.capacity ∙ l.invariant.2,
      λ all. All-same IsThere c.push_back_reserved.new.self.items (l.ring.items ++ c.in-Some.place ∷ []) c.push_back_reserved.ensures.items
          (All-push IsThere l.ring.items c.in-Some.place (l.invariant.3 all) (sym c.is_some-there.ensures ∙ c.if-there.true)),
    )

pub loop-place-preserved : goal.loop-place-preserved
loop-place-preserved c =
    let l = c.loop-place in
    let marks = c.put_first.ensures ∙ ap (λ b. b ∷ l.marks) c.if-there.false in (
      subst (λ q. Storing c.args.laid.now.items c.pop.new.self.items q c.args.ring.now.items l.ring.items) (sym marks)
          (storing_none c.args.laid.now.items l.laid.items c.pop.new.self.items c.in-Some.place l.marks c.args.ring.now.items l.ring.items
          c.in-Some.ensures.items (sym c.is_some-there.ensures ∙ c.if-there.false) l.invariant.0),
      l.invariant.1 ∙ sym (ap (λ q. deque_len c.args.ring.now + marked q) marks),
      l.invariant.2,
      l.invariant.3,
    )
