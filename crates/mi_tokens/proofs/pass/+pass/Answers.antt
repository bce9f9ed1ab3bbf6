-- A value, its items and its members are those of the grammar, a turn at a time.
use Rattle.std.proofs.Common.{◌≡◌, ◌-◌, [], ◌∷◌, ◌++◌, length, Some, IfSome, subst, sym, ap, ◌∙◌, arith, rules}
use Rattle.json.specs.Json.{parse_map, read_key, items, members, value}
use Rattle.json.proofs.Grammar.{left, value-begin_array, value-begin_object, read_key-shorter, skip_value-shorter}
use Rattle.serde_json.specs.Data.{array, object, no_members}
use Rattle.serde_json.specs.Read.{of_json, of_items, of_members, converted}
use Rattle.mi_tokens.proofs.ReadingLemmas.{converted_some, converted-array, converted-object, item_read, items_over, member_read, members_over, none_before}
use Rattle.mi_tokens.specs.Meaning.{meaning, members_meaning}
use Rattle.mi_tokens.specs.Tokens.{token_of}
use Rattle.mi_tokens.proofs.MeaningLemmas.{meaning-Array, meaning-Object, items_before, items_before-no_items, one_more_item, members_push}
use Rattle.mi_tokens.proofs.TokenLemmas.{value_no_end}
use Rattle.mi_tokens.proofs.pass.+pass.Goals as goal

pub pass_value-returns-in_default : goal.pass_value-returns-in_default
pass_value-returns-in_default t c =
    let first : c.args.tokens.now ≡ token_of c.in_ok-token.token ∷ c.next.new.self = grind arith in
    subst (λ ts. IfSome c.plain.result (λ v. converted of_json (value c.args.depth ts) ≡ Some (meaning v, c.next.new.self))) (sym first) (c.plain.ensures c.args.depth c.next.new.self)

pub pass_value-returns-in_ok-pass_items-in-Array : goal.pass_value-returns-in_ok-pass_items-in-Array
pass_value-returns-in_ok-pass_items-in-Array t c =
    let first : c.args.tokens.now ≡ token_of c.in_ok-token.token ∷ c.next.new.self = grind arith in
    let opened = ap (converted of_json) (ap (value c.args.depth) (first ∙ ap (λ k. token_of k ∷ c.next.new.self) c.in-Array.is) ∙ value-begin_array c.args.depth c.next.new.self (omega arith))
    ∙ converted-array (items (value (c.args.depth - 1)) (length c.next.new.self) c.next.new.self) in
    let found = c.in_ok-pass_items-in-Array in
    opened ∙ ap (parse_map array) found.ensures ∙ ap (λ d. Some (d, c.pass_items.new.tokens)) (sym (meaning-Array found.field-0))

pub pass_value-returns-in_ok-pass_members-in-Object : goal.pass_value-returns-in_ok-pass_members-in-Object
pass_value-returns-in_ok-pass_members-in-Object t c =
    let first : c.args.tokens.now ≡ token_of c.in_ok-token.token ∷ c.next.new.self = grind arith in
    let opened = ap (converted of_json) (ap (value c.args.depth) (first ∙ ap (λ k. token_of k ∷ c.next.new.self) c.in-Object.is) ∙ value-begin_object c.args.depth c.next.new.self (omega arith))
    ∙ converted-object (members (value (c.args.depth - 1)) (length c.next.new.self) c.next.new.self) in
    let found = c.in_ok-pass_members-in-Object in
    opened ∙ ap (parse_map object) found.ensures ∙ ap (λ d. Some (d, c.pass_members.new.tokens)) (sym (meaning-Object found.field-0))

pub pass_items-items-init : goal.pass_items-items-init
pass_items-items-init t c =
    let all = converted of_items (items (value c.args.depth) (length c.args.tokens.now) c.args.tokens.now) in
    (length c.args.tokens.now, omega arith, none_before all ∙ ap (λ vs. parse_map (items_before vs) all) (sym c.new-found.ensures.items))

pub pass_items-items-preserved : goal.pass_items-items-preserved
pass_items-items-preserved t c =
    let p = value c.args.depth in
    let l = c.items in
    let n = l.invariant.0 in
    let same : c.take_end_array.new.self ≡ l.tokens = grind arith in
    let v = c.in_ok-item.item in
    let r = c.pass_value.new.tokens in
    let read : converted of_json (p l.tokens) ≡ Some (meaning v, r) = ap (λ ts. converted of_json (p ts)) (sym same) ∙ c.in_ok-item.ensures in
    let found = converted_some of_json (p l.tokens) (meaning v) r read in
    let less = skip_value-shorter c.args.depth l.tokens r (ap left found.1) in
    let pushed : c.push.new.items.items ≡ l.found.items ++ v ∷ [] = c.push.ensures (first_of (search rules, grind arith)) in
    let turn = item_read p n l.tokens r (meaning v) (omega (arith, l.invariant.1)) (value_no_end c.args.depth l.tokens r found.0 found.1) read in (
      n - 1,
      omega (arith, l.invariant.1),
      l.invariant.2 ∙ ap (parse_map (items_before l.found.items)) turn ∙ one_more_item l.found.items v _
          ∙ ap (λ vs. parse_map (items_before vs) (converted of_items (items p (n - 1) r))) (sym pushed),
    )

pub pass_items-items-smaller : goal.pass_items-items-smaller
pass_items-items-smaller t c =
    let p = value c.args.depth in
    let same : c.take_end_array.new.self ≡ c.items.tokens = grind arith in
    let read = ap (λ ts. converted of_json (p ts)) (sym same) ∙ c.in_ok-item.ensures in
    let found = converted_some of_json (p c.items.tokens) (meaning c.in_ok-item.item) c.pass_value.new.tokens read in
    skip_value-shorter c.args.depth c.items.tokens c.pass_value.new.tokens (ap left found.1)

pub pass_items-returns : goal.pass_items-returns
pass_items-returns t c =
    let p = value c.args.depth in
    let l = c.items in
    let n = l.invariant.0 in
    let r = c.take_end_array.new.self in
    rw c.into_bump_slice.ensures
    (l.invariant.2 ∙ ap (parse_map (items_before l.found.items)) (items_over p n l.tokens r l.invariant.1 (grind arith)) ∙ ap (λ ds. Some (ds, r)) (items_before-no_items l.found.items))

pub pass_members-members-init : goal.pass_members-members-init
pass_members-members-init t c =
    let all = members (value c.args.depth) (length c.args.tokens.now) c.args.tokens.now in
    (length c.args.tokens.now, omega arith, ap (λ vs. converted (λ ms. of_members ms (members_meaning vs no_members)) all) (sym c.new-found.ensures.items))

pub pass_members-members-preserved : goal.pass_members-members-preserved
pass_members-members-preserved t c =
    let p = value c.args.depth in
    let l = c.members in
    let n = l.invariant.0 in
    let k = c.in-Some.key.now in
    let s = c.next_key.new.self in
    let key : read_key l.tokens ≡ Some (Some k, s) = grind arith in
    let v = c.in_ok-member.member in
    let r = c.pass_value.new.tokens in
    let found = converted_some of_json (p s) (meaning v) r c.in_ok-member.ensures in
    let less = read_key-shorter l.tokens (Some k) s key in
    let lesser = skip_value-shorter c.args.depth s r (ap left found.1) in
    let pushed : c.push.new.items.items ≡ l.found.items ++ (c.in-Some.key, v) ∷ [] = c.push.ensures (first_of (search rules, grind arith)) in
    let turn = member_read p (members_meaning l.found.items no_members) n k l.tokens s r (meaning v) (omega (arith, l.invariant.1)) key c.in_ok-member.ensures in (
      n - 1,
      omega (arith, l.invariant.1),
      l.invariant.2 ∙ turn
          ∙ ap (λ old. converted (λ ms. of_members ms old) (members p (n - 1) r))
          (sym (members_push l.found.items (c.in-Some.key, v) no_members) ∙ ap (λ vs. members_meaning vs no_members) (sym pushed)),
    )

pub pass_members-members-smaller : goal.pass_members-members-smaller
pass_members-members-smaller t c =
    let l = c.members in
    let k = c.in-Some.key.now in
    let s = c.next_key.new.self in
    let key : read_key l.tokens ≡ Some (Some k, s) = grind arith in
    let found = converted_some of_json (value c.args.depth s) (meaning c.in_ok-member.member) c.pass_value.new.tokens c.in_ok-member.ensures in
    omega (arith, read_key-shorter l.tokens (Some k) s key, skip_value-shorter c.args.depth s c.pass_value.new.tokens (ap left found.1))

pub pass_members-returns : goal.pass_members-returns
pass_members-returns t c =
    let p = value c.args.depth in
    let l = c.members in
    let n = l.invariant.0 in
    rw c.into_bump_slice.ensures
    (l.invariant.2 ∙ members_over p (members_meaning l.found.items no_members) n l.tokens c.next_key.new.self l.invariant.1 (grind arith))
