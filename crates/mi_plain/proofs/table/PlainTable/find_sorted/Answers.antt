-- The id at the lower bound has the key, or no id has it.
use Rattle.std.proofs.Common.{ap, sym, ◌∙◌}
use Rattle.std.specs.Ordering.{is_eq}
use Rattle.mi_catalog.specs.declared.index.Index.{Index}
use Rattle.mi_catalog.specs.Shape.{index_at}
use Rattle.mi_model.specs.LookUp as look
use Rattle.mi_model.specs.View.{view, compare_to_id}
use Rattle.mi_model.proofs.PlaceLaws.{each_in_view, once_of_each, there_at, listed_within, sorted_listed}
use Rattle.mi_plain.proofs.FindLemmas.{past_all, has_it, has_another}
use Rattle.mi_plain.proofs.table.PlainTable.find_sorted.Goals as goal

pub returns-in_default : goal.returns-in_default
returns-in_default c =
    let s = c.args.schema.now in let t = c.args.self.now in let x = c.args.x in
    past_all s t x c.args.key.now c.requires.kind
    (once_of_each t (view s t x) (each_in_view s t x c.requires.is (listed_within s x (sorted_listed (index_at s x).kind c.requires.kind))))
    (sym c.lower.ensures ∙ c.in_default.is)

pub compare_to_id-requires : goal.compare_to_id-requires
compare_to_id-requires c =
    let s = c.args.schema.now in let t = c.args.self.now in let x = c.args.x in
    there_at t (view s t x) (each_in_view s t x c.requires.is (listed_within s x (sorted_listed (index_at s x).kind c.requires.kind)))
    (look.lower_rank s t x c.args.key.now) c.in-Some.id (sym c.lower.ensures ∙ c.in-Some.is)

pub returns-then-is_eq : goal.returns-then-is_eq
returns-then-is_eq c =
    let s = c.args.schema.now in let t = c.args.self.now in let x = c.args.x in let key = c.args.key.now in
    has_it s t x key c.requires.kind
    (once_of_each t (view s t x) (each_in_view s t x c.requires.is (listed_within s x (sorted_listed (index_at s x).kind c.requires.kind))))
    c.in-Some.id (sym c.lower.ensures ∙ c.in-Some.is)
    (ap (λ (j : Index). is_eq (compare_to_id j t key c.in-Some.id)) (sym c.index.ensures) ∙ ap is_eq (sym c.compare_to_id.ensures)
    ∙ sym c.is_eq.ensures ∙ c.if-is_eq.true)

pub returns-else-is_eq : goal.returns-else-is_eq
returns-else-is_eq c =
    let s = c.args.schema.now in let t = c.args.self.now in let x = c.args.x in let key = c.args.key.now in
    has_another s t x key c.requires.kind
    (once_of_each t (view s t x) (each_in_view s t x c.requires.is (listed_within s x (sorted_listed (index_at s x).kind c.requires.kind))))
    c.in-Some.id (sym c.lower.ensures ∙ c.in-Some.is)
    (ap (λ (j : Index). is_eq (compare_to_id j t key c.in-Some.id)) (sym c.index.ensures) ∙ ap is_eq (sym c.compare_to_id.ensures)
    ∙ sym c.is_eq.ensures ∙ c.if-is_eq.false)
