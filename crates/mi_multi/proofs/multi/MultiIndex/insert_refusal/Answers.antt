-- The refusals are asked in their order, and the numbers that are compared are those of the data.
use Rattle.std.proofs.Common.{◌≡◌, ap, sym, ◌∙◌}
use Rattle.std.specs.Option.{option_map}
use Rattle.mi_model.specs.Table.{size}
use Rattle.mi_model.specs.Verdict.{as_unique}
use Rattle.mi_container.specs.Data.{as_table}
use Rattle.mi_multi.specs.Seen.{Seen}
use Rattle.mi_multi.proofs.AcceptLemmas.{no_place, is_full, next_spent, arrivals_spent, unique_refuses}
use Rattle.mi_multi.proofs.multi.MultiIndex.insert_refusal.Goals.{After-max_rows}
use Rattle.mi_multi.proofs.multi.MultiIndex.insert_refusal.Goals as goal

module _ (c : After-max_rows) where
  -- the limit that contracts see
  limit : c.max_rows.result ≡ c.args.self.now.shape.max_rows
  limit = c.max_rows.ensures.value ∙ ap (λ (w : Seen). w.shape.max_rows) c.self.view_is

  -- a table of another size isn't full
  smaller : (c.size.result ≡ c.max_rows.result → ⊥) → size (as_table c.args.self.now.plain) ≡ c.args.self.now.shape.max_rows → ⊥
  smaller other e = other (c.size.ensures ∙ e ∙ sym limit)

pub returns-then-is_missing : goal.returns-then-is_missing
returns-then-is_missing c =
    let missing = sym c.is_missing.ensures ∙ c.if-is_missing.true in
    sym (no_place c.args.self.now.shape c.args.before c.args.row.now (as_table c.args.self.now.plain) missing)

pub returns-then-size-max_rows : goal.returns-then-size-max_rows
returns-then-size-max_rows c =
    sym (is_full c.args.self.now.shape c.args.before c.args.row.now (as_table c.args.self.now.plain) (sym c.is_missing.ensures ∙ c.if-is_missing.false)
    (sym c.size.ensures ∙ c.if-size-max_rows.true ∙ limit (goal.at.returns-then-size-max_rows c).After-max_rows))

pub returns-then-self-eq-LAST_COUNT : goal.returns-then-self-eq-LAST_COUNT
returns-then-self-eq-LAST_COUNT c =
    let o = (goal.at.returns-then-self-eq-LAST_COUNT c).After-max_rows in
    sym (next_spent c.args.self.now.shape c.args.before c.args.row.now (as_table c.args.self.now.plain) (sym c.is_missing.ensures ∙ c.if-is_missing.false)
    (smaller o c.if-size-max_rows.false) (sym (ap (λ (w : Seen). w.plain.next) c.self.view_is) ∙ c.if-self-eq-LAST_COUNT.true))

pub returns-then-self-eq-LAST_COUNT-2 : goal.returns-then-self-eq-LAST_COUNT-2
returns-then-self-eq-LAST_COUNT-2 c =
    let o = (goal.at.returns-then-self-eq-LAST_COUNT-2 c).After-max_rows in
    sym (arrivals_spent c.args.self.now.shape c.args.before c.args.row.now (as_table c.args.self.now.plain) (sym c.is_missing.ensures ∙ c.if-is_missing.false)
    (smaller o c.if-size-max_rows.false) (λ e. c.if-self-eq-LAST_COUNT.false (ap (λ (w : Seen). w.plain.next) c.self.view_is ∙ e))
    (sym (ap (λ (w : Seen). w.plain.arrivals) c.self.view_is) ∙ c.if-self-eq-LAST_COUNT-2.true))

pub returns : goal.returns
returns c =
    let o = (goal.at.returns c).After-max_rows in
    c.unique_refusal.ensures ∙ ap (option_map as_unique) c.conflict.ensures
    ∙ sym (unique_refuses c.args.self.now.shape c.args.before c.args.row.now (as_table c.args.self.now.plain) (sym c.is_missing.ensures ∙ c.if-is_missing.false)
    (smaller o c.if-size-max_rows.false) (λ e. c.if-self-eq-LAST_COUNT.false (ap (λ (w : Seen). w.plain.next) c.self.view_is ∙ e))
    (λ e. c.if-self-eq-LAST_COUNT-2.false (ap (λ (w : Seen). w.plain.arrivals) c.self.view_is ∙ e)))
