-- Without a further member the document is one table; any other name is a fault.
use Rattle.std.proofs.Common.{◌≡◌, Bool, true, false, cond, Option, Some, None, option_and_then, ◌∷◌, codes, sym, ap, subst, ◌∙◌}
use Rattle.toml.specs.View.{table_view}
use Rattle.mi_schema.specs.Draft.{CatalogDraft}
use Rattle.mi_schema.specs.Members.{IsReadAs, has_no_other, schema_members, one_table, first_format}
use Rattle.mi_schema.proofs.document.first_format.Goals as goal

pub returns-then-not-has_no_other : goal.returns-then-not-has_no_other
unfolding first_format
returns-then-not-has_no_other c =
    let test : has_no_other (codes "format" ∷ schema_members) (table_view c.args.members.now) ≡ false =
    sym c.has_no_other.ensures ∙ c.if-not-has_no_other.true in
    ap (λ (b : Bool). option_and_then one_table (cond b (Some (table_view c.args.members.now)) None)) test

pub returns : goal.returns
unfolding first_format
returns c =
    let test : has_no_other (codes "format" ∷ schema_members) (table_view c.args.members.now) ≡ true =
    sym c.has_no_other.ensures ∙ c.if-not-has_no_other.false in
    let is : first_format (table_view c.args.members.now) ≡ one_table (table_view c.args.members.now) =
    ap (λ (b : Bool). option_and_then one_table (cond b (Some (table_view c.args.members.now)) None)) test in
    subst (λ (o : Option CatalogDraft). IsReadAs (λ d. d) c.one_table.result o) (sym is) c.one_table.ensures
