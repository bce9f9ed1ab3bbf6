-- The members before the place have smaller names, and those behind it greater ones.
use Rattle.std.proofs.Common.{[], get_or, nat_cmp, ap, ◌∙◌, sym, arith}
use Rattle.std.specs.Cmp.Lexicographic.{slice_cmp}
use Rattle.mi_rows.specs.declared.shown.Member.{Member}
use Rattle.mi_rows.specs.declared.shown.Source.TheVariants.{Id}
use Rattle.mi_rows.proofs.ShownLemmas.{with_member-same}
use Rattle.mi_rows.proofs.shown.find_place.Goals as goal

pub returns-in-Equal-clause-found : goal.returns-in-Equal-clause-found
returns-in-Equal-clause-found c = (
  omega arith,
  λ m named.
      let ms = c.args.members.now in
      let i = c.members.i in
      let blank : Member = record { name = record { ref_ptr = (0, 0); now = [] }; source = Id } in
      with_member-same m ms i blank (omega arith) (c.members.invariant m named)
      (c.in-Equal.ensures ∙ ap (λ name. slice_cmp nat_cmp name (get_or ms i blank).name.now) (sym named)),
)
