use Rattle.std.proofs.Common.{◌+◌, sum_by, sym, ap, ◌∙◌, ap₂, arith, rules}
use Rattle.std.proofs.lemmas.List.Sums.{sum_by-append}
use Rattle.plan.specs.Calls.{rendered_bytes}
use Rattle.plan.specs.Model.{exprs_in}
use Rattle.plan.specs.Questions.{shown_expressions}
use Rattle.terms.specs.Views.{numbers_of}
use Rattle.tables.specs.Holding.{view_in}
use Rattle.tables.specs.Making.{tree_for}
use Rattle.tables.proofs.Lent.{rendered-lent}
use Rattle.asking.proofs.asked.Asked.rendered_bytes.Goals as goal

pub returns-in-Aggregate : goal.returns-in-Aggregate
returns-in-Aggregate c =
    let t = c.args.self.tables.now in
    let f = rendered_bytes (view_in t).functions in
    let gs = numbers_of c.in-Aggregate.groups.now in
    let us = numbers_of c.in-Aggregate.totals.now in
    let xs = exprs_in (view_in t).trees gs in
    let ys = exprs_in (view_in t).trees us in
    record {
      value = ap₂ (λ x y. x + y) (c.rendered_bytes-in-Aggregate.ensures.value ∙ rendered-lent t _ c.terms-in-Aggregate.ensures gs) (c.rendered_bytes-in-Aggregate-2.ensures.value ∙ rendered-lent t _ c.terms-in-Aggregate-2.ensures us) ∙ sym (ap (λ n. sum_by f (shown_expressions (tree_for t n))) c.in-Aggregate.is ∙ sum_by-append f xs ys);
      bound = omega (arith, c.rendered_bytes-in-Aggregate.ensures.bound, c.rendered_bytes-in-Aggregate-2.ensures.bound);
    }

pub returns-in-Projection : goal.returns-in-Projection
returns-in-Projection c =
    let a = c.rendered_bytes.ensures.value ∙ rendered-lent c.args.self.tables.now _ c.terms.ensures (numbers_of c.in-Projection.list.now) in
    search (rules, a)
