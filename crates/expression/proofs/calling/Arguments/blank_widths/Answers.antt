use Rattle.std.proofs.Common.{◌+◌, arith, rules}
use Rattle.std.proofs.lemmas.Iterator.{YieldsList-from_slice, YieldsList-from_map}
use Rattle.std.proofs.lemmas.Iterator.Consumers.{sum_by_from_yields_List, fits_by_from_yields_list}
use Rattle.terms.specs.Build.{width_of}
use Rattle.terms.specs.Views.{count, tree_of, view_of}
use Rattle.entries.specs.declared.node.ExprId.{ExprId}
use Rattle.terms.proofs.Arguments.{bounded-sum, short-name, widths-added}
use Rattle.terms.proofs.Walks.{serves_low}
use Rattle.expression.proofs.calling.Arguments.blank_widths.Goals as goal

pub sum-requires-clause-can : goal.sum-requires-clause-can
sum-requires-clause-can c =
    let t = c.args.self.terms.now in
    let n = count t in
    let ids = c.args.self.ids.now in
    (tt, serves_low (λ y. y.0) n (YieldsList-from_slice ids cc) c.args.self.present (λ x q k. search rules) (λ x h. search (rules, arith, short-name t x.now.0 h)))

pub sum-requires-clause-fits : goal.sum-requires-clause-fits
sum-requires-clause-fits c =
    let t = c.args.self.terms.now in
    let ids = c.args.self.ids.now in
    let width = λ (e : ExprId). width_of (view_of t).functions (tree_of t e.0) + 1 in
    fits_by_from_yields_list width ids c.map.result _ (YieldsList-from_map _ width (YieldsList-from_slice ids cc) c.map.ensures.closure (λ x r q k. search rules))
    (omega (arith, bounded-sum (count t) 130817 width (λ e lt. omega (arith, short-name t e.0 lt)) ids c.args.self.present, c.args.self.few))

pub returns : goal.returns
returns c =
    let t = c.args.self.terms.now in
    let ids = c.args.self.ids.now in
    let width = λ (e : ExprId). width_of (view_of t).functions (tree_of t e.0) + 1 in
    let s = sum_by_from_yields_List width ids c.map.result _ c.sum.ensures.ran (YieldsList-from_map _ width (YieldsList-from_slice ids cc) c.map.ensures.closure (λ x r q k. search rules)) in
    record { value = omega (arith, s, widths-added t ids); bound = omega (arith, s, bounded-sum (count t) 130817 width (λ e lt. omega (arith, short-name t e.0 lt)) ids c.args.self.present, c.args.self.few) }
