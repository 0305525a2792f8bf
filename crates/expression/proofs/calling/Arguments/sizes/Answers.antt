use Rattle.std.proofs.Common.{arith, rules}
use Rattle.std.proofs.lemmas.Iterator.{YieldsList-from_slice, YieldsList-from_map}
use Rattle.std.proofs.lemmas.Iterator.Consumers.{sum_by_from_yields_List, fits_by_from_yields_list}
use Rattle.plan.specs.Terms.{size_of}
use Rattle.terms.specs.Views.{count, tree_of}
use Rattle.entries.specs.declared.node.ExprId.{ExprId}
use Rattle.terms.proofs.Arguments.{bounded-sum, small-tree, sizes-added}
use Rattle.terms.proofs.Walks.{serves_low}
use Rattle.expression.proofs.calling.Arguments.sizes.Goals as goal

pub sum-requires-clause-can : goal.sum-requires-clause-can
sum-requires-clause-can c =
    let n = count c.args.self.terms.now in
    let ids = c.args.self.ids.now in
    (tt, serves_low (λ y. y.0) n (YieldsList-from_slice ids cc) c.args.self.present (λ x q k. search rules) (λ x h. search rules))

pub sum-requires-clause-fits : goal.sum-requires-clause-fits
sum-requires-clause-fits c =
    let t = c.args.self.terms.now in
    let ids = c.args.self.ids.now in
    let size = λ (e : ExprId). size_of (tree_of t e.0) in
    fits_by_from_yields_list size ids c.map.result _ (YieldsList-from_map _ size (YieldsList-from_slice ids cc) c.map.ensures.closure (λ x r q k. search rules))
    (omega (arith, bounded-sum (count t) 256 size (λ e lt. small-tree t e.0 lt) ids c.args.self.present, c.args.self.few))

pub returns : goal.returns
returns c =
    let t = c.args.self.terms.now in
    let ids = c.args.self.ids.now in
    let size = λ (e : ExprId). size_of (tree_of t e.0) in
    let s = sum_by_from_yields_List size ids c.map.result _ c.sum.ensures.ran (YieldsList-from_map _ size (YieldsList-from_slice ids cc) c.map.ensures.closure (λ x r q k. search rules)) in
    record { value = omega (arith, s, sizes-added t ids); bound = omega (arith, s, bounded-sum (count t) 256 size (λ e lt. small-tree t e.0 lt) ids c.args.self.present, c.args.self.few) }
