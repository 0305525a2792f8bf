use Rattle.std.proofs.Common.{◌+◌, ◌&&◌, ltb, leb, [], ◌∷◌, length, sym, refl, ◌∙◌, ap₂}
use Rattle.std.proofs.lemmas.List.{length-map}
use Rattle.std.proofs.lemmas.Bool.{and_parts}
use Rattle.plan.specs.Calls.Call.{make_aggregate}
use Rattle.plan.specs.Calls.{below, all_below, node_outlay}
use Rattle.plan.specs.declared.fault.Question.TheVariants.{Present, Bounded, Placed}
use Rattle.terms.specs.Views.{numbers_of}
use Rattle.tables.specs.Holding.{view_in, plan_count}
use Rattle.tables.specs.Making.{tree_for}
use Rattle.stored.specs.declared.node.NewNode.TheVariants.{Aggregate}
use Rattle.building.proofs.NodeAnswers.{plan-answers}
use Rattle.building.proofs.wider.aggregate.Goals as goal

pub are_placed-requires : goal.are_placed-requires
are_placed-requires c =
    let t = c.args.tables.now in
    let n = length (view_in t).trees in
    let p = and_parts (below (plan_count t) c.args.input.0) _ (sym c.has_lists.ensures ∙ c.in_ok-ask.ensures) in
    let q = and_parts (all_below n (numbers_of c.args.groups.now)) _ p.1 in
    record { groups = q.0; totals = q.1 }

pub make-requires : goal.make-requires
make-requires c =
    let gs = c.args.groups.now in
    let us = c.args.totals.now in
    record {
      present = sym c.has_lists.ensures ∙ c.in_ok-ask.ensures;
      bounded = (and_parts (leb (length gs) 16 && leb (length us) 16) _ (sym c.are_few.ensures ∙ c.in_ok-ask-2.ensures)).0;
      named = refl;
      placed = refl;
    }

pub returns : goal.returns
returns c =
    let t = c.args.tables.now in
    let gs = c.args.groups.now in
    let us = c.args.totals.now in
    let n = Aggregate c.args.input c.args.groups c.args.totals in
    let lg = length-map gs (λ e. e.0) in
    let lu = length-map us (λ e. e.0) in
    plan-answers t n (make_aggregate c.args.input.0 (numbers_of gs) (numbers_of us)) ((Present, _) ∷ (Bounded, _) ∷ (Placed, _) ∷ [])
    (record { asks = refl; own_first = refl; exprs = refl; plans = refl; inputs = refl; costs = ap₂ (λ g u. node_outlay (view_in t).functions (tree_for t n) (g + u) 0) lg lu; number = refl })
    (sym c.has_lists.ensures ∙ c.in_ok-ask.ensures, (ap₂ (λ g u. (leb g 16 && leb u 16) && ltb 0 (g + u)) lg lu ∙ sym c.are_few.ensures ∙ c.in_ok-ask-2.ensures, (sym c.are_placed.ensures ∙ c.in_ok-ask-3.ensures, tt)))
    c.make.result _
    c.make.ensures.made
