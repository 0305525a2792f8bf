use Rattle.std.proofs.Common.{length, map, ap, ◌∙◌, arith}
use Rattle.std.proofs.lemmas.List.{length_push, map_push, take_all}
use Rattle.plan.specs.Calls.{all_below}
use Rattle.plan.specs.Model.{exprs_in}
use Rattle.rewriting.specs.Routing.{unalias}
use Rattle.entries.specs.declared.node.ExprId.{ExprId}
use Rattle.terms.specs.Views.{numbers_of, view_of}
use Rattle.merging.proofs.Following.{below-push}
use Rattle.merging.proofs.Listing.{one-more, there}
use Rattle.merging.proofs.merge.all_unaliased.Goals as goal

abbrev blank : ExprId
blank = record { 0 = 0 }

pub unaliased-requires : goal.unaliased-requires
unaliased-requires c = there (view_of c.args.terms.now) c.args.list.now c.loop-e.e-index blank c.loop-e-test.true c.requires.list

pub loop-e-preserved : goal.loop-e-preserved
loop-e-preserved c =
    let v = view_of c.args.terms.now in
    let k = c.loop-e.invariant in
    let e = c.unaliased.result in
    record {
      trees = one-more v c.args.list.now c.loop-e.e-index blank c.loop-e-test.true c.loop-e.bare c.push.new.self e k.trees c.push.ensures c.unaliased.ensures.tree;
      present = ap (λ l. all_below (length v.trees) (numbers_of l)) c.push.ensures ∙ ap (all_below (length v.trees)) (map_push (λ (x : ExprId). x.0) c.loop-e.bare e) ∙ below-push (length v.trees) (numbers_of c.loop-e.bare) e.0 k.present c.unaliased.ensures.present;
      counted = omega (arith, ap length c.push.ensures, length_push c.loop-e.bare e, k.counted);
    }

pub returns-clause-trees : goal.returns-clause-trees
returns-clause-trees c =
    let v = view_of c.args.terms.now in
    c.loop-e.invariant.trees ∙ ap (λ l. map unalias (exprs_in v.trees (numbers_of l))) (take_all c.loop-e.e-index c.args.list.now c.loop-e-test.false)
