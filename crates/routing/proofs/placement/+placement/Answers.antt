use Rattle.std.proofs.Common.{[], ◌∷◌, map, length, sym, ap, ◌∙◌, arith, length-append}
use Rattle.std.proofs.lemmas.List.{take_all}
use Rattle.plan.specs.Functions.{placed_by as placed_tree, placement_of, rule_in, function_at}
use Rattle.plan.specs.Model.{no_expr}
use Rattle.terms.specs.Views.{view_of}
use Rattle.entries.specs.declared.node.Entry.{Entry}
use Rattle.entries.specs.declared.node.Entry.TheVariants.{Expression}
use Rattle.terms.proofs.Walks.{argument, call-of, entry_trees, few, long, lower}
use Rattle.routing.specs.Placing.{named}
use Rattle.routing.proofs.Placing.{one_more, placements-of}
use Rattle.routing.proofs.placement.+placement.Goals as goal

abbrev blank : Entry
blank = Expression (record { 0 = 0 })

pub placement-requires-in-loop-entry : goal.placement-requires-in-loop-entry
placement-requires-in-loop-entry t c =
    let s = c.args.terms.now in
    let low = lower s c.args.e.0 c.in-Call.function c.in-Call.arguments c.entries-entry-items.result.now c.entries-entry-items.ensures c.in-Call.ensures.inside c.in-Call.ensures.tree c.loop-entry.entry-index c.read.result.0 blank c.loop-entry-test.true (ap (λ x. x.0) c.read.ensures) in
    (omega (arith, low, c.decreases), omega (arith, low, c.requires))

pub push-requires : goal.push-requires
push-requires t c =
    let s = c.args.terms.now in
    omega (arith, c.loop-entry.invariant.0, c.loop-entry-test.true, few s c.args.e.0 c.in-Call.function c.in-Call.arguments c.entries-entry-items.result.now c.entries-entry-items.ensures c.in-Call.ensures.inside c.in-Call.ensures.tree c.requires)

pub loop-entry-preserved : goal.loop-entry-preserved
loop-entry-preserved t c =
    let s = c.args.terms.now in
    let xs = c.entries-entry-items.result.now in
    let F = (view_of s).functions in
    let i = c.loop-entry.entry-index in
    let is = argument s c.args.e.0 c.in-Call.function c.in-Call.arguments xs c.entries-entry-items.ensures c.in-Call.ensures.inside c.in-Call.ensures.tree i c.read.result.0 blank c.loop-entry-test.true (ap (λ x. x.0) c.read.ensures) in (
      omega (arith, ap length c.push.ensures, length-append c.loop-entry.placements (c.placement-in-loop-entry.result ∷ []), c.loop-entry.invariant.0),
      one_more F c.loop-entry.placements c.push.new.self (entry_trees s xs) i c.placement-in-loop-entry.result no_expr (omega (arith, long s xs, c.loop-entry-test.true)) c.loop-entry.invariant.1 c.push.ensures (c.placement-in-loop-entry.ensures ∙ ap (placement_of F) is),
    )

pub returns-after-loop-entry : goal.returns-after-loop-entry
returns-after-loop-entry t c =
    let s = c.args.terms.now in
    let F = (view_of s).functions in
    let xs = c.entries-entry-items.result.now in
    let ts = entry_trees s xs in
    let f = c.in-Call.function in
    let all = c.loop-entry.invariant.1 ∙ ap (map (placement_of F)) (take_all c.loop-entry.entry-index ts (omega (arith, long s xs, c.loop-entry-test.false))) in
    c.placed_by.ensures ∙ ap (λ r. placed_tree r (map named c.as_slice.result.now)) c.rule.ensures ∙ ap (λ l. placed_tree (rule_in (function_at F f)) (map named l)) c.as_slice.ensures
    ∙ ap (placed_tree (rule_in (function_at F f))) (all ∙ sym (placements-of F ts))
    ∙ sym (ap (placement_of F) (call-of s c.args.e.0 f c.in-Call.arguments xs c.entries-entry-items.ensures c.in-Call.ensures.inside c.in-Call.ensures.tree))
