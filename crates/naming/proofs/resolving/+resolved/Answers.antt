use Rattle.std.proofs.Common.{◌+◌, ◌&&◌, ◌++◌, map, drop, sym, ap, ◌∙◌, arith}
use Rattle.table.proofs.Loops.{twice-step, twice-end}
use Rattle.plan.specs.Fields.{every, resolved}
use Rattle.plan.specs.Model.{expr_in}
use Rattle.terms.specs.Build.{numbers_in}
use Rattle.entries.specs.Entries.{entry_number}
use Rattle.entries.specs.Spans.{stored_field}
use Rattle.terms.specs.Views.{view_of}
use Rattle.entries.specs.declared.node.Entry.{Entry}
use Rattle.entries.specs.declared.node.Entry.TheVariants.{Expression}
use Rattle.terms.proofs.Walks.{listed_lower, resolved-arguments}
use Rattle.naming.proofs.resolving.+resolved.Goals as goal

abbrev blank : Entry
blank = Expression (record { 0 = 0 })

pub resolved-requires-in-loop-entry : goal.resolved-requires-in-loop-entry
resolved-requires-in-loop-entry t c =
    let v = view_of c.args.terms.now in
    let l = listed_lower v.bytes v.entries c.entries-listed.result.now c.args.e.0 c.in-Call.function c.in-Call.arguments c.loop-entry.entry-index blank c.in-Call.ensures.inside c.entries-listed.ensures c.loop-entry-test.true in
    let e = ap (λ x. x.0) c.read.ensures in
    (omega (arith, l, e, c.decreases), (c.requires.left, (c.requires.right, omega (arith, l, e, c.requires.present))))

pub returns-then-not-resolved : goal.returns-then-not-resolved
returns-then-not-resolved t c =
    let v = view_of c.args.terms.now in
    let fs = map (stored_field v.bytes) c.args.left.now ++ map (stored_field v.bytes) c.args.right.now in
    let xs = c.entries-listed.result.now in
    let i = c.loop-entry.entry-index in
    sym (ap (resolved fs) c.in-Call.ensures.tree ∙ resolved-arguments fs (map (expr_in v.trees) (numbers_in v.entries c.in-Call.arguments.first c.in-Call.arguments.count)) ∙ ap (λ l. every (resolved fs) (map (expr_in v.trees) (map entry_number l))) (sym c.entries-listed.ensures)
    ∙ c.loop-entry.invariant ∙ twice-step (every (resolved fs)) (expr_in v.trees) entry_number xs i blank c.loop-entry-test.true
    ∙ ap (λ b. b && every (resolved fs) (drop (i + 1) (map (expr_in v.trees) (map entry_number xs)))) (ap (λ j. resolved fs (expr_in v.trees j.0)) (sym c.read.ensures) ∙ sym c.if-not-resolved.ensures))

pub loop-entry-preserved : goal.loop-entry-preserved
loop-entry-preserved t c =
    let v = view_of c.args.terms.now in
    let fs = map (stored_field v.bytes) c.args.left.now ++ map (stored_field v.bytes) c.args.right.now in
    let xs = c.entries-listed.result.now in
    let i = c.loop-entry.entry-index in
    c.loop-entry.invariant ∙ twice-step (every (resolved fs)) (expr_in v.trees) entry_number xs i blank c.loop-entry-test.true
    ∙ ap (λ b. b && every (resolved fs) (drop (i + 1) (map (expr_in v.trees) (map entry_number xs)))) (ap (λ j. resolved fs (expr_in v.trees j.0)) (sym c.read.ensures) ∙ sym c.if-not-resolved.ensures)

pub returns-after-loop-entry : goal.returns-after-loop-entry
returns-after-loop-entry t c =
    let v = view_of c.args.terms.now in
    let fs = map (stored_field v.bytes) c.args.left.now ++ map (stored_field v.bytes) c.args.right.now in
    let xs = c.entries-listed.result.now in
    sym (ap (resolved fs) c.in-Call.ensures.tree ∙ resolved-arguments fs (map (expr_in v.trees) (numbers_in v.entries c.in-Call.arguments.first c.in-Call.arguments.count)) ∙ ap (λ l. every (resolved fs) (map (expr_in v.trees) (map entry_number l))) (sym c.entries-listed.ensures)
    ∙ c.loop-entry.invariant ∙ twice-end (every (resolved fs)) (expr_in v.trees) entry_number xs c.loop-entry.entry-index c.loop-entry-test.false)
