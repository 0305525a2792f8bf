use Rattle.std.proofs.Common.{◌≡◌, ◌+◌, ◌&&◌, ◌||◌, true, false, drop, sym, ap, ap₂, ◌∙◌, arith}
use Rattle.table.proofs.Loops.{twice-step, twice-end}
use Rattle.plan.specs.Fields.{any}
use Rattle.plan.specs.Functions.{null_keeping}
use Rattle.plan.specs.Model.{expr_in}
use Rattle.entries.specs.Entries.{entry_number}
use Rattle.terms.specs.Views.{view_of}
use Rattle.entries.specs.declared.node.Entry.{Entry}
use Rattle.entries.specs.declared.node.Entry.TheVariants.{Expression}
use Rattle.terms.proofs.Walks.{call-of, entry_trees, lower}
use Rattle.routing.proofs.Nulls.{of-call}
use Rattle.routing.proofs.keeping.+null_keeping.Goals as goal

abbrev blank : Entry
blank = Expression (record { 0 = 0 })

pub null_keeping-requires-in-loop-entry : goal.null_keeping-requires-in-loop-entry
null_keeping-requires-in-loop-entry t c =
    let s = c.args.terms.now in
    let low = lower s c.args.e.0 c.in-Call.function c.in-Call.arguments c.entries-entry-items.result.now c.entries-entry-items.ensures c.in-Call.ensures.inside c.in-Call.ensures.tree c.loop-entry.entry-index c.read.result.0 blank c.loop-entry-test.true (ap (λ x. x.0) c.read.ensures) in
    (omega (arith, low, c.decreases), omega (arith, low, c.requires))

pub returns-then-null_keeping : goal.returns-then-null_keeping
returns-then-null_keeping t c =
    let s = c.args.terms.now in
    let F = (view_of s).functions in
    let p = null_keeping F in
    let xs = c.entries-entry-items.result.now in
    let i = c.loop-entry.entry-index in
    let ts = entry_trees s xs in
    let tree = call-of s c.args.e.0 c.in-Call.function c.in-Call.arguments xs c.entries-entry-items.ensures c.in-Call.ensures.inside c.in-Call.ensures.tree in
    let here = ap (λ j. p (expr_in (view_of s).trees j.0)) (sym c.read.ensures) ∙ sym c.if-null_keeping.ensures in
    let some : any p ts ≡ true = c.loop-entry.invariant ∙ twice-step (any p) (expr_in (view_of s).trees) entry_number xs i blank c.loop-entry-test.true ∙ ap (λ b. b || any p (drop (i + 1) ts)) here in
    sym (ap p tree ∙ of-call F c.in-Call.function ts ∙ ap₂ (λ a b. a && b) (sym c.if-not-is_strict.ensures) some)

pub loop-entry-preserved : goal.loop-entry-preserved
loop-entry-preserved t c =
    let s = c.args.terms.now in
    let p = null_keeping (view_of s).functions in
    let xs = c.entries-entry-items.result.now in
    let i = c.loop-entry.entry-index in
    c.loop-entry.invariant ∙ twice-step (any p) (expr_in (view_of s).trees) entry_number xs i blank c.loop-entry-test.true
    ∙ ap (λ b. b || any p (drop (i + 1) (entry_trees s xs))) (ap (λ j. p (expr_in (view_of s).trees j.0)) (sym c.read.ensures) ∙ sym c.if-null_keeping.ensures)

pub returns-after-loop-entry : goal.returns-after-loop-entry
returns-after-loop-entry t c =
    let s = c.args.terms.now in
    let F = (view_of s).functions in
    let p = null_keeping F in
    let xs = c.entries-entry-items.result.now in
    let ts = entry_trees s xs in
    let tree = call-of s c.args.e.0 c.in-Call.function c.in-Call.arguments xs c.entries-entry-items.ensures c.in-Call.ensures.inside c.in-Call.ensures.tree in
    let none : any p ts ≡ false = c.loop-entry.invariant ∙ twice-end (any p) (expr_in (view_of s).trees) entry_number xs c.loop-entry.entry-index c.loop-entry-test.false in
    sym (ap p tree ∙ of-call F c.in-Call.function ts ∙ ap₂ (λ a b. a && b) (sym c.if-not-is_strict.ensures) none)
