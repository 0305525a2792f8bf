use Rattle.std.proofs.Common.{◌≡◌, ◌+◌, ◌||◌, true, false, drop, sym, ap, ap₂, ◌∙◌, arith}
use Rattle.std.proofs.Math.Bool.{or-true}
use Rattle.table.specs.Contents.{part}
use Rattle.table.proofs.Loops.{twice-step, twice-end}
use Rattle.plan.specs.Fields.{any}
use Rattle.plan.specs.Functions.{is_marked, placement_of}
use Rattle.plan.specs.Model.{expr_in}
use Rattle.plan.specs.Terms.{arguments}
use Rattle.plan.specs.Terms.Expr.{call}
use Rattle.rewriting.specs.Routing.{holds_marked}
use Rattle.entries.specs.Entries.{entry_number}
use Rattle.entries.specs.Spans.{stored_field}
use Rattle.terms.specs.Views.{tree_of, view_of}
use Rattle.entries.specs.declared.node.Entry.{Entry}
use Rattle.entries.specs.declared.node.Entry.TheVariants.{Expression}
use Rattle.terms.proofs.Walks.{call-of, entry_trees, lower}
use Rattle.routing.proofs.Marking.{of-alias, of-call, of-plain}
use Rattle.routing.proofs.marked.+holds_marked.Goals as goal

abbrev blank : Entry
blank = Expression (record { 0 = 0 })

pub returns-then-is_marked : goal.returns-then-is_marked
returns-then-is_marked t c =
    let s = c.args.terms.now in
    let F = (view_of s).functions in
    let ts = entry_trees s (part (view_of s).entries c.in-Call.arguments.first c.in-Call.arguments.count) in
    let e = call c.in-Call.function (arguments ts) in
    let m = c.if-is_marked.ensures ∙ ap is_marked (c.placement.ensures ∙ ap (placement_of F) c.in-Call.ensures.tree) in
    ap (λ b. b || any (holds_marked F) ts) m ∙ sym (ap (holds_marked F) c.in-Call.ensures.tree ∙ of-call F c.in-Call.function ts)

pub holds_marked-requires-in-loop-entry : goal.holds_marked-requires-in-loop-entry
holds_marked-requires-in-loop-entry t c =
    let s = c.args.terms.now in
    let low = lower s c.args.e.0 c.in-Call.function c.in-Call.arguments c.entries-entry-items.result.now c.entries-entry-items.ensures c.in-Call.ensures.inside c.in-Call.ensures.tree c.loop-entry.entry-index c.read.result.0 blank c.loop-entry-test.true (ap (λ x. x.0) c.read.ensures) in
    (omega (arith, low, c.decreases), omega (arith, low, c.requires))

pub returns-then-holds_marked : goal.returns-then-holds_marked
returns-then-holds_marked t c =
    let s = c.args.terms.now in
    let F = (view_of s).functions in
    let p = holds_marked F in
    let xs = c.entries-entry-items.result.now in
    let i = c.loop-entry.entry-index in
    let ts = entry_trees s xs in
    let tree = call-of s c.args.e.0 c.in-Call.function c.in-Call.arguments xs c.entries-entry-items.ensures c.in-Call.ensures.inside c.in-Call.ensures.tree in
    let here = ap (λ j. p (expr_in (view_of s).trees j.0)) (sym c.read.ensures) ∙ sym c.if-holds_marked.ensures in
    let some : any p ts ≡ true = c.loop-entry.invariant ∙ twice-step (any p) (expr_in (view_of s).trees) entry_number xs i blank c.loop-entry-test.true ∙ ap (λ b. b || any p (drop (i + 1) ts)) here in
    sym (ap p tree ∙ of-call F c.in-Call.function ts ∙ ap (λ b. is_marked (placement_of F (call c.in-Call.function (arguments ts))) || b) some ∙ or-true (is_marked (placement_of F (call c.in-Call.function (arguments ts)))))

pub loop-entry-preserved : goal.loop-entry-preserved
loop-entry-preserved t c =
    let s = c.args.terms.now in
    let p = holds_marked (view_of s).functions in
    let xs = c.entries-entry-items.result.now in
    let i = c.loop-entry.entry-index in
    c.loop-entry.invariant ∙ twice-step (any p) (expr_in (view_of s).trees) entry_number xs i blank c.loop-entry-test.true
    ∙ ap (λ b. b || any p (drop (i + 1) (entry_trees s xs))) (ap (λ j. p (expr_in (view_of s).trees j.0)) (sym c.read.ensures) ∙ sym c.if-holds_marked.ensures)

pub returns-in-Constant : goal.returns-in-Constant
returns-in-Constant t c = sym (of-plain (view_of c.args.terms.now).functions c.args.terms.now c.args.e.0 c.node.result c.node.ensures.tree c.in-Constant.is)

pub returns-in-Alias : goal.returns-in-Alias
returns-in-Alias t c =
    let s = c.args.terms.now in
    let p = holds_marked (view_of s).functions in
    c.holds_marked.ensures ∙ sym (ap p c.in-Alias.ensures.tree ∙ of-alias (view_of s).functions (tree_of s c.in-Alias.inner.0) (stored_field (view_of s).bytes c.in-Alias.field))

pub returns-after-loop-entry : goal.returns-after-loop-entry
returns-after-loop-entry t c =
    let s = c.args.terms.now in
    let F = (view_of s).functions in
    let p = holds_marked F in
    let xs = c.entries-entry-items.result.now in
    let ts = entry_trees s xs in
    let tree = call-of s c.args.e.0 c.in-Call.function c.in-Call.arguments xs c.entries-entry-items.ensures c.in-Call.ensures.inside c.in-Call.ensures.tree in
    let m = c.if-is_marked.ensures ∙ ap is_marked (c.placement.ensures ∙ ap (placement_of F) tree) in
    let none : any p ts ≡ false = c.loop-entry.invariant ∙ twice-end (any p) (expr_in (view_of s).trees) entry_number xs c.loop-entry.entry-index c.loop-entry-test.false in
    sym (ap p tree ∙ of-call F c.in-Call.function ts ∙ ap₂ (λ a b. a || b) (sym m) none)
