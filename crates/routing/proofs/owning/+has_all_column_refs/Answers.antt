use Rattle.std.proofs.Common.{◌+◌, ◌&&◌, drop, map, sym, ap, ◌∙◌, arith}
use Rattle.table.proofs.Loops.{twice-step, twice-end}
use Rattle.plan.specs.Fields.{every}
use Rattle.plan.specs.Model.{expr_in}
use Rattle.rewriting.specs.Routing.{has_all_column_refs, schema_columns}
use Rattle.entries.specs.Entries.{entry_number}
use Rattle.entries.specs.Spans.{literal_at, stored_field}
use Rattle.terms.specs.Views.{tree_of, view_of}
use Rattle.entries.specs.declared.node.Entry.{Entry}
use Rattle.entries.specs.declared.node.Entry.TheVariants.{Expression}
use Rattle.terms.proofs.Walks.{call-of, entry_trees, lower}
use Rattle.routing.proofs.Columns.{of-alias, of-call, of-literal, of-reference}
use Rattle.routing.proofs.owning.+has_all_column_refs.Goals as goal

abbrev blank : Entry
blank = Expression (record { 0 = 0 })

pub has_all_column_refs-requires-in-loop-entry : goal.has_all_column_refs-requires-in-loop-entry
has_all_column_refs-requires-in-loop-entry t c =
    let s = c.args.terms.now in
    let low = lower s c.args.e.0 c.in-Call.function c.in-Call.arguments c.entries-entry-items.result.now c.entries-entry-items.ensures c.in-Call.ensures.inside c.in-Call.ensures.tree c.loop-entry.entry-index c.read.result.0 blank c.loop-entry-test.true (ap (λ x. x.0) c.read.ensures) in
    (omega (arith, low, c.decreases), (c.requires.stored, omega (arith, low, c.requires.present)))

pub returns-then-not-has_all_column_refs : goal.returns-then-not-has_all_column_refs
returns-then-not-has_all_column_refs t c =
    let s = c.args.terms.now in
    let cs = schema_columns (map (stored_field (view_of s).bytes) c.args.fields.now) in
    let p = has_all_column_refs cs in
    let xs = c.entries-entry-items.result.now in
    let i = c.loop-entry.entry-index in
    let ts = entry_trees s xs in
    let tree = call-of s c.args.e.0 c.in-Call.function c.in-Call.arguments xs c.entries-entry-items.ensures c.in-Call.ensures.inside c.in-Call.ensures.tree in
    let here = ap (λ j. p (expr_in (view_of s).trees j.0)) (sym c.read.ensures) ∙ sym c.if-not-has_all_column_refs.ensures in
    sym (ap p tree ∙ of-call cs c.in-Call.function ts ∙ c.loop-entry.invariant ∙ twice-step (every p) (expr_in (view_of s).trees) entry_number xs i blank c.loop-entry-test.true ∙ ap (λ b. b && every p (drop (i + 1) ts)) here)

pub loop-entry-preserved : goal.loop-entry-preserved
loop-entry-preserved t c =
    let s = c.args.terms.now in
    let p = has_all_column_refs (schema_columns (map (stored_field (view_of s).bytes) c.args.fields.now)) in
    let xs = c.entries-entry-items.result.now in
    let i = c.loop-entry.entry-index in
    c.loop-entry.invariant ∙ twice-step (every p) (expr_in (view_of s).trees) entry_number xs i blank c.loop-entry-test.true
    ∙ ap (λ b. b && every p (drop (i + 1) (entry_trees s xs))) (ap (λ j. p (expr_in (view_of s).trees j.0)) (sym c.read.ensures) ∙ sym c.if-not-has_all_column_refs.ensures)

pub returns-in-Constant : goal.returns-in-Constant
returns-in-Constant t c =
    let s = c.args.terms.now in
    let cs = schema_columns (map (stored_field (view_of s).bytes) c.args.fields.now) in
    sym (ap (has_all_column_refs cs) c.in-Constant.ensures.tree ∙ of-literal cs (literal_at (view_of s).bytes c.in-Constant.field-0))

pub returns-in-Reference : goal.returns-in-Reference
returns-in-Reference t c =
    let s = c.args.terms.now in
    let cs = schema_columns (map (stored_field (view_of s).bytes) c.args.fields.now) in
    c.is_column.ensures ∙ sym (ap (has_all_column_refs cs) c.in-Reference.ensures.tree ∙ of-reference cs (stored_field (view_of s).bytes c.in-Reference.field))

pub returns-in-Alias : goal.returns-in-Alias
returns-in-Alias t c =
    let s = c.args.terms.now in
    let cs = schema_columns (map (stored_field (view_of s).bytes) c.args.fields.now) in
    c.has_all_column_refs.ensures ∙ sym (ap (has_all_column_refs cs) c.in-Alias.ensures.tree ∙ of-alias cs (tree_of s c.in-Alias.inner.0) (stored_field (view_of s).bytes c.in-Alias.field))

pub returns-after-loop-entry : goal.returns-after-loop-entry
returns-after-loop-entry t c =
    let s = c.args.terms.now in
    let cs = schema_columns (map (stored_field (view_of s).bytes) c.args.fields.now) in
    let p = has_all_column_refs cs in
    let xs = c.entries-entry-items.result.now in
    let tree = call-of s c.args.e.0 c.in-Call.function c.in-Call.arguments xs c.entries-entry-items.ensures c.in-Call.ensures.inside c.in-Call.ensures.tree in
    sym (ap p tree ∙ of-call cs c.in-Call.function (entry_trees s xs) ∙ c.loop-entry.invariant ∙ twice-end (every p) (expr_in (view_of s).trees) entry_number xs c.loop-entry.entry-index c.loop-entry-test.false)
