use Rattle.std.proofs.Common.{◌<◌, length, ap, arith}
use Rattle.plan.specs.Model.{expr_in, no_expr}
use Rattle.plan.specs.Terms.{size_of}
use Rattle.entries.specs.Spans.{literal_at, stored_field}
use Rattle.entries.specs.declared.node.Entry.{Entry}
use Rattle.entries.specs.declared.node.Entry.TheVariants.{Expression}
use Rattle.terms.proofs.Walks.{argument, call-of, entry_trees, long, lower}
use Rattle.terms.specs.Views.{view_of}
use Rattle.merging.specs.Replacing.{map_of}
use Rattle.merging.proofs.Replaced.{rep, rep-alias, rep-call, rep-literal, sizes-end, sizes-turn}
use Rattle.merging.proofs.replacing.+replaced_size.Goals as goal

abbrev blank : Entry
blank = Expression (record { 0 = 0 })

pub returns-in-Constant : goal.returns-in-Constant
returns-in-Constant n c =
    let v = view_of c.args.terms.now in
    let m = map_of v c.args.map in
    omega (arith, ap (λ e. size_of (rep m e)) c.in-Constant.ensures.tree, ap size_of (rep-literal m (literal_at v.bytes c.in-Constant.field-0)))

pub returns-in-Alias : goal.returns-in-Alias
returns-in-Alias n c =
    let v = view_of c.args.terms.now in
    let m = map_of v c.args.map in
    let i = expr_in v.trees c.in-Alias.inner.0 in
    omega (arith, c.capped-in-Alias.ensures, c.replaced_size.ensures, ap (λ e. size_of (rep m e)) c.in-Alias.ensures.tree, ap size_of (rep-alias m i (stored_field v.bytes c.in-Alias.field)))

pub replaced_size-requires-in-loop-entry : goal.replaced_size-requires-in-loop-entry
replaced_size-requires-in-loop-entry n c =
    let low = lower c.args.terms.now c.args.e.0 c.in-Call.function c.in-Call.arguments c.entries-entry-items.result.now c.entries-entry-items.ensures c.in-Call.ensures.inside c.in-Call.ensures.tree c.loop-entry.entry-index c.read.result.0 blank c.loop-entry-test.true (ap (λ x. x.0) c.read.ensures) in
    (omega (arith, low, c.decreases), (c.requires.inside, omega (arith, low, c.requires.present)))

pub loop-entry-preserved : goal.loop-entry-preserved
loop-entry-preserved n c =
    let t = c.args.terms.now in
    let m = map_of (view_of t) c.args.map in
    let xs = c.entries-entry-items.result.now in
    let ts = entry_trees t xs in
    let i = c.loop-entry.entry-index in
    let is = argument t c.args.e.0 c.in-Call.function c.in-Call.arguments xs c.entries-entry-items.ensures c.in-Call.ensures.inside c.in-Call.ensures.tree i c.read.result.0 blank c.loop-entry-test.true (ap (λ x. x.0) c.read.ensures) in
    let lt : i < length ts = omega (arith, c.loop-entry-test.true, long t xs) in
    record {
      sum = omega (arith, c.loop-entry.invariant.sum, c.capped-size.ensures, c.replaced_size-in-loop-entry.ensures, ap (λ e. size_of (rep m e)) is, sizes-turn m ts i no_expr lt);
      bound = omega (arith, c.capped-size.ensures);
    }

pub returns-after-loop-entry : goal.returns-after-loop-entry
returns-after-loop-entry n c =
    let t = c.args.terms.now in
    let m = map_of (view_of t) c.args.map in
    let xs = c.entries-entry-items.result.now in
    let ts = entry_trees t xs in
    let tree = call-of t c.args.e.0 c.in-Call.function c.in-Call.arguments xs c.entries-entry-items.ensures c.in-Call.ensures.inside c.in-Call.ensures.tree in
    omega (arith, c.loop-entry.invariant.sum, c.loop-entry.invariant.bound, sizes-end m ts c.loop-entry.entry-index (omega (arith, c.loop-entry-test.false, long t xs)), ap (λ e. size_of (rep m e)) tree, ap size_of (rep-call m c.in-Call.function ts))
