use Rattle.std.proofs.Common.{◌≡◌, ◌+◌, ◌<◌, length, drop, get_or, refl, sym, ap, ◌∙◌, arith}
use Rattle.plan.specs.Model.{no_expr}
use Rattle.plan.specs.Terms.{arguments, references_of, references_of_all}
use Rattle.rewriting.specs.Routing.{needs}
use Rattle.routing.specs.Sides.{side_of}
use Rattle.entries.specs.Spans.{stored_field}
use Rattle.terms.specs.Views.{tree_of, view_of}
use Rattle.entries.specs.declared.node.Entry.{Entry}
use Rattle.entries.specs.declared.node.Entry.TheVariants.{Expression}
use Rattle.terms.proofs.Walks.{argument, call-of, entry_trees, long, lower}
use Rattle.extracting.specs.Extractors.{needs_of}
use Rattle.extracting.proofs.Needs.{needing_is, needs-nil, needs-one, needs-turn, needs_end}
use Rattle.extracting.proofs.Rewritten.{needs-longer}
use Rattle.extracting.proofs.extractor.Extractor.+needs.Goals as goal

abbrev blank : Entry
blank = Expression (record { 0 = 0 })

pub need-requires-clause-room : goal.need-requires-clause-room
need-requires-clause-room t c =
    let v = view_of c.args.terms.now in
    let s = side_of c.args.side in
    let ns = needs_of v c.args.self.now in
    omega (arith, c.requires.room, ap (λ u. length (needs s (references_of u) ns)) c.in-Reference.ensures.tree, ap length (needs-one s (stored_field v.bytes c.in-Reference.field) ns))

pub needs-requires-in-loop-entry : goal.needs-requires-in-loop-entry
needs-requires-in-loop-entry t c =
    let m = c.args.terms.now in
    let v = view_of m in
    let s = side_of c.args.side in
    let f = c.in-Call.function in
    let run = c.in-Call.arguments in
    let xs = c.entries-entry-items.result.now in
    let ts = entry_trees m xs in
    let i = c.loop-entry.entry-index in
    let a = c.read.result.0 in
    let n0 = needs_of v c.args.self.now in
    let n = needs_of v c.loop-entry.self in
    let is = ap (λ x. x.0) c.read.ensures in
    let low = lower m c.args.e.0 f run xs c.entries-entry-items.ensures c.in-Call.ensures.inside c.in-Call.ensures.tree i a blank c.loop-entry-test.true is in
    let tree = argument m c.args.e.0 f run xs c.entries-entry-items.ensures c.in-Call.ensures.inside c.in-Call.ensures.tree i a blank c.loop-entry-test.true is in
    let whole = call-of m c.args.e.0 f run xs c.entries-entry-items.ensures c.in-Call.ensures.inside c.in-Call.ensures.tree in
    let lt : i < length ts = omega (arith, long m xs, c.loop-entry-test.true) in
    let later = references_of_all (arguments (drop (i + 1) ts)) in
    let here = needs s (references_of (get_or ts i no_expr)) n in
    let all : needs s (references_of (tree_of m c.args.e.0)) n0 ≡ needs s later here = ap (λ u. needs s (references_of u) n0) whole ∙ c.loop-entry.invariant.left ∙ needs-turn s ts i no_expr n lt in
    (omega (arith, low, c.decreases), (c.loop-entry.invariant.inside, (omega (arith, low, c.requires.present), omega (arith, c.requires.room, ap length all, needs-longer s later here, ap (λ u. length (needs s (references_of u) n)) tree))))

pub loop-entry-preserved : goal.loop-entry-preserved
loop-entry-preserved t c =
    let m = c.args.terms.now in
    let v = view_of m in
    let s = side_of c.args.side in
    let xs = c.entries-entry-items.result.now in
    let ts = entry_trees m xs in
    let i = c.loop-entry.entry-index in
    let n = needs_of v c.loop-entry.self in
    let tree = argument m c.args.e.0 c.in-Call.function c.in-Call.arguments xs c.entries-entry-items.ensures c.in-Call.ensures.inside c.in-Call.ensures.tree i c.read.result.0 blank c.loop-entry-test.true (ap (λ x. x.0) c.read.ensures) in
    let lt : i < length ts = omega (arith, long m xs, c.loop-entry-test.true) in
    let later = references_of_all (arguments (drop (i + 1) ts)) in
    let k = c.needs-in-loop-entry.ensures in
    let inv = c.loop-entry.invariant in
    record {
      left = inv.left ∙ needs-turn s ts i no_expr n lt ∙ ap (needs s later) (ap (λ u. needs s (references_of u) n) (sym tree) ∙ sym (ap (λ g. g.needed) k.value));
      entries = k.entries ∙ inv.entries;
      next = ap (λ g. g.next) k.value ∙ inv.next;
      is_new = ap (λ g. g.new) k.value ∙ inv.is_new;
      inside = k.inside;
    }

pub returns-in-Constant-clause-value : goal.returns-in-Constant-clause-value
returns-in-Constant-clause-value t c =
    let v = view_of c.args.terms.now in
    let x = c.args.self.now in
    let s = side_of c.args.side in
    let ns = needs_of v x in
    needing_is v x x s (references_of (tree_of c.args.terms.now c.args.e.0)) refl refl refl (sym (ap (λ u. needs s (references_of u) ns) c.in-Constant.ensures.tree ∙ needs-nil s ns))

pub returns-after-loop-entry-clause-value : goal.returns-after-loop-entry-clause-value
returns-after-loop-entry-clause-value t c =
    let m = c.args.terms.now in
    let v = view_of m in
    let x = c.args.self.now in
    let y = c.loop-entry.self in
    let s = side_of c.args.side in
    let xs = c.entries-entry-items.result.now in
    let ts = entry_trees m xs in
    let whole = call-of m c.args.e.0 c.in-Call.function c.in-Call.arguments xs c.entries-entry-items.ensures c.in-Call.ensures.inside c.in-Call.ensures.tree in
    let inv = c.loop-entry.invariant in
    needing_is v x y s (references_of (tree_of m c.args.e.0)) inv.entries inv.next inv.is_new
    (sym (ap (λ u. needs s (references_of u) (needs_of v x)) whole ∙ inv.left ∙ needs_end s ts c.loop-entry.entry-index (needs_of v y) (omega (arith, long m xs, c.loop-entry-test.false))))
