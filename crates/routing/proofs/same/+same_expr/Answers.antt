use Rattle.std.proofs.Common.{◌+◌, ◌&&◌, drop, sym, refl, ap, ◌∙◌, arith}
use Rattle.plan.specs.Terms.{arguments, same_exprs}
use Rattle.entries.specs.declared.node.Entry.{Entry}
use Rattle.entries.specs.declared.node.Entry.TheVariants.{Expression}
use Rattle.terms.proofs.Walks.{entry_trees}
use Rattle.routing.proofs.Equals.{at-end, lower-first, lower-second, one-differs, other-count, other-function, turn}
use Rattle.routing.proofs.same.+same_expr.Goals as goal

abbrev blank : Entry
blank = Expression (record { 0 = 0 })

pub returns-then-m-n : goal.returns-then-m-n
returns-then-m-n t c =
    let k = c.in-Call-Call in
    sym (other-function c.args.terms.now c.args.a.0 c.args.b.0 k.m k.n k.first k.second _ _ refl refl k.ensures.inside k.ensures'.inside k.ensures.tree k.ensures'.tree c.if-m-n.true)

pub returns-then-first-second : goal.returns-then-first-second
returns-then-first-second t c =
    let k = c.in-Call-Call in
    sym (other-count c.args.terms.now c.args.a.0 c.args.b.0 k.m k.n k.first k.second _ _ refl refl k.ensures.inside k.ensures'.inside k.ensures.tree k.ensures'.tree c.if-m-n.false c.if-first-second.true)

pub same_expr-requires-in-loop-i : goal.same_expr-requires-in-loop-i
same_expr-requires-in-loop-i t c =
    let s = c.args.terms.now in
    let k = c.in-Call-Call in
    let xs = c.entries-entry-items.result.now in
    let ys = c.entries-others.result.now in
    let is = ap (λ x. x.0) c.read.ensures in
    let os = ap (λ x. x.0) c.read-in-loop-i.ensures in
    let low = lower-first s c.args.a.0 c.args.b.0 k.m k.n k.first k.second xs ys c.entries-entry-items.ensures c.entries-others.ensures k.ensures.inside k.ensures'.inside k.ensures.tree k.ensures'.tree c.loop-i.i c.read.result.0 c.read-in-loop-i.result.0 blank c.if-first-second.false c.loop-i-test.true is os in
    let other = lower-second s c.args.a.0 c.args.b.0 k.m k.n k.first k.second xs ys c.entries-entry-items.ensures c.entries-others.ensures k.ensures.inside k.ensures'.inside k.ensures.tree k.ensures'.tree c.loop-i.i c.read.result.0 c.read-in-loop-i.result.0 blank c.if-first-second.false c.loop-i-test.true is os in
    (omega (arith, low, c.decreases), (omega (arith, low, c.requires.left), omega (arith, other, c.requires.right)))

pub returns-then-not-same_expr : goal.returns-then-not-same_expr
returns-then-not-same_expr t c =
    let s = c.args.terms.now in
    let k = c.in-Call-Call in
    let xs = c.entries-entry-items.result.now in
    let ys = c.entries-others.result.now in
    let i = c.loop-i.i in
    let rest = same_exprs (arguments (drop (i + 1) (entry_trees s xs))) (arguments (drop (i + 1) (entry_trees s ys))) in
    let one = turn s c.args.a.0 c.args.b.0 k.m k.n k.first k.second xs ys c.entries-entry-items.ensures c.entries-others.ensures k.ensures.inside k.ensures'.inside k.ensures.tree k.ensures'.tree i c.read.result.0 c.read-in-loop-i.result.0 blank c.if-first-second.false c.loop-i-test.true (ap (λ x. x.0) c.read.ensures) (ap (λ x. x.0) c.read-in-loop-i.ensures) in
    sym (one-differs s c.args.a.0 c.args.b.0 k.m k.n k.first k.second xs ys c.entries-entry-items.ensures c.entries-others.ensures k.ensures.inside k.ensures'.inside k.ensures.tree k.ensures'.tree c.if-m-n.false rest i (c.loop-i.invariant ∙ one ∙ ap (λ b. b && rest) (sym c.if-not-same_expr.ensures)))

pub loop-i-preserved : goal.loop-i-preserved
loop-i-preserved t c =
    let s = c.args.terms.now in
    let k = c.in-Call-Call in
    let xs = c.entries-entry-items.result.now in
    let ys = c.entries-others.result.now in
    let i = c.loop-i.i in
    let one = turn s c.args.a.0 c.args.b.0 k.m k.n k.first k.second xs ys c.entries-entry-items.ensures c.entries-others.ensures k.ensures.inside k.ensures'.inside k.ensures.tree k.ensures'.tree i c.read.result.0 c.read-in-loop-i.result.0 blank c.if-first-second.false c.loop-i-test.true (ap (λ x. x.0) c.read.ensures) (ap (λ x. x.0) c.read-in-loop-i.ensures) in
    c.loop-i.invariant ∙ one ∙ ap (λ b. b && same_exprs (arguments (drop (i + 1) (entry_trees s xs))) (arguments (drop (i + 1) (entry_trees s ys)))) (sym c.if-not-same_expr.ensures)

pub returns-after-loop-i : goal.returns-after-loop-i
returns-after-loop-i t c =
    let k = c.in-Call-Call in
    sym (at-end c.args.terms.now c.args.a.0 c.args.b.0 k.m k.n k.first k.second c.entries-entry-items.result.now c.entries-others.result.now c.entries-entry-items.ensures c.entries-others.ensures k.ensures.inside k.ensures'.inside k.ensures.tree k.ensures'.tree c.if-m-n.false c.if-first-second.false c.loop-i.i c.loop-i-test.false c.loop-i.invariant)
