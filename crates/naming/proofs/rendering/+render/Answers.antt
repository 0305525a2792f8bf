use Rattle.std.proofs.Common.{◌≡◌, ℕ, ◌<◌, List, ◌++◌, map, length, get_or, take, sym, ap, ◌∙◌, arith, length-append}
use Rattle.std.proofs.lemmas.List.{append_assoc, length-map, get_or-map, take_all}
use Rattle.plan.specs.Terms.{Expr, arguments}
use Rattle.plan.specs.Terms.Expr.{call}
use Rattle.plan.specs.Rendering.{rendered, rendered_all}
use Rattle.plan.specs.Model.{expr_in, no_expr}
use Rattle.terms.specs.Build.{gap, width_of}
use Rattle.entries.specs.Entries.{entry_number, expr_of}
use Rattle.terms.specs.Views.{view_of, tree_of}
use Rattle.entries.specs.declared.node.Entry.{Entry}
use Rattle.entries.specs.declared.node.Entry.TheVariants.{Expression}
use Rattle.entries.specs.declared.node.ExprId.{ExprId}
use Rattle.terms.specs.declared.terms.Terms.{Terms}
use Rattle.terms.proofs.Walks.{listed_lower}
use Rattle.terms.proofs.Rendered.{all_more, argument-fits, call_fits, opened-length, closed}
use Rattle.naming.proofs.rendering.+render.Goals as goal

abbrev blank : Entry
blank = Expression (record { 0 = 0 })

abbrev args : Terms → List Entry → List Expr
args s es = map (expr_in (view_of s).trees) (map entry_number es)

long : (s : Terms) (es : List Entry) → length (args s es) ≡ length es
long s es = length-map (map entry_number es) (expr_in (view_of s).trees) ∙ length-map es entry_number

-- the argument at i, by its entry
argument : (s : Terms) (es : List Entry) (i : ℕ) (e : ExprId) → i < length es → e ≡ expr_of (get_or es i blank) → get_or (args s es) i no_expr ≡ tree_of s e.0
argument s es i e lt h =
    get_or-map (expr_in (view_of s).trees) (map entry_number es) i 0 no_expr (omega (arith, length-map es entry_number))
    ∙ ap (expr_in (view_of s).trees) (get_or-map entry_number es i blank 0 lt ∙ ap (λ x. x.0) (sym h))

pub part-requires : goal.part-requires
part-requires t c =
    let s = c.args.terms.now in
    let fs = (view_of s).functions in
    let es = c.entries-entry-items.result.now in
    let ts = args s es in
    let i = c.loop-i.i in
    let tree = c.in-Call.ensures.tree ∙ ap (λ l. call c.in-Call.function (arguments (args s l))) (sym c.entries-entry-items.ensures) in
    let lt : i < length ts = omega (arith, long s es, c.loop-i-test.true) in
    omega (arith, call_fits fs c.in-Call.function ts _ tree _ c.requires.room, opened-length fs c.in-Call.function ts _ tree _ c.requires.room _ _ _ c.name_of.ensures c.extend-in-Call.ensures c.push.ensures, ap length c.loop-i.invariant, length-append c.push.new.self (rendered_all fs (arguments (take i ts))), argument-fits fs ts i no_expr lt)

pub render-requires : goal.render-requires
render-requires t c =
    let s = c.args.terms.now in
    let fs = (view_of s).functions in
    let es = c.entries-entry-items.result.now in
    let ts = args s es in
    let i = c.loop-i.i in
    let tree = c.in-Call.ensures.tree ∙ ap (λ l. call c.in-Call.function (arguments (args s l))) (sym c.entries-entry-items.ensures) in
    let l = listed_lower (view_of s).bytes (view_of s).entries es c.args.e.0 c.in-Call.function c.in-Call.arguments i blank c.in-Call.ensures.inside c.entries-entry-items.ensures c.loop-i-test.true in
    let e = ap (λ x. x.0) c.read.ensures in
    let lt : i < length ts = omega (arith, long s es, c.loop-i-test.true) in
    let x = argument s es i c.read.result c.loop-i-test.true c.read.ensures in
    (omega (arith, l, e, c.decreases), (omega (arith, l, e, c.requires.present), omega (arith, call_fits fs c.in-Call.function ts _ tree _ c.requires.room, opened-length fs c.in-Call.function ts _ tree _ c.requires.room _ _ _ c.name_of.ensures c.extend-in-Call.ensures c.push.ensures, ap length c.loop-i.invariant, length-append c.push.new.self (rendered_all fs (arguments (take i ts))), argument-fits fs ts i no_expr lt, ap (width_of fs) x, ap length c.part.ensures, length-append c.loop-i.out (gap i))))

pub loop-i-preserved : goal.loop-i-preserved
loop-i-preserved t c =
    let s = c.args.terms.now in
    let fs = (view_of s).functions in
    let es = c.entries-entry-items.result.now in
    let ts = args s es in
    let i = c.loop-i.i in
    let lt : i < length ts = omega (arith, long s es, c.loop-i-test.true) in
    let x = argument s es i c.read.result c.loop-i-test.true c.read.ensures in
    let p = c.push.new.self in
    let so = rendered_all fs (arguments (take i ts)) in
    let r = rendered fs (tree_of s c.read.result.0) in
    c.render.ensures ∙ ap (λ w. w ++ r) (c.part.ensures ∙ ap (λ w. w ++ gap i) c.loop-i.invariant) ∙ append_assoc (p ++ so) (gap i) r ∙ append_assoc p so (gap i ++ r)
    ∙ ap (λ w. p ++ w) (ap (λ y. so ++ (gap i ++ rendered fs y)) (sym x) ∙ sym (all_more fs ts i no_expr lt))

pub returns-after-loop-i : goal.returns-after-loop-i
returns-after-loop-i t c =
    let s = c.args.terms.now in
    let fs = (view_of s).functions in
    let es = c.entries-entry-items.result.now in
    let ts = args s es in
    let tree = c.in-Call.ensures.tree ∙ ap (λ l. call c.in-Call.function (arguments (args s l))) (sym c.entries-entry-items.ensures) in
    let whole = c.loop-i.invariant ∙ ap (λ l. c.push.new.self ++ rendered_all fs (arguments l)) (take_all c.loop-i.i ts (omega (arith, long s es, c.loop-i-test.false))) in
    closed fs c.in-Call.function ts _ tree _ c.requires.room _ _ _ _ _ c.name_of.ensures c.extend-in-Call.ensures c.push.ensures whole c.push-in-Call.ensures
