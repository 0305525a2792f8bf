use Rattle.std.proofs.Common.{◌≡◌, ◌+◌, List, Err, length, sym, refl, ap, ap₂, ◌∙◌, subst, arith, rules}
use Rattle.std.proofs.lemmas.Bool.{le-leb}
use Rattle.plan.specs.Fields.{any}
use Rattle.plan.specs.Functions.{is_total}
use Rattle.plan.specs.Model.{expr_in, exprs_in, space}
use Rattle.plan.specs.Questions.{small_tree}
use Rattle.plan.specs.Terms.{arguments, size_of}
use Rattle.plan.specs.Terms.Expr.{alias, call}
use Rattle.rewriting.specs.Outlay.{tree_space}
use Rattle.entries.specs.Spans.{literal_at, stored_field}
use Rattle.entries.specs.declared.node.ExprId.{ExprId}
use Rattle.entries.specs.declared.node.ExprNode.TheVariants.{Alias, Call, Constant}
use Rattle.table.specs.Contents.{part}
use Rattle.tables.specs.Holding.{view_in}
use Rattle.terms.proofs.Walks.{counted, few}
use Rattle.terms.specs.Build.{numbers_in}
use Rattle.terms.specs.Views.{numbers_of, view_of}
use Rattle.extracting.proofs.Cases.{field-stays, inner-lower, inside-here, name-stored, tree-here}
use Rattle.extracting.proofs.Growing.{longer, tree-stays}
use Rattle.extracting.proofs.Spaces.{AtMost, alias-space}
use Rattle.extracting.specs.Walking.{BuiltBy}
use Rattle.merging.specs.Replacing.{map_of, replaced}
use Rattle.merging.proofs.Following.{alias-more, built-then, itself, map-inside, no-room-part, totals-stay}
use Rattle.merging.proofs.Partly.{call-here, finished, lower, made-no-total, made-same, made-small, refused, size-there, turn}
use Rattle.merging.proofs.Replaced.{rep, rep-alias, rep-literal}
use Rattle.merging.proofs.replacing.+replace_cols_by_name.Goals as goal

abbrev first : ExprId
first = record { 0 = 0 }

pub returns-in-Constant-clause-answer : goal.returns-in-Constant-clause-answer
returns-in-Constant-clause-answer n c =
    let t = c.args.tables.now in
    let m = map_of (view_in t) c.args.map in
    let l = c.in-Constant.field-0 in
    let tree = tree-here t c.terms.result.now c.terms.ensures c.args.e.0 (Constant l) c.in-Constant.ensures.tree c.in-Constant.ensures.inside in
    itself t (tree_space (replaced (view_in t) c.args.map c.args.e.0)) 0 (replaced (view_in t) c.args.map c.args.e.0) c.args.e.0 c.requires.present (tree ∙ sym (ap (rep m) tree ∙ rep-literal m (literal_at (view_in t).bytes l)))

pub replace_cols_by_name-requires : goal.replace_cols_by_name-requires
replace_cols_by_name-requires n c =
    let t = c.args.tables.now in
    let m = map_of (view_in t) c.args.map in
    let i = c.in-Alias.inner in
    let f = c.in-Alias.field in
    let tree = tree-here t c.terms.result.now c.terms.ensures c.args.e.0 (Alias i f) c.in-Alias.ensures.tree c.in-Alias.ensures.inside in
    let low = inner-lower t c.args.e.0 i f (inside-here t c.terms.result.now c.terms.ensures c.args.e.0 (Alias i f) c.in-Alias.ensures.tree c.in-Alias.ensures.inside) in
    let is = ap (rep m) tree ∙ rep-alias m (expr_in (view_in t).trees i.0) (stored_field (view_in t).bytes f) in
    (omega (arith, low, c.decreases), (c.requires.inside, (omega (arith, low, c.requires.present), (c.requires.totals, omega (arith, c.requires.small, ap size_of is)))))

pub returns-in_err-made-in-Alias-clause-answer : goal.returns-in_err-made-in-Alias-clause-answer
returns-in_err-made-in-Alias-clause-answer n c =
    let t = c.args.tables.now in
    let m = map_of (view_in t) c.args.map in
    let i = c.in-Alias.inner in
    let f = c.in-Alias.field in
    let tree = tree-here t c.terms.result.now c.terms.ensures c.args.e.0 (Alias i f) c.in-Alias.ensures.tree c.in-Alias.ensures.inside in
    let is = ap (rep m) tree ∙ rep-alias m (expr_in (view_in t).trees i.0) (stored_field (view_in t).bytes f) in
    let inner = replaced (view_in t) c.args.map i.0 in
    let d = c.in_err-made-in-Alias.field-0.0 in
    let e : c.from_residual.result ≡ Err d = search rules in
    subst (λ q. BuiltBy t (tree_space (replaced (view_in t) c.args.map c.args.e.0)) 0 (replaced (view_in t) c.args.map c.args.e.0) q c.replace_cols_by_name.new.tables) (sym e)
    (no-room-part t (tree_space inner) (tree_space (replaced (view_in t) c.args.map c.args.e.0)) d (subst (λ x. AtMost (tree_space inner) (tree_space x)) (sym is) (alias-more inner (stored_field (view_in t).bytes f))) c.in_err-made-in-Alias.ensures.answer)

pub realias-requires-clause-stored : goal.realias-requires-clause-stored
realias-requires-clause-stored n c =
    let t = c.args.tables.now in
    let i = c.in-Alias.inner in
    let f = c.in-Alias.field in
    let inside = inside-here t c.terms.result.now c.terms.ensures c.args.e.0 (Alias i f) c.in-Alias.ensures.tree c.in-Alias.ensures.inside in
    (field-stays t c.replace_cols_by_name.new.tables c.in_ok-made-in-Alias.ensures.answer.grows f (name-stored t c.args.e.0 i f inside)).1

pub realias-requires-clause-tree : goal.realias-requires-clause-tree
realias-requires-clause-tree n c =
    let t = c.args.tables.now in
    let u = c.replace_cols_by_name.new.tables in
    let i = c.in-Alias.inner in
    let f = c.in-Alias.field in
    let tree = tree-here t c.terms.result.now c.terms.ensures c.args.e.0 (Alias i f) c.in-Alias.ensures.tree c.in-Alias.ensures.inside in
    let inside = inside-here t c.terms.result.now c.terms.ensures c.args.e.0 (Alias i f) c.in-Alias.ensures.tree c.in-Alias.ensures.inside in
    let g = c.in_ok-made-in-Alias.ensures.answer.grows in
    tree-stays t u g c.args.e.0 c.requires.present ∙ tree
    ∙ ap₂ alias (sym (tree-stays t u g i.0 (omega (arith, inner-lower t c.args.e.0 i f inside, c.requires.present)))) (sym (field-stays t u g f (name-stored t c.args.e.0 i f inside)).0)

pub realias-requires-clause-small : goal.realias-requires-clause-small
realias-requires-clause-small n c =
    let t = c.args.tables.now in
    let u = c.replace_cols_by_name.new.tables in
    let m = map_of (view_in t) c.args.map in
    let i = c.in-Alias.inner in
    let f = c.in-Alias.field in
    let tree = tree-here t c.terms.result.now c.terms.ensures c.args.e.0 (Alias i f) c.in-Alias.ensures.tree c.in-Alias.ensures.inside in
    let is = ap (rep m) tree ∙ rep-alias m (expr_in (view_in t).trees i.0) (stored_field (view_in t).bytes f) in
    le-leb (size_of (expr_in (view_in u).trees c.in_ok-made-in-Alias.made.0) + 1) 256 (omega (arith, c.requires.small, ap size_of is, ap size_of c.in_ok-made-in-Alias.ensures.answer.tree))

pub returns-in_ok-made-in-Alias-clause-answer : goal.returns-in_ok-made-in-Alias-clause-answer
returns-in_ok-made-in-Alias-clause-answer n c =
    let t = c.args.tables.now in
    let u = c.replace_cols_by_name.new.tables in
    let w = c.realias.new.tables in
    let m = map_of (view_in t) c.args.map in
    let i = c.in-Alias.inner in
    let f = c.in-Alias.field in
    let tree = tree-here t c.terms.result.now c.terms.ensures c.args.e.0 (Alias i f) c.in-Alias.ensures.tree c.in-Alias.ensures.inside in
    let inside = inside-here t c.terms.result.now c.terms.ensures c.args.e.0 (Alias i f) c.in-Alias.ensures.tree c.in-Alias.ensures.inside in
    let is = ap (rep m) tree ∙ rep-alias m (expr_in (view_in t).trees i.0) (stored_field (view_in t).bytes f) in
    let a = c.in_ok-made-in-Alias.ensures.answer in
    let inner = replaced (view_in t) c.args.map i.0 in
    let g = stored_field (view_in t).bytes f in
    let k = (field-stays t u a.grows f (name-stored t c.args.e.0 i f inside)).0 in
    let b = subst (λ z. BuiltBy u (space 1 0 0 0 0) 0 z c.realias.result w) (ap₂ alias a.tree k) c.realias.ensures.answer in
    subst (λ z. BuiltBy t (tree_space z) 0 z c.realias.result w) (sym is)
    (built-then t u w (tree_space inner) (space 1 0 0 0 0) (tree_space (alias inner g)) 0 inner (alias inner g) c.in_ok-made-in-Alias.made.0 c.realias.result (alias-space inner g) a b)

pub arguments_of-given-requires-clause-few : goal.arguments_of-given-requires-clause-few
arguments_of-given-requires-clause-few n c =
    let t = c.args.tables.now in
    let e = c.args.e.0 in
    let f = c.in-Call.function in
    let r = c.in-Call.arguments in
    let tree = tree-here t c.terms.result.now c.terms.ensures e (Call f r) c.in-Call.ensures.tree c.in-Call.ensures.inside in
    let inside = inside-here t c.terms.result.now c.terms.ensures e (Call f r) c.in-Call.ensures.tree c.in-Call.ensures.inside in
    let xs = part (view_in t).entries r.first r.count in
    omega (arith, few t.terms e f r xs refl inside tree c.requires.present, counted t.terms e f r xs refl inside tree)

pub replace_cols_by_name-requires-in-loop-argument : goal.replace_cols_by_name-requires-in-loop-argument
replace_cols_by_name-requires-in-loop-argument n c =
    let t = c.args.tables.now in
    let m = c.args.map in
    let e = c.args.e.0 in
    let f = c.in-Call.function in
    let r = c.in-Call.arguments in
    let tree = tree-here t c.terms.result.now c.terms.ensures e (Call f r) c.in-Call.ensures.tree c.in-Call.ensures.inside in
    let inside = inside-here t c.terms.result.now c.terms.ensures e (Call f r) c.in-Call.ensures.tree c.in-Call.ensures.inside in
    let given = c.as_slice-argument-items.result.now in
    let given-is = ap numbers_of c.as_slice-argument-items.ensures ∙ c.arguments_of-given.ensures ∙ ap (λ m. numbers_in (view_of m).entries r.first r.count) c.terms-in-Call.ensures in
    let i = c.loop-argument.argument-index in
    let u = c.loop-argument.tables in
    let k = c.loop-argument.invariant in
    let low = lower t m c.requires.inside c.requires.totals e f r given tree inside given-is c.requires.present c.requires.small u c.loop-argument.made i c.loop-argument.same k c.loop-argument-test.true first in
    (omega (arith, low, c.decreases), (map-inside t u k.grows m c.requires.inside, (omega (arith, low, c.requires.present, longer t u k.grows), (totals-stay t u k.grows m c.requires.inside c.requires.totals, size-there t m c.requires.inside c.requires.totals e f r given tree inside given-is c.requires.present c.requires.small u c.loop-argument.made i c.loop-argument.same k c.loop-argument-test.true first))))

pub returns-in_err-part-in-Call-clause-answer : goal.returns-in_err-part-in-Call-clause-answer
returns-in_err-part-in-Call-clause-answer n c =
    let t = c.args.tables.now in
    let m = c.args.map in
    let e = c.args.e.0 in
    let f = c.in-Call.function in
    let r = c.in-Call.arguments in
    let tree = tree-here t c.terms.result.now c.terms.ensures e (Call f r) c.in-Call.ensures.tree c.in-Call.ensures.inside in
    let inside = inside-here t c.terms.result.now c.terms.ensures e (Call f r) c.in-Call.ensures.tree c.in-Call.ensures.inside in
    let given = c.as_slice-argument-items.result.now in
    let given-is = ap numbers_of c.as_slice-argument-items.ensures ∙ c.arguments_of-given.ensures ∙ ap (λ m. numbers_in (view_of m).entries r.first r.count) c.terms-in-Call.ensures in
    let i = c.loop-argument.argument-index in
    let u = c.loop-argument.tables in
    let k = c.loop-argument.invariant in
    let d = c.in_err-part-in-Call.field-0.0 in
    let is-err : c.from_residual-in_err-part-in-Call.result ≡ Err d = search rules in
    subst (λ q. BuiltBy t (tree_space (replaced (view_in t) m e)) 0 (replaced (view_in t) m e) q c.replace_cols_by_name-in-loop-argument.new.tables) (sym is-err)
    (refused t m c.requires.inside c.requires.totals e f r given tree inside given-is c.requires.present c.requires.small u c.loop-argument.made i c.loop-argument.same k c.loop-argument-test.true first d c.in_err-part-in-Call.ensures.answer)

pub loop-argument-preserved : goal.loop-argument-preserved
loop-argument-preserved n c =
    let t = c.args.tables.now in
    let m = c.args.map in
    let e = c.args.e.0 in
    let f = c.in-Call.function in
    let r = c.in-Call.arguments in
    let tree = tree-here t c.terms.result.now c.terms.ensures e (Call f r) c.in-Call.ensures.tree c.in-Call.ensures.inside in
    let inside = inside-here t c.terms.result.now c.terms.ensures e (Call f r) c.in-Call.ensures.tree c.in-Call.ensures.inside in
    let given = c.as_slice-argument-items.result.now in
    let given-is = ap numbers_of c.as_slice-argument-items.ensures ∙ c.arguments_of-given.ensures ∙ ap (λ m. numbers_in (view_of m).entries r.first r.count) c.terms-in-Call.ensures in
    let i = c.loop-argument.argument-index in
    let u = c.loop-argument.tables in
    let k = c.loop-argument.invariant in
    turn t m c.requires.inside c.requires.totals e f r given tree inside given-is c.requires.present c.requires.small u c.loop-argument.made i c.loop-argument.same k c.loop-argument-test.true first c.replace_cols_by_name-in-loop-argument.new.tables c.in_ok-part-in-Call.part c.in_ok-part-in-Call.ensures.answer
    c.push.new.self c.push.ensures c.in_ok-part-in-Call.ensures.begins c.still_same-same.result c.still_same-same.ensures

pub recall-requires-clause-tree : goal.recall-requires-clause-tree
recall-requires-clause-tree n c =
    let t = c.args.tables.now in
    let m = c.args.map in
    let e = c.args.e.0 in
    let f = c.in-Call.function in
    let r = c.in-Call.arguments in
    let tree = tree-here t c.terms.result.now c.terms.ensures e (Call f r) c.in-Call.ensures.tree c.in-Call.ensures.inside in
    let inside = inside-here t c.terms.result.now c.terms.ensures e (Call f r) c.in-Call.ensures.tree c.in-Call.ensures.inside in
    let given = c.as_slice-argument-items.result.now in
    let given-is = ap numbers_of c.as_slice-argument-items.ensures ∙ c.arguments_of-given.ensures ∙ ap (λ m. numbers_in (view_of m).entries r.first r.count) c.terms-in-Call.ensures in
    let i = c.loop-argument.argument-index in
    let u = c.loop-argument.tables in
    let k = c.loop-argument.invariant in
    call-here t m c.requires.inside c.requires.totals e f r given tree inside given-is c.requires.present c.requires.small u c.loop-argument.made i c.loop-argument.same k c.loop-argument-test.false ∙ ap (λ l. call f (arguments (exprs_in (view_in u).trees (numbers_of l)))) (c.as_slice-argument-items.ensures ∙ sym c.as_slice.ensures)

pub recall-requires-clause-small : goal.recall-requires-clause-small
recall-requires-clause-small n c =
    let t = c.args.tables.now in
    let m = c.args.map in
    let e = c.args.e.0 in
    let f = c.in-Call.function in
    let r = c.in-Call.arguments in
    let tree = tree-here t c.terms.result.now c.terms.ensures e (Call f r) c.in-Call.ensures.tree c.in-Call.ensures.inside in
    let inside = inside-here t c.terms.result.now c.terms.ensures e (Call f r) c.in-Call.ensures.tree c.in-Call.ensures.inside in
    let given = c.as_slice-argument-items.result.now in
    let given-is = ap numbers_of c.as_slice-argument-items.ensures ∙ c.arguments_of-given.ensures ∙ ap (λ m. numbers_in (view_of m).entries r.first r.count) c.terms-in-Call.ensures in
    let i = c.loop-argument.argument-index in
    let u = c.loop-argument.tables in
    let k = c.loop-argument.invariant in
    ap (λ (l : List ExprId). small_tree (call f (arguments (exprs_in (view_in u).trees (numbers_of l))))) c.as_slice-in-Call.ensures ∙ made-small t m c.requires.inside c.requires.totals e f r given tree inside given-is c.requires.present c.requires.small u c.loop-argument.made i c.loop-argument.same k c.loop-argument-test.false

pub recall-requires-clause-totals : goal.recall-requires-clause-totals
recall-requires-clause-totals n c =
    let t = c.args.tables.now in
    let m = c.args.map in
    let e = c.args.e.0 in
    let f = c.in-Call.function in
    let r = c.in-Call.arguments in
    let tree = tree-here t c.terms.result.now c.terms.ensures e (Call f r) c.in-Call.ensures.tree c.in-Call.ensures.inside in
    let inside = inside-here t c.terms.result.now c.terms.ensures e (Call f r) c.in-Call.ensures.tree c.in-Call.ensures.inside in
    let given = c.as_slice-argument-items.result.now in
    let given-is = ap numbers_of c.as_slice-argument-items.ensures ∙ c.arguments_of-given.ensures ∙ ap (λ m. numbers_in (view_of m).entries r.first r.count) c.terms-in-Call.ensures in
    let i = c.loop-argument.argument-index in
    let u = c.loop-argument.tables in
    let k = c.loop-argument.invariant in
    ap (λ (l : List ExprId). any (is_total (view_in u).functions) (exprs_in (view_in u).trees (numbers_of l))) c.as_slice-in-Call.ensures ∙ made-no-total t m c.requires.inside c.requires.totals e f r given tree inside given-is c.requires.present c.requires.small u c.loop-argument.made i c.loop-argument.same k c.loop-argument-test.false

pub recall-requires-clause-same : goal.recall-requires-clause-same
recall-requires-clause-same n c =
    let t = c.args.tables.now in
    let m = c.args.map in
    let e = c.args.e.0 in
    let f = c.in-Call.function in
    let r = c.in-Call.arguments in
    let tree = tree-here t c.terms.result.now c.terms.ensures e (Call f r) c.in-Call.ensures.tree c.in-Call.ensures.inside in
    let inside = inside-here t c.terms.result.now c.terms.ensures e (Call f r) c.in-Call.ensures.tree c.in-Call.ensures.inside in
    let given = c.as_slice-argument-items.result.now in
    let given-is = ap numbers_of c.as_slice-argument-items.ensures ∙ c.arguments_of-given.ensures ∙ ap (λ m. numbers_in (view_of m).entries r.first r.count) c.terms-in-Call.ensures in
    let i = c.loop-argument.argument-index in
    let u = c.loop-argument.tables in
    let k = c.loop-argument.invariant in
    λ q. ap numbers_of c.as_slice-in-Call.ensures ∙ made-same t m c.requires.inside c.requires.totals e f r given tree inside given-is c.requires.present c.requires.small u c.loop-argument.made i c.loop-argument.same k c.loop-argument-test.false q ∙ ap numbers_of (c.as_slice-argument-items.ensures ∙ sym c.as_slice.ensures)

pub returns-after-loop-argument-clause-answer : goal.returns-after-loop-argument-clause-answer
returns-after-loop-argument-clause-answer n c =
    let t = c.args.tables.now in
    let m = c.args.map in
    let e = c.args.e.0 in
    let f = c.in-Call.function in
    let r = c.in-Call.arguments in
    let tree = tree-here t c.terms.result.now c.terms.ensures e (Call f r) c.in-Call.ensures.tree c.in-Call.ensures.inside in
    let inside = inside-here t c.terms.result.now c.terms.ensures e (Call f r) c.in-Call.ensures.tree c.in-Call.ensures.inside in
    let given = c.as_slice-argument-items.result.now in
    let given-is = ap numbers_of c.as_slice-argument-items.ensures ∙ c.arguments_of-given.ensures ∙ ap (λ m. numbers_in (view_of m).entries r.first r.count) c.terms-in-Call.ensures in
    let i = c.loop-argument.argument-index in
    let u = c.loop-argument.tables in
    let k = c.loop-argument.invariant in
    finished t m c.requires.inside c.requires.totals e f r given tree inside given-is c.requires.present c.requires.small u c.loop-argument.made i c.loop-argument.same k c.loop-argument-test.false c.recall.new.tables c.recall.result
    (subst (λ (l : List ExprId). BuiltBy u (space 1 0 (length l) 0 0) 0 (call f (arguments (exprs_in (view_in u).trees (numbers_of l)))) c.recall.result c.recall.new.tables) c.as_slice-in-Call.ensures c.recall.ensures.answer)
