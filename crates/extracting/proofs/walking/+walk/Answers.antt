use Rattle.std.proofs.Common.{◌≡◌, ◌≤◌, false, List, Err, length, option_map, sym, refl, ap, ap₂, ◌∙◌, subst, arith, rules}
use Rattle.names.specs.Spans.{word}
use Rattle.plan.specs.Fields.{any}
use Rattle.plan.specs.Functions.{is_total}
use Rattle.plan.specs.Model.{expr_in, exprs_in, no_expr, space}
use Rattle.plan.specs.Names.{prefixed}
use Rattle.plan.specs.Questions.{small_tree}
use Rattle.plan.specs.Terms.{arguments, size_of}
use Rattle.plan.specs.Terms.Expr.{alias, call}
use Rattle.rewriting.specs.Routing.{entered, noted}
use Rattle.routing.specs.Sides.{side_of}
use Rattle.tables.specs.Holding.{model_of, nodes_of, view_in}
use Rattle.table.specs.Contents.{part}
use Rattle.lexicon.proofs.Frames.{every-at}
use Rattle.terms.proofs.Walks.{counted, few}
use Rattle.terms.specs.Acceptance.{acceptable}
use Rattle.terms.specs.Build.{numbers_in}
use Rattle.entries.specs.Spans.{stored_field}
use Rattle.entries.specs.declared.node.ExprId.{ExprId}
use Rattle.terms.specs.Views.{numbers_of, view_of}
use Rattle.entries.specs.declared.node.ExprNode.TheVariants.{Alias, Call, Constant, Reference}
use Rattle.extracting.specs.Extractors.{Inside, entries_of, extractor_of}
use Rattle.extracting.specs.Owners.{owner_by}
use Rattle.extracting.specs.Walking.{Answered, BuiltBy, walk_in}
use Rattle.extracting.proofs.Accepted.{alias-small}
use Rattle.extracting.proofs.Growing.{grows-at-once, longer, tree-stays}
use Rattle.extracting.proofs.Cases.{at-alias, at-constant, at-prefixed, at-reference, at-taken, field-stays, inner-lower, inputs-stay, inside-here, kept, name-stored, tree-here}
use Rattle.extracting.proofs.Moving.{given-back}
use Rattle.extracting.proofs.Numbers.{numbered-here}
use Rattle.extracting.proofs.Rewritten.{added-new, walk-small}
use Rattle.extracting.proofs.Spaces.{within-same}
use Rattle.extracting.proofs.Steps.{alias-refused, alias-step}
use Rattle.extracting.proofs.Turns.{call-here, call-kept, finished, lower, made-no-total, made-same, made-small, needed, refused, turn}
use Rattle.extracting.proofs.walking.+walk.Goals as goal

abbrev first : ExprId
first = record { 0 = 0 }

pub noted-requires-clause-room : goal.noted-requires-clause-room
noted-requires-clause-room n c =
    let t = c.args.tables.now in
    let x = c.args.extractor.now in
    let f = c.in-Reference.field in
    let o = option_map side_of c.owning_input-owner.result in
    let h = at-reference t c.args.inputs c.args.e.0 x f o (tree-here t c.terms.result.now c.terms.ensures c.args.e.0 (Reference f) c.in-Reference.ensures.tree c.in-Reference.ensures.inside) c.owning_input-owner.ensures in
    subst (λ m. length (noted o (stored_field (view_of m).bytes f) (extractor_of (view_of m) x)).needed ≤ 256) (sym c.terms-in-Reference.ensures) (omega (arith, c.requires.needed, ap (λ w. length w.1.needed) h))

pub returns-in-Reference-clause-answer : goal.returns-in-Reference-clause-answer
returns-in-Reference-clause-answer n c =
    let t = c.args.tables.now in
    let x = c.args.extractor.now in
    let y = c.noted.new.self in
    let f = c.in-Reference.field in
    let o = option_map side_of c.owning_input-owner.result in
    let h = at-reference t c.args.inputs c.args.e.0 x f o (tree-here t c.terms.result.now c.terms.ensures c.args.e.0 (Reference f) c.in-Reference.ensures.tree c.in-Reference.ensures.inside) c.owning_input-owner.ensures in
    let value = subst (λ m. extractor_of (view_of m) y ≡ noted o (stored_field (view_of m).bytes f) (extractor_of (view_of m) x)) c.terms-in-Reference.ensures c.noted.ensures.value in
    record {
      present = c.requires.present;
      tree = sym (ap (λ w. w.0) h);
      extractor = value ∙ sym (ap (λ w. w.1) h);
      inside = subst (λ m. Inside (view_of m) y) c.terms-in-Reference.ensures c.noted.ensures.inside;
      few = omega (arith, c.requires.few, ap length c.noted.ensures.entries);
      grows = grows-at-once (model_of t);
      numbers = numbered-here (model_of t) (walk_in t c.args.inputs (expr_in (view_in t).trees c.args.e.0) (extractor_of (view_in t) x)).1.next;
      spent = within-same _ _;
    }

pub returns-in-Constant-clause-answer : goal.returns-in-Constant-clause-answer
returns-in-Constant-clause-answer n c =
    let t = c.args.tables.now in
    let l = c.in-Constant.field-0 in
    kept t c.args.inputs c.args.e.0 c.args.extractor.now
    (at-constant t c.args.inputs c.args.e.0 c.args.extractor.now l (tree-here t c.terms.result.now c.terms.ensures c.args.e.0 (Constant l) c.in-Constant.ensures.tree c.in-Constant.ensures.inside))
    c.requires.present c.requires.inside c.requires.few

pub returns-then-is_prefixed-clause-answer : goal.returns-then-is_prefixed-clause-answer
returns-then-is_prefixed-clause-answer n c =
    let t = c.args.tables.now in
    let i = c.in-Alias.inner in
    let f = c.in-Alias.field in
    let is = c.if-is_prefixed.ensures ∙ ap prefixed (c.word.ensures ∙ ap (λ m. word (view_of m).bytes f.name) c.terms-in-Alias.ensures) in
    kept t c.args.inputs c.args.e.0 c.args.extractor.now
    (at-prefixed t c.args.inputs c.args.e.0 c.args.extractor.now i f (tree-here t c.terms.result.now c.terms.ensures c.args.e.0 (Alias i f) c.in-Alias.ensures.tree c.in-Alias.ensures.inside) (sym is))
    c.requires.present c.requires.inside c.requires.few

pub walk-requires : goal.walk-requires
walk-requires n c =
    let t = c.args.tables.now in
    let i = c.in-Alias.inner in
    let f = c.in-Alias.field in
    let tree = tree-here t c.terms.result.now c.terms.ensures c.args.e.0 (Alias i f) c.in-Alias.ensures.tree c.in-Alias.ensures.inside in
    let low = inner-lower t c.args.e.0 i f (inside-here t c.terms.result.now c.terms.ensures c.args.e.0 (Alias i f) c.in-Alias.ensures.tree c.in-Alias.ensures.inside) in
    let is = c.if-is_prefixed.ensures ∙ ap prefixed (c.word.ensures ∙ ap (λ m. word (view_of m).bytes f.name) c.terms-in-Alias.ensures) in
    let h = at-alias t c.args.inputs c.args.e.0 c.args.extractor.now i f tree (sym is) in
    (omega (arith, low, c.decreases), (c.requires.inputs, (omega (arith, low, c.requires.present), (c.requires.inside, (c.requires.few, omega (arith, c.requires.needed, ap (λ w. length w.1.needed) h))))))

pub returns-in_err-made-in-Alias-clause-answer : goal.returns-in_err-made-in-Alias-clause-answer
returns-in_err-made-in-Alias-clause-answer n c =
    let t = c.args.tables.now in
    let x = c.args.extractor.now in
    let i = c.in-Alias.inner in
    let f = c.in-Alias.field in
    let tree = tree-here t c.terms.result.now c.terms.ensures c.args.e.0 (Alias i f) c.in-Alias.ensures.tree c.in-Alias.ensures.inside in
    let is = c.if-is_prefixed.ensures ∙ ap prefixed (c.word.ensures ∙ ap (λ m. word (view_of m).bytes f.name) c.terms-in-Alias.ensures) in
    let h = at-alias t c.args.inputs c.args.e.0 x i f tree (sym is) in
    let d = c.in_err-made-in-Alias.field-0.0 in
    let e : c.from_residual.result ≡ Err d = search rules in
    let w = walk_in t c.args.inputs (expr_in (view_in t).trees i.0) (extractor_of (view_in t) x) in
    let r : Answered t (alias w.0 (stored_field (view_in t).bytes f), w.1) (Err d) c.walk.new.tables c.walk.new.extractor = alias-refused t w (stored_field (view_in t).bytes f) d c.in_err-made-in-Alias.ensures.answer in
    subst (λ q. Answered t (walk_in t c.args.inputs (expr_in (view_in t).trees c.args.e.0) (extractor_of (view_in t) x)) q c.walk.new.tables c.walk.new.extractor) (sym e)
    (subst (λ z. Answered t z (Err d) c.walk.new.tables c.walk.new.extractor) (sym h) r)

pub realias-requires-clause-stored : goal.realias-requires-clause-stored
realias-requires-clause-stored n c =
    let t = c.args.tables.now in
    let i = c.in-Alias.inner in
    let f = c.in-Alias.field in
    let inside = inside-here t c.terms.result.now c.terms.ensures c.args.e.0 (Alias i f) c.in-Alias.ensures.tree c.in-Alias.ensures.inside in
    (field-stays t c.walk.new.tables c.in_ok-made-in-Alias.ensures.answer.grows f (name-stored t c.args.e.0 i f inside)).1

pub realias-requires-clause-tree : goal.realias-requires-clause-tree
realias-requires-clause-tree n c =
    let t = c.args.tables.now in
    let u = c.walk.new.tables in
    let i = c.in-Alias.inner in
    let f = c.in-Alias.field in
    let tree = tree-here t c.terms.result.now c.terms.ensures c.args.e.0 (Alias i f) c.in-Alias.ensures.tree c.in-Alias.ensures.inside in
    let inside = inside-here t c.terms.result.now c.terms.ensures c.args.e.0 (Alias i f) c.in-Alias.ensures.tree c.in-Alias.ensures.inside in
    let g = c.in_ok-made-in-Alias.ensures.answer.grows in
    tree-stays t u g c.args.e.0 c.requires.present ∙ tree
    ∙ ap₂ alias (sym (tree-stays t u g i.0 (omega (arith, inner-lower t c.args.e.0 i f inside, c.requires.present)))) (sym (field-stays t u g f (name-stored t c.args.e.0 i f inside)).0)

pub realias-requires-clause-small : goal.realias-requires-clause-small
realias-requires-clause-small n c =
    let t = c.args.tables.now in
    let u = c.walk.new.tables in
    let v = view_in t in
    let i = c.in-Alias.inner in
    let f = c.in-Alias.field in
    let tree = tree-here t c.terms.result.now c.terms.ensures c.args.e.0 (Alias i f) c.in-Alias.ensures.tree c.in-Alias.ensures.inside in
    let a = c.in_ok-made-in-Alias.ensures.answer in
    let s = walk-small v.functions (owner_by v.functions (nodes_of t) c.args.inputs) (expr_in v.trees i.0) (extractor_of v c.args.extractor.now) in
    alias-small v.functions (expr_in v.trees c.args.e.0) (expr_in v.trees i.0) (expr_in (view_in u).trees c.in_ok-made-in-Alias.made.0) (stored_field v.bytes f) (stored_field (view_in u).bytes f) tree
    (every-at (acceptable v.functions) v.trees c.args.e.0 no_expr c.requires.present t.terms.accepted) (omega (arith, s, ap size_of a.tree))

pub returns-in_ok-made-in-Alias-clause-answer : goal.returns-in_ok-made-in-Alias-clause-answer
returns-in_ok-made-in-Alias-clause-answer n c =
    let t = c.args.tables.now in
    let u = c.walk.new.tables in
    let x = c.args.extractor.now in
    let i = c.in-Alias.inner in
    let f = c.in-Alias.field in
    let tree = tree-here t c.terms.result.now c.terms.ensures c.args.e.0 (Alias i f) c.in-Alias.ensures.tree c.in-Alias.ensures.inside in
    let inside = inside-here t c.terms.result.now c.terms.ensures c.args.e.0 (Alias i f) c.in-Alias.ensures.tree c.in-Alias.ensures.inside in
    let is = c.if-is_prefixed.ensures ∙ ap prefixed (c.word.ensures ∙ ap (λ m. word (view_of m).bytes f.name) c.terms-in-Alias.ensures) in
    let h = at-alias t c.args.inputs c.args.e.0 x i f tree (sym is) in
    let a = c.in_ok-made-in-Alias.ensures.answer in
    let w = walk_in t c.args.inputs (expr_in (view_in t).trees i.0) (extractor_of (view_in t) x) in
    let k = (field-stays t u a.grows f (name-stored t c.args.e.0 i f inside)).0 in
    let kept = λ (q : w.1.new ≡ false). c.realias.ensures.kept (c.in_ok-made-in-Alias.ensures.kept q) in
    let b = subst (λ z. BuiltBy u (space 1 0 0 0 0) 0 z c.realias.result c.realias.new.tables) (ap₂ alias a.tree k) c.realias.ensures.answer in
    subst (λ z. Answered t z c.realias.result c.realias.new.tables c.walk.new.extractor) (sym h)
    (alias-step t u c.realias.new.tables c.walk.new.extractor w c.in_ok-made-in-Alias.made.0 a (stored_field (view_in t).bytes f) c.args.e c.realias.result kept b)

pub returns-in_ok-made-in-Alias-clause-kept : goal.returns-in_ok-made-in-Alias-clause-kept
returns-in_ok-made-in-Alias-clause-kept n c =
    let t = c.args.tables.now in
    let x = c.args.extractor.now in
    let i = c.in-Alias.inner in
    let f = c.in-Alias.field in
    let tree = tree-here t c.terms.result.now c.terms.ensures c.args.e.0 (Alias i f) c.in-Alias.ensures.tree c.in-Alias.ensures.inside in
    let is = c.if-is_prefixed.ensures ∙ ap prefixed (c.word.ensures ∙ ap (λ m. word (view_of m).bytes f.name) c.terms-in-Alias.ensures) in
    let h = at-alias t c.args.inputs c.args.e.0 x i f tree (sym is) in
    let new = (walk_in t c.args.inputs (expr_in (view_in t).trees c.args.e.0) (extractor_of (view_in t) x)).1.new in
    given-back c.realias.result c.args.e new (λ q. c.realias.ensures.kept (c.in_ok-made-in-Alias.ensures.kept (sym (ap (λ w. w.1.new) h) ∙ q)))

pub add_extracted-requires-clause-needed : goal.add_extracted-requires-clause-needed
add_extracted-requires-clause-needed n c =
    let t = c.args.tables.now in
    let f = c.in-Call.function in
    let r = c.in-Call.arguments in
    let tree = tree-here t c.terms.result.now c.terms.ensures c.args.e.0 (Call f r) c.in-Call.ensures.tree c.in-Call.ensures.inside in
    let h = at-taken t c.args.inputs c.args.e.0 c.args.extractor.now (side_of c.in-Some.side) f r tree c.in-Some.ensures in
    omega (arith, c.requires.needed, ap (λ w. length w.1.needed) h)

pub returns-in-Some-clause-answer : goal.returns-in-Some-clause-answer
returns-in-Some-clause-answer n c =
    let t = c.args.tables.now in
    let f = c.in-Call.function in
    let r = c.in-Call.arguments in
    let tree = tree-here t c.terms.result.now c.terms.ensures c.args.e.0 (Call f r) c.in-Call.ensures.tree c.in-Call.ensures.inside in
    let h = at-taken t c.args.inputs c.args.e.0 c.args.extractor.now (side_of c.in-Some.side) f r tree c.in-Some.ensures in
    subst (λ z. Answered t z c.add_extracted.result c.add_extracted.new.tables c.add_extracted.new.self) (sym h) c.add_extracted.ensures.answer

pub returns-in-Some-clause-kept : goal.returns-in-Some-clause-kept
returns-in-Some-clause-kept n c =
    let t = c.args.tables.now in
    let x = c.args.extractor.now in
    let s = side_of c.in-Some.side in
    let f = c.in-Call.function in
    let r = c.in-Call.arguments in
    let e = expr_in (view_in t).trees c.args.e.0 in
    let tree = tree-here t c.terms.result.now c.terms.ensures c.args.e.0 (Call f r) c.in-Call.ensures.tree c.in-Call.ensures.inside in
    let h = at-taken t c.args.inputs c.args.e.0 x s f r tree c.in-Some.ensures in
    let new = ap (λ w. w.1.new) h ∙ added-new s e (extractor_of (view_in t) x) (entered e (entries_of (view_in t) x)) in
    given-back c.add_extracted.result c.args.e (walk_in t c.args.inputs e (extractor_of (view_in t) x)).1.new (λ q. cc (new, q))

pub arguments_of-given-requires-clause-few : goal.arguments_of-given-requires-clause-few
arguments_of-given-requires-clause-few n c =
    let t = c.args.tables.now in
    let e = c.args.e.0 in
    let f = c.in-Call.function in
    let r = c.in-Call.arguments in
    let tree = tree-here t c.terms.result.now c.terms.ensures e (Call f r) c.in-Call.ensures.tree c.in-Call.ensures.inside in
    let inside = inside-here t c.terms.result.now c.terms.ensures e (Call f r) c.in-Call.ensures.tree c.in-Call.ensures.inside in
    let xs = part (view_in t).entries r.first r.count in
    omega (arith, few t.terms e f r xs refl inside tree c.requires.present, counted t.terms e f r xs refl inside tree)

pub walk-requires-in-loop-argument : goal.walk-requires-in-loop-argument
walk-requires-in-loop-argument n c =
    let t = c.args.tables.now in
    let e = c.args.e.0 in
    let f = c.in-Call.function in
    let r = c.in-Call.arguments in
    let tree = tree-here t c.terms.result.now c.terms.ensures e (Call f r) c.in-Call.ensures.tree c.in-Call.ensures.inside in
    let inside = inside-here t c.terms.result.now c.terms.ensures e (Call f r) c.in-Call.ensures.tree c.in-Call.ensures.inside in
    let x = c.args.extractor.now in
    let given = c.as_slice-argument-items.result.now in
    let given-is = ap numbers_of c.as_slice-argument-items.ensures ∙ c.arguments_of-given.ensures ∙ ap (λ m. numbers_in (view_of m).entries r.first r.count) c.terms-in-Call.ensures in
    let i = c.loop-argument.argument-index in
    let u = c.loop-argument.tables in
    let y = c.loop-argument.extractor in
    let k = c.loop-argument.invariant in
    let low = lower t c.args.inputs e f r given x tree inside given-is c.requires.present c.in_default.ensures u y c.loop-argument.made i c.loop-argument.same k c.loop-argument-test.true first in
    (omega (arith, low, c.decreases), (inputs-stay t u k.grows c.args.inputs c.requires.inputs, (omega (arith, low, c.requires.present, longer t u k.grows), (k.inside, (k.few, needed t c.args.inputs e f r given x tree inside given-is c.requires.present c.in_default.ensures u y c.loop-argument.made i c.loop-argument.same k c.loop-argument-test.true first c.requires.needed)))))

pub returns-in_err-part-in-Call-clause-answer : goal.returns-in_err-part-in-Call-clause-answer
returns-in_err-part-in-Call-clause-answer n c =
    let t = c.args.tables.now in
    let e = c.args.e.0 in
    let f = c.in-Call.function in
    let r = c.in-Call.arguments in
    let tree = tree-here t c.terms.result.now c.terms.ensures e (Call f r) c.in-Call.ensures.tree c.in-Call.ensures.inside in
    let inside = inside-here t c.terms.result.now c.terms.ensures e (Call f r) c.in-Call.ensures.tree c.in-Call.ensures.inside in
    let x = c.args.extractor.now in
    let given = c.as_slice-argument-items.result.now in
    let given-is = ap numbers_of c.as_slice-argument-items.ensures ∙ c.arguments_of-given.ensures ∙ ap (λ m. numbers_in (view_of m).entries r.first r.count) c.terms-in-Call.ensures in
    let i = c.loop-argument.argument-index in
    let u = c.loop-argument.tables in
    let y = c.loop-argument.extractor in
    let k = c.loop-argument.invariant in
    let d = c.in_err-part-in-Call.field-0.0 in
    let is-err : c.from_residual-in_err-part-in-Call.result ≡ Err d = search rules in
    subst (λ q. Answered t (walk_in t c.args.inputs (expr_in (view_in t).trees e) (extractor_of (view_in t) x)) q c.walk-in-loop-argument.new.tables c.walk-in-loop-argument.new.extractor) (sym is-err)
    (refused t c.args.inputs e f r given x tree inside given-is c.requires.present c.in_default.ensures u y c.loop-argument.made i c.loop-argument.same k c.loop-argument-test.true first d c.in_err-part-in-Call.ensures.answer)

pub loop-argument-preserved : goal.loop-argument-preserved
loop-argument-preserved n c =
    let t = c.args.tables.now in
    let e = c.args.e.0 in
    let f = c.in-Call.function in
    let r = c.in-Call.arguments in
    let tree = tree-here t c.terms.result.now c.terms.ensures e (Call f r) c.in-Call.ensures.tree c.in-Call.ensures.inside in
    let inside = inside-here t c.terms.result.now c.terms.ensures e (Call f r) c.in-Call.ensures.tree c.in-Call.ensures.inside in
    let x = c.args.extractor.now in
    let given = c.as_slice-argument-items.result.now in
    let given-is = ap numbers_of c.as_slice-argument-items.ensures ∙ c.arguments_of-given.ensures ∙ ap (λ m. numbers_in (view_of m).entries r.first r.count) c.terms-in-Call.ensures in
    let i = c.loop-argument.argument-index in
    let u = c.loop-argument.tables in
    let y = c.loop-argument.extractor in
    let k = c.loop-argument.invariant in
    turn t c.args.inputs e f r given x tree inside given-is c.requires.present c.in_default.ensures u y c.loop-argument.made i c.loop-argument.same k c.loop-argument-test.true first c.walk-in-loop-argument.new.tables c.walk-in-loop-argument.new.extractor c.in_ok-part-in-Call.part c.in_ok-part-in-Call.ensures.answer c.in_ok-part-in-Call.ensures.kept
    c.push.new.self c.push.ensures c.in_ok-part-in-Call.ensures.begins c.still_same-same.result c.still_same-same.ensures

pub recall-requires-clause-tree : goal.recall-requires-clause-tree
recall-requires-clause-tree n c =
    let t = c.args.tables.now in
    let e = c.args.e.0 in
    let f = c.in-Call.function in
    let r = c.in-Call.arguments in
    let tree = tree-here t c.terms.result.now c.terms.ensures e (Call f r) c.in-Call.ensures.tree c.in-Call.ensures.inside in
    let inside = inside-here t c.terms.result.now c.terms.ensures e (Call f r) c.in-Call.ensures.tree c.in-Call.ensures.inside in
    let x = c.args.extractor.now in
    let given = c.as_slice-argument-items.result.now in
    let given-is = ap numbers_of c.as_slice-argument-items.ensures ∙ c.arguments_of-given.ensures ∙ ap (λ m. numbers_in (view_of m).entries r.first r.count) c.terms-in-Call.ensures in
    let i = c.loop-argument.argument-index in
    let u = c.loop-argument.tables in
    let y = c.loop-argument.extractor in
    let k = c.loop-argument.invariant in
    call-here t c.args.inputs e f r given x tree inside given-is c.requires.present c.in_default.ensures u y c.loop-argument.made i c.loop-argument.same k c.loop-argument-test.false
    ∙ ap (λ l. call f (arguments (exprs_in (view_in u).trees (numbers_of l)))) (c.as_slice-argument-items.ensures ∙ sym c.as_slice.ensures)

pub recall-requires-clause-small : goal.recall-requires-clause-small
recall-requires-clause-small n c =
    let t = c.args.tables.now in
    let e = c.args.e.0 in
    let f = c.in-Call.function in
    let r = c.in-Call.arguments in
    let tree = tree-here t c.terms.result.now c.terms.ensures e (Call f r) c.in-Call.ensures.tree c.in-Call.ensures.inside in
    let inside = inside-here t c.terms.result.now c.terms.ensures e (Call f r) c.in-Call.ensures.tree c.in-Call.ensures.inside in
    let x = c.args.extractor.now in
    let given = c.as_slice-argument-items.result.now in
    let given-is = ap numbers_of c.as_slice-argument-items.ensures ∙ c.arguments_of-given.ensures ∙ ap (λ m. numbers_in (view_of m).entries r.first r.count) c.terms-in-Call.ensures in
    let i = c.loop-argument.argument-index in
    let u = c.loop-argument.tables in
    let y = c.loop-argument.extractor in
    let k = c.loop-argument.invariant in
    ap (λ (l : List ExprId). small_tree (call f (arguments (exprs_in (view_in u).trees (numbers_of l))))) c.as_slice-in-Call.ensures
    ∙ made-small t c.args.inputs e f r given x tree inside given-is c.requires.present c.in_default.ensures u y c.loop-argument.made i c.loop-argument.same k c.loop-argument-test.false

pub recall-requires-clause-totals : goal.recall-requires-clause-totals
recall-requires-clause-totals n c =
    let t = c.args.tables.now in
    let e = c.args.e.0 in
    let f = c.in-Call.function in
    let r = c.in-Call.arguments in
    let tree = tree-here t c.terms.result.now c.terms.ensures e (Call f r) c.in-Call.ensures.tree c.in-Call.ensures.inside in
    let inside = inside-here t c.terms.result.now c.terms.ensures e (Call f r) c.in-Call.ensures.tree c.in-Call.ensures.inside in
    let x = c.args.extractor.now in
    let given = c.as_slice-argument-items.result.now in
    let given-is = ap numbers_of c.as_slice-argument-items.ensures ∙ c.arguments_of-given.ensures ∙ ap (λ m. numbers_in (view_of m).entries r.first r.count) c.terms-in-Call.ensures in
    let i = c.loop-argument.argument-index in
    let u = c.loop-argument.tables in
    let y = c.loop-argument.extractor in
    let k = c.loop-argument.invariant in
    ap (λ (l : List ExprId). any (is_total (view_in u).functions) (exprs_in (view_in u).trees (numbers_of l))) c.as_slice-in-Call.ensures ∙ made-no-total t c.args.inputs e f r given x tree inside given-is c.requires.present c.in_default.ensures u y c.loop-argument.made i c.loop-argument.same k c.loop-argument-test.false

pub recall-requires-clause-same : goal.recall-requires-clause-same
recall-requires-clause-same n c =
    let t = c.args.tables.now in
    let e = c.args.e.0 in
    let f = c.in-Call.function in
    let r = c.in-Call.arguments in
    let tree = tree-here t c.terms.result.now c.terms.ensures e (Call f r) c.in-Call.ensures.tree c.in-Call.ensures.inside in
    let inside = inside-here t c.terms.result.now c.terms.ensures e (Call f r) c.in-Call.ensures.tree c.in-Call.ensures.inside in
    let x = c.args.extractor.now in
    let given = c.as_slice-argument-items.result.now in
    let given-is = ap numbers_of c.as_slice-argument-items.ensures ∙ c.arguments_of-given.ensures ∙ ap (λ m. numbers_in (view_of m).entries r.first r.count) c.terms-in-Call.ensures in
    let i = c.loop-argument.argument-index in
    let u = c.loop-argument.tables in
    let y = c.loop-argument.extractor in
    let k = c.loop-argument.invariant in
    λ q. ap numbers_of c.as_slice-in-Call.ensures ∙ made-same t c.args.inputs e f r given x tree inside given-is c.requires.present c.in_default.ensures u y c.loop-argument.made i c.loop-argument.same k c.loop-argument-test.false q ∙ ap numbers_of (c.as_slice-argument-items.ensures ∙ sym c.as_slice.ensures)

pub returns-after-loop-argument-clause-answer : goal.returns-after-loop-argument-clause-answer
returns-after-loop-argument-clause-answer n c =
    let t = c.args.tables.now in
    let e = c.args.e.0 in
    let f = c.in-Call.function in
    let r = c.in-Call.arguments in
    let tree = tree-here t c.terms.result.now c.terms.ensures e (Call f r) c.in-Call.ensures.tree c.in-Call.ensures.inside in
    let inside = inside-here t c.terms.result.now c.terms.ensures e (Call f r) c.in-Call.ensures.tree c.in-Call.ensures.inside in
    let x = c.args.extractor.now in
    let given = c.as_slice-argument-items.result.now in
    let given-is = ap numbers_of c.as_slice-argument-items.ensures ∙ c.arguments_of-given.ensures ∙ ap (λ m. numbers_in (view_of m).entries r.first r.count) c.terms-in-Call.ensures in
    let i = c.loop-argument.argument-index in
    let u = c.loop-argument.tables in
    let y = c.loop-argument.extractor in
    let k = c.loop-argument.invariant in
    finished t c.args.inputs e f r given x tree inside given-is c.requires.present c.in_default.ensures u y c.loop-argument.made i c.loop-argument.same k c.loop-argument-test.false c.recall.new.tables c.args.e c.recall.result c.recall.ensures.kept
    (subst (λ (l : List ExprId). BuiltBy u (space 1 0 (length l) 0 0) 0 (call f (arguments (exprs_in (view_in u).trees (numbers_of l)))) c.recall.result c.recall.new.tables) c.as_slice-in-Call.ensures c.recall.ensures.answer)

pub returns-after-loop-argument-clause-kept : goal.returns-after-loop-argument-clause-kept
returns-after-loop-argument-clause-kept n c =
    let t = c.args.tables.now in
    let e = c.args.e.0 in
    let f = c.in-Call.function in
    let r = c.in-Call.arguments in
    let tree = tree-here t c.terms.result.now c.terms.ensures e (Call f r) c.in-Call.ensures.tree c.in-Call.ensures.inside in
    let inside = inside-here t c.terms.result.now c.terms.ensures e (Call f r) c.in-Call.ensures.tree c.in-Call.ensures.inside in
    let x = c.args.extractor.now in
    let given = c.as_slice-argument-items.result.now in
    let given-is = ap numbers_of c.as_slice-argument-items.ensures ∙ c.arguments_of-given.ensures ∙ ap (λ m. numbers_in (view_of m).entries r.first r.count) c.terms-in-Call.ensures in
    let i = c.loop-argument.argument-index in
    let u = c.loop-argument.tables in
    let y = c.loop-argument.extractor in
    let k = c.loop-argument.invariant in
    call-kept t c.args.inputs e f r given x tree inside given-is c.requires.present c.in_default.ensures u y c.loop-argument.made i c.loop-argument.same k c.loop-argument-test.false c.args.e c.recall.result c.recall.ensures.kept
