use Rattle.std.proofs.Common.{◌≡◌, ℕ, true, List, [], map, length, Result, sym, ap, ◌∙◌, subst}
use Rattle.plan.specs.Calls.{below}
use Rattle.plan.specs.declared.fault.Fault.{Fault}
use Rattle.plan.specs.declared.fault.Question.TheVariants.{Present}
use Rattle.entries.specs.Spans.{stored_field}
use Rattle.terms.specs.Views.{count, tree_of, view_of}
use Rattle.entries.specs.declared.node.StoredField.{StoredField}
use Rattle.terms.specs.declared.terms.Terms.{Terms}
use Rattle.value.specs.declared.Value.{Value}
use Rattle.engine.specs.Strictness.{Meaning}
use Rattle.tables.specs.Holding.{fields_at, model_of, plan_count}
use Rattle.tables.specs.declared.tables.Tables.{Tables}
use Rattle.evaluate.specs.Evaluating.{Answers, Valued, row_asked}
use Rattle.evaluate.proofs.Decisions.{all_yes, found-both}
use Rattle.evaluate.proofs.evaluate.Goals as goal

-- what is asked of the expressions and of the stored fields is asked of the book
of-book : (b : Tables) (t : Terms) (fields : List StoredField) (meaning : Meaning) (e p : ℕ) (values : List Value) (row : List ℕ) (before after : List Value) (r : Result Value Fault)
    → t ≡ b.terms → map (stored_field (view_of b.terms).bytes) fields ≡ fields_at b p → below (count b.terms) e ≡ true → below (plan_count b) p ≡ true
    → Valued (row_asked (view_of t).functions (map (stored_field (view_of t).bytes) fields) (tree_of t e) (length values) (length before)) meaning (view_of t).bytes row (map (stored_field (view_of t).bytes) fields) values (tree_of t e) before after r
    → Answers (model_of b) meaning e p values row before after r
of-book b t fields meaning e p values row before after r is shown here there s =
    let over = subst (λ x. Valued (row_asked (view_of x).functions (map (stored_field (view_of x).bytes) fields) (tree_of x e) (length values) (length before)) meaning (view_of x).bytes row (map (stored_field (view_of x).bytes) fields) values (tree_of x e) before after r) is s in
    let with = subst (λ fs. Valued (row_asked (view_of b.terms).functions fs (tree_of b.terms e) (length values) (length before)) meaning (view_of b.terms).bytes row fs values (tree_of b.terms e) before after r) shown over in
    found-both (model_of b) meaning e p values row before after r here there with

pub returns : goal.returns
returns g c =
    let b = c.reader-reader.result.tables.now in
    let seen = c.in_ok-fields.ensures in
    let here = sym (c.has.ensures ∙ ap (λ t. below (count t) c.args.e.0) c.terms.ensures) ∙ c.in_ok-ask.ensures in
    let there = (all_yes Present (below (plan_count b) c.args.p.0) [] seen.0).0 in
    let answers = of-book b c.terms-2.result.now c.in_ok-fields.fields.now (g.E.Engine.meaning c.args.engine.now) c.args.e.0 c.args.p.0 c.args.values.now c.args.row.now c.args.scratch.now c.asked_value.new.scratch c.asked_value.result c.terms-2.ensures seen.1.0 here there c.asked_value.ensures in
    subst (λ t. Answers (model_of t) (g.E.Engine.meaning c.args.engine.now) c.args.e.0 c.args.p.0 c.args.values.now c.args.row.now c.args.scratch.now c.asked_value.new.scratch c.asked_value.result) c.reader-reader.ensures answers
