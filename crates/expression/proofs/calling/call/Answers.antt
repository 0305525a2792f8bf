use Rattle.std.proofs.Common.{◌≡◌, ◌+◌, not, [], ◌∷◌, ◌++◌, map, length, is_some, sym, refl, ap, ◌∙◌, ap₂, arith, rules}
use Rattle.std.proofs.lemmas.List.{length-map}
use Rattle.std.proofs.lemmas.Bool.{and_parts, and_from}
use Rattle.plan.specs.Terms.{arguments, size_of}
use Rattle.plan.specs.Terms.Expr.{call}
use Rattle.plan.specs.Functions.{function_at}
use Rattle.plan.specs.Model.{space, expr_in, exprs_in}
use Rattle.plan.specs.Calls.{all_below}
use Rattle.terms.specs.Acceptance.{acceptable}
use Rattle.terms.specs.Build.{width_of}
use Rattle.terms.specs.Views.{view_of, numbers_of}
use Rattle.entries.specs.declared.node.Entry.TheVariants.{Expression}
use Rattle.terms.proofs.Bounds.{few-arguments}
use Rattle.expression.proofs.Grown.{roomy-parts, grew_from, same-trees, same-functions}
use Rattle.terms.proofs.Facts.{same_count}
use Rattle.terms.proofs.Calling.{listed-numbers, listed-inside, all-acceptable, call-accepted}
use Rattle.expression.proofs.calling.call.Goals as goal

pub invariant_of-given-clause-few : goal.invariant_of-given-clause-few
invariant_of-given-clause-few c =
    let t = c.args.terms.now in
    let ids = c.args.arguments.now in
    omega (arith, few-arguments (view_of t).functions c.args.function (length (numbers_of ids)) t.lexicon.good (sym c.takes.ensures ∙ c.in_ok-ask-2.ensures), length-map ids (λ e. e.0))

pub add-requires : goal.add-requires
add-requires c =
    let v = view_of c.args.terms.now in
    let w = view_of c.list.new.self in
    let ids = c.args.arguments.now in
    let f = c.args.function in
    let e = c.list.ensures.view in
    let ts = exprs_in v.trees (numbers_of ids) in
    let r = roomy-parts v (space 1 0 (length (numbers_of ids)) 0 0) c.in_ok-ask_list_room.ensures in
    let b = (and_parts (is_some (function_at v.functions f)) (all_below (length v.trees) (numbers_of ids)) (sym c.can_call.ensures ∙ c.in_ok-ask.ensures)).1 in
    let l : w.entries ≡ v.entries ++ map Expression ids = ap (λ x. x.entries) e in
    let n = listed-numbers v.entries w.entries ids _ _ l c.list.ensures.first c.list.ensures.count in
    let t = ap₂ (λ us ns. call f (arguments (map (expr_in us) ns))) (same-trees v w _ _ e) n in
    record {
      room = omega (arith, r.0, same_count v w _ _ e);
      inside = and_from _ _ (listed-inside v.entries w.entries ids _ _ l c.list.ensures.first c.list.ensures.count) (ap₂ (λ k ns. all_below k ns) (same_count v w _ _ e) n ∙ b);
      accepted = ap₂ (λ fs x. acceptable fs x) (same-functions v w _ _ e) t
          ∙ call-accepted v.functions f (length (numbers_of ids)) ts (all-acceptable v.functions v.trees (numbers_of ids) c.args.terms.now.accepted b) (sym (length-map (numbers_of ids) (expr_in v.trees))) (sym c.takes.ensures ∙ c.in_ok-ask-2.ensures)
          (ap not (sym c.any_total.ensures) ∙ c.in_ok-ask-3.ensures) (sym c.are_small.ensures ∙ c.in_ok-ask-4.ensures);
      size = ap (λ k. k + 1) c.sizes-size.ensures.value ∙ sym (ap size_of t);
      width = c.call_width-width.ensures ∙ sym (ap₂ width_of (same-functions v w _ _ e) t);
    }

pub returns-clause-answer : goal.returns-clause-answer
returns-clause-answer c =
    let v = view_of c.args.terms.now in
    let w = view_of c.list.new.self in
    let ids = c.args.arguments.now in
    let e = c.list.ensures.view in
    let n = listed-numbers v.entries w.entries ids _ _ (ap (λ x. x.entries) e) c.list.ensures.first c.list.ensures.count in
    grew_from v w (view_of c.add.new.self) _ _ [] _ c.add.result.0 (search rules) (sym (ap₂ (λ us ns. call c.args.function (arguments (map (expr_in us) ns)) ∷ []) (same-trees v w _ _ e) n)) e c.add.ensures.view c.add.ensures.number refl (length-map ids Expression ∙ sym (length-map ids (λ x. x.0)))
