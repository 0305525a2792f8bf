use Rattle.std.proofs.Common.{sym, ap, ◌∙◌, subst}
use Rattle.plan.specs.Fields.{any}
use Rattle.plan.specs.Model.{exprs_in}
use Rattle.plan.specs.Terms.{same_expr}
use Rattle.terms.specs.Views.{numbers_of, tree_of, view_of}
use Rattle.merging.specs.Joining.{ListedBy}
use Rattle.merging.proofs.Joined.{pair-there, pair_new}
use Rattle.merging.proofs.joining.add_pair.Goals as goal

pub returns-then-has_equal : goal.returns-then-has_equal
returns-then-has_equal c =
    let t = c.args.terms.now in
    let v = view_of t in
    let a = tree_of t c.args.alias.0 in
    let ids = c.args.list.now in
    record {
      present = c.requires.list;
      trees = sym (pair-there a (exprs_in v.trees (numbers_of ids)) (sym (c.if-has_equal.ensures ∙ ap (λ l. any (same_expr a) (exprs_in v.trees (numbers_of l))) c.as_slice.ensures)));
      few = c.requires.few;
    }

pub returns : goal.returns
returns c =
    let t = c.args.terms.now in
    let v = view_of t in
    let a = tree_of t c.args.alias.0 in
    let ids = c.args.list.now in
    subst (λ es. ListedBy v es c.join.result c.join.new.list) (sym (pair_new a (exprs_in v.trees (numbers_of ids)) (sym (c.if-has_equal.ensures ∙ ap (λ l. any (same_expr a) (exprs_in v.trees (numbers_of l))) c.as_slice.ensures))))
    c.join.ensures
