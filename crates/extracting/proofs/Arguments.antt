-- What a walk reads of a call n of the arguments given.
use Rattle.std.proofs.Common.{◌≡◌, ℕ, ◌+◌, ◌<◌, Bool, true, false, not, ◌&&◌, leb, List, length, get_or, sym, refl, ap, ◌∙◌, arith}
use Rattle.std.proofs.lemmas.Bool.{and_parts}
use Rattle.std.proofs.lemmas.List.{get_or-map, length-map}
use Rattle.plan.specs.Calls.{all_below, arity_is}
use Rattle.plan.specs.Fields.{any}
use Rattle.plan.specs.Functions.{function_at, is_total}
use Rattle.plan.specs.Model.{expr_in, exprs_in, no_expr}
use Rattle.plan.specs.Questions.{small_tree}
use Rattle.plan.specs.Terms.{Expr, arguments, listed}
use Rattle.plan.specs.Terms.Expr.{call}
use Rattle.lexicon.proofs.Frames.{every-at}
use Rattle.tables.specs.Holding.{view_in}
use Rattle.tables.specs.declared.tables.Tables.{Tables}
use Rattle.terms.specs.Acceptance.{acceptable, all_acceptable}
use Rattle.terms.specs.Build.{inside_node, numbers_in}
use Rattle.terms.specs.Views.{numbers_of, tree_for}
use Rattle.entries.specs.declared.node.ExprId.{ExprId}
use Rattle.entries.specs.declared.node.ExprNode.TheVariants.{Call}
use Rattle.entries.specs.declared.node.Run.{Run}
use Rattle.terms.proofs.Walks.{item_below, listed-arguments}

module _ (t : Tables) (e n : ℕ) (run : Run) (given : List ExprId) (h : expr_in (view_in t).trees e ≡ tree_for t.terms (Call n run)) (inside : inside_node (view_in t).bytes (view_in t).entries e (Call n run) ≡ true)
    (given-is : numbers_of given ≡ numbers_in (view_in t).entries run.first run.count) (present : e < length (view_in t).trees) where
  abbrev ts : List Expr
  ts = exprs_in (view_in t).trees (numbers_of given)

  pub call-is : expr_in (view_in t).trees e ≡ call n (arguments ts)
  call-is = h ∙ ap (λ ns. call n (arguments (exprs_in (view_in t).trees ns))) (sym given-is)

  pub all-lower : all_below e (numbers_of given) ≡ true
  all-lower = ap (all_below e) given-is ∙ (and_parts (leb (run.first + run.count) (length (view_in t).entries)) (all_below e (numbers_in (view_in t).entries run.first run.count)) inside).1

  pub no-totals : any (is_total (view_in t).functions) ts ≡ false
  no-totals =
      let F = (view_in t).functions in
      let es = arguments ts in
      let ok = sym (ap (acceptable F) call-is) ∙ every-at (acceptable F) (view_in t).trees e no_expr present t.terms.accepted in
      let p = and_parts (all_acceptable F es) (arity_is (function_at F n) (length (listed es)) && (not (any (is_total F) (listed es)) && small_tree (call n es))) ok in
      let q = and_parts (arity_is (function_at F n) (length (listed es))) (not (any (is_total F) (listed es)) && small_tree (call n es)) p.1 in
      let r = (and_parts (not (any (is_total F) (listed es))) (small_tree (call n es)) q.1).0 in
      sym (ap (any (is_total F)) (listed-arguments ts)) ∙ off (any (is_total F) (listed es)) r
    where
      off : (b : Bool) → not b ≡ true → b ≡ false
      off true k = absurd (let z : ◌≡◌ {A = ℕ} 0 1 = cc in omega arith)
      off false k = refl

  module _ (i : ℕ) (d : ExprId) (lt : i < length given) where
    pub argument-lower : (get_or given i d).0 < e
    argument-lower = item_below (λ y. y.0) e given i d lt all-lower

    pub argument-is : expr_in (view_in t).trees (get_or given i d).0 ≡ get_or ts i no_expr
    argument-is =
        ap (expr_in (view_in t).trees) (sym (get_or-map (λ y. y.0) given i d 0 lt))
        ∙ sym (get_or-map (expr_in (view_in t).trees) (numbers_of given) i 0 no_expr (omega (arith, lt, length-map given (λ y. y.0))))

  pub as-many : length ts ≡ length given
  as-many = length-map (numbers_of given) (expr_in (view_in t).trees) ∙ length-map given (λ y. y.0)
