-- An expression under a generated alias.
use Rattle.std.proofs.Common.{◌≡◌, ℕ, ◌+◌, ◌<◌, ◌≤◌, max, Bool, true, cond, [], ◌∷◌, length, Some, None, Ok, Err, Result, sym, refl, ap, ◌∙◌, subst, arith}
use Rattle.std.proofs.lemmas.Bool.{le-leb, lt-ltb}
use Rattle.numbering.proofs.Highest.{highest-append}
use Rattle.plan.specs.Calls.Call.{make_alias}
use Rattle.plan.specs.Calls.{Answers}
use Rattle.plan.specs.Faults.{first_no}
use Rattle.plan.specs.Model.{expr_in, fits, space}
use Rattle.plan.specs.Names.{most_number}
use Rattle.plan.specs.Rendering.{unqualified_field}
use Rattle.plan.specs.Terms.{Expr, Field, size_of}
use Rattle.plan.specs.Terms.Expr.{alias, reference}
use Rattle.plan.specs.declared.fault.Fault.{Fault}
use Rattle.plan.specs.declared.fault.Question.TheVariants.{Limited, Named, Present, Space as SpaceQuestion}
use Rattle.entries.specs.declared.node.ExprId.{ExprId}
use Rattle.rewriting.proofs.Fresh.{generated-is-good}
use Rattle.rewriting.specs.Generated.{expr_names, generated, highest, next_number}
use Rattle.tables.specs.Answering.{answered_expr}
use Rattle.tables.specs.Holding.{model_of, view_in}
use Rattle.tables.specs.declared.tables.Tables.{Tables}
use Rattle.extracting.proofs.Built.{made-built, only-space}
use Rattle.extracting.proofs.Numbers.{column-number, expr-number}
use Rattle.extracting.specs.Walking.{Built, BuiltBy}

names-of : (e : Expr) (f : Field) → highest 0 (expr_names (alias e f)) ≡ max (highest 0 (expr_names (reference f))) (highest 0 (expr_names e))
unfolding expr_names
names-of e f = highest-append (expr_names (reference f)) (expr_names e)

module _ (t u : Tables) (e k : ℕ) where
  abbrev made : Expr
  made = alias (expr_in (view_in t).trees e) (unqualified_field (generated k))

  number : k ≤ most_number → highest 0 (expr_names made) < max (k + 1) (next_number (model_of t))
  number h = omega (arith, names-of (expr_in (view_in t).trees e) (unqualified_field (generated k)), column-number k h, expr-number (model_of t) e)

  pub alias-built : (r : Result ExprId Fault) → k ≤ most_number → e < length (view_in t).trees → size_of (expr_in (view_in t).trees e) ≤ 255 → Answers (model_of t) (make_alias e (unqualified_field (generated k))) (answered_expr r) (model_of u)
      → BuiltBy t (space 1 0 0 0 (length (generated k))) (k + 1) made r u
  alias-built (Ok r) h present small a = subst (λ n. Built t (space 1 0 0 0 n) (k + 1) made r.0 u) (omega arith) (made-built t u (make_alias e (unqualified_field (generated k))) made refl refl refl refl (k + 1) r.0 (number h) a)
  alias-built (Err f) h present small a =
      let m = model_of t in
      let room = fits m.used (space 1 0 0 0 (length (generated k) + 0)) in
      let s = only-space room f (sym (three _ _ _ room (lt-ltb e (length m.exprs) present) (generated-is-good k h).2 (le-leb (size_of (expr_in m.exprs e) + 1) 256 (omega (arith, small)))) ∙ a.0) a.1 in
      (s.0, ap (λ n. fits m.used (space 1 0 0 0 n)) (omega arith) ∙ s.1)
    where
      three : (p q r b : Bool) → p ≡ true → q ≡ true → r ≡ true → first_no ((Present, p) ∷ (Named, q) ∷ (Limited, r) ∷ (SpaceQuestion, b) ∷ []) ≡ cond b None (Some SpaceQuestion)
      three p q r b h i j = cc
