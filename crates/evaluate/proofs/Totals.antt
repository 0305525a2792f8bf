-- An acceptable expression has a total inside only if it is one, under aliases at most.
use Rattle.std.proofs.Common.{◌≡◌, ℕ, ◌<◌, Bool, true, false, not, ◌&&◌, ◌||◌, length, sym, refl, ap, ◌∙◌, ap₂}
use Rattle.std.proofs.lemmas.Bool.{and_parts}
use Rattle.plan.specs.Calls.{arity_is, good_alias}
use Rattle.plan.specs.Fields.{any}
use Rattle.plan.specs.Functions.{Functions, function_at, is_total, is_total_rule, rule_in}
use Rattle.plan.specs.Model.{no_expr}
use Rattle.plan.specs.Questions.{small_tree}
use Rattle.plan.specs.Terms.{Expr, Exprs, listed}
use Rattle.plan.specs.Terms.Expr.{alias, call, literal, reference}
use Rattle.plan.specs.Terms.Exprs.{more, none}
use Rattle.terms.specs.Acceptance.{acceptable, all_acceptable}
use Rattle.terms.specs.Views.{count, tree_of, view_of}
use Rattle.terms.specs.declared.terms.Terms.{Terms}
use Rattle.lexicon.proofs.Frames.{every-at}
use Rattle.evaluate.specs.Evaluating.{hold_total, holds_total}

refuted : (b : Bool) → not b ≡ true → b ≡ false
refuted true h = sym h
refuted false h = refl

alone : (b : Bool) → (b || false) ≡ b
alone true = refl
alone false = refl

module _ (fs : Functions) where
  mutual
    pub holds-total : (e : Expr) → acceptable fs e ≡ true → holds_total fs e ≡ is_total fs e
    holds-total (literal v) h = refl
    holds-total (reference f) h = refl
    holds-total (alias e f) h = holds-total e (and_parts (acceptable fs e) (good_alias f && small_tree (alias e f)) h).0
    holds-total (call n es) h =
        let p = and_parts (all_acceptable fs es) (arity_is (function_at fs n) (length (listed es)) && (not (any (is_total fs) (listed es)) && small_tree (call n es))) h in
        let q = and_parts (arity_is (function_at fs n) (length (listed es))) (not (any (is_total fs) (listed es)) && small_tree (call n es)) p.1 in
        let r = and_parts (not (any (is_total fs) (listed es))) (small_tree (call n es)) q.1 in
        ap (λ b. is_total_rule (rule_in (function_at fs n)) || b) (hold-total es p.0 ∙ refuted (any (is_total fs) (listed es)) r.0) ∙ alone (is_total_rule (rule_in (function_at fs n)))

    hold-total : (es : Exprs) → all_acceptable fs es ≡ true → hold_total fs es ≡ any (is_total fs) (listed es)
    hold-total none h = refl
    hold-total (more e es) h =
        let p = and_parts (acceptable fs e) (all_acceptable fs es) h in
        ap₂ (λ a b. a || b) (holds-total e p.0) (hold-total es p.1)

-- every expression of the tables is acceptable
pub accepted : (t : Terms) (e : ℕ) → e < count t → acceptable (view_of t).functions (tree_of t e) ≡ true
accepted t e lt = every-at (acceptable (view_of t).functions) (view_of t).trees e no_expr lt t.accepted

pub tests-total : (t : Terms) (e : ℕ) → e < count t → is_total (view_of t).functions (tree_of t e) ≡ holds_total (view_of t).functions (tree_of t e)
tests-total t e lt = sym (holds-total (view_of t).functions (tree_of t e) (accepted t e lt))
