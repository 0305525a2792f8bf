-- From what the calls that make an expression answer to what a step of the walk does.
use Rattle.std.proofs.Common.{◌≡◌, ℕ, ◌+◌, ◌<◌, max, Bool, true, false, cond, not, List, [], ◌∷◌, ◌++◌, length, is_some, Some, None, Ok, Err, Option, Result, sym, refl, ap, ap₂, ◌∙◌, arith}
use Rattle.std.proofs.lemmas.List.{get_or_at, length_push}
use Rattle.std.proofs.lemmas.List.Sums.{sum_by-cons}
use Rattle.std.proofs.lemmas.Bool.{and_from}
use Rattle.plan.specs.Calls.Call.{make_call, make_reference}
use Rattle.plan.specs.Calls.{Answers, Call, Made, all_below, arity_is, good_field, new_exprs, new_inputs, new_plans, number_of_new, outlay}
use Rattle.plan.specs.Faults.{first_no, refusal}
use Rattle.plan.specs.Fields.{any}
use Rattle.plan.specs.Functions.{Function, function_at, is_total}
use Rattle.plan.specs.Model.{Model, expr_in, exprs_in, fits, no_expr, space}
use Rattle.plan.specs.Names.{Name}
use Rattle.plan.specs.Questions.{small_tree}
use Rattle.plan.specs.Rendering.{unqualified_field}
use Rattle.plan.specs.Terms.{Expr, arguments}
use Rattle.plan.specs.Terms.Expr.{call, reference}
use Rattle.plan.specs.declared.fault.Fault.{Fault}
use Rattle.plan.specs.declared.fault.Question.TheVariants.{Bounded, Limited, Named, Placed, Present, Space as SpaceQuestion}
use Rattle.rewriting.specs.Generated.{expr_names, field_names, highest, next_number, qualifier_names}
use Rattle.rewriting.specs.Outlay.{entries_of, tree_space}
use Rattle.tables.specs.Answering.{answered_expr}
use Rattle.tables.specs.Holding.{model_of}
use Rattle.tables.specs.Reusing.{Reused}
use Rattle.tables.specs.declared.tables.Tables.{Tables}
use Rattle.entries.specs.declared.node.ExprId.{ExprId}
use Rattle.extracting.specs.Walking.{Built, BuiltBy}
use Rattle.extracting.proofs.Growing.{added-grows, made-grows}
use Rattle.extracting.proofs.Numbers.{call-number, numbered-push}
use Rattle.extracting.proofs.Spaces.{within-plus}

-- the tree that was put behind the others
module _ (m m' : Model) (e : Expr) (r : ℕ) (exprs : m'.exprs ≡ m.exprs ++ e ∷ []) (number : r ≡ length m.exprs) where
  last-there : r < length m'.exprs
  last-there = omega (arith, number, ap length exprs, length_push m.exprs e)

  last-is : expr_in m'.exprs r ≡ e
  last-is = ap₂ expr_in exprs number ∙ get_or_at m.exprs e [] no_expr (length m.exprs) refl

pub reused-built : (t u : Tables) (e : Expr) (r : Result ExprId Fault) → highest 0 (expr_names e) < next_number (model_of t) → Reused (model_of t) e r (model_of u) → BuiltBy t (space 1 0 0 0 0) 0 e r u
reused-built t u e (Ok r) low a =
    record {
      present = last-there (model_of t) (model_of u) e r.0 a.exprs a.number;
      tree = last-is (model_of t) (model_of u) e r.0 a.exprs a.number;
      grows = added-grows (model_of t) e r.0 (model_of u) a;
      numbers = numbered-push (model_of t) (model_of u) e a.functions a.exprs a.plans 0 (omega (arith, low));
      spent = within-plus _ _ _ a.used;
    }
reused-built t u e (Err f) low a = (a.1, a.0)

module _ (t u : Tables) (c : Call) (e : Expr) (new : new_exprs (model_of t) c ≡ e ∷ []) (number : number_of_new (model_of t) c ≡ length (model_of t).exprs) (no-plans : new_plans (model_of t) c ≡ []) (no-inputs : new_inputs c ≡ []) where
  pub made-built : (n r : ℕ) → highest 0 (expr_names e) < max n (next_number (model_of t)) → Made (model_of t) c r (model_of u) → Built t (outlay (model_of t) c) n e r u
  made-built n r low a =
      let x = a.exprs ∙ ap (λ l. (model_of t).exprs ++ l) new in
      let g = made-grows (model_of t) c r (model_of u) a no-plans no-inputs in
      record {
        present = last-there (model_of t) (model_of u) e r x (a.number ∙ number);
        tree = last-is (model_of t) (model_of u) e r x (a.number ∙ number);
        grows = g;
        numbers = numbered-push (model_of t) (model_of u) e g.functions x g.plans n low;
        spent = within-plus _ _ _ a.used;
      }

-- where all other questions are answered yes, a refusal is for space
pub only-space : (b : Bool) (f : Fault) → cond b None (Some SpaceQuestion) ≡ Some f.question → f ≡ refusal f.question → (f ≡ refusal SpaceQuestion) × (b ≡ false)
only-space true f h k = absurd (let z : ◌≡◌ {A = ℕ} 0 1 = cc in omega arith)
only-space false f h k = let q : f.question ≡ SpaceQuestion = cc in (k ∙ ap refusal q, refl)

-- a reference without qualifier
column-space : (n : Name) → space 1 0 0 0 (length n + 0) ≡ tree_space (reference (unqualified_field n))
unfolding tree_space entries_of expr_names field_names qualifier_names
column-space n = ap (λ k. space 1 0 0 0 k) (sym (sum_by-cons length n []))

pub column-built : (t u : Tables) (n : Name) (k : ℕ) (r : Result ExprId Fault) → good_field (unqualified_field n) ≡ true → highest 0 (expr_names (reference (unqualified_field n))) < k
    → Answers (model_of t) (make_reference (unqualified_field n)) (answered_expr r) (model_of u) → BuiltBy t (tree_space (reference (unqualified_field n))) k (reference (unqualified_field n)) r u
column-built t u n k (Ok r) good low a =
    let b = made-built t u (make_reference (unqualified_field n)) (reference (unqualified_field n)) refl refl refl refl k r.0 (omega (arith, low)) a in
    rw (← column-space n) b
column-built t u n k (Err f) good low a =
    let room = fits (model_of t).used (outlay (model_of t) (make_reference (unqualified_field n))) in
    let s = only-space room f (sym (ap (λ b. cond b (cond room None (Some SpaceQuestion)) (Some Named)) good) ∙ a.0) a.1 in
    (s.0, ap (fits (model_of t).used) (sym (column-space n)) ∙ s.1)

is-declared : (f : Option Function) (k : ℕ) → arity_is f k ≡ true → is_some f ≡ true
is-declared None k h = absurd (let z : ◌≡◌ {A = ℕ} 0 1 = cc in omega arith)
is-declared (Some f) k h = refl

-- a call of a function with the arguments ns
pub call-built : (t u : Tables) (f : ℕ) (ns : List ℕ) (r : Result ExprId Fault)
    → all_below (length (model_of t).exprs) ns ≡ true → arity_is (function_at (model_of t).functions f) (length ns) ≡ true → any (is_total (model_of t).functions) (exprs_in (model_of t).exprs ns) ≡ false
    → small_tree (call f (arguments (exprs_in (model_of t).exprs ns))) ≡ true → Answers (model_of t) (make_call f ns) (answered_expr r) (model_of u)
    → BuiltBy t (space 1 0 (length ns) 0 0) 0 (call f (arguments (exprs_in (model_of t).exprs ns))) r u
call-built t u f ns (Ok r) below arity totals small a = made-built t u (make_call f ns) (call f (arguments (exprs_in (model_of t).exprs ns))) refl refl refl refl 0 r.0 (omega (arith, call-number (model_of t) f ns)) a
call-built t u f ns (Err x) below arity totals small a =
    let m = model_of t in
    let room = fits m.used (space 1 0 (length ns) 0 0) in
    let p = and_from (is_some (function_at m.functions f)) _ (is-declared (function_at m.functions f) (length ns) arity) below in
    only-space room x (sym (four _ _ _ _ room p arity (ap not totals) small) ∙ a.0) a.1
  where
    four : (p q r s b : Bool) → p ≡ true → q ≡ true → r ≡ true → s ≡ true
        → first_no ((Present, p) ∷ (Bounded, q) ∷ (Placed, r) ∷ (Limited, s) ∷ (SpaceQuestion, b) ∷ []) ≡ cond b None (Some SpaceQuestion)
    four p q r s b h i j k = cc
