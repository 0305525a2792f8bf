-- One expression more.
use Rattle.std.proofs.Common.{◌≡◌, ℕ, ◌+◌, ◌<◌, List, [], ◌++◌, length, get_or, set, subst, sym, ap, ◌∙◌, append-nil, length-append, arith, refl}
use Rattle.std.proofs.lemmas.List.Edits.{fill_by_more}
use Rattle.plan.specs.Calls.{Call, Made, new_exprs, new_plans, number_of_new}
use Rattle.plan.specs.Model.{Model}
use Rattle.entries.specs.declared.node.ExprId.{ExprId}
use Rattle.trials.specs.Trials.{Adds, expr_id}

pub adds-none : (m : Model) (es : List ExprId) → Adds m es 0 m
adds-none m es = (omega arith, refl, λ k h. absurd (omega (arith, h)))

pub adds-more : (m m' m'' : Model) (c : Call) (es : List ExprId) (n : ℕ) (e : ExprId) → n < length es
    → length (new_exprs m' c) ≡ 1 → new_plans m' c ≡ [] → number_of_new m' c ≡ length m'.exprs
    → Adds m es n m' → Made m' c e.0 m'' → Adds m (set es n e) (n + 1) m''
adds-more m m' m'' c es n e h one none next a made =
    let long : length m''.exprs ≡ length m'.exprs + length (new_exprs m' c) = ap length made.exprs ∙ length-append m'.exprs (new_exprs m' c) in (
      omega (arith, long, one, a.0),
      made.plans ∙ ap (λ l. m'.plans ++ l) none ∙ append-nil m'.plans ∙ a.1,
      subst (λ x. (k : ℕ) → k < n + 1 → get_or (set es n x) k (expr_id 0) ≡ expr_id (length m.exprs + k)) (ap expr_id (sym (made.number ∙ next ∙ a.0))) (fill_by_more (λ k. expr_id (length m.exprs + k)) es n (expr_id 0) h a.2),
    )
