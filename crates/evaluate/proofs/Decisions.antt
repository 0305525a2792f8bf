-- From one question to a list of questions.
use Rattle.std.proofs.Common.{◌≡◌, ℕ, ◌≤◌, Bool, true, false, not, ◌&&◌, eqb, leb, List, [], ◌∷◌, map, length, Some, None, Ok, Err, Result, sym, refl, ap, ◌∙◌, subst, arith}
use Rattle.std.proofs.lemmas.Bool.{and_parts, cond-false, cond-true, eqb-true, leb-true}
use Rattle.plan.specs.Calls.{below}
use Rattle.plan.specs.Faults.{Asked, Decided, Settled, first_no, refusal}
use Rattle.plan.specs.Fields.{resolved}
use Rattle.plan.specs.Functions.{Functions}
use Rattle.plan.specs.Model.{Model, expr_in}
use Rattle.plan.specs.Terms.{Expr, Field}
use Rattle.plan.specs.declared.fault.Fault.{Fault}
use Rattle.plan.specs.declared.fault.Question.{Question}
use Rattle.plan.specs.declared.fault.Question.TheVariants.{Bounded, Placed, Present, Resolved}
use Rattle.value.specs.Meanings.{meaning_of}
use Rattle.value.specs.declared.Value.{Value as Held}
use Rattle.engine.specs.Strictness.{Meaning}
use Rattle.evaluate.specs.Evaluating.{Answers, Means, Valued, holds_total, row_asked, shown_by}

module _ {A : Type 0} (P : A → Type 0) (Q : Type 0) (q : Question) (b : Bool) where
  -- answered yes, the later questions decide
  pub passed : (qs : List Asked) (r : Result A Fault) → b ≡ true → Settled qs P Q r → Settled ((q, b) ∷ qs) P Q r
  passed qs (Ok v) h s = (cond-true b (first_no qs) (Some q) h ∙ s.0, s.1)
  passed qs (Err f) h s = (cond-true b (first_no qs) (Some q) h ∙ s.0, s.1, s.2)

  -- answered no, it decides
  pub refused : (qs : List Asked) (x y : Fault) (r : Result A Fault) → r ≡ Err y → y ≡ x → Decided {A = A} b q (Err x) → Q → Settled ((q, b) ∷ qs) P Q r
  refused qs x y r e d h k =
      let s : Settled ((q, b) ∷ qs) P Q (Err (refusal q)) = (cond-false b (first_no qs) (Some q) h.0, refl, k) in
      subst (Settled ((q, b) ∷ qs) P Q) (sym (e ∙ ap Err (d ∙ h.1))) s

-- the last question
pub last-decides : {A : Type 0} (q : Question) (b : Bool) (r : Result A Fault) → Decided b q r → Settled ((q, b) ∷ []) (λ v. Unit {0}) (Unit {0}) r
last-decides q b (Ok v) h = (cond-true b _ (Some q) h, tt)
last-decides {A} q b (Err f) h = refused {A = A} (λ v. Unit {0}) (Unit {0}) q b [] f f (Err f) refl refl h tt

-- where no question is answered no, the first is answered yes
pub all_yes : (q : Question) (b : Bool) (qs : List Asked) → first_no ((q, b) ∷ qs) ≡ None → (b ≡ true) × (first_no qs ≡ None)
all_yes q true qs h = (refl, h)
all_yes q false qs h = absurd (let z : ◌≡◌ {A = ℕ} 0 1 = cc in omega arith)

-- what the questions on the row tell where none is answered no
pub row-yes : (fs : Functions) (shown : List Field) (e : Expr) (values scratch : ℕ) → first_no (row_asked fs shown e values scratch) ≡ None → (values ≡ length shown) × (256 ≤ scratch) × (resolved shown e ≡ true)
row-yes fs shown e values scratch h =
    let p = all_yes Bounded (eqb values (length shown) && leb 256 scratch) ((Placed, not (holds_total fs e)) ∷ (Resolved, resolved shown e) ∷ []) h in
    let q = all_yes Placed (not (holds_total fs e)) ((Resolved, resolved shown e) ∷ []) p.1 in
    let r = all_yes Resolved (resolved shown e) [] q.1 in
    let both = and_parts (eqb values (length shown)) (leb 256 scratch) p.0 in
    (eqb-true values (length shown) both.0, leb-true 256 scratch both.1, r.0)

-- once both numbers are found, the questions on the row decide
pub found-both : (m : Model) (meaning : Meaning) (e p : ℕ) (values : List Held) (row : List ℕ) (before after : List Held) (r : Result Held Fault)
    → below (length m.exprs) e ≡ true → below (length m.plans) p ≡ true
    → Valued (row_asked m.functions (shown_by m p) (expr_in m.exprs e) (length values) (length before)) meaning m.text row (shown_by m p) values (expr_in m.exprs e) before after r
    → Answers m meaning e p values row before after r
found-both m meaning e p values row before after r h k s =
    let qs = row_asked m.functions (shown_by m p) (expr_in m.exprs e) (length values) (length before) in
    let P : Held → Type 0 = λ v. Means meaning m.text row (shown_by m p) (map (meaning_of m.text row) values) (expr_in m.exprs e) (meaning_of m.text row v) × (length after ≡ length before) in
    let b = below (length m.plans) p in
    passed P (after ≡ before) Present (below (length m.exprs) e) ((Present, b) ∷ qs) r h (passed P (after ≡ before) Present b qs r k s)
