-- From what the expressions' own calls promise to what the book's calls promise.
use Rattle.std.proofs.Common.{◌≡◌, ℕ, ◌+◌, ◌≤◌, Bool, true, false, ◌&&◌, leb, List, [], ◌∷◌, ◌++◌, map, length, Ok, Err, Result, sym, refl, ap, ◌∙◌, subst, ap₂, arith, length-append}
use Rattle.std.proofs.lemmas.List.{append-nil}
use Rattle.std.proofs.lemmas.Bool.{le-leb}
use Rattle.plan.specs.Terms.{Expr, Literal}
use Rattle.plan.specs.Faults.{first_no}
use Rattle.plan.specs.Model.{Model, Space, space, plus, fits}
use Rattle.plan.specs.Calls.Call.{make_literal}
use Rattle.plan.specs.Calls.{Call, asked, all_asked, new_exprs, new_plans, new_inputs, outlay, number_of_new, Made, Answers}
use Rattle.plan.specs.declared.fault.Fault.{Fault}
use Rattle.plan.specs.declared.fault.Question.TheVariants.{Space as SpaceQuestion}
use Rattle.expression.specs.Building.{bare, roomy, all_asked_of, Grew, Answered}
use Rattle.terms.specs.Views.{View, grown}
use Rattle.entries.specs.declared.node.Entry.{Entry}
use Rattle.entries.specs.declared.node.ExprId.{ExprId}
use Rattle.entries.specs.declared.node.StoredField.{StoredField}
use Rattle.plan.specs.Fields.{every}
use Rattle.plan.specs.Plans.{plan_size_of}
use Rattle.entries.specs.Spans.{stored_in}
use Rattle.stored.specs.Stored.{plan_nodes, plan_trees, inputs_from, sound_plans, fielded, well_formed}
use Rattle.tables.specs.Holding.{view_in, nodes_of, model_from, model_of}
use Rattle.tables.specs.Answering.{answered_expr}
use Rattle.stored.specs.declared.node.PlanRecord.{PlanRecord}
use Rattle.tables.specs.declared.tables.Tables.{Tables}
use Rattle.stored.proofs.PlanFrames.{plans-grow, all-inputs-grow}
use Rattle.stored.proofs.PlanFacts.{PlanFacts, facts-grow}
use Rattle.tables.proofs.Held.{facts-in, counted}

-- the tables of plans keep their facts and trees as expressions are added
module _ (v w : View) (ts : List Expr) (bs : List ℕ) (es : List Entry) (fields : List StoredField) (rs : List PlanRecord) (e : w ≡ grown v ts bs es) (k : PlanFacts v fields rs) where
  pub facts-kept : PlanFacts w fields rs
  facts-kept = subst (λ x. PlanFacts x fields rs) (sym e) (subst (λ fs. PlanFacts (grown v ts bs es) fs rs) (append-nil fields) (facts-grow v ts bs es fields [] rs refl k))

  pub nodes-kept : plan_nodes w fields rs ≡ plan_nodes v fields rs
  nodes-kept =
      ap₂ (λ x fs. plan_nodes x fs rs) e (sym (append-nil fields)) ∙ (plans-grow v ts bs es fields [] k.are-stored rs k.are-sound).1

  pub inputs-kept : inputs_from w.entries rs ≡ inputs_from v.entries rs
  inputs-kept = ap (λ x. inputs_from x.entries rs) e ∙ all-inputs-grow v ts bs es fields [] k.are-stored 0 rs k.are-sound

facts-answered : (v w : View) (c : Call) (r : Result ExprId Fault) (fields : List StoredField) (rs : List PlanRecord) → Answered v c r w → PlanFacts v fields rs → PlanFacts w fields rs
facts-answered v w c (Ok x) fields rs a k = facts-kept v w _ _ _ fields rs a.view k
facts-answered v w c (Err f) fields rs a k = subst (λ y. PlanFacts y fields rs) (sym a.2) k

-- what the tables keep, with the expressions of w in place of their own
abbrev pub StillHeld : Tables → View → Type 0
StillHeld t w = record {
  few_fields : length t.fields ≤ 2048;
  few_plans : length t.plans ≤ 128;
  stored : every (stored_in w.bytes) t.fields ≡ true;
  sound : sound_plans w t.fields t.plans ≡ true;
  fielded : fielded w t.fields t.plans ≡ true;
  sizes : map (λ r. r.size) t.plans ≡ map plan_size_of (plan_trees w t.fields t.plans);
  formed : every (well_formed w.functions) (plan_trees w t.fields t.plans) ≡ true;
}

pub still-held : (t : Tables) (w : View) (c : Call) (r : Result ExprId Fault) → Answered (view_in t) c r w → StillHeld t w
still-held t w c r a =
    let k = facts-answered (view_in t) w c r t.fields t.plans a (facts-in t) in
    record { few_fields = t.few_fields; few_plans = t.few_plans; stored = k.are-stored; sound = k.are-sound; fielded = k.are-fielded; sizes = k.have-sizes; formed = k.are-formed }

-- a call that makes an expression asks and costs the same of the book as of its expressions
pub record SameCall (m : Model) (v : View) (c : Call) : Type 0 where
  pub asks : asked m c ≡ asked (bare v) c
  pub makes : new_exprs m c ≡ new_exprs (bare v) c
  pub costs : outlay m c ≡ outlay (bare v) c
  pub no-plan : new_plans m c ≡ []
  pub no-inputs : new_inputs c ≡ []
  pub number : number_of_new m c ≡ length v.trees
  pub expressions : (outlay (bare v) c).exprs ≡ length (new_exprs (bare v) c)
  pub plans : (outlay (bare v) c).plans ≡ 0
  pub fields : (outlay (bare v) c).fields ≡ 0

pub fits-roomy : (v : View) (p f : ℕ) (o : Space) → p ≤ 128 → f ≤ 2048 → o.plans ≡ 0 → o.fields ≡ 0 → fits (space (length v.trees) p (length v.entries) f (length v.bytes)) o ≡ roomy v o
fits-roomy v p f o hp hf ep ef =
    let a = leb (length v.trees + o.exprs) 1024 in
    let c = leb (length v.entries + o.entries) 2048 in
    let z = leb (length v.bytes + o.bytes) 16384 in
    let b : leb (p + o.plans) 128 ≡ true = le-leb _ _ (omega arith) in
    let d : leb (f + o.fields) 2048 ≡ true = le-leb _ _ (omega arith) in
    ap₂ (λ x y. (a && x) && (c && (y && z))) b d ∙ drop-true a (c && z)
  where
    drop-true : (x y : Bool) → ((x && true) && y) ≡ (x && y)
    drop-true true y = refl
    drop-true false y = refl

pub space-same : (a b c d e a' b' c' d' e' : ℕ) → a ≡ a' → b ≡ b' → c ≡ c' → d ≡ d' → e ≡ e' → space a b c d e ≡ space a' b' c' d' e'
space-same a b c d e a' b' c' d' e' p q r s t = cc

none : (n k : ℕ) → k ≡ 0 → n ≡ n + k
none n k e = omega arith

module _ (t : Tables) (w : View) (c : Call) (s : SameCall (model_of t) (view_in t) c) where
  all_same : all_asked (model_of t) c ≡ all_asked_of (view_in t) c
  all_same =
      let p : length (nodes_of t) ≤ 128 = omega (arith, counted t, t.few_plans) in
      ap₂ (λ x o. x ++ (SpaceQuestion, fits (model_of t).used o) ∷ []) s.asks s.costs
      ∙ ap (λ b. asked (bare (view_in t)) c ++ (SpaceQuestion, b) ∷ []) (fits-roomy (view_in t) (length (nodes_of t)) (length t.fields) (outlay (bare (view_in t)) c) p t.few_fields s.plans s.fields)

  made_of : (r : ℕ) → Grew (view_in t) c r w → Made (model_of t) c r (model_from w t.fields t.plans)
  made_of r g =
      let v = view_in t in
      let o = outlay (bare v) c in
      let n : plan_nodes w t.fields t.plans ≡ nodes_of t = nodes-kept v w _ _ _ t.fields t.plans g.view (facts-in t) in
      record {
        accepted = ap first_no all_same ∙ g.accepted;
        number = g.number ∙ sym s.number;
        functions = ap (λ x. x.functions) g.view;
        exprs = ap (λ x. x.trees) g.view ∙ ap (λ l. v.trees ++ l) (sym s.makes);
        plans = n ∙ sym (append-nil (nodes_of t)) ∙ ap (λ l. nodes_of t ++ l) (sym s.no-plan);
        inputs = inputs-kept v w _ _ _ t.fields t.plans g.view (facts-in t) ∙ sym (append-nil (model_of t).inputs) ∙ ap (λ l. (model_of t).inputs ++ l) (sym s.no-inputs);
        bytes = g.bytes;
        text = ap (λ x. x.bytes) g.view;
        used = space-same _ _ _ _ _ _ _ _ _ _
            (ap (λ x. length x.trees) g.view ∙ length-append v.trees (new_exprs (bare v) c) ∙ ap (λ k. length v.trees + k) (sym s.expressions))
            (ap length n ∙ none (length (nodes_of t)) o.plans s.plans)
            (ap (λ x. length x.entries) g.view ∙ length-append v.entries g.entries ∙ ap (λ k. length v.entries + k) g.entries_used)
            (none (length t.fields) o.fields s.fields)
            (ap (λ x. length x.bytes) g.view ∙ length-append v.bytes g.bytes ∙ ap (λ k. length v.bytes + k) g.bytes_used)
            ∙ ap (plus (model_of t).used) (sym s.costs);
      }

  pub expr-answers : (r : Result ExprId Fault) → Answered (view_in t) c r w → Answers (model_of t) c (answered_expr r) (model_from w t.fields t.plans)
  expr-answers (Ok x) a = made_of x.0 a
  expr-answers (Err f) a =
      (ap first_no all_same ∙ a.0, a.1, ap (λ x. model_from x t.fields t.plans) a.2)

pub literal-answers : (t : Tables) (w : View) (l : Literal) (r : Result ExprId Fault) → Answered (view_in t) (make_literal l) r w → Answers (model_of t) (make_literal l) (answered_expr r) (model_from w t.fields t.plans)
literal-answers t w l =
    expr-answers t w (make_literal l) (record { asks = refl; makes = refl; costs = refl; no-plan = refl; no-inputs = refl; number = refl; expressions = refl; plans = refl; fields = refl })
