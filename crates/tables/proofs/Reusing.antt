-- From what a call on the expressions promises that uses stored names to what it promises of the book.
use Rattle.std.proofs.Common.{◌≡◌, ℕ, ◌+◌, ◌≤◌, [], ◌∷◌, length, Ok, Err, Result, sym, ap, ◌∙◌, refl, subst, arith, length-append}
use Rattle.std.proofs.lemmas.List.{append-nil, length_push}
use Rattle.plan.specs.Terms.{Expr}
use Rattle.plan.specs.Model.{fits}
use Rattle.plan.specs.declared.fault.Fault.{Fault}
use Rattle.expression.specs.Building.{roomy}
use Rattle.expression.specs.Reusing
use Rattle.expression.specs.Reusing.{one_node}
use Rattle.terms.specs.Views.{View}
use Rattle.entries.specs.declared.node.ExprId.{ExprId}
use Rattle.tables.specs.Holding.{view_in, nodes_of, model_from, model_of}
use Rattle.tables.specs.Reusing.{Reused}
use Rattle.tables.specs.declared.tables.Tables.{Tables}
use Rattle.tables.proofs.Answers.{StillHeld, facts-kept, fits-roomy, inputs-kept, nodes-kept, space-same}
use Rattle.tables.proofs.Held.{counted, facts-in}
use Rattle.stored.proofs.PlanFacts.{PlanFacts}

module _ (t : Tables) (w : View) (e : Expr) where
  facts_reused : (r : Result ExprId Fault) → Reusing.Reused (view_in t) e r w → PlanFacts w t.fields t.plans
  facts_reused (Ok x) a = facts-kept (view_in t) w (e ∷ []) [] [] t.fields t.plans a.view (facts-in t)
  facts_reused (Err f) a = subst (λ y. PlanFacts y t.fields t.plans) (sym a.2) (facts-in t)

  pub held-reused : (r : Result ExprId Fault) → Reusing.Reused (view_in t) e r w → StillHeld t w
  held-reused r a =
      let k = facts_reused r a in
      record { few_fields = t.few_fields; few_plans = t.few_plans; stored = k.are-stored; sound = k.are-sound; fielded = k.are-fielded; sizes = k.have-sizes; formed = k.are-formed }

  same-room : fits (model_of t).used one_node ≡ roomy (view_in t) one_node
  same-room =
      let p : length (nodes_of t) ≤ 128 = omega (arith, counted t, t.few_plans) in
      fits-roomy (view_in t) (length (nodes_of t)) (length t.fields) one_node p t.few_fields refl refl

  pub reused-answers : (r : Result ExprId Fault) → Reusing.Reused (view_in t) e r w → Reused (model_of t) e r (model_from w t.fields t.plans)
  reused-answers (Ok x) a =
      let v = view_in t in
      let n = nodes-kept v w (e ∷ []) [] [] t.fields t.plans a.view (facts-in t) in
      record {
        room = same-room ∙ a.room;
        number = a.number;
        functions = ap (λ y. y.functions) a.view;
        exprs = ap (λ y. y.trees) a.view;
        plans = n;
        inputs = inputs-kept v w (e ∷ []) [] [] t.fields t.plans a.view (facts-in t);
        text = ap (λ y. y.bytes) a.view ∙ append-nil v.bytes;
        used = space-same _ _ _ _ _ _ _ _ _ _
            (ap (λ y. length y.trees) a.view ∙ length_push v.trees e)
            (ap length n ∙ plain (length (nodes_of t)))
            (ap (λ y. length y.entries) a.view ∙ length-append v.entries [])
            (plain (length t.fields))
            (ap (λ y. length y.bytes) a.view ∙ length-append v.bytes []);
      }
    where
      plain : (m : ℕ) → m ≡ m + 0
      plain m = omega arith
  reused-answers (Err f) a = (same-room ∙ a.0, a.1, ap (λ y. model_from y t.fields t.plans) a.2)
