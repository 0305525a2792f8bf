-- From what making a node promises to what the book's calls promise.
use Rattle.std.proofs.Common.{◌≡◌, List, [], ◌∷◌, ◌++◌, Ok, Err, Result, sym, ap, ◌∙◌, ap₂}
use Rattle.std.proofs.lemmas.List.{append-nil, append_assoc}
use Rattle.plan.specs.Faults.{Asked, first_no}
use Rattle.plan.specs.Questions.{node_asked}
use Rattle.plan.specs.Model.{Model, plus, fits}
use Rattle.plan.specs.Calls.{Call, asked, all_asked, new_exprs, new_plans, new_inputs, outlay, number_of_new, Answers}
use Rattle.plan.specs.declared.fault.Fault.{Fault}
use Rattle.plan.specs.declared.fault.Question.TheVariants.{Space as SpaceQuestion}
use Rattle.entries.specs.declared.node.PlanId.{PlanId}
use Rattle.asking.proofs.Questions.{AllYes, go_on}
use Rattle.tables.specs.Holding.{view_in, model_of, plan_count}
use Rattle.stored.specs.Making.{inputs_for}
use Rattle.tables.specs.Making.{tree_for, outlay_for, node_questions, NodeMade}
use Rattle.tables.specs.Answering.{answered_plan}
use Rattle.stored.specs.declared.node.NewNode.{NewNode}
use Rattle.tables.specs.declared.tables.Tables.{Tables}

-- the call c makes the node n, when its own questions, which are these, are answered yes
pub record Makes (t : Tables) (n : NewNode) (c : Call) (own : List Asked) : Type 0 where
  pub asks : all_asked (model_of t) c ≡ asked (model_of t) c ++ (SpaceQuestion, fits (model_of t).used (outlay (model_of t) c)) ∷ []
  pub own_first : asked (model_of t) c ≡ own ++ node_asked (view_in t).functions (tree_for t n)
  pub exprs : new_exprs (model_of t) c ≡ []
  pub plans : new_plans (model_of t) c ≡ record { tree = tree_for t n; origin = plan_count t } ∷ []
  pub inputs : new_inputs c ≡ inputs_for n ∷ []
  pub costs : outlay (model_of t) c ≡ outlay_for t n
  pub number : number_of_new (model_of t) c ≡ plan_count t

module _ (t : Tables) (n : NewNode) (c : Call) (own : List Asked) (k : Makes t n c own) (yes : AllYes own) where
  same-questions : first_no (all_asked (model_of t) c) ≡ first_no (node_questions t n)
  same-questions =
      ap first_no (k.asks ∙ ap₂ (λ qs o. qs ++ (SpaceQuestion, fits (model_of t).used o) ∷ []) k.own_first k.costs ∙ append_assoc own (node_asked (view_in t).functions (tree_for t n)) _)
      ∙ go_on own (node_questions t n) yes

  pub plan-answers : (r : Result PlanId Fault) (m : Model) → NodeMade t n r m → Answers (model_of t) c (answered_plan r) m
  plan-answers (Ok p) m h = record {
    accepted = same-questions ∙ h.0;
    number = h.1.number ∙ sym k.number;
    functions = h.1.functions;
    exprs = h.1.exprs ∙ sym (append-nil (model_of t).exprs) ∙ ap (λ l. (model_of t).exprs ++ l) (sym k.exprs);
    plans = h.1.plans ∙ ap (λ l. (model_of t).plans ++ l) (sym k.plans);
    inputs = h.1.inputs ∙ ap (λ l. (model_of t).inputs ++ l) (sym k.inputs);
    bytes = h.1.bytes;
    text = h.1.text;
    used = h.1.used ∙ ap (plus (model_of t).used) (sym k.costs);
  }
  plan-answers (Err f) m h = (same-questions ∙ h.0, h.1, h.2)
