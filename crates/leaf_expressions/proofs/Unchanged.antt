-- Of a node of any other kind an extract changes nothing.
use Rattle.std.proofs.Common.{◌≡◌, ℕ, List, [], ◌∷◌, refl, sym, ap, ◌∙◌}
use Rattle.entries.specs.declared.node.ExprId.{ExprId}
use Rattle.entries.specs.declared.node.PlanId.{PlanId}
use Rattle.plan.specs.Calls.{union_of}
use Rattle.plan.specs.Functions.{Functions}
use Rattle.plan.specs.Plans.{Plan}
use Rattle.plan.specs.Terms.{Field}
use Rattle.plan.specs.declared.code.JoinKind.{JoinKind}
use Rattle.rewriting.specs.Extracting.{extract_from_plan, no_change}
use Rattle.rewriting.specs.Outlay.{Tally}
use Rattle.stored.specs.Stored.{build_plan_node}
use Rattle.stored.specs.declared.node.PlanNode.{PlanNode}
use Rattle.stored.specs.declared.node.PlanNode.TheVariants.{Table, Projection, Filter, Sort, Limit, Aggregate, Join, SubqueryAlias, Union}
use Rattle.entries.specs.declared.node.Run.{Run}
use Rattle.terms.specs.Views.{View}

pub nothing-to-take : (F : Functions) (v : View) (fs : List Field) (ts : List Plan) (n : PlanNode) (k : Tally) → ((i : PlanId) (e : ExprId) → n ≡ Filter i e → ⊥) → ((i : PlanId) (l : Run) → n ≡ Sort i l → ⊥)
    → ((i : PlanId) (gs us : Run) → n ≡ Aggregate i gs us → ⊥) → ((j : JoinKind) (l r : PlanId) (cs : Run) → n ≡ Join j l r cs → ⊥) → extract_from_plan F (build_plan_node v fs ts n) k ≡ no_change k
unfolding extract_from_plan
nothing-to-take F v fs ts (Table i q) k f s a j = refl
nothing-to-take F v fs ts (Projection i l) k f s a j = refl
nothing-to-take F v fs ts (Filter i e) k f s a j = absurd (f i e refl)
nothing-to-take F v fs ts (Sort i l) k f s a j = absurd (s i l refl)
nothing-to-take F v fs ts (Limit i m c) k f s a j = refl
nothing-to-take F v fs ts (Aggregate i gs us) k f s a j = absurd (a i gs us refl)
nothing-to-take F v fs ts (Join h l r cs) k f s a j = absurd (j h l r cs refl)
nothing-to-take F v fs ts (SubqueryAlias i n) k f s a j = refl
nothing-to-take F v fs ts (Union l) k f s a j = of-union _
  where
    of-union : (ps : List Plan) → extract_from_plan F (union_of ps) k ≡ no_change k
    of-union [] = refl
    of-union (p ∷ ps) = refl
