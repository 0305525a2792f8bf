-- What an extract leaves no more: Marked calls that exactly one former input owns.
--     marked_left F own e      outside prefixed aliases, e has a Marked call that `own` gives to one input
--     owner_in F p      which input of the node p owns an expression
--     RebuiltAs p q      q is a node of the kind of p
--     NothingLeft F P R      R is the node P rebuilt, or a Projection over it, and no such call is left in the rebuilt node
--     ExtractLeavesNothing      what extract builds is so
use Rattle.std.specs.Prelude.{◌≡◌, ◌<◌, Bool, false, not, ◌&&◌, ◌||◌, T, ◌⊎◌, List, is_some, None, Option}
use Rattle.std.specs.List.{AllByRecursion}
use Rattle.plan.specs.Names.{number_of, prefixed}
use Rattle.plan.specs.Terms.{Expr, Exprs}
use Rattle.plan.specs.Terms.Expr.{literal, reference, alias, call}
use Rattle.plan.specs.Terms.Exprs.{none, more}
use Rattle.plan.specs.Functions.{Functions, placement_of, is_marked}
use Rattle.plan.specs.Fields.{every}
use Rattle.plan.specs.Plans.{Plan, Key, fields_of}
use Rattle.plan.specs.Plans.Plan.{table, projection, filter, sort, limit, aggregate, join, subquery_alias, union}
use Rattle.plan.specs.Questions.{expressions_of, input_fields}
use Rattle.rewriting.specs.Outlay.{Tally}
use Rattle.rewriting.specs.Routing.{Side, find_sole_input, find_owning_input, schema_columns}
use Rattle.rewriting.specs.Extracting.{built, extract_from_plan}

unfoldable mutual
  pub marked_left : Functions → (Expr → Option Side) → Expr → Bool
  marked_left F own (literal v) = false
  marked_left F own (reference r) = false
  marked_left F own (alias e f) = not (prefixed f.name) && marked_left F own e
  marked_left F own (call n es) = (is_marked (placement_of F (call n es)) && is_some (own (call n es))) || marked_left_all F own es

  pub marked_left_all : Functions → (Expr → Option Side) → Exprs → Bool
  marked_left_all F own none = false
  marked_left_all F own (more e es) = marked_left F own e || marked_left_all F own es

unfoldable pub no_owner : Expr → Option Side
no_owner e = None

unfoldable pub owner_in : Functions → Plan → Expr → Option Side
owner_in F (table k q ns) = no_owner
owner_in F (projection es i) = find_sole_input (schema_columns (fields_of F i))
owner_in F (filter e i) = find_sole_input (schema_columns (fields_of F i))
owner_in F (sort ks i) = find_sole_input (schema_columns (fields_of F i))
owner_in F (limit s c i) = find_sole_input (schema_columns (fields_of F i))
owner_in F (aggregate gs ts i) = find_sole_input (schema_columns (fields_of F i))
owner_in F (join k cs l r) = find_owning_input (schema_columns (fields_of F l)) (schema_columns (fields_of F r))
owner_in F (subquery_alias n i) = find_sole_input (schema_columns (fields_of F i))
owner_in F (union i is) = no_owner

-- of the kinds that extract rebuilds
abbrev pub RebuiltAs : Plan → Plan → Type 0
RebuiltAs (table k q ns) q' = ⊥
RebuiltAs (projection es i) q = ⊥
RebuiltAs (filter e i) q = (d : Expr) × (j : Plan) × (q ≡ filter d j)
RebuiltAs (sort ks i) q = (js : List Key) × (j : Plan) × (q ≡ sort js j)
RebuiltAs (limit s c i) q = ⊥
RebuiltAs (aggregate gs ts i) q = (hs us : List Expr) × (j : Plan) × (q ≡ aggregate hs us j)
RebuiltAs (join k cs l r) q = (ds : List Expr) × (x y : Plan) × (q ≡ join k ds x y)
RebuiltAs (subquery_alias n i) q = ⊥
RebuiltAs (union i is) q = ⊥

-- the answer is the node, or a recovery over it
abbrev pub IsOrRecovers : Plan → Plan → Type 0
IsOrRecovers R q = (R ≡ q) ⊎ ((es : List Expr) × (R ≡ projection es q))

pub record NothingLeft (F : Functions) (P R : Plan) : Type 0 where
  pub node : Plan
  pub answer : IsOrRecovers R node
  pub kind : RebuiltAs P node
  pub clean : T (every (λ e. not (marked_left F (owner_in F P) e)) (expressions_of node))

-- where the numbers from the next one on are new to the fields of the inputs
abbrev pub ExtractLeavesNothing : Type 0
ExtractLeavesNothing = (F : Functions) (P R : Plan) (n m : Tally) → AllByRecursion (λ f. number_of f.name < n.next) (input_fields F P) → extract_from_plan F P n ≡ built R m → NothingLeft F P R
