-- The building calls: what each is asked, what it makes, what it costs, and what it may answer and leave.
--     Call, Answer      a call as a value; what it answers
--     asked m c      the questions 1 to 8 of the call c in the book m, with their answers
--     new_exprs m c, new_plans m c      the trees that it adds
--     new_inputs c      the inputs of the node that it adds
--     outlay m c      the places that it uses
--     all_asked m c      all nine questions, with their answers
--     Answers m c a m'      in the book m, the call c answers a and leaves m'
use Rattle.std.specs.Prelude.{◌≡◌, ℕ, ◌+◌, Bool, true, false, cond, not, ◌&&◌, ◌||◌, List, [], ◌∷◌, ◌++◌, map, length, is_some, Some, None, sum_by, Option, ◌==◌, nat_eq, nat_le, nat_lt}
use Rattle.plan.specs.Names.{Name, good_name, prefixed}
use Rattle.plan.specs.Terms.{Qualifier, Field, Literal, Expr, is_unqualified, arguments}
use Rattle.plan.specs.Terms.Qualifier.{unqualified, qualified}
use Rattle.plan.specs.Terms.Literal.{null, truth, whole, real, text}
use Rattle.plan.specs.Terms.Expr.{literal, reference, alias, call}
use Rattle.plan.specs.Functions.{Function, Functions, function_at, is_total}
use Rattle.plan.specs.Rendering.{rendered}
use Rattle.plan.specs.Plans.{Plan, Key, fields_of, further_inputs}
use Rattle.plan.specs.Plans.Plan.{table, projection, filter, sort, limit, aggregate, join, subquery_alias, union}
use Rattle.plan.specs.Fields.{any, every}
use Rattle.plan.specs.Faults.{Asked, first_no, refusal}
use Rattle.plan.specs.Questions.{shown_expressions, small_tree, node_asked}
use Rattle.plan.specs.Codes.{join_kind_of, direction_of}
use Rattle.plan.specs.Model.{Space, space, fits, plus, Node, Model, expr_in, plan_in, exprs_in, plans_in, no_plan, trees_of}
use Rattle.plan.specs.declared.fault.Question.TheVariants.{Present, Named, Bounded, Placed, Space as SpaceQuestion}
use Rattle.plan.specs.declared.fault.Question.TheVariants.{Limited}
use Rattle.plan.specs.declared.fault.Fault.{Fault}
use Rattle.plan.specs.declared.code.JoinKind.{JoinKind}
use Rattle.plan.specs.declared.code.JoinKind.TheVariants.{Inner}
use Rattle.plan.specs.declared.code.Direction.{Direction}
use Rattle.plan.specs.declared.code.Direction.TheVariants.{AscendingNullsFirst}

-- expressions and nodes are named by number, codes are numbers
pub data Call : Type 0 where
  make_literal : Literal → Call
  make_reference : Field → Call
  make_alias : ℕ → Field → Call
  -- function, arguments
  make_call : ℕ → List ℕ → Call
  -- qualifier, names parted by commas
  make_table : Name → List ℕ → Call
  make_projection : ℕ → List ℕ → Call
  make_filter : ℕ → ℕ → Call
  -- each key with its direction
  make_sort : ℕ → List (ℕ × ℕ) → Call
  -- input, skip, count
  make_limit : ℕ → ℕ → ℕ → Call
  -- input, groups, totals
  make_aggregate : ℕ → List ℕ → List ℕ → Call
  -- kind, left, right, conditions
  make_join : ℕ → ℕ → ℕ → List ℕ → Call
  make_subquery_alias : ℕ → Name → Call
  make_union : List ℕ → Call

-- no building call answers that nothing changed
pub data Answer : Type 0 where
  made : ℕ → Answer
  unchanged : Answer
  refused : Fault → Answer

-- the parts of a text between its commas, before the rest
abbrev pub first_part : ℕ → List Name → List Name
first_part c [] = (c ∷ []) ∷ []
first_part c (n ∷ ns) = (c ∷ n) ∷ ns

abbrev pub parts : List ℕ → List Name
parts [] = [] ∷ []
parts (c ∷ cs) = cond (c == 44) ([] ∷ parts cs) (first_part c (parts cs))

abbrev pub good_qualifier : Qualifier → Bool
good_qualifier unqualified = true
good_qualifier (qualified q) = good_name q

abbrev pub good_field : Field → Bool
good_field f = good_name f.name && good_qualifier f.qualifier

-- a prefixed alias has no qualifier
abbrev pub good_alias : Field → Bool
good_alias f = good_field f && (not (prefixed f.name) || is_unqualified f.qualifier)

abbrev pub below : ℕ → ℕ → Bool
below n i = nat_lt i n

abbrev pub arity_is : Option Function → ℕ → Bool
arity_is None n = false
arity_is (Some f) n = f.arity == n

abbrev pub kind_in : Option JoinKind → JoinKind
kind_in None = Inner
kind_in (Some k) = k

abbrev pub direction_in : Option Direction → Direction
direction_in None = AscendingNullsFirst
direction_in (Some d) = d

abbrev pub between : ℕ → ℕ → ℕ → Bool
between low high n = nat_le low n && nat_le n high

abbrev pub key_in : List Expr → ℕ × ℕ → Key
key_in es k = record { by = expr_in es k.0; direction = direction_in (direction_of k.1) }

abbrev pub union_of : List Plan → Plan
union_of [] = no_plan
union_of (p ∷ ps) = union p (further_inputs ps)

-- all inputs are as wide as the first
abbrev pub equal_widths : Functions → List Plan → Bool
equal_widths fs [] = true
equal_widths fs (p ∷ ps) = every (λ q. nat_eq (length (fields_of fs q)) (length (fields_of fs p))) ps

-- the expression that a call makes
abbrev pub new_exprs : Model → Call → List Expr
new_exprs m (make_literal v) = literal v ∷ []
new_exprs m (make_reference f) = reference f ∷ []
new_exprs m (make_alias e f) = alias (expr_in m.exprs e) f ∷ []
new_exprs m (make_call n es) = call n (arguments (exprs_in m.exprs es)) ∷ []
new_exprs m (make_table q ns) = []
new_exprs m (make_projection i es) = []
new_exprs m (make_filter i e) = []
new_exprs m (make_sort i ks) = []
new_exprs m (make_limit i s c) = []
new_exprs m (make_aggregate i gs ts) = []
new_exprs m (make_join k l r cs) = []
new_exprs m (make_subquery_alias i n) = []
new_exprs m (make_union is) = []

-- the plan that a call makes; a Table is known by its node number
abbrev pub new_trees : Model → Call → List Plan
new_trees m (make_literal v) = []
new_trees m (make_reference f) = []
new_trees m (make_alias e f) = []
new_trees m (make_call n es) = []
new_trees m (make_table q ns) = table (length m.plans) q (parts ns) ∷ []
new_trees m (make_projection i es) = projection (exprs_in m.exprs es) (plan_in (trees_of m) i) ∷ []
new_trees m (make_filter i e) = filter (expr_in m.exprs e) (plan_in (trees_of m) i) ∷ []
new_trees m (make_sort i ks) = sort (map (key_in m.exprs) ks) (plan_in (trees_of m) i) ∷ []
new_trees m (make_limit i s c) = limit s c (plan_in (trees_of m) i) ∷ []
new_trees m (make_aggregate i gs ts) = aggregate (exprs_in m.exprs gs) (exprs_in m.exprs ts) (plan_in (trees_of m) i) ∷ []
new_trees m (make_join k l r cs) = join (kind_in (join_kind_of k)) (exprs_in m.exprs cs) (plan_in (trees_of m) l) (plan_in (trees_of m) r) ∷ []
new_trees m (make_subquery_alias i n) = subquery_alias n (plan_in (trees_of m) i) ∷ []
new_trees m (make_union is) = union_of (plans_in (trees_of m) is) ∷ []

abbrev pub head_plan : List Plan → Plan
head_plan [] = no_plan
head_plan (p ∷ ps) = p

-- questions 6 to 8, of the node that a call makes
abbrev pub made_asked : Model → Call → List Asked
made_asked m c = node_asked m.functions (head_plan (new_trees m c))

abbrev pub all_below : ℕ → List ℕ → Bool
all_below n is = every (below n) is

-- the questions of each call
abbrev pub asked : Model → Call → List Asked
asked m (make_literal null) = []
asked m (make_literal (truth b)) = []
asked m (make_literal (whole n)) = []
asked m (make_literal (real x)) = []
asked m (make_literal (text t)) = (Named, good_name t) ∷ []
asked m (make_reference f) = (Named, good_field f) ∷ []
asked m (make_alias e f) =
    (Present, below (length m.exprs) e) ∷ (Named, good_alias f) ∷ (Limited, small_tree (alias (expr_in m.exprs e) f)) ∷ []
asked m (make_call n es) =
    (Present, is_some (function_at m.functions n) && all_below (length m.exprs) es) ∷ (Bounded, arity_is (function_at m.functions n) (length es))
    ∷ (Placed, not (any (is_total m.functions) (exprs_in m.exprs es))) ∷ (Limited, small_tree (call n (arguments (exprs_in m.exprs es)))) ∷ []
asked m (make_table q ns) =
    (Named, good_name q && every good_name (parts ns)) ∷ (Bounded, nat_le (length (parts ns)) 64) ∷ made_asked m (make_table q ns)
asked m (make_projection i es) =
    (Present, below (length m.plans) i && all_below (length m.exprs) es) ∷ (Bounded, between 1 64 (length es))
    ∷ (Placed, not (any (is_total m.functions) (exprs_in m.exprs es))) ∷ made_asked m (make_projection i es)
asked m (make_filter i e) =
    (Present, below (length m.plans) i && below (length m.exprs) e)
    ∷ (Placed, not (is_total m.functions (expr_in m.exprs e))) ∷ made_asked m (make_filter i e)
asked m (make_sort i ks) =
    (Present, below (length m.plans) i && all_below (length m.exprs) (map (λ k. k.0) ks))
    ∷ (Bounded, between 1 16 (length ks) && every (λ k. is_some (direction_of k.1)) ks)
    ∷ (Placed, not (any (is_total m.functions) (exprs_in m.exprs (map (λ k. k.0) ks)))) ∷ made_asked m (make_sort i ks)
asked m (make_limit i s c) = (Present, below (length m.plans) i) ∷ made_asked m (make_limit i s c)
asked m (make_aggregate i gs ts) =
    (Present, below (length m.plans) i && (all_below (length m.exprs) gs && all_below (length m.exprs) ts))
    ∷ (Bounded, (nat_le (length gs) 16 && nat_le (length ts) 16) && nat_lt 0 (length gs + length ts))
    ∷ (Placed, not (any (is_total m.functions) (exprs_in m.exprs gs)) && every (is_total m.functions) (exprs_in m.exprs ts))
    ∷ made_asked m (make_aggregate i gs ts)
asked m (make_join k l r cs) =
    (Present, (below (length m.plans) l && below (length m.plans) r) && all_below (length m.exprs) cs)
    ∷ (Bounded, is_some (join_kind_of k) && nat_le (length cs) 16)
    ∷ (Placed, not (any (is_total m.functions) (exprs_in m.exprs cs))) ∷ made_asked m (make_join k l r cs)
asked m (make_subquery_alias i n) = (Present, below (length m.plans) i) ∷ (Named, good_name n) ∷ made_asked m (make_subquery_alias i n)
asked m (make_union is) =
    (Present, all_below (length m.plans) is)
    ∷ (Bounded, between 1 8 (length is) && equal_widths m.functions (plans_in (trees_of m) is)) ∷ made_asked m (make_union is)

-- the bytes of a name that is rendered, where a field takes one
abbrev pub rendered_bytes : Functions → Expr → ℕ
rendered_bytes fs (literal v) = length (rendered fs (literal v))
rendered_bytes fs (reference f) = 0
rendered_bytes fs (alias e f) = 0
rendered_bytes fs (call n es) = length (rendered fs (call n es))

abbrev pub qualifier_bytes : Qualifier → ℕ
qualifier_bytes unqualified = 0
qualifier_bytes (qualified q) = length q

abbrev pub literal_bytes : Literal → ℕ
literal_bytes null = 0
literal_bytes (truth b) = 0
literal_bytes (whole n) = 0
literal_bytes (real x) = 0
literal_bytes (text t) = length t

-- one node with so many list entries and so many bytes of its own, its fields, and their rendered names
abbrev pub node_outlay : Functions → Plan → ℕ → ℕ → Space
node_outlay fs p entries bytes = space 0 1 entries (length (fields_of fs p)) (bytes + sum_by (rendered_bytes fs) (shown_expressions p))

abbrev pub made_outlay : Model → Call → ℕ → ℕ → Space
made_outlay m c entries bytes = node_outlay m.functions (head_plan (new_trees m c)) entries bytes

abbrev pub outlay : Model → Call → Space
outlay m (make_literal v) = space 1 0 0 0 (literal_bytes v)
outlay m (make_reference f) = space 1 0 0 0 (length f.name + qualifier_bytes f.qualifier)
outlay m (make_alias e f) = space 1 0 0 0 (length f.name + qualifier_bytes f.qualifier)
outlay m (make_call n es) = space 1 0 (length es) 0 0
outlay m (make_table q ns) = made_outlay m (make_table q ns) 0 (length q + length ns)
outlay m (make_projection i es) = made_outlay m (make_projection i es) (length es) 0
outlay m (make_filter i e) = made_outlay m (make_filter i e) 0 0
outlay m (make_sort i ks) = made_outlay m (make_sort i ks) (length ks) 0
outlay m (make_limit i s c) = made_outlay m (make_limit i s c) 0 0
outlay m (make_aggregate i gs ts) = made_outlay m (make_aggregate i gs ts) (length gs + length ts) 0
outlay m (make_join k l r cs) = made_outlay m (make_join k l r cs) (length cs) 0
outlay m (make_subquery_alias i n) = made_outlay m (make_subquery_alias i n) 0 (length n)
outlay m (make_union is) = made_outlay m (make_union is) (length is) 0

-- a new node's origin is itself
abbrev pub new_plans : Model → Call → List Node
new_plans m c = map (λ p. record { tree = p; origin = length m.plans }) (new_trees m c)

-- the inputs of the new node
abbrev pub new_inputs : Call → List (List ℕ)
new_inputs (make_literal v) = []
new_inputs (make_reference f) = []
new_inputs (make_alias e f) = []
new_inputs (make_call n es) = []
new_inputs (make_table q ns) = [] ∷ []
new_inputs (make_projection i es) = (i ∷ []) ∷ []
new_inputs (make_filter i e) = (i ∷ []) ∷ []
new_inputs (make_sort i ks) = (i ∷ []) ∷ []
new_inputs (make_limit i s c) = (i ∷ []) ∷ []
new_inputs (make_aggregate i gs ts) = (i ∷ []) ∷ []
new_inputs (make_join k l r cs) = (l ∷ r ∷ []) ∷ []
new_inputs (make_subquery_alias i n) = (i ∷ []) ∷ []
new_inputs (make_union is) = is ∷ []

-- the number of what is made
abbrev pub number_of_new : Model → Call → ℕ
number_of_new m (make_literal v) = length m.exprs
number_of_new m (make_reference f) = length m.exprs
number_of_new m (make_alias e f) = length m.exprs
number_of_new m (make_call n es) = length m.exprs
number_of_new m (make_table q ns) = length m.plans
number_of_new m (make_projection i es) = length m.plans
number_of_new m (make_filter i e) = length m.plans
number_of_new m (make_sort i ks) = length m.plans
number_of_new m (make_limit i s c) = length m.plans
number_of_new m (make_aggregate i gs ts) = length m.plans
number_of_new m (make_join k l r cs) = length m.plans
number_of_new m (make_subquery_alias i n) = length m.plans
number_of_new m (make_union is) = length m.plans

-- the nine questions in order; the last asks for space
abbrev pub all_asked : Model → Call → List Asked
all_asked m c = asked m c ++ (SpaceQuestion, fits m.used (outlay m c)) ∷ []

-- what was there is still there, and the new is behind it; which bytes the text has more is left free
pub record Made (m : Model) (c : Call) (r : ℕ) (m' : Model) : Type 0 where
  pub accepted : first_no (all_asked m c) ≡ None
  pub number : r ≡ number_of_new m c
  pub functions : m'.functions ≡ m.functions
  pub exprs : m'.exprs ≡ m.exprs ++ new_exprs m c
  pub plans : m'.plans ≡ m.plans ++ new_plans m c
  pub inputs : m'.inputs ≡ m.inputs ++ new_inputs c
  pub bytes : List ℕ
  pub text : m'.text ≡ m.text ++ bytes
  pub used : m'.used ≡ plus m.used (outlay m c)

-- the first question answered no, and the book is as it was
abbrev pub Refused : Model → Call → Fault → Model → Type 0
Refused m c f m' = (first_no (all_asked m c) ≡ Some f.question) × (f ≡ refusal f.question) × (m' ≡ m)

abbrev pub Answers : Model → Call → Answer → Model → Type 0
Answers m c (made r) m' = Made m c r m'
Answers m c unchanged m' = ⊥
Answers m c (refused f) m' = Refused m c f m'
