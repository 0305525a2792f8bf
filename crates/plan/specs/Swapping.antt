-- Swap: a node with one input replaced by another node of the same origin.
--     inputs_of p      the plans that a plan stands on
--     with_input p k q      the plan p with q in place of its input at k
--     swap_asked m i k j      the questions of a swap, with their answers: the node i, its input at k, the node j to take its place
--     own_space fs p      the places of the node p itself, without its expressions and inputs
--     Swapped m i k j r m', SwapAnswers m i k j a m'      a swap that made the node r; what a swap may answer and leave
use Rattle.std.specs.Prelude.{◌≡◌, ℕ, zero, suc, ◌+◌, ◌&&◌, List, [], ◌∷◌, ◌++◌, length, Some, None, sum_by, ◌==◌, nat_lt, slice_index, slice_set}
use Rattle.plan.specs.Functions.{Functions}
use Rattle.plan.specs.Plans.{Plan, Plans}
use Rattle.plan.specs.Plans.Plan.{table, projection, filter, sort, limit, aggregate, join, subquery_alias, union}
use Rattle.plan.specs.Plans.Plans.{done, also}
use Rattle.plan.specs.Faults.{Asked, first_no, refusal}
use Rattle.plan.specs.Questions.{node_asked}
use Rattle.plan.specs.Model.{Model, Space, fits, plus, count_of, tree_at, origin_at, inputs_at}
use Rattle.plan.specs.Calls.{Answer, below, node_outlay}
use Rattle.plan.specs.Calls.Answer.{made, unchanged, refused}
use Rattle.plan.specs.declared.fault.Question.TheVariants.{Present, Bounded, SameOrigin, Space as SpaceQuestion}

abbrev pub plan_list : Plans → List Plan
plan_list done = []
plan_list (also i is) = i ∷ plan_list is

abbrev pub inputs_of : Plan → List Plan
inputs_of (table k q ns) = []
inputs_of (projection es i) = i ∷ []
inputs_of (filter e i) = i ∷ []
inputs_of (sort ks i) = i ∷ []
inputs_of (limit s c i) = i ∷ []
inputs_of (aggregate gs ts i) = i ∷ []
inputs_of (join k cs l r) = l ∷ r ∷ []
inputs_of (subquery_alias n i) = i ∷ []
inputs_of (union i is) = i ∷ plan_list is

-- the plan p in place of the input at a position
abbrev pub swap_in : Plans → ℕ → Plan → Plans
swap_in done k p = done
swap_in (also i is) zero p = also p is
swap_in (also i is) (suc k) p = also i (swap_in is k p)

abbrev pub with_input : Plan → ℕ → Plan → Plan
with_input (table j q ns) k p = table j q ns
with_input (projection es i) k p = projection es p
with_input (filter e i) k p = filter e p
with_input (sort ks i) k p = sort ks p
with_input (limit s c i) k p = limit s c p
with_input (aggregate gs ts i) k p = aggregate gs ts p
with_input (join j cs l r) zero p = join j cs p r
with_input (join j cs l r) (suc k) p = join j cs l p
with_input (subquery_alias n i) k p = subquery_alias n p
with_input (union i is) zero p = union p is
with_input (union i is) (suc k) p = union i (swap_in is k p)

unfoldable pub count_inputs : Plans → ℕ
count_inputs done = 0
count_inputs (also i is) = 1 + count_inputs is

-- the entries of a node's own lists, and the bytes of its own name
unfoldable pub own_entries : Plan → ℕ
own_entries (table k q ns) = 0
own_entries (projection es i) = length es
own_entries (filter e i) = 0
own_entries (sort ks i) = length ks
own_entries (limit s c i) = 0
own_entries (aggregate gs ts i) = length gs + length ts
own_entries (join k cs l r) = length cs
own_entries (subquery_alias n i) = 0
own_entries (union i is) = 1 + count_inputs is

unfoldable pub own_bytes : Plan → ℕ
own_bytes (table k q ns) = length q + sum_by length ns
own_bytes (projection es i) = 0
own_bytes (filter e i) = 0
own_bytes (sort ks i) = 0
own_bytes (limit s c i) = 0
own_bytes (aggregate gs ts i) = 0
own_bytes (join k cs l r) = 0
own_bytes (subquery_alias n i) = length n
own_bytes (union i is) = 0

unfoldable pub own_space : Functions → Plan → Space
own_space F p = node_outlay F p (own_entries p) (own_bytes p)

-- the tree of the new node
abbrev pub swap_tree : Model → ℕ → ℕ → ℕ → Plan
swap_tree m i k j = with_input (tree_at m i) k (tree_at m j)

-- a swap makes one node, of expressions that are there
abbrev pub swap_outlay : Model → ℕ → ℕ → ℕ → Space
swap_outlay m i k j = own_space m.functions (swap_tree m i k j)

-- the nine questions in order; a position is below the count of inputs, and old and new input have one origin
abbrev pub swap_asked : Model → ℕ → ℕ → ℕ → List Asked
swap_asked m i k j =
    (Present, below (count_of m) i && below (count_of m) j) ∷ (Bounded, nat_lt k (length (inputs_at m i)))
    ∷ (SameOrigin, (origin_at m (slice_index (inputs_at m i) k) == origin_at m j)) ∷ (node_asked m.functions (swap_tree m i k j) ++ (SpaceQuestion, fits m.used (swap_outlay m i k j)) ∷ [])

-- the new node is behind the others and has the origin of the node asked about; which bytes the text has more is left free
pub record Swapped (m : Model) (i k j r : ℕ) (m' : Model) : Type 0 where
  pub accepted : first_no (swap_asked m i k j) ≡ None
  pub number : r ≡ count_of m
  pub functions : m'.functions ≡ m.functions
  pub exprs : m'.exprs ≡ m.exprs
  pub plans : m'.plans ≡ m.plans ++ record { tree = swap_tree m i k j; origin = origin_at m i } ∷ []
  pub inputs : m'.inputs ≡ m.inputs ++ slice_set (inputs_at m i) k j ∷ []
  pub bytes : List ℕ
  pub text : m'.text ≡ m.text ++ bytes
  pub used : m'.used ≡ plus m.used (swap_outlay m i k j)

abbrev pub SwapAnswers : Model → ℕ → ℕ → ℕ → Answer → Model → Type 0
SwapAnswers m i k j (made r) m' = Swapped m i k j r m'
SwapAnswers m i k j unchanged m' = ⊥
SwapAnswers m i k j (refused f) m' = (first_no (swap_asked m i k j) ≡ Some f.question) × (f ≡ refusal f.question) × (m' ≡ m)
