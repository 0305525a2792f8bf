-- Lists of calls of an opened book, and the law over them.
--     opened F text used      the book with these functions and this text, so much of its tables used, and nothing else
--     Request      a building call, extract, push or swap
--     Answers s c a s'      in the book s, the call c answers a and leaves s'
--     Run s ss s'      a list of calls, each with its answer, leads from s to s'
--     LooseAnswers s c a s', LooseRun s ss s'      the same, where less is known of what a swap leaves
--     Law      after any run, and after any loose one: nodes with one origin have the same fields and, in every world that fits, the same rows;
--              every reference means exactly one field; and an extract leaves no Marked call that one former input owns
use Rattle.std.specs.Prelude.{◌≡◌, ℕ, ◌+◌, ◌<◌, ◌≤◌, false, ◌&&◌, ◌⊎◌, List, [], ◌∷◌, ◌++◌, map, length, get_or, Some, None, ◌==◌, nat_lt, slice_index}
use Rattle.std.specs.List.{AllByRecursion}
use Rattle.plan.specs.Terms.{Expr}
use Rattle.plan.specs.Functions.{Functions}
use Rattle.plan.specs.Plans.{Plan}
use Rattle.plan.specs.Faults.{Asked, first_no, refusal}
use Rattle.plan.specs.Questions.{node_asked}
use Rattle.plan.specs.Model.{Model, Node, Space, Within, fits, no_node, count_of, tree_at, origin_at, inputs_at}
use Rattle.plan.specs.Calls
use Rattle.plan.specs.Calls.{Call, Answer, below}
use Rattle.plan.specs.Calls.Answer.{made, unchanged, refused}
use Rattle.plan.specs.Swapping.{inputs_of, with_input, own_space, SwapAnswers}
use Rattle.plan.specs.declared.fault.Fault.{Fault}
use Rattle.plan.specs.declared.fault.Question.TheVariants.{Present, Bounded, SameOrigin, Space as SpaceQuestion}
use Rattle.rows.specs.Standing.{Same, Good}
use Rattle.rewriting.specs.Generated.{next_number}
use Rattle.rewriting.specs.Outlay.{Tally, start_at}
use Rattle.rewriting.specs.Extracting.{Outcome, built, no_change, extract_from_plan}
use Rattle.rewriting.specs.Extracting
use Rattle.rewriting.specs.Pushing.{push}
use Rattle.rewriting.specs.Laws.{Resolved}
use Rattle.rewriting.specs.Marked.{NothingLeft}

-- a book with its functions declared, and nothing else yet
abbrev pub opened : Functions → List ℕ → Space → Model
opened F text used = record { functions = F; exprs = []; plans = []; inputs = []; text = text; used = used }

pub data Request : Type 0 where
  build : Call → Request
  -- the node
  extract : ℕ → Request
  push_down : ℕ → Request
  -- the node, the position of an input, and the node to take its place
  swap : ℕ → ℕ → ℕ → Request

-- nodes that a call leaves beside its answer: each is its own origin
pub record Helpers (s : Model) (nodes : List Node) (numbers : List (List ℕ)) : Type 0 where
  pub long : length numbers ≡ length nodes
  pub origins : (k : ℕ) → k < length nodes → (get_or nodes k no_node).origin ≡ count_of s + k
  pub good : AllByRecursion (λ n. Good s.functions n.tree) nodes

-- the node i stands on the nodes before it whose numbers are given
abbrev pub Standing : List Node → ℕ → List ℕ → Plan → Type 0
Standing nodes i numbers p = AllByRecursion (λ k. k < i) numbers × (inputs_of p ≡ map (λ k. (get_or nodes k no_node).tree) numbers)

-- the answer R with the origin o is the node r, behind helpers; the rest of the book is only longer
pub record Added (s : Model) (R : Plan) (o r : ℕ) (s' : Model) : Type 0 where
  pub helpers : List Node
  pub numbers : List (List ℕ)
  pub theirs : Helpers s helpers numbers
  pub own : List ℕ
  pub exprs : List Expr
  pub text : List ℕ
  pub number : r ≡ count_of s + length helpers
  pub functions_same : s'.functions ≡ s.functions
  pub exprs_longer : s'.exprs ≡ s.exprs ++ exprs
  pub plans_longer : s'.plans ≡ s.plans ++ (helpers ++ record { tree = R; origin = o } ∷ [])
  pub inputs_longer : s'.inputs ≡ s.inputs ++ (numbers ++ own ∷ [])
  pub text_longer : s'.text ≡ s.text ++ text
  pub stand : (k : ℕ) → count_of s ≤ k → k < count_of s' → Standing s'.plans k (inputs_at s' k) (tree_at s' k)

-- what an outcome spent
abbrev pub spent_by : Outcome → Space
spent_by (built p n) = n.spent
spent_by (no_change n) = n.spent
spent_by (Extracting.refused x n) = n.spent

-- the node asked about is not there
abbrev pub Absent : Model → ℕ → Fault → Type 0
Absent s i f = (below (count_of s) i ≡ false) × (f ≡ refusal Present)

abbrev pub NoRoom : Model → Outcome → Fault → Type 0
NoRoom s o f = (f.question ≡ SpaceQuestion) × (fits s.used (spent_by o) ≡ false)

-- an extract or a push of the node i, with its outcome o: it takes no further number; 9 may come, at any stage, only where what its rules spend does not fit
abbrev pub Rewrites : Model → ℕ → Outcome → Answer → Model → Type 0
Rewrites s i o (made r) s' = (i < count_of s) × ((R : Plan) × (n : Tally) × (o ≡ built R n) × Added s R (origin_at s i) r s' × (next_number s' ≤ n.next)) × Within s.used (spent_by o) s'.used
Rewrites s i o unchanged s' = (i < count_of s) × ((n : Tally) × (o ≡ no_change n)) × (s' ≡ s)
Rewrites s i o (refused f) s' = (s' ≡ s) × (Absent s i f ⊎ ((i < count_of s) × (((n : Tally) × (o ≡ Extracting.refused f n)) ⊎ NoRoom s o f)))

-- a building call and a swap answer what their own definitions say
abbrev pub Answers : Model → Request → Answer → Model → Type 0
Answers s (build c) a s' = Calls.Answers s c a s'
Answers s (extract i) a s' = Rewrites s i (extract_from_plan s.functions (tree_at s i) (start_at (next_number s))) a s'
Answers s (push_down i) a s' = Rewrites s i (push s.functions (tree_at s i) (start_at (next_number s))) a s'
Answers s (swap i k j) a s' = SwapAnswers s i k j a s'

abbrev pub Step : Type 0
Step = Request × Answer

abbrev pub Run : Model → List Step → Model → Type 0
Run s [] s' = s' ≡ s
Run s (c ∷ cs) s' = (t : Model) × Answers s c.0 c.1 t × Run t cs s'

-- the questions of a swap, but for the one for space
abbrev pub swap_asked : Model → ℕ → ℕ → ℕ → List Asked
swap_asked s i k j =
    (Present, below (count_of s) i && below (count_of s) j) ∷ (Bounded, nat_lt k (length (inputs_at s i)))
    ∷ (SameOrigin, (origin_at s (slice_index (inputs_at s i) k) == origin_at s j)) ∷ node_asked s.functions (with_input (tree_at s i) k (tree_at s j))

-- a swap makes one node, of expressions that are there
abbrev pub swap_outlay : Model → ℕ → ℕ → ℕ → Space
swap_outlay s i k j = own_space s.functions (with_input (tree_at s i) k (tree_at s j))

-- the first question answered no; or no space, and then the outlay does not fit
abbrev pub SwapRefused : Model → ℕ → ℕ → ℕ → Fault → Type 0
SwapRefused s i k j f = (first_no (swap_asked s i k j) ≡ Some f.question) × (f ≡ refusal f.question)

abbrev pub SwapNoRoom : Model → ℕ → ℕ → ℕ → Fault → Type 0
SwapNoRoom s i k j f = (first_no (swap_asked s i k j) ≡ None) × (fits s.used (swap_outlay s i k j) ≡ false) × (f ≡ refusal SpaceQuestion)

-- the law asks less of a swap than its own definition says: it may add expressions, use fewer places than its outlay, and have any nodes with the right trees for inputs
abbrev pub LooseAnswers : Model → Request → Answer → Model → Type 0
LooseAnswers s (build c) a s' = Answers s (build c) a s'
LooseAnswers s (extract i) a s' = Answers s (extract i) a s'
LooseAnswers s (push_down i) a s' = Answers s (push_down i) a s'
LooseAnswers s (swap i k j) (made r) s' =
    (first_no (swap_asked s i k j) ≡ None) × ((a : Added s (with_input (tree_at s i) k (tree_at s j)) (origin_at s i) r s') × (a.helpers ≡ []))
    × Within s.used (swap_outlay s i k j) s'.used
LooseAnswers s (swap i k j) unchanged s' = ⊥
LooseAnswers s (swap i k j) (refused f) s' = (s' ≡ s) × (SwapRefused s i k j f ⊎ SwapNoRoom s i k j f)

abbrev pub LooseRun : Model → List Step → Model → Type 0
LooseRun s [] s' = s' ≡ s
LooseRun s (c ∷ cs) s' = (t : Model) × LooseAnswers s c.0 c.1 t × LooseRun t cs s'

-- what the law says of a state; its nodes are such as their building calls accept
pub record Agree (s : Model) : Type 0 where
  pub good : (i : ℕ) → i < count_of s → Good s.functions (tree_at s i)
  pub same : (i j : ℕ) → i < count_of s → j < count_of s → origin_at s i ≡ origin_at s j → Same s.functions (tree_at s i) (tree_at s j)
  pub resolved : (i : ℕ) → i < count_of s → Resolved s.functions (tree_at s i)

-- and of a further call
abbrev pub Leaves : Model → Request → Answer → Model → Type 0
Leaves s (build c) a s' = Unit {0}
Leaves s (extract i) (made r) s' = NothingLeft s.functions (tree_at s i) (tree_at s' r)
Leaves s (extract i) unchanged s' = Unit {0}
Leaves s (extract i) (refused f) s' = Unit {0}
Leaves s (push_down i) a s' = Unit {0}
Leaves s (swap i k j) a s' = Unit {0}

-- a book is opened, whatever was declared; then come calls in any order and number, some of them refused. Every run is a loose one
pub record Law : Type 0 where
  pub loose : (F : Functions) (text : List ℕ) (used : Space) (ss : List Step) (s : Model) → Run (opened F text used) ss s → LooseRun (opened F text used) ss s
  pub agree : (F : Functions) (text : List ℕ) (used : Space) (ss : List Step) (s : Model) → LooseRun (opened F text used) ss s → Agree s
  pub leaves : (F : Functions) (text : List ℕ) (used : Space) (ss : List Step) (s : Model) → LooseRun (opened F text used) ss s
      → (c : Request) (a : Answer) (s' : Model) → LooseAnswers s c a s' → Leaves s c a s'
