-- One run, call by call: the law speaks of runs that there are.
--     sample_steps      a table, a Filter with one Marked call, an extract, a Limit, a swap, a push that changes nothing, and a refusal
--     SampleRun      they lead from an opened book to sample_end
use Rattle.std.specs.Prelude.{ℕ, List, [], ◌∷◌, ◌++◌, codes}
use Rattle.plan.specs.Terms.{Expr}
use Rattle.plan.specs.Terms.Literal.{text}
use Rattle.plan.specs.Terms.Expr.{literal, reference}
use Rattle.plan.specs.Plans.{Plan}
use Rattle.plan.specs.Plans.Plan.{projection, filter, limit}
use Rattle.plan.specs.Model.{Model, Node, Space, space}
use Rattle.plan.specs.Faults.{refusal}
use Rattle.plan.specs.Calls.Call.{make_literal, make_reference, make_call, make_table, make_filter, make_limit}
use Rattle.plan.specs.declared.fault.Question.TheVariants.{Present}
use Rattle.rewriting.specs.Outlay.{nothing}
use Rattle.rewriting.specs.Worked.{functions, event, start, log, E, X, two, spot, with_e}
use Rattle.rewriting.specs.Book.{Step, Run, opened}
use Rattle.rewriting.specs.Book.Request.{build, extract, push_down, swap}
use Rattle.plan.specs.Calls.Answer.{made, unchanged, refused}

abbrev pub node : Plan → ℕ → Node
node p o = record { tree = p; origin = o }

-- a book with these expressions and nodes, and so much of its tables used
abbrev pub holding : List Expr → List Node → List (List ℕ) → Space → Model
holding es ns is used = record { functions = functions; exprs = es; plans = ns; inputs = is; text = []; used = used }

abbrev pub kind : Expr
kind = literal (text (codes "kind"))

abbrev pub test : Expr
test = two 1 E spot

abbrev pub five_exprs : List Expr
five_exprs = reference event ∷ kind ∷ E ∷ spot ∷ test ∷ []

-- the Filter over log; rebuilt over the helper column; and the recovery of it
abbrev pub asked : Plan
asked = filter test log

abbrev pub rebuilt : Plan
rebuilt = filter (two 1 (reference X) spot) with_e

abbrev pub recovery : Plan
recovery = projection (reference event ∷ reference start ∷ []) rebuilt

abbrev pub two_nodes : List Node
two_nodes = node log 0 ∷ node asked 1 ∷ []

abbrev pub five_nodes : List Node
five_nodes = two_nodes ++ (node with_e 2 ∷ node rebuilt 3 ∷ node recovery 1 ∷ [])

abbrev pub five_inputs : List (List ℕ)
five_inputs = [] ∷ (0 ∷ []) ∷ (0 ∷ []) ∷ (2 ∷ []) ∷ (3 ∷ []) ∷ []

abbrev pub sample_steps : List Step
sample_steps =
    (build (make_table (codes "log") (codes "event,start")), made 0)
    ∷ (build (make_reference event), made 0)
    ∷ (build (make_literal (text (codes "kind"))), made 1)
    ∷ (build (make_call 0 (0 ∷ 1 ∷ [])), made 2)
    ∷ (build (make_literal (text (codes "spot"))), made 3)
    ∷ (build (make_call 1 (2 ∷ 3 ∷ [])), made 4)
    ∷ (build (make_filter 0 4), made 1)
    ∷ (extract 1, made 4)
    ∷ (build (make_limit 1 0 3), made 5)
    ∷ (swap 5 0 4, made 6)
    ∷ (push_down 6, unchanged)
    ∷ (extract 7, refused (refusal Present))
    ∷ []

abbrev pub sample_end : Model
sample_end = holding five_exprs (five_nodes ++ (node (limit 0 3 asked) 5 ∷ node (limit 0 3 recovery) 5 ∷ [])) (five_inputs ++ ((1 ∷ []) ∷ (4 ∷ []) ∷ [])) (space 5 7 9 16 30)

abbrev pub SampleRun : Type 0
SampleRun = Run (opened functions [] nothing) sample_steps sample_end
