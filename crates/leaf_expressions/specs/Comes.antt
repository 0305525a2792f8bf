-- What an extract of a node comes to; cited by src/extract.rt.
--     Comes m o r m'      in the book m the outcome o is answered by r, and m' is left
--     extracted t p      the outcome of an extract of the node p, by the definitions on trees
--     answered r      the answer that a result stands for
use Rattle.std.specs.Prelude.{◌≡◌, ℕ, ◌≤◌, ◌+◌, ◌⊎◌, Some, None, Ok, Err, Option, Result}
use Rattle.plan.specs.Calls.{Answer}
use Rattle.plan.specs.Calls.Answer.{made, unchanged, refused as refused_by}
use Rattle.plan.specs.Model.{Model, count_of}
use Rattle.plan.specs.Plans.{Plan}
use Rattle.plan.specs.declared.fault.Fault.{Fault}
use Rattle.rewriting.specs.Extracting.{Outcome, built, extract_from_plan, no_change, refused}
use Rattle.rewriting.specs.Generated.{next_number}
use Rattle.rewriting.specs.Outlay.{Tally, start_at}
use Rattle.tables.specs.Holding.{model_of, tree_in, view_in}
use Rattle.tables.specs.declared.tables.Tables.{Tables}
use Rattle.entries.specs.declared.node.PlanId.{PlanId}
use Rattle.stepping.specs.Steps.{NoSpace, Stood}

-- the new node is the last
abbrev pub Comes : Model → Outcome → Result (Option PlanId) Fault → Model → Type 0
Comes m o (Ok (Some r)) m' = (R : Plan) × (k : Tally) × (o ≡ built R k) × Stood m m.used R r.0 k m' × (count_of m ≤ r.0) × (r.0 + 1 ≡ count_of m')
Comes m o (Ok None) m' = (k : Tally) × (o ≡ no_change k)
Comes m o (Err f) m' = ((k : Tally) × (o ≡ refused f k)) ⊎ NoSpace m.used o f

abbrev pub extracted : Tables → ℕ → Outcome
extracted t p = extract_from_plan (view_in t).functions (tree_in t p) (start_at (next_number (model_of t)))

abbrev pub answered : Result (Option PlanId) Fault → Answer
answered (Ok (Some p)) = made p.0
answered (Ok None) = unchanged
answered (Err f) = refused_by f
