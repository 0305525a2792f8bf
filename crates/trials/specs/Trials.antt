-- What the tests ask of an answer, and what they begin with; cited by src/lib.rt.
--     is_refused q r      the call was refused with the question of the number q, at stage 1 and level 0
--     six_functions, six_names      the functions none, one, two, three, four and sum, under the numbers 0 to 5, and the text with their names
--     Adds m es n m'      in the list es, the first n are the last n expressions of the book m', which m has not; the nodes are those of m
--     wholes_to n      the numbers from 0 to below n, as literals
--     names_from c n      n names of one byte each, the first the byte c and each the byte after the one before
use Rattle.std.specs.Prelude.{◌≡◌, ℕ, zero, suc, ◌+◌, ◌<◌, Bool, false, ◌&&◌, List, [], ◌∷◌, ◌++◌, length, replicate, codes, pos, Some, None, Ok, Err, Result, ◌==◌, get_or}
use Rattle.plan.specs.Names.{Name}
use Rattle.plan.specs.Declaring.{declared_as}
use Rattle.plan.specs.Faults.{question_number, stage_number}
use Rattle.plan.specs.Functions.{Functions}
use Rattle.plan.specs.Model.{Model}
use Rattle.plan.specs.Terms.{Expr}
use Rattle.plan.specs.Terms.Expr.{literal}
use Rattle.plan.specs.Terms.Literal.{whole}
use Rattle.plan.specs.declared.fault.Fault.{Fault}
use Rattle.entries.specs.declared.node.ExprId.{ExprId}

abbrev pub is_refused : {A : Type 0} → ℕ → Result A Fault → Bool
is_refused q (Ok v) = false
is_refused q (Err f) = (question_number f.question == q) && ((stage_number f.stage == 1) && (f.level == 0))

-- only sum is a total
abbrev pub six_functions : Functions
six_functions =
    Some (declared_as (codes "none") 0 0 false) ∷ Some (declared_as (codes "one") 1 0 false)
    ∷ Some (declared_as (codes "two") 2 0 false) ∷ Some (declared_as (codes "three") 3 0 false)
    ∷ Some (declared_as (codes "four") 4 0 false) ∷ Some (declared_as (codes "sum") 1 4 false) ∷ replicate 58 None

abbrev pub six_names : List ℕ
six_names = codes "noneonetwothreefoursum"

abbrev pub expr_id : ℕ → ExprId
expr_id n = record { 0 = n }

abbrev pub Adds : Model → List ExprId → ℕ → Model → Type 0
Adds m es n m' =
    (length m'.exprs ≡ length m.exprs + n) × (m'.plans ≡ m.plans) × ((k : ℕ) → k < n → get_or es k (expr_id 0) ≡ expr_id (length m.exprs + k))

abbrev pub wholes_to : ℕ → List Expr
wholes_to zero = []
wholes_to (suc n) = wholes_to n ++ literal (whole (pos n)) ∷ []

abbrev pub names_from : ℕ → ℕ → List Name
names_from c zero = []
names_from c (suc n) = (c ∷ []) ∷ names_from (suc c) n
