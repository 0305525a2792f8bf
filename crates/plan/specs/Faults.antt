-- Refusals; cited by every call that can refuse.
--     question_number q, stage_number s      the numbers that a refusal is known by
--     first_no qs      of questions with their answers, the first that was answered no
--     refusal q      the refusal of a building call: stage 1, level 0
use Rattle.std.specs.Prelude.{◌≡◌, ℕ, Bool, true, false, cond, List, [], ◌∷◌, Some, None, Ok, Err, Option, Result}
use Rattle.plan.specs.declared.fault.Question.{Question}
use Rattle.plan.specs.declared.fault.Question.TheVariants.{Present, Named, Bounded, Placed, SameOrigin, Resolved, Lawful, Limited, Space}
use Rattle.plan.specs.declared.fault.Stage.{Stage}
use Rattle.plan.specs.declared.fault.Stage.TheVariants.{Call, Extraction, Merge, Rebuilt, Recovery, Closing}
use Rattle.plan.specs.declared.fault.Fault.{Fault}

abbrev pub question_number : Question → ℕ
question_number Present = 1
question_number Named = 2
question_number Bounded = 3
question_number Placed = 4
question_number SameOrigin = 5
question_number Resolved = 6
question_number Lawful = 7
question_number Limited = 8
question_number Space = 9

abbrev pub stage_number : Stage → ℕ
stage_number Call = 1
stage_number Extraction = 2
stage_number Merge = 3
stage_number Rebuilt = 4
stage_number Recovery = 5
stage_number Closing = 6

abbrev pub fault : Question → Stage → ℕ → Fault
fault q s l = record { question = q; stage = s; level = l }

-- a question, and whether it was answered yes
abbrev pub Asked : Type 0
Asked = Question × Bool

-- the first question that was answered no
abbrev pub first_no : List Asked → Option Question
first_no [] = None
first_no (a ∷ later) = cond a.1 (first_no later) (Some a.0)

-- a building call is refused at stage 1, level 0
abbrev pub refusal : Question → Fault
refusal q = fault q Call 0

-- what one question comes to
abbrev pub Decided : {A : Type 0} → Bool → Question → Result A Fault → Type 0
Decided b q (Ok v) = b ≡ true
Decided b q (Err f) = (b ≡ false) × (f ≡ refusal q)

-- a call that is decided by its questions and then holds P of its answer; refused, it holds Q
abbrev pub Settled : {A : Type 0} → List Asked → (A → Type 0) → Type 0 → Result A Fault → Type 0
Settled qs P Q (Ok v) = (first_no qs ≡ None) × P v
Settled qs P Q (Err f) = (first_no qs ≡ Some f.question) × (f ≡ refusal f.question) × Q
