-- Declaring a function: what is asked, and what the functions are afterwards; cited by declare.
--     declare_asked fs n name arity rule      the questions with their answers
--     with_function fs n f      the functions with f under the number n
use Rattle.std.specs.Prelude.{ℕ, Bool, not, ◌&&◌, List, [], ◌∷◌, is_some, Some, None, Option, nat_le, nat_lt, slice_set}
use Rattle.plan.specs.Names.{Name, good_name, prefixed}
use Rattle.plan.specs.Functions.{Function, Functions, function_at}
use Rattle.plan.specs.Faults.{Asked}
use Rattle.plan.specs.Codes.{rule_of}
use Rattle.plan.specs.declared.code.Rule.{Rule}
use Rattle.plan.specs.declared.code.Rule.TheVariants.{Stay}
use Rattle.plan.specs.declared.fault.Question.TheVariants.{Named, Bounded}

abbrev pub rule_given : Option Rule → Rule
rule_given None = Stay
rule_given (Some r) = r

-- a name that is not prefixed; a free number from 0 to 63, at most four arguments, a rule from 0 to 4
abbrev pub declare_asked : Functions → ℕ → Name → ℕ → ℕ → List Asked
declare_asked fs n name arity rule =
    (Named, good_name name && not (prefixed name))
    ∷ (Bounded, (nat_lt n 64 && not (is_some (function_at fs n))) && (nat_le arity 4 && is_some (rule_of rule))) ∷ []

abbrev pub declared_as : Name → ℕ → ℕ → Bool → Function
declared_as name arity rule strict = record { name = name; arity = arity; rule = rule_given (rule_of rule); strict = strict }

abbrev pub with_function : Functions → ℕ → Function → Functions
with_function fs n f = slice_set fs n (Some f)
