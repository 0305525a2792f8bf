-- What declaring a function answers and leaves; cited by src/lexicon/declaring.rt.
--     all_declare_asked x n name arity rule      the questions with their answers, the last for space
--     DeclareAnswered x n name arity rule strict r x'      the function is declared, or the call was refused and the lexicon is as it was
use Rattle.std.specs.Prelude.{◌≡◌, ℕ, ◌+◌, Bool, List, [], ◌∷◌, ◌++◌, length, Result, nat_le}
use Rattle.plan.specs.Names.{Name}
use Rattle.plan.specs.Declaring.{declare_asked, declared_as, with_function}
use Rattle.plan.specs.Faults.{Asked, Settled}
use Rattle.plan.specs.declared.fault.Fault.{Fault}
use Rattle.plan.specs.declared.fault.Question.TheVariants.{Space}
use Rattle.lexicon.specs.Lexicon.{Declared, functions_of, text_of}
use Rattle.lexicon.specs.declared.lexicon.Lexicon.{Lexicon}

abbrev pub all_declare_asked : Lexicon → ℕ → Name → ℕ → ℕ → List Asked
all_declare_asked x n name arity rule = declare_asked (functions_of x) n name arity rule ++ (Space, nat_le (length (text_of x) + length name) 16384) ∷ []

abbrev pub DeclareAnswered : Lexicon → ℕ → Name → ℕ → ℕ → Bool → Result (Unit {0}) Fault → Lexicon → Type 0
DeclareAnswered x n name arity rule strict r x' =
    Settled (all_declare_asked x n name arity rule) (λ _. Declared x name (with_function (functions_of x) n (declared_as name arity rule strict)) x')
    ((functions_of x' ≡ functions_of x) × (text_of x' ≡ text_of x)) r
