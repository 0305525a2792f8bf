-- What is made of a list of arguments by its length.
--     of_one f vs, of_two f vs      f of one or of two arguments; null at any other count
use Rattle.std.specs.Prelude.{List, [], ◌∷◌}
use Rattle.plan.specs.Values.{Value}
use Rattle.plan.specs.Values.Value.{null}

-- one argument
abbrev pub of_one : (Value → Value) → List Value → Value
of_one f (x ∷ []) = f x
of_one _ _ = null

-- two arguments
abbrev pub of_two : (Value → Value → Value) → List Value → Value
of_two f (x ∷ y ∷ []) = f x y
of_two _ _ = null
