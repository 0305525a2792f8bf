-- Where plans have rows: the tables' contents, the engine, and the rules that SQL leaves open.
--     Row      one value for each field
--     World      texts, engine, tables, arranging rule and grouping rule
--     applied w n vs      what the engine gives for the function n and the arguments vs
--     Fits fs w      the engine is strict wherever the declarations fs say so
--     Fitting fs      a world that fits
use Rattle.std.specs.Prelude.{◌≡◌, ℕ, T, List}
use Rattle.plan.specs.Fields.{any}
use Rattle.plan.specs.Functions.{Functions, function_at, strict_in}
use Rattle.plan.specs.Values.{Value, null, is_null_value}
use Rattle.plan.specs.declared.code.Direction.{Direction}

abbrev pub Row : Type 0
Row = List Value

pub record World : Type 0 where
  -- the text of the book, and the text that is lent with the rows
  pub book_text : List ℕ
  pub row_text : List ℕ
  -- the engine: of both texts, a function's number and the values of its arguments
  pub meaning : List ℕ → List ℕ → ℕ → List Value → Value
  -- what a Table holds, by its node number
  pub contents : ℕ → List Row
  -- from the directions and each row's key values, the positions of the rows in their new order
  pub arrange : List Direction → List (List Value) → List ℕ
  -- from the totals' functions and, for each row, its group values and each total's argument values
  pub group : List ℕ → List (List Value × List (List Value)) → List Row

abbrev pub applied : World → ℕ → List Value → Value
applied w n vs = w.meaning w.book_text w.row_text n vs

-- a function that is declared strict gives null wherever an argument is null
abbrev pub Fits : Functions → World → Type 0
Fits fs w = (n : ℕ) (vs : List Value) → T (strict_in (function_at fs n)) → T (any is_null_value vs) → applied w n vs ≡ null

pub record Fitting (fs : Functions) : Type 0 where
  pub world : World
  pub fits : Fits fs world
