-- What a lexicon holds; cited by src/lexicon and by the expressions above it.
--     text_of x, functions_of x      its bytes; the declarations under their numbers
use Rattle.std.specs.Prelude.{◌≡◌, ℕ, List, ◌++◌}
use Rattle.plan.specs.Functions.{Functions}
use Rattle.lexicon.specs.Declarations.{functions_in}
use Rattle.lexicon.specs.declared.lexicon.Lexicon.{Lexicon}

abbrev pub text_of : Lexicon → List ℕ
text_of x = x.text

abbrev pub functions_of : Lexicon → Functions
functions_of x = functions_in (text_of x) x.functions

-- a lexicon in which one more function is declared, its name behind the text
pub record Declared (x : Lexicon) (name : List ℕ) (fs : Functions) (x' : Lexicon) : Type 0 where
  pub functions : functions_of x' ≡ fs
  pub text : text_of x' ≡ text_of x ++ name
