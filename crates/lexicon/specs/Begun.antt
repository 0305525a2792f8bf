-- What it is to begin with another lexicon, and to be put back to it; cited by src/lexicon/methods.rt.
--     Begins xs ys      the list ys begins with xs
--     LexiconBegins x y      y is x and what was put behind it, place for place; the functions are the same
--     SameLexicon x y      the same and nothing behind
use Rattle.std.specs.Prelude.{◌≡◌, List, ◌++◌}
use Rattle.lexicon.specs.Lexicon.{text_of}
use Rattle.lexicon.specs.declared.lexicon.Lexicon.{Lexicon}

pub record Begins {X : Type 0} (xs ys : List X) : Type 0 where
  pub more : List X
  pub is : ys ≡ xs ++ more

pub record LexiconBegins (x y : Lexicon) : Type 0 where
  pub functions : y.functions ≡ x.functions
  pub text : Begins (text_of x) (text_of y)

pub record SameLexicon (x y : Lexicon) : Type 0 where
  pub functions : y.functions ≡ x.functions
  pub text : text_of y ≡ text_of x
