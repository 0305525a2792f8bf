-- A book while its functions are declared; cited by src/declaration.rt.
--     declared_in b, text_in b      the functions, by number, and the text with their names
use Rattle.std.specs.Prelude.{ℕ, List}
use Rattle.plan.specs.Functions.{Functions}
use Rattle.lexicon.specs.Lexicon.{functions_of, text_of}
use Rattle.book.specs.declared.declaration.Book.{Book}

abbrev pub declared_in : Book → Functions
declared_in b = functions_of b.lexicon

abbrev pub text_in : Book → List ℕ
text_in b = text_of b.lexicon
