-- What a declaration stands for.
--     function_in, functions_in      what it stands for; the same of all
--     declaration_in      whether its name is inside the text
--     good_function f      a declaration that was accepted
use Rattle.std.specs.Prelude.{ℕ, Bool, true, not, ◌&&◌, List, map, Some, None, Option, nat_le}
use Rattle.plan.specs.Names.{good_name, prefixed}
use Rattle.plan.specs.Functions.{Function, Functions}
use Rattle.names.specs.Spans.{word, span_in}
use Rattle.lexicon.specs.declared.declaration.Declaration.{Declaration}

abbrev pub function_in : List ℕ → Option Declaration → Option Function
function_in bytes None = None
function_in bytes (Some d) = Some (record { name = word bytes d.name; arity = d.arity; rule = d.rule; strict = d.strict })

abbrev pub functions_in : List ℕ → List (Option Declaration) → Functions
functions_in bytes ds = map (function_in bytes) ds

abbrev pub declaration_in : List ℕ → Option Declaration → Bool
declaration_in bytes None = true
declaration_in bytes (Some d) = span_in bytes d.name

abbrev pub good_function : Option Function → Bool
good_function None = true
good_function (Some f) = (good_name f.name && not (prefixed f.name)) && nat_le f.arity 4
