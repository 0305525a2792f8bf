use Rattle.std.proofs.Common.{Some, ap, ◌∙◌}
use Rattle.std.proofs.lemmas.List.{length-set, map-set}
use Rattle.plan.specs.Fields.{every}
use Rattle.lexicon.specs.Declarations.{good_function, function_in, declaration_in}
use Rattle.lexicon.specs.Lexicon.{functions_of, text_of}
use Rattle.lexicon.proofs.Frames.{every_set}
use Rattle.lexicon.proofs.lexicon.Lexicon.set_function.Goals as goal

pub invariant_of-self : goal.invariant_of-self
invariant_of-self c =
    let x = c.args.self.now in
    let d = Some c.args.function in
    let n = c.args.number in
    record { long = length-set x.functions n d ∙ x.long; fits = x.fits; inside = every_set (declaration_in (text_of x)) x.functions n d x.inside c.requires.inside; good = ap (every good_function) (map-set (function_in (text_of x)) x.functions n d) ∙ every_set good_function (functions_of x) n (function_in (text_of x) d) x.good c.requires.good }

pub returns-clause-functions : goal.returns-clause-functions
returns-clause-functions c =
    let x = c.args.self.now in
    map-set (function_in (text_of x)) x.functions c.args.number (Some c.args.function)
