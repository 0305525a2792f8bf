use Rattle.std.proofs.Common.{length, ap, ◌∙◌, arith, length-append}
use Rattle.plan.specs.Fields.{every}
use Rattle.lexicon.specs.Declarations.{good_function, functions_in, declaration_in}
use Rattle.lexicon.proofs.Frames.{functions-grow}
use Rattle.lexicon.proofs.lexicon.Lexicon.write.Goals as goal

pub invariant_of-self : goal.invariant_of-self
invariant_of-self c =
    let x = c.args.self.now in
    let g = functions-grow x.text c.args.bytes.now x.functions x.inside in
    let e = c.extend.ensures in
    record { long = x.long; fits = omega (arith, ap length e, length-append x.text c.args.bytes.now, c.requires); inside = ap (λ b. every (declaration_in b) x.functions) e ∙ g.1; good = ap (λ b. every good_function (functions_in b x.functions)) e ∙ ap (every good_function) g.0 ∙ x.good }

pub returns-clause-functions : goal.returns-clause-functions
returns-clause-functions c =
    let x = c.args.self.now in
    ap (λ b. functions_in b x.functions) c.extend.ensures ∙ (functions-grow x.text c.args.bytes.now x.functions x.inside).0
