use Rattle.std.proofs.Common.{min, ap, ◌∙◌}
use Rattle.lexicon.specs.Lexicon.{text_of}
use Rattle.names.specs.declared.TheConstants.{NUMBER_CAP}
use Rattle.numbering.proofs.Capped.{capped-qualified, capped-unqualified}
use Rattle.plan.specs.Names.{number_of}
use Rattle.numbering.proofs.next.field_number.Goals as goal

pub returns-in-Some : goal.returns-in-Some
returns-in-Some c =
    capped-qualified (text_of c.args.terms.now.lexicon) c.args.field c.in-Some.qualifier _ _ _ c.in-Some.is (c.number_of-own.ensures ∙ ap (λ n. min (number_of n) NUMBER_CAP) c.word.ensures)
    (c.number_of.ensures ∙ ap (λ n. min (number_of n) NUMBER_CAP) c.word-in-Some.ensures) c.max.ensures

pub returns-in-None : goal.returns-in-None
returns-in-None c =
    capped-unqualified (text_of c.args.terms.now.lexicon) c.args.field _ c.in-None.is (c.number_of-own.ensures ∙ ap (λ n. min (number_of n) NUMBER_CAP) c.word.ensures)
