use Rattle.std.proofs.Common.{min, ap, ◌∙◌}
use Rattle.lexicon.specs.Lexicon.{text_of}
use Rattle.names.specs.declared.TheConstants.{NUMBER_CAP}
use Rattle.numbering.proofs.Capped.{capped-other, capped-text}
use Rattle.plan.specs.Names.{number_of}
use Rattle.numbering.proofs.next.literal_number.Goals as goal

pub returns-in-Text : goal.returns-in-Text
returns-in-Text c =
    c.number_of.ensures ∙ ap (λ n. min (number_of n) NUMBER_CAP) c.word.ensures ∙ capped-text (text_of c.args.terms.now.lexicon) c.args.literal c.in-Text.text c.in-Text.is

pub returns-in_default : goal.returns-in_default
returns-in_default c = capped-other (text_of c.args.terms.now.lexicon) c.args.literal c.in_default.not-Text
