use Rattle.std.proofs.Common.{arith}
use Rattle.lexicon.specs.Lexicon.{text_of}
use Rattle.numbering.proofs.Capped.{capped-none, field-turn}
use Rattle.numbering.proofs.next.highest_in_fields.Goals as goal

pub loop-field-init : goal.loop-field-init
loop-field-init c = capped-none

pub loop-field-preserved : goal.loop-field-preserved
loop-field-preserved c =
    field-turn (text_of c.args.terms.now.lexicon) c.args.fields.now c.loop-field.field-index c.loop-field.highest c.number_of.result c.max-highest.result _ c.word.result.now c.loop-field-test.true c.loop-field.invariant c.word.ensures c.number_of.ensures (omega arith)
