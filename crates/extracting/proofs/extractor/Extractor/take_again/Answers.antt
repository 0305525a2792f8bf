use Rattle.std.proofs.Common.{◌+◌, ap, arith}
use Rattle.tables.specs.Holding.{model_of}
use Rattle.extracting.specs.Extractors.{renewed}
use Rattle.extracting.proofs.Growing.{extractor-stays, longer}
use Rattle.extracting.proofs.Numbers.{numbered-more}
use Rattle.extracting.proofs.extractor.Extractor.take_again.Goals as goal

pub returns-clause-answer : goal.returns-clause-answer
returns-clause-answer c =
    let t = c.args.tables.now in
    let u = c.alias_column.new.tables in
    let b = c.in_ok-column.ensures.answer in
    let k = extractor-stays t u b.grows c.args.self.now c.requires.inside in
    record {
      present = b.present;
      tree = b.tree;
      extractor = ap renewed k.0;
      inside = record { entries = k.1.entries; needed = k.1.needed; earlier = k.1.earlier };
      few = omega (arith, c.requires.few, longer t u b.grows);
      grows = b.grows;
      numbers = numbered-more (model_of t) (model_of u) (c.args.alias + 1) c.args.self.now.next (omega (arith, c.requires.earlier)) b.numbers;
      spent = b.spent;
    }
