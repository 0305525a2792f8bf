use Rattle.std.proofs.Common.{◌<◌, length, sym, ap, ◌∙◌, arith}
use Rattle.std.proofs.lemmas.Bool.{ltb-true}
use Rattle.terms.specs.Views.{count}
use Rattle.draft.specs.Sources.{has_word}
use Rattle.draft.proofs.Words.{short}
use Rattle.draft.proofs.lawful.Source.spell.Goals as goal

pub render-requires-clause-room : goal.render-requires-clause-room
render-requires-clause-room c =
    let t = c.args.self.now.terms.now in
    let lt : c.in-Rendered.e.0 < count t = ltb-true _ _ (ap (has_word c.args.self.now) (sym c.in-Rendered.is) ∙ c.requires) in
    omega (arith, ap length c.truncate.ensures, short t c.in-Rendered.e.0 lt)
