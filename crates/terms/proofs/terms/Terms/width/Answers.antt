use Rattle.std.proofs.Common.{arith}
use Rattle.terms.specs.Build.{width_of}
use Rattle.lexicon.specs.Lexicon.{functions_of}
use Rattle.terms.specs.Views.{view_of}
use Rattle.terms.proofs.Facts.{counted, kept_at}
use Rattle.terms.proofs.terms.Terms.width.Goals as goal

pub returns : goal.returns
returns c =
    let t = c.args.self.now in
    kept_at (λ r. r.width) (width_of (functions_of t.lexicon)) t.exprs (view_of t).trees c.args.e.0 c.get.result (counted t) (omega (arith, counted t, c.requires)) t.widths (c.get.ensures c.get.result)
