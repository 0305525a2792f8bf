use Rattle.std.proofs.Common.{◌∙◌}
use Rattle.terms.specs.Views.{view_of}
use Rattle.tables.proofs.Begun.{held-same, put-back}
use Rattle.tables.proofs.tables.Tables.back_to.Goals as goal

pub invariant_of-self : goal.invariant_of-self
invariant_of-self c =
    let s = c.requires.0 in
    let b = c.requires.1 in
    held-same s (view_of c.back_to.new.self) c.truncate.new.self c.truncate-2.new.self (c.back_to.ensures.view s.terms b.terms)
    (c.truncate.ensures ∙ put-back s.fields c.args.self.now.fields c.args.marks.fields b.fields b.begins.fields)
    (c.truncate-2.ensures ∙ put-back s.plans c.args.self.now.plans c.args.marks.plans b.plans b.begins.plans)
