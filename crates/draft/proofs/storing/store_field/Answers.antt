use Rattle.draft.proofs.Keeping.{field-stored}
use Rattle.terms.specs.Views.{view_of}
use Rattle.draft.proofs.storing.store_field.Goals as goal

pub returns-clause-field : goal.returns-clause-field
returns-clause-field c =
    field-stored (view_of c.args.terms.now) (view_of c.store_word-name.new.terms) c.args.lent c.args.field _ _ c.requires.lent c.requires.inside c.store_word-name.ensures.word c.stored_qualifier.ensures
