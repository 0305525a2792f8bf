use Rattle.std.proofs.Common.{[], ◌∷◌, map, ap, ◌∙◌, arith}
use Rattle.std.proofs.lemmas.List.{length-map}
use Rattle.asking.proofs.Draftings.{exprs-length, lists-draft}
use Rattle.draft.specs.Drafts.{draft_field, draft_in}
use Rattle.plan.specs.Fields.{every, lawful}
use Rattle.plan.specs.Model.{expr_in, exprs_in}
use Rattle.terms.specs.Views.{numbers_of, view_of}
use Rattle.merging.proofs.joining.is_lawful_with.Goals as goal

pub push_expressions-requires-2-clause-room : goal.push_expressions-requires-2-clause-room
push_expressions-requires-2-clause-room c =
    let v = view_of c.args.terms.now in
    let ns = numbers_of c.args.list.now in
    omega (arith, exprs-length v [] [] (exprs_in v.trees ns) c.new-draft.result c.push_expressions.new.out c.push_expressions.ensures c.new-draft.ensures, length-map ns (expr_in v.trees), length-map c.args.list.now (λ e. e.0), c.requires.few)

pub is_lawful-requires : goal.is_lawful-requires
is_lawful-requires c =
    let v = view_of c.args.terms.now in
    let d = lists-draft v [] [] (exprs_in v.trees (numbers_of c.args.list.now)) (expr_in v.trees c.args.e.0 ∷ []) c.new-draft.result c.push_expressions.new.out c.push_expressions-2.new.out c.new-draft.ensures c.push_expressions.ensures c.push_expressions-2.ensures in
    ap (every (draft_in v [] [])) c.as_slice.ensures ∙ d.inside

pub returns : goal.returns
returns c =
    let v = view_of c.args.terms.now in
    let d = lists-draft v [] [] (exprs_in v.trees (numbers_of c.args.list.now)) (expr_in v.trees c.args.e.0 ∷ []) c.new-draft.result c.push_expressions.new.out c.push_expressions-2.new.out c.new-draft.ensures c.push_expressions.ensures c.push_expressions-2.ensures in
    c.is_lawful.ensures ∙ ap (λ l. lawful (map (draft_field v [] []) l)) c.as_slice.ensures ∙ ap lawful d.fields
