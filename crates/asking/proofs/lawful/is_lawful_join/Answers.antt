use Rattle.std.proofs.Common.{[], ◌++◌, map, length, ap, ◌∙◌, arith}
use Rattle.std.proofs.lemmas.List.{length-map}
use Rattle.plan.specs.Fields.{every, lawful}
use Rattle.draft.specs.Drafts.{as_stored, draft_field, draft_in}
use Rattle.terms.specs.Views.{view_of}
use Rattle.tables.specs.Holding.{view_in}
use Rattle.asking.proofs.Draftings.{sides-draft}
use Rattle.asking.proofs.lawful.is_lawful_join.Goals as goal

pub push_stored-requires-2 : goal.push_stored-requires-2
push_stored-requires-2 c =
    omega (arith, ap length (c.push_stored.ensures ∙ ap (λ l. l ++ map as_stored c.fields_of.result.now) c.new-draft.ensures), length-map c.fields_of.result.now as_stored, c.fields_of.ensures.few, c.fields_of-2.ensures.few)

pub is_lawful-requires : goal.is_lawful-requires
is_lawful-requires c =
    let v = view_in c.args.tables.now in
    let d = sides-draft v [] [] _ _ _ _ _ _ _ c.fields_of.ensures.value c.fields_of.ensures.stored c.fields_of-2.ensures.value c.fields_of-2.ensures.stored c.new-draft.ensures c.push_stored.ensures c.push_stored-2.ensures in
    ap (λ x. every (draft_in (view_of x) [] []) c.as_slice.result.now) c.terms.ensures ∙ ap (every (draft_in v [] [])) c.as_slice.ensures ∙ d.inside

pub returns : goal.returns
returns c =
    let v = view_in c.args.tables.now in
    let d = sides-draft v [] [] _ _ _ _ _ _ _ c.fields_of.ensures.value c.fields_of.ensures.stored c.fields_of-2.ensures.value c.fields_of-2.ensures.stored c.new-draft.ensures c.push_stored.ensures c.push_stored-2.ensures in
    c.is_lawful.ensures ∙ ap (λ x. lawful (map (draft_field (view_of x) [] []) c.as_slice.result.now)) c.terms.ensures ∙ ap (λ l. lawful (map (draft_field v [] []) l)) c.as_slice.ensures ∙ ap lawful d.fields
