use Rattle.std.proofs.Common.{[], ◌++◌, map, length, ap, ◌∙◌, arith, rules}
use Rattle.std.proofs.lemmas.List.{length-map}
use Rattle.draft.specs.Drafts.{as_stored}
use Rattle.tables.specs.Holding.{view_in}
use Rattle.asking.proofs.Draftings.{stored-draft, sides-draft}
use Rattle.asking.proofs.drafting.draft_join.Goals as goal

pub push_stored-requires-in_default-2 : goal.push_stored-requires-in_default-2
push_stored-requires-in_default-2 c =
    omega (arith, ap length (c.push_stored-in_default.ensures ∙ ap (λ l. l ++ map as_stored c.fields_of-in_default.result.now) c.requires.empty), length-map c.fields_of-in_default.result.now as_stored, c.fields_of-in_default.ensures.few, c.fields_of-in_default-2.ensures.few)

pub returns-in-LeftSemi : goal.returns-in-LeftSemi
returns-in-LeftSemi c =
    let d = stored-draft (view_in c.args.tables.now) [] [] _ _ c.fields_of.ensures.value c.fields_of.ensures.stored _ _ c.requires.empty c.push_stored.ensures in
    search (rules, d)

pub returns-in-RightSemi : goal.returns-in-RightSemi
returns-in-RightSemi c =
    let d = stored-draft (view_in c.args.tables.now) [] [] _ _ c.fields_of-in-RightSemi.ensures.value c.fields_of-in-RightSemi.ensures.stored _ _ c.requires.empty c.push_stored-in-RightSemi.ensures in
    search (rules, d)

pub returns-in_default : goal.returns-in_default
returns-in_default c =
    let d = sides-draft (view_in c.args.tables.now) [] [] _ _ _ _ _ _ _ c.fields_of-in_default.ensures.value c.fields_of-in_default.ensures.stored c.fields_of-in_default-2.ensures.value c.fields_of-in_default-2.ensures.stored c.requires.empty c.push_stored-in_default.ensures c.push_stored-in_default-2.ensures in
    search (rules, d)
