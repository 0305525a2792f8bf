use Rattle.std.proofs.Common.{◌≡◌, ℕ, List, Bool, Bor, Option, Some, None, ap, ◌∙◌, rules}
use Rattle.std.specs.List.{find}
use Rattle.std.specs.Option.{MatchOption, option_map, unwrap_or}
use Rattle.std.proofs.lemmas.Iterator.{YieldsList-from_slice}
use Rattle.std.proofs.lemmas.Iterator.Search.{find_from_yields_List}
use Rattle.plan.specs.Values.Value.{null}
use Rattle.value.specs.Meanings.{meaning_of}
use Rattle.value.specs.declared.Value.{Value}
use Rattle.value.specs.declared.Value.TheVariants.{Null}
use Rattle.engine.specs.Records.{is_of}
use Rattle.engine.specs.declared.records.Entry.{Entry}
use Rattle.engine.proofs.records.Records.field.Goals as goal

-- what the entry that was found means, if there is one
found : (book row : List ℕ) (test : Entry → Bool) (es : List Entry) (o : Option (Bor Entry)) (r : Value) (Q : Bor Entry → Type 0) → ((x : Bor Entry) → Q x → r ≡ x.now.value)
    → option_map (λ x. x.now) o ≡ find test es → MatchOption o (r ≡ Null) Q → meaning_of book row r ≡ unwrap_or (option_map (λ e. meaning_of book row e.value) (find test es)) null
found book row test es None r Q q e m = ap (meaning_of book row) m ∙ ap (λ p. unwrap_or (option_map (λ x. meaning_of book row x.value) p) null) e
found book row test es (Some x) r Q q e m = ap (meaning_of book row) (q x m) ∙ ap (λ p. unwrap_or (option_map (λ y. meaning_of book row y.value) p) null) e

pub returns : goal.returns
returns c = λ book row.
    let test = λ (e : Entry). is_of e c.args.owner c.args.name.now in
    let es = c.args.self.now.entries.now in
    found book row test es c.find.result c.map_or.result _ (λ x q. search rules) (find_from_yields_List test _ _ _ c.find.ensures.ran (YieldsList-from_slice es cc) (λ x b q k. search rules)) c.map_or.ensures
