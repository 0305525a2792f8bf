use Rattle.std.proofs.Common.{◌≡◌, ℕ, ◌+◌, length, sym, refl, ap, ◌∙◌, arith, rules, tests}
use Rattle.std.specs.List.{list_all, range_with_len}
use Rattle.std.proofs.lemmas.List.{length-map}
use Rattle.std.proofs.lemmas.Iterator.{YieldsList-from_range}
use Rattle.std.proofs.lemmas.Iterator.Search.{all_from_yields_List}
use Rattle.plan.specs.Functions.{function_at}
use Rattle.lexicon.specs.Lexicon.{text_of}
use Rattle.lexicon.specs.Declarations.{function_in}
use Rattle.tables.specs.Holding.{model_of}
use Rattle.tables.specs.declared.tables.Tables.{Tables}
use Rattle.evaluate.specs.Fitness.{suits, suits_at}
use Rattle.evaluate.proofs.Suiting.{fits_all, suits-each}
use Rattle.evaluate.proofs.fits.Goals as goal

-- there are 64 numbers
numbers : (t : Tables) → length (model_of t).functions ≡ 64
numbers t = length-map t.terms.lexicon.functions (function_in (text_of t.terms.lexicon)) ∙ t.terms.lexicon.long

pub returns : goal.returns
returns g c =
    let strict = g.E.Engine.strict c.args.engine.now in
    let fs = (model_of c.args.book.now.tables).functions in
    let test = λ (n : ℕ). suits_at strict n (function_at fs n) in
    let each : list_all test (range_with_len 0 (length fs)) ≡ suits strict fs = suits-each strict (function_at fs) fs 0 (λ j lt. let z : 0 + j ≡ j = omega arith in ap (function_at fs) z) in
    let all : c.all.result ≡ suits strict fs =
    all_from_yields_List test _ _ c.all.result c.all.ensures.ran (YieldsList-from_range 0 64 64 refl refl) (λ x b q k. search (rules, tests))
    ∙ ap (λ n. list_all test (range_with_len 0 n)) (sym (numbers c.args.book.now.tables)) ∙ each in
    record { value = all; worlds = λ h. fits_all strict (g.E.Engine.meaning c.args.engine.now) fs (g.E.Engine.nulls c.args.engine.now) (sym all ∙ h) }
