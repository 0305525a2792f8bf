-- A book that was just opened is reached, and two nodes of one origin in a reached book give the same report.
use Rattle.std.proofs.Common.{◌≡◌, ℕ, Bool, true, List, [], ◌∷◌, Ok, Err, Result, sym, ◌∙◌, subst, arith, ltb→lt}
use Rattle.std.proofs.lemmas.Bool.{eqb-true}
use Rattle.plan.specs.Calls.{below}
use Rattle.plan.specs.Functions.{Functions}
use Rattle.plan.specs.Model.{Model, count_of, opened, origin_at}
use Rattle.plan.specs.declared.fault.Fault.{Fault}
use Rattle.plan.specs.declared.fault.Question.TheVariants.{Present}
use Rattle.rewriting.specs.Reached.{Reached}
use Rattle.rewriting.proofs.Building.{all_yes}
use Rattle.rewriting.proofs.Reached.{reached-opened as opened-reached, reached-agree}
use Rattle.book.specs.Opened.{SameReport, Told}
use Rattle.leaf_expressions.specs.Comes.{extracted}
use Rattle.plan.specs.Calls.{Answer}
use Rattle.rewriting.specs.Book.Request.{extract}
use Rattle.rewriting.specs.Book.{Answers, Rewrites}
use Rattle.rewriting.specs.Extracting.{extract_from_plan}
use Rattle.rewriting.specs.Generated.{next_number}
use Rattle.rewriting.specs.Outlay.{start_at}
use Rattle.tables.proofs.Inputs.{tree-at}
use Rattle.tables.specs.Holding.{model_of}
use Rattle.tables.specs.declared.tables.Tables.{Tables}

pub reached-opened : (m : Model) (fs : Functions) (text : List ℕ) → m ≡ opened fs text → Reached m
reached-opened m fs text e = subst Reached (sym e) (opened-reached fs text)

-- both nodes are there, and have one origin
pub told_same : (m : Model) (i j : ℕ) (r : Result Bool Fault) → Reached m → Told m i j r → r ≡ Ok true → SameReport m i j
told_same m i j (Err f) h t e = let z : ◌≡◌ {A = ℕ} 0 1 = cc in absurd (omega arith)
told_same m i j (Ok b) h t e =
    let a = reached-agree m h in
    let yes : b ≡ true = cc in
    let p = all_yes ((Present, below (count_of m) i) ∷ (Present, below (count_of m) j) ∷ []) t.0 in
    let hi = ltb→lt i (count_of m) p.0 in
    let hj = ltb→lt j (count_of m) p.1.0 in
    record {
      same = a.same i j hi hj (eqb-true (origin_at m i) (origin_at m j) (sym t.1 ∙ yes));
      resolved = (a.resolved i hi, a.resolved j hj);
    }

-- an extract over the tables is one of the book
pub extract-answers : (t : Tables) (i : ℕ) (a : Answer) (m : Model) → Rewrites (model_of t) i (extracted t i) a m → Answers (model_of t) (extract i) a m
extract-answers t i a m h =
    subst (λ p. Rewrites (model_of t) i (extract_from_plan (model_of t).functions p (start_at (next_number (model_of t)))) a m) (sym (tree-at t i)) h
