use Rattle.std.proofs.Common.{◌≡◌, ℕ, ◌<◌, Bool, not, ◌&&◌, eqb, leb, List, [], ◌∷◌, map, length, sym, ap, ◌∙◌, subst}
use Rattle.std.proofs.lemmas.List.{append-nil, length-map}
use Rattle.std.proofs.lemmas.Result.{err_from_is_err_and}
use Rattle.plan.specs.Faults.{Asked, Decided}
use Rattle.plan.specs.Fields.{resolved}
use Rattle.plan.specs.Functions.{is_total}
use Rattle.plan.specs.declared.fault.Question.TheVariants.{Bounded, Placed, Resolved}
use Rattle.entries.specs.Spans.{stored_field}
use Rattle.terms.specs.Views.{count, tree_of, view_of}
use Rattle.entries.specs.declared.node.StoredField.{StoredField}
use Rattle.terms.specs.declared.terms.Terms.{Terms}
use Rattle.evaluate.specs.Evaluating.{holds_total}
use Rattle.evaluate.proofs.Decisions.{last-decides, passed, refused}
use Rattle.evaluate.proofs.Totals.{tests-total}
use Rattle.evaluate.proofs.valuing.Row.ask.Goals as goal

abbrev yes : Unit {0} → Type 0
yes v = Unit {0}

-- the questions from 6 on, and from 4 on
abbrev from_sixth : Terms → List StoredField → ℕ → List Asked
from_sixth t fields e = (Resolved, resolved (map (stored_field (view_of t).bytes) fields) (tree_of t e)) ∷ []

abbrev from_fourth : Terms → List StoredField → ℕ → List Asked
from_fourth t fields e = (Placed, not (holds_total (view_of t).functions (tree_of t e))) ∷ from_sixth t fields e

-- question 3, by the stored fields
bounded : (t : Terms) (fields : List StoredField) (n s : ℕ) (b : Bool) → b ≡ (eqb n (length fields) && leb 256 s) → (eqb n (length (map (stored_field (view_of t).bytes) fields)) && leb 256 s) ≡ b
bounded t fields n s b h = ap (λ k. eqb n k && leb 256 s) (length-map fields (stored_field (view_of t).bytes)) ∙ sym h

-- question 4, by the outermost call
placed : (t : Terms) (e : ℕ) (b : Bool) → e < count t → b ≡ is_total (view_of t).functions (tree_of t e) → not (holds_total (view_of t).functions (tree_of t e)) ≡ not b
placed t e b lt h = ap not (sym (tests-total t e lt) ∙ sym h)

pub returns-in_err-ask : goal.returns-in_err-ask
returns-in_err-ask c =
    let p = err_from_is_err_and c.from_residual.result c.from_residual.ensures.1 in
    let no = c.in_err-ask.ensures in
    let third = bounded c.args.self.now.terms.now c.args.self.now.fields.now (length c.args.self.now.values.now) (length c.args.scratch.now) c.has_places.result c.has_places.ensures in
    refused yes (Unit {0}) Bounded _ (from_fourth c.args.self.now.terms.now c.args.self.now.fields.now c.args.e.0) c.in_err-ask.field-0.0 p.0 c.from_residual.result p.1 p.2 (third ∙ no.0, no.1) tt

pub returns-in_err-ask-2 : goal.returns-in_err-ask-2
returns-in_err-ask-2 c =
    let r = c.from_residual-in_err-ask-2.result in
    let p = err_from_is_err_and r c.from_residual-in_err-ask-2.ensures.1 in
    let no = c.in_err-ask-2.ensures in
    let third = bounded c.args.self.now.terms.now c.args.self.now.fields.now (length c.args.self.now.values.now) (length c.args.scratch.now) c.has_places.result c.has_places.ensures in
    let fourth = placed c.args.self.now.terms.now c.args.e.0 c.is_total.result c.requires c.is_total.ensures in
    passed yes (Unit {0}) Bounded _ (from_fourth c.args.self.now.terms.now c.args.self.now.fields.now c.args.e.0) r (third ∙ c.in_ok-ask.ensures) (refused yes (Unit {0}) Placed _ (from_sixth c.args.self.now.terms.now c.args.self.now.fields.now c.args.e.0) c.in_err-ask-2.field-0.0 p.0 r p.1 p.2 (fourth ∙ no.0, no.1) tt)

pub returns : goal.returns
returns c =
    let t = c.args.self.now.terms.now in
    let tree = tree_of t c.args.e.0 in
    let shown = map (stored_field (view_of t).bytes) c.args.self.now.fields.now in
    let r = c.ask-3.result in
    let third = bounded t c.args.self.now.fields.now (length c.args.self.now.values.now) (length c.args.scratch.now) c.has_places.result c.has_places.ensures in
    let fourth = placed t c.args.e.0 c.is_total.result c.requires c.is_total.ensures in
    let sixth : c.resolved.result ≡ resolved shown tree = c.resolved.ensures ∙ ap (λ fs. resolved fs tree) (append-nil shown) in
    passed yes (Unit {0}) Bounded _ (from_fourth c.args.self.now.terms.now c.args.self.now.fields.now c.args.e.0) r (third ∙ c.in_ok-ask.ensures)
    (passed yes (Unit {0}) Placed _ (from_sixth c.args.self.now.terms.now c.args.self.now.fields.now c.args.e.0) r (fourth ∙ c.in_ok-ask-2.ensures) (last-decides Resolved _ r (subst (λ b. Decided b Resolved r) sixth c.ask-3.ensures)))
