-- What evaluate is asked, and what its answer means.
--     holds_total fs e      the expression is a total, or has one inside
--     row_asked fs shown e values scratch      the questions on the row, for so many values and so many places of scratch
--     asked m e p values scratch      all questions, of the expression e and the node p
--     bare meaning book row      the world of an engine and two texts, with no tables
--     Means meaning book row shown values e v      v is the value of e in every world of that engine and those texts
--     Valued, Answers      what the call answers, and what it leaves of the scratch
use Rattle.std.specs.Prelude.{◌≡◌, ℕ, Bool, false, not, ◌&&◌, ◌||◌, List, [], ◌∷◌, map, length, Result, ◌==◌, nat_le}
use Rattle.plan.specs.Calls.{below}
use Rattle.plan.specs.Faults.{Asked, Settled}
use Rattle.plan.specs.Fields.{resolved}
use Rattle.plan.specs.Functions.{Functions, function_at, is_total_rule, rule_in}
use Rattle.plan.specs.Model.{Model, expr_in, plan_in, trees_of}
use Rattle.plan.specs.Plans.{fields_of}
use Rattle.plan.specs.Terms.{Expr, Exprs, Field}
use Rattle.plan.specs.Terms.Expr.{alias, call, literal, reference}
use Rattle.plan.specs.Terms.Exprs.{more, none}
use Rattle.plan.specs.Values.{Value}
use Rattle.plan.specs.declared.fault.Fault.{Fault}
use Rattle.plan.specs.declared.fault.Question.TheVariants.{Bounded, Placed, Present, Resolved}
use Rattle.value.specs.Meanings.{meaning_of}
use Rattle.value.specs.declared.Value.{Value as Held}
use Rattle.engine.specs.Strictness.{Meaning}
use Rattle.rows.specs.Rows.{value_in}
use Rattle.rows.specs.Worlds.{Row, World}

abbrev mutual
  pub holds_total : Functions → Expr → Bool
  holds_total fs (literal v) = false
  holds_total fs (reference f) = false
  holds_total fs (alias e f) = holds_total fs e
  holds_total fs (call n es) = is_total_rule (rule_in (function_at fs n)) || hold_total fs es

  pub hold_total : Functions → Exprs → Bool
  hold_total fs none = false
  hold_total fs (more e es) = holds_total fs e || hold_total fs es

-- scratch has a place for each node of the largest tree
abbrev pub row_asked : Functions → List Field → Expr → ℕ → ℕ → List Asked
row_asked fs shown e values scratch =
    (Bounded, (values == length shown) && nat_le 256 scratch) ∷ (Placed, not (holds_total fs e)) ∷ (Resolved, resolved shown e) ∷ []

-- the fields of the node p
abbrev pub shown_by : Model → ℕ → List Field
shown_by m p = fields_of m.functions (plan_in (trees_of m) p)

abbrev pub asked : Model → ℕ → ℕ → ℕ → ℕ → List Asked
asked m e p values scratch =
    (Present, below (length m.exprs) e) ∷ (Present, below (length m.plans) p) ∷ row_asked m.functions (shown_by m p) (expr_in m.exprs e) values scratch

abbrev pub bare : Meaning → List ℕ → List ℕ → World
bare meaning book row = record {
  book_text = book;
  row_text = row;
  meaning = meaning;
  contents = λ k. [];
  arrange = λ ds ks. [];
  group = λ ns rs. [];
}

-- whatever the tables hold, and however rows are arranged and grouped
abbrev pub Means : Meaning → List ℕ → List ℕ → List Field → Row → Expr → Value → Type 0
Means meaning book row shown values e v =
    (w : World) → w.meaning ≡ meaning → w.book_text ≡ book → w.row_text ≡ row → v ≡ value_in w shown values e

-- decided by the questions qs; refused, it leaves the scratch as it was
abbrev pub Valued : List Asked → Meaning → List ℕ → List ℕ → List Field → List Held → Expr → List Held → List Held → Result Held Fault → Type 0
Valued qs meaning book row shown values e before after r =
    Settled qs (λ v. Means meaning book row shown (map (meaning_of book row) values) e (meaning_of book row v) × (length after ≡ length before)) (after ≡ before) r

abbrev pub Answers : Model → Meaning → ℕ → ℕ → List Held → List ℕ → List Held → List Held → Result Held Fault → Type 0
Answers m meaning e p values row before after r =
    Valued (asked m e p (length values) (length before)) meaning m.text row (shown_by m p) values (expr_in m.exprs e) before after r
