-- Whether a node of a book is a filter over a projection.
use Rattle.std.proofs.Common.{◌≡◌, ◌≢◌, ℕ, ◌≤◌, Bool, false, List, [], ◌∷◌, length, Ok, Err, Result, IfOk, IsErr, is_ok, true≢false, refl, sym, ap, arith}
use Rattle.std.proofs.lemmas.Bool.{ltb-false}
use Rattle.std.proofs.lemmas.List.{get_or_past, length-map}
use Rattle.plan.specs.Calls.{below, union_of}
use Rattle.plan.specs.Model.{count_of, no_plan, plans_in}
use Rattle.plan.specs.Plans.{Plan}
use Rattle.plan.specs.Terms.{Field}
use Rattle.terms.specs.Views.{View}
use Rattle.entries.specs.declared.node.ExprId.{ExprId}
use Rattle.entries.specs.declared.node.PlanId.{PlanId}
use Rattle.entries.specs.declared.node.Run.{Run}
use Rattle.tables.specs.Holding.{tree_in, trees_in}
use Rattle.stored.specs.Stored.{build_plan_node, run_numbers}
use Rattle.stored.specs.declared.node.PlanNode.{PlanNode}
use Rattle.stored.specs.declared.node.PlanNode.TheVariants.{Table, Projection, Filter, Sort, Limit, Aggregate, Join, SubqueryAlias, Union}
use Rattle.book.specs.Opened.{book_of}
use Rattle.book.specs.declared.opened.OpenBook.{OpenBook}
use Rattle.reporting.specs.Reporting.{is_projection, is_report}

-- a node that is not there is no report
pub absent : (b : OpenBook) (p : ℕ) → below (count_of (book_of b)) p ≡ false → is_report (tree_in b.tables p) ≡ false
absent b p h =
    let past : length (trees_in b.tables) ≤ p = omega (arith, ltb-false p (count_of (book_of b)) h, length-map (book_of b).plans (λ n. n.tree)) in
    ap is_report (get_or_past (trees_in b.tables) p no_plan past)

-- nor is it a projection
pub absent-below : (b : OpenBook) (p : ℕ) → below (count_of (book_of b)) p ≡ false → is_projection (tree_in b.tables p) ≡ false
absent-below b p h =
    let past : length (trees_in b.tables) ≤ p = omega (arith, ltb-false p (count_of (book_of b)) h, length-map (book_of b).plans (λ n. n.tree)) in
    ap is_projection (get_or_past (trees_in b.tables) p no_plan past)

union-is-none : (ps : List Plan) → is_report (union_of ps) ≡ false
union-is-none [] = refl
union-is-none (p ∷ ps) = refl

union-is-no-projection : (ps : List Plan) → is_projection (union_of ps) ≡ false
union-is-no-projection [] = refl
union-is-no-projection (p ∷ ps) = refl

module _ (v : View) (fs : List Field) (ts : List Plan) where
  pub no-filter : (n : PlanNode) → ((i : PlanId) (e : ExprId) → n ≢ Filter i e) → is_report (build_plan_node v fs ts n) ≡ false
  no-filter (Table k q) h = refl
  no-filter (Projection i l) h = refl
  no-filter (Filter i e) h = absurd (h i e refl)
  no-filter (Sort i l) h = refl
  no-filter (Limit i s c) h = refl
  no-filter (Aggregate i gs us) h = refl
  no-filter (Join j l r cs) h = refl
  no-filter (SubqueryAlias i n) h = refl
  no-filter (Union l) h = union-is-none (plans_in ts (run_numbers v.entries l))

  pub no-projection : (n : PlanNode) → ((i : PlanId) (l : Run) → n ≢ Projection i l) → is_projection (build_plan_node v fs ts n) ≡ false
  no-projection (Table k q) h = refl
  no-projection (Projection i l) h = absurd (h i l refl)
  no-projection (Filter i e) h = refl
  no-projection (Sort i l) h = refl
  no-projection (Limit i s c) h = refl
  no-projection (Aggregate i gs us) h = refl
  no-projection (Join j l r cs) h = refl
  no-projection (SubqueryAlias i n) h = refl
  no-projection (Union l) h = union-is-no-projection (plans_in ts (run_numbers v.entries l))

-- an error, where there is no report
pub refused-read : {A E : Type 0} (P : A → Type 0) (b : Bool) (r : Result A E) → IsErr r → b ≡ false → (is_ok r ≡ b) × IfOk r P
refused-read P b (Ok v) h k = absurd (true≢false (sym h))
refused-read P b (Err x) h k = (sym k, tt)
