-- The report as the book has it, and what it makes of a row; cited by src/lib.rt.
--     ValueOf m meaning text e p row v      v is the value of the expression e on a row of the node p
--     is_projection p, is_report p      the plan is a projection; a filter over one
--     Reads b p r      the node p is the filter over the projection that r says
--     column_asked b r i width      the questions on a column of the report r, for a row of so many values
--     outcome_asked b r width      all questions on such a row
--     Gives b meaning text r row o      o is what the report r makes of a row of its projection's input
use Rattle.std.specs.Prelude.{◌≡◌, ℕ, ◌+◌, Bool, true, false, ◌&&◌, List, [], ◌∷◌, ◌++◌, map, nat_le, nat_lt, slice_index}
use Rattle.plan.specs.Faults.{Asked}
use Rattle.plan.specs.Model.{Model, expr_in}
use Rattle.plan.specs.Plans.{Plan}
use Rattle.plan.specs.Plans.Plan.{table, projection, filter, sort, limit, aggregate, join, subquery_alias, union}
use Rattle.plan.specs.declared.fault.Question.TheVariants.{Bounded}
use Rattle.value.specs.Meanings.{meaning_of}
use Rattle.value.specs.declared.Value.{Value}
use Rattle.engine.specs.Strictness.{Meaning}
use Rattle.terms.specs.Build.{numbers_in}
use Rattle.tables.specs.Holding.{tree_in, view_in}
use Rattle.looking.specs.Looking.{entry_count}
use Rattle.stored.specs.Stored.{run_exprs}
use Rattle.book.specs.Opened.{book_of}
use Rattle.book.specs.declared.opened.OpenBook.{OpenBook}
use Rattle.evaluate.specs.Evaluating.{Means, asked, shown_by}
use Rattle.reporting.specs.declared.Outcome.{Outcome}
use Rattle.reporting.specs.declared.Report.{Report}

abbrev pub ValueOf : Model → Meaning → List ℕ → ℕ → ℕ → List Value → Value → Type 0
ValueOf m meaning text e p row v =
    Means meaning m.text text (shown_by m p) (map (meaning_of m.text text) row) (expr_in m.exprs e) (meaning_of m.text text v)

abbrev pub is_projection : Plan → Bool
is_projection (table k q ns) = false
is_projection (projection es p) = true
is_projection (filter e p) = false
is_projection (sort ks p) = false
is_projection (limit s c p) = false
is_projection (aggregate gs ts p) = false
is_projection (join k cs l r) = false
is_projection (subquery_alias n p) = false
is_projection (union p ps) = false

-- a filter over a projection
abbrev pub is_report : Plan → Bool
is_report (table k q ns) = false
is_report (projection es p) = false
is_report (filter e p) = is_projection p
is_report (sort ks p) = false
is_report (limit s c p) = false
is_report (aggregate gs ts p) = false
is_report (join k cs l r) = false
is_report (subquery_alias n p) = false
is_report (union p ps) = false

abbrev pub Reads : OpenBook → ℕ → Report → Type 0
Reads b p r =
    (tree_in b.tables p ≡ filter (expr_in (book_of b).exprs r.predicate.0) (tree_in b.tables r.projection.0))
    × (tree_in b.tables r.projection.0 ≡ projection (run_exprs (view_in b.tables) r.list) (tree_in b.tables r.input.0))

-- the number of the expression at a place of the report's projection
abbrev pub column_of : OpenBook → Report → ℕ → ℕ
column_of b r i = slice_index (numbers_in (view_in b.tables).entries r.list.first r.list.count) i

-- the place is in the projection's list, and then what evaluate asks
abbrev pub column_asked : OpenBook → Report → ℕ → ℕ → List Asked
column_asked b r i width =
    (Bounded, nat_le (r.list.first + r.list.count) (entry_count b.tables) && nat_lt i r.list.count)
    ∷ asked (book_of b) (column_of b r i) r.input.0 width 256

-- both columns, and then the filter on the row of two values that they give
abbrev pub outcome_asked : OpenBook → Report → ℕ → List Asked
outcome_asked b r width =
    column_asked b r 0 width ++ column_asked b r 1 width ++ asked (book_of b) r.predicate.0 r.projection.0 2 256

abbrev pub Gives : OpenBook → Meaning → List ℕ → Report → List Value → Outcome → Type 0
Gives b meaning text r row o =
    ValueOf (book_of b) meaning text (column_of b r 0) r.input.0 row o.event
    × ValueOf (book_of b) meaning text (column_of b r 1) r.input.0 row o.start
    × ValueOf (book_of b) meaning text r.predicate.0 r.projection.0 (o.event ∷ o.start ∷ []) o.filter
