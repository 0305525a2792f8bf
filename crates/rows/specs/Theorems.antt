-- What holds of rows, in the words of SQL; each is the contract of a function in src/lib.rt.
--     RowsAreAsWide      every row has one value for each field
--     FiltersKeepBoth      a Filter over a Filter keeps the rows that pass both
--     LeftPadsInner      a Left join has the Inner join's rows, and each left row without a match once
--     SemiAndAntiSplit      a semi join and an anti join share the rows of the side that they name
--     LiteralsAreThemselves      a literal's value is the literal, a real that an f64 can hold included
--     NullKeepingIsNull      a null-keeping expression is null on a row of nulls
use Rattle.std.specs.Prelude.{◌≡◌, ℕ, ◌+◌, Bool, true, cond, not, ◌&&◌, T, List, [], ◌∷◌, ◌++◌, length}
use Rattle.std.specs.Float.{binary64}
use Rattle.std.specs.Float.Ieee.{fits}
use Rattle.std.specs.List.{AllByRecursion}
use Rattle.plan.specs.Fields.{any}
use Rattle.plan.specs.Functions.{Functions, null_keeping}
use Rattle.plan.specs.Plans.{Plan, fields_of}
use Rattle.plan.specs.Plans.Plan.{filter, join}
use Rattle.plan.specs.Terms.{Expr, Field, Literal}
use Rattle.plan.specs.Terms.Literal.{null as null_literal, real as real_literal, text as text_literal, truth as truth_literal, whole as whole_literal}
use Rattle.plan.specs.Values.{null, value_of}
use Rattle.plan.specs.declared.code.JoinKind.TheVariants.{Inner, Left, LeftAnti, LeftSemi, RightAnti, RightSemi}
use Rattle.rows.specs.Lists.{keep, each}
use Rattle.rows.specs.Rows.{holds, literal_value, matches, nulls, pairs, rows_of, value_in}
use Rattle.rows.specs.Worlds.{Row, World, Fitting}

abbrev pub RowsAreAsWide : Type 0
RowsAreAsWide = (F : Functions) (W : Fitting F) (p : Plan) → AllByRecursion (λ row. length row ≡ length (fields_of F p)) (rows_of F W.world p)

abbrev pub FiltersKeepBoth : Type 0
FiltersKeepBoth = (F : Functions) (w : World) (d e : Expr) (p : Plan)
    → rows_of F w (filter d (filter e p)) ≡ keep (λ row. holds w (fields_of F p) e row && holds w (fields_of F p) d row) (rows_of F w p)

-- the match of a Join's rows
abbrev pub matched : Functions → World → List Expr → Plan → Plan → Row → Row → Bool
matched F w cs l r = matches w (fields_of F l ++ fields_of F r) cs

abbrev pub LeftPadsInner : Type 0
LeftPadsInner = (F : Functions) (w : World) (cs : List Expr) (l r : Plan)
    → (rows_of F w (join Inner cs l r) ≡ each (λ row. pairs (matched F w cs l r) (row ∷ []) (rows_of F w r)) (rows_of F w l))
    × (rows_of F w (join Left cs l r)
    ≡ each (λ row. cond (any (matched F w cs l r row) (rows_of F w r)) (pairs (matched F w cs l r) (row ∷ []) (rows_of F w r)) ((row ++ nulls (length (fields_of F r))) ∷ [])) (rows_of F w l))

-- of all rows, some pass a test and the others do not
pub record Split (test : Row → Bool) (all some others : List Row) : Type 0 where
  pub count : length some + length others ≡ length all
  pub pass : AllByRecursion (λ row. T (test row)) some
  pub fail : AllByRecursion (λ row. T (not (test row))) others

abbrev pub SemiAndAntiSplit : Type 0
SemiAndAntiSplit = (F : Functions) (w : World) (cs : List Expr) (l r : Plan)
    → Split (λ row. any (matched F w cs l r row) (rows_of F w r)) (rows_of F w l) (rows_of F w (join LeftSemi cs l r)) (rows_of F w (join LeftAnti cs l r))
    × Split (λ row. any (λ other. matched F w cs l r other row) (rows_of F w l)) (rows_of F w r) (rows_of F w (join RightSemi cs l r)) (rows_of F w (join RightAnti cs l r))

abbrev pub NullKeepingIsNull : Type 0
NullKeepingIsNull = (F : Functions) (W : Fitting F) (fs : List Field) (n : ℕ) (e : Expr) → T (null_keeping F e) → value_in W.world fs (nulls n) e ≡ null

-- a real that an f64 can hold
abbrev pub of_format : Literal → Bool
of_format null_literal = true
of_format (truth_literal b) = true
of_format (whole_literal n) = true
of_format (real_literal x) = fits binary64 x
of_format (text_literal t) = true

abbrev pub LiteralsAreThemselves : Type 0
LiteralsAreThemselves = (v : Literal) → T (of_format v) → literal_value v ≡ value_of v
