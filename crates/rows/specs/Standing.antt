-- When one plan stands for another, and when two are the same.
--     Means r fs i, Known fs e, Lawful fs      the reference r means the field at i and no other; every reference does; every field does
--     Stands fs σ R P      R has P's rows, in order, with P's fields at the places σ
--     Same fs A B      the same fields, and in every world that fits the same rows
--     Good fs p      every node of p passes the questions of its building call
use Rattle.std.specs.Prelude.{◌≡◌, ℕ, zero, suc, ◌<◌, Bool, true, false, ◌&&◌, T, List, [], ◌∷◌, map, length, get_or, ◌==◌, slice_index_or}
use Rattle.std.specs.List.{AllByRecursion}
use Rattle.plan.specs.Terms.{Field, Expr, Exprs}
use Rattle.plan.specs.Terms.Expr.{literal, reference, alias, call}
use Rattle.plan.specs.Terms.Exprs.{none, more}
use Rattle.plan.specs.Functions.{Functions, is_total}
use Rattle.plan.specs.Rendering.{unqualified_field}
use Rattle.plan.specs.Fields.{every, resolved, lawful}
use Rattle.plan.specs.Plans.{Plan, Plans, fields_of}
use Rattle.plan.specs.Plans.Plan.{table, projection, filter, sort, limit, aggregate, join, subquery_alias, union}
use Rattle.plan.specs.Plans.Plans.{done, also}
use Rattle.plan.specs.Questions.{expressions_of, input_fields, joint_fields, limited}
use Rattle.plan.specs.Values.{null}
use Rattle.plan.specs.declared.code.JoinKind.{JoinKind}
use Rattle.plan.specs.declared.code.JoinKind.TheVariants.{Inner, Left, Right, Full, LeftSemi, LeftAnti, RightSemi, RightAnti}
use Rattle.rows.specs.Worlds.{Row, Fitting}
use Rattle.rows.specs.Rows.{may_mean, seek, rows_of}

abbrev pub at : List Field → ℕ → Field
at fs i = slice_index_or fs i (unqualified_field [])

pub record Means (r : Field) (fs : List Field) (i : ℕ) : Type 0 where
  pub inside : i < length fs
  pub meant : T (may_mean r (at fs i))
  pub sole : (j : ℕ) → j < length fs → T (may_mean r (at fs j)) → j ≡ i

-- every reference of an expression means one field
abbrev mutual
  pub Known : List Field → Expr → Type 0
  Known fs (literal v) = Unit {0}
  Known fs (reference r) = Means r fs (seek r fs)
  Known fs (alias e f) = Known fs e
  Known fs (call n es) = Knowns fs es

  pub Knowns : List Field → Exprs → Type 0
  Knowns fs none = Unit {0}
  Knowns fs (more e es) = Known fs e × Knowns fs es

-- each field is the only one that a reference to it may mean
abbrev pub Lawful : List Field → Type 0
Lawful fs = AllByRecursion (λ f. Known fs (reference f)) fs

unfoldable pub pick : List ℕ → Row → Row
pick σ row = map (λ i. get_or row i null) σ

-- σ takes each place of ps to a place of rs whose field a reference to the first may mean
abbrev pub Covers : List Field → List ℕ → List Field → Type 0
Covers rs [] [] = Unit {0}
Covers rs [] (p ∷ ps) = ⊥
Covers rs (k ∷ σ) [] = ⊥
Covers rs (k ∷ σ) (p ∷ ps) = (k < length rs) × T (may_mean p (at rs k)) × Covers rs σ ps

pub record Stands (F : Functions) (σ : List ℕ) (R P : Plan) : Type 0 where
  pub covers : Covers (fields_of F R) σ (fields_of F P)
  pub alike : (W : Fitting F) → rows_of F W.world P ≡ map (pick σ) (rows_of F W.world R)

pub record Same (F : Functions) (A B : Plan) : Type 0 where
  pub fields_same : fields_of F A ≡ fields_of F B
  pub rows_same : (W : Fitting F) → rows_of F W.world A ≡ rows_of F W.world B

abbrev pub refs : List Field → List Expr
refs fs = map reference fs

-- n places from k on
abbrev pub up_from : ℕ → ℕ → List ℕ
up_from k zero = []
up_from k (suc n) = k ∷ up_from (suc k) n

-- a column of the left side may be null by a pad, in these joins; and of the right side
unfoldable pub pads_left : JoinKind → Bool
pads_left Inner = false
pads_left Left = false
pads_left Right = true
pads_left Full = true
pads_left LeftSemi = false
pads_left LeftAnti = false
pads_left RightSemi = false
pads_left RightAnti = false

unfoldable pub pads_right : JoinKind → Bool
pads_right Inner = false
pads_right Left = true
pads_right Right = false
pads_right Full = true
pads_right LeftSemi = false
pads_right LeftAnti = false
pads_right RightSemi = false
pads_right RightAnti = false

-- the further inputs of a Union are as wide as the first
unfoldable pub wide_all : Functions → ℕ → Plans → Bool
wide_all F n done = true
wide_all F n (also i is) = length (fields_of F i) == n && wide_all F n is

-- what a node passed when it was made: questions 6 to 8
pub record Passed (F : Functions) (p : Plan) : Type 0 where
  pub resolves : T (every (resolved (input_fields F p)) (expressions_of p))
  pub lists : T (lawful (joint_fields F p))
  pub limits : T (limited F p)

-- and questions 3 and 4 where they speak of trees: an Aggregate's totals, and a Union's widths
abbrev mutual
  pub Good : Functions → Plan → Type 0
  Good F (table k q ns) = Passed F (table k q ns)
  Good F (projection es i) = Passed F (projection es i) × Good F i
  Good F (filter e i) = Passed F (filter e i) × Good F i
  Good F (sort ks i) = Passed F (sort ks i) × Good F i
  Good F (limit s c i) = Passed F (limit s c i) × Good F i
  Good F (aggregate gs ts i) = Passed F (aggregate gs ts i) × Good F i × T (every (is_total F) ts)
  Good F (join k cs l r) = Passed F (join k cs l r) × Good F l × Good F r
  Good F (subquery_alias n i) = Passed F (subquery_alias n i) × Good F i
  Good F (union i is) = Passed F (union i is) × Good F i × Goods F is × T (wide_all F (length (fields_of F i)) is)

  pub Goods : Functions → Plans → Type 0
  Goods F done = Unit {0}
  Goods F (also i is) = Good F i × Goods F is
