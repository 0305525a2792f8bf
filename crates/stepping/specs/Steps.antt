-- Steps of a call that builds several nodes, as what they come to by the definitions on trees.
--     Buildable t n      a node of a kind that these steps make; the totals of an Aggregate are totals
--     AllGood m      every node of the book passed its questions
--     Extends m m'      expressions and nodes were put behind those that there were; each new node is its own origin
--     Start m low u n      from u on, n was spent, and no name of the book has the number n.next or a higher one; n.next is low or more
--     Stood m u R r n m'      the node r is the tree R, and n was spent from u on
--     NoSpace u o f      9, at any stage, where what o spends does not fit u
--     Steps m low o r m'      the answer r and the book m' that o comes to, from every such start
use Rattle.std.specs.Prelude.{◌≡◌, ℕ, ◌+◌, ◌<◌, ◌≤◌, true, false, ◌⊎◌, List, ◌++◌, length, get_or, Ok, Err, Result}
use Rattle.lexicon.specs.Begun.{Begins}
use Rattle.plan.specs.Fields.{every}
use Rattle.plan.specs.Functions.{is_total}
use Rattle.plan.specs.Model.{Model, Node, Space, Within, count_of, exprs_in, fits, no_node, tree_at}
use Rattle.plan.specs.Plans.{Plan}
use Rattle.plan.specs.declared.fault.Fault.{Fault}
use Rattle.plan.specs.declared.fault.Question.TheVariants.{Space as SpaceQuestion}
use Rattle.rows.specs.Standing.{Good}
use Rattle.rewriting.specs.Book.{spent_by}
use Rattle.rewriting.specs.Extracting.{Outcome, built, refused}
use Rattle.rewriting.specs.Generated.{next_number}
use Rattle.rewriting.specs.Outlay.{Tally}
use Rattle.tables.specs.Holding.{view_in}
use Rattle.terms.specs.Views.{numbers_of}
use Rattle.stored.specs.declared.node.NewNode.{NewNode}
use Rattle.stored.specs.declared.node.NewNode.TheVariants.{Table, Projection, Filter, Sort, Limit, Aggregate, Join, SubqueryAlias, Union}
use Rattle.entries.specs.declared.node.PlanId.{PlanId}
use Rattle.tables.specs.declared.tables.Tables.{Tables}

abbrev pub Buildable : Tables → NewNode → Type 0
Buildable t (Table q ns) = ⊥
Buildable t (Projection i l) = Unit {0}
Buildable t (Filter i e) = Unit {0}
Buildable t (Sort i ks) = Unit {0}
Buildable t (Limit i s c) = ⊥
Buildable t (Aggregate i gs us) = every (is_total (view_in t).functions) (exprs_in (view_in t).trees (numbers_of us.now)) ≡ true
Buildable t (Join k l r cs) = Unit {0}
Buildable t (SubqueryAlias i n) = ⊥
Buildable t (Union is) = ⊥

abbrev pub AllGood : Model → Type 0
AllGood m = (i : ℕ) → i < count_of m → Good m.functions (tree_at m i)

pub record Extends (m m' : Model) : Type 0 where
  pub functions : m'.functions ≡ m.functions
  pub exprs : Begins m.exprs m'.exprs
  pub text : Begins m.text m'.text
  pub inputs : Begins m.inputs m'.inputs
  pub nodes : List Node
  pub plans : m'.plans ≡ m.plans ++ nodes
  pub origins : (k : ℕ) → k < length nodes → (get_or nodes k no_node).origin ≡ count_of m + k
  pub good : AllGood m → AllGood m'

pub record Start (m : Model) (low : ℕ) (u : Space) (n : Tally) : Type 0 where
  pub spent : Within u n.spent m.used
  pub least : low ≤ n.next
  pub numbers : next_number m ≤ n.next

pub record Stood (m : Model) (u : Space) (R : Plan) (r : ℕ) (n : Tally) (m' : Model) : Type 0 where
  pub present : r < count_of m'
  pub tree : tree_at m' r ≡ R
  pub extends : Extends m m'
  pub spent : Within u n.spent m'.used
  pub numbers : next_number m' ≤ n.next

abbrev pub NoSpace : Space → Outcome → Fault → Type 0
NoSpace u o f = (f.question ≡ SpaceQuestion) × (fits u (spent_by o) ≡ false)

abbrev pub Steps : Model → ℕ → (Tally → Outcome) → Result PlanId Fault → Model → Type 0
Steps m low o (Ok r) m' = (u : Space) (n : Tally) → Start m low u n → (R : Plan) × (k : Tally) × (o n ≡ built R k) × (n.next ≤ k.next) × Stood m u R r.0 k m'
Steps m low o (Err f) m' = (u : Space) (n : Tally) → Start m low u n → ((k : Tally) × (o n ≡ refused f k)) ⊎ NoSpace u (o n) f
