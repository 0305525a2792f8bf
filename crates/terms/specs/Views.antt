-- What the expressions of a book are, as contracts speak of them.
--     View, view_of t      functions, trees, text and lists; those that t holds
--     grown v ts bs es      the view with these trees, bytes and entries behind
--     tree_of t e      the tree of an expression
--     AllPresent t ids, arguments_of t ids      expressions that stand in t; their trees as arguments
use Rattle.std.specs.Prelude.{◌≡◌, ℕ, true, List, ◌++◌, map, length}
use Rattle.plan.specs.Calls.{all_below}
use Rattle.plan.specs.Terms.{Expr, Exprs, arguments}
use Rattle.plan.specs.Functions.{Functions}
use Rattle.plan.specs.Model.{expr_in, exprs_in}
use Rattle.terms.specs.Build.{trees, build_node}
use Rattle.lexicon.specs.Lexicon.{text_of, functions_of}
use Rattle.entries.specs.declared.node.Entry.{Entry}
use Rattle.entries.specs.declared.node.ExprId.{ExprId}
use Rattle.entries.specs.declared.node.ExprNode.{ExprNode}
use Rattle.terms.specs.declared.terms.Terms.{Terms}

pub record View : Type 0 where
  pub functions : Functions
  pub trees : List Expr
  pub bytes : List ℕ
  pub entries : List Entry

abbrev pub view_of : Terms → View
view_of t = record {
  functions = functions_of t.lexicon;
  trees = trees (text_of t.lexicon) t.entries t.exprs;
  bytes = text_of t.lexicon;
  entries = t.entries;
}

abbrev pub grown : View → List Expr → List ℕ → List Entry → View
grown v ts bs es = record { functions = v.functions; trees = v.trees ++ ts; bytes = v.bytes ++ bs; entries = v.entries ++ es }

abbrev pub tree_of : Terms → ℕ → Expr
tree_of t e = expr_in (view_of t).trees e

abbrev pub count : Terms → ℕ
count t = length (view_of t).trees

-- the tree that a node would be
abbrev pub tree_for : Terms → ExprNode → Expr
tree_for t n = build_node (view_of t).bytes (view_of t).entries (view_of t).trees n

-- the numbers of a list of expressions
abbrev pub numbers_of : List ExprId → List ℕ
numbers_of ids = map (λ e. e.0) ids

-- each of a list of expressions stands in the book
abbrev pub AllPresent : Terms → List ExprId → Type 0
AllPresent t ids = all_below (count t) (numbers_of ids) ≡ true

-- their trees, as arguments of a call
abbrev pub arguments_of : Terms → List ExprId → Exprs
arguments_of t ids = arguments (exprs_in (view_of t).trees (numbers_of ids))
