-- The trees that the expression table stands for: each node is built over the trees before it.
--     build bytes entries ts r, trees bytes entries rs      one tree; all of them
--     inside bytes entries i r      the record at i names parts of the text, of the lists, and lower numbers only
use Rattle.std.specs.Prelude.{ℕ, ◌+◌, Bool, cond, ◌&&◌, List, [], ◌∷◌, map, length, ◌==◌, nat_le, nat_lt}
use Rattle.table.specs.Contents.{part}
use Rattle.table.specs.Fold.{built, all_ok}
use Rattle.plan.specs.Terms.{Expr, arguments}
use Rattle.plan.specs.Terms.Expr.{literal, reference, alias, call}
use Rattle.plan.specs.Functions.{Functions}
use Rattle.plan.specs.Rendering.{rendered}
use Rattle.plan.specs.Model.{expr_in, exprs_in}
use Rattle.plan.specs.Calls.{all_below}
use Rattle.entries.specs.Entries.{entry_number}
use Rattle.entries.specs.Spans.{literal_at, literal_in, stored_field, stored_in}
use Rattle.entries.specs.declared.node.Entry.{Entry}
use Rattle.entries.specs.declared.node.ExprNode.{ExprNode}
use Rattle.entries.specs.declared.node.ExprNode.TheVariants.{Constant, Reference, Alias, Call}
use Rattle.entries.specs.declared.node.ExprRecord.{ExprRecord}

abbrev pub numbers_in : List Entry → ℕ → ℕ → List ℕ
numbers_in entries first count = map entry_number (part entries first count)

abbrev pub build_node : List ℕ → List Entry → List Expr → ExprNode → Expr
build_node bytes entries ts (Constant l) = literal (literal_at bytes l)
build_node bytes entries ts (Reference f) = reference (stored_field bytes f)
build_node bytes entries ts (Alias inner f) = alias (expr_in ts inner.0) (stored_field bytes f)
build_node bytes entries ts (Call f run) = call f (arguments (exprs_in ts (numbers_in entries run.first run.count)))

abbrev pub build : List ℕ → List Entry → List Expr → ExprRecord → Expr
build bytes entries ts r = build_node bytes entries ts r.node

abbrev pub trees : List ℕ → List Entry → List ExprRecord → List Expr
trees bytes entries rs = built (build bytes entries) [] rs

abbrev pub inside_node : List ℕ → List Entry → ℕ → ExprNode → Bool
inside_node bytes entries i (Constant l) = literal_in bytes l
inside_node bytes entries i (Reference f) = stored_in bytes f
inside_node bytes entries i (Alias inner f) = nat_lt inner.0 i && stored_in bytes f
inside_node bytes entries i (Call f run) = nat_le (run.first + run.count) (length entries) && all_below i (numbers_in entries run.first run.count)

abbrev pub inside : List ℕ → List Entry → ℕ → ExprRecord → Bool
inside bytes entries i r = inside_node bytes entries i r.node

-- each record at its place
abbrev pub sound : List ℕ → List Entry → List ExprRecord → Bool
sound bytes entries rs = all_ok (inside bytes entries) 0 rs

abbrev pub width_of : Functions → Expr → ℕ
width_of fs e = length (rendered fs e)

-- what stands before the argument at i: a blank, but for the first
abbrev pub gap : ℕ → List ℕ
gap i = cond (i == 0) [] (32 ∷ [])
