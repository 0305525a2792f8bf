-- What extract and push spend: all that their rules build, trials included. An expression tree is counted in full, once, where a rule builds it, whatever
-- it shares; a plan node with its fields and the entries of its lists, when it is asked for.
--     Tally      the next number for an alias, and the places spent so far
--     tree_space e, list_space es      the places of an expression tree, of a list of them
-- The places of a node without its expressions and inputs are `own_space` of the plan crate.
use Rattle.std.specs.Prelude.{ℕ, ◌+◌, List, [], ◌∷◌, length, sum_by}
use Rattle.plan.specs.Terms.{Expr, Exprs, size_of}
use Rattle.plan.specs.Terms.Expr.{literal, reference, alias, call}
use Rattle.plan.specs.Terms.Exprs.{none, more}
use Rattle.plan.specs.Model.{Space, plus, space}
use Rattle.rewriting.specs.Generated.{expr_names}

pub record Tally : Type 0 where
  pub next : ℕ
  pub spent : Space

abbrev pub nothing : Space
nothing = space 0 0 0 0 0

-- a call lists its arguments
unfoldable mutual
  pub entries_of : Expr → ℕ
  entries_of (literal v) = 0
  entries_of (reference f) = 0
  entries_of (alias e f) = entries_of e
  entries_of (call n es) = entries_of_all es

  pub entries_of_all : Exprs → ℕ
  entries_of_all none = 0
  entries_of_all (more e es) = 1 + (entries_of e + entries_of_all es)

unfoldable pub tree_space : Expr → Space
tree_space e = space (size_of e) 0 (entries_of e) 0 (sum_by length (expr_names e))

unfoldable pub list_space : List Expr → Space
list_space [] = nothing
list_space (e ∷ es) = plus (tree_space e) (list_space es)

unfoldable pub start_at : ℕ → Tally
start_at n = record { next = n; spent = nothing }

unfoldable pub charged : Space → Tally → Tally
charged x t = record { next = t.next; spent = plus t.spent x }

-- after a walk that went on to the number n and built the list es
unfoldable pub after_walk : List Expr → ℕ → Tally → Tally
after_walk es n t = record { next = n; spent = plus t.spent (list_space es) }
