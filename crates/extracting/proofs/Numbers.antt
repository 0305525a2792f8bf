-- How far the numbers of a book go: as far as those of its expressions and of its nodes. And how far they go with one expression more.
use Rattle.std.proofs.Common.{◌≡◌, ℕ, suc, ◌<◌, ◌≤◌, max, List, [], ◌∷◌, ◌++◌, ap, ap₂, ◌∙◌, arith}
use Rattle.std.specs.List.{flat_map}
use Rattle.numbering.proofs.Highest.{at-below, highest-append, highest-from, highest-none, highest-one}
use Rattle.numbering.proofs.Places.{no-expr-below, of-list}
use Rattle.plan.specs.Model.{Model, expr_in, exprs_in, no_expr}
use Rattle.plan.specs.Names.{most_number}
use Rattle.plan.specs.Rendering.{unqualified_field}
use Rattle.plan.specs.Terms.{Expr, Field, arguments}
use Rattle.plan.specs.Terms.Expr.{alias, call, reference}
use Rattle.rewriting.specs.Generated.{book_names, expr_names, exprs_names, field_names, generated, highest, list_names, next_number, node_names, qualifier_names}
use Rattle.rewriting.proofs.Fresh.{number-generated}
use Rattle.extracting.specs.Walking.{Numbered}

next-is : (m : Model) → next_number m ≡ suc (max 99999999 (max (highest 0 (list_names m.exprs)) (highest 0 (node_names m.functions m.plans))))
unfolding next_number book_names
next-is m = omega (arith, highest-from 99999999 (list_names m.exprs ++ node_names m.functions m.plans), highest-append (list_names m.exprs) (node_names m.functions m.plans))

-- one expression more
names-push : (es : List Expr) (e : Expr) → highest 0 (list_names (es ++ e ∷ [])) ≡ max (highest 0 (list_names es)) (highest 0 (expr_names e))
unfolding list_names
names-push [] e = omega (arith, highest-append (expr_names e) [], highest-none)
names-push (d ∷ es) e = omega (arith, highest-append (expr_names d) (list_names (es ++ e ∷ [])), highest-append (expr_names d) (list_names es), names-push es e)

module _ (m m' : Model) (e : Expr) (functions : m'.functions ≡ m.functions) (exprs : m'.exprs ≡ m.exprs ++ e ∷ []) (plans : m'.plans ≡ m.plans) where
  next-pushed : next_number m' ≡ max (next_number m) (suc (highest 0 (expr_names e)))
  next-pushed = omega (arith, next-is m, next-is m', ap (λ l. highest 0 (list_names l)) exprs, names-push m.exprs e, ap₂ (λ F ns. highest 0 (node_names F ns)) functions plans)

  pub numbered-push : (n : ℕ) → highest 0 (expr_names e) < max n (next_number m) → Numbered m n m'
  numbered-push n h k a b = omega (arith, next-pushed)

-- expressions of the book, and what is made of them
pub expr-number : (m : Model) (i : ℕ) → highest 0 (expr_names (expr_in m.exprs i)) < next_number m
expr-number m i =
    let n = highest 0 (flat_map expr_names m.exprs) in
    omega (arith, next-is m, at-below n expr_names no_expr (no-expr-below n) m.exprs i (omega arith), ap (highest 0) (of-list m.exprs))

pub alias-number : (m : Model) (i j : ℕ) (d : Expr) (f : Field) → expr_in m.exprs i ≡ alias d f → highest 0 (expr_names (alias (expr_in m.exprs j) f)) < next_number m
unfolding expr_names
alias-number m i j d f is =
    omega (arith, highest-append (field_names f) (expr_names d), highest-append (field_names f) (expr_names (expr_in m.exprs j)), expr-number m i, expr-number m j, ap (λ e. highest 0 (expr_names e)) is)

arguments-number : (m : Model) (ns : List ℕ) → highest 0 (exprs_names (arguments (exprs_in m.exprs ns))) < next_number m
unfolding exprs_names
arguments-number m [] = omega (arith, next-is m, highest-none)
arguments-number m (i ∷ ns) = omega (arith, highest-append (expr_names (expr_in m.exprs i)) (exprs_names (arguments (exprs_in m.exprs ns))), expr-number m i, arguments-number m ns)

pub call-number : (m : Model) (n : ℕ) (ns : List ℕ) → highest 0 (expr_names (call n (arguments (exprs_in m.exprs ns)))) < next_number m
unfolding expr_names
call-number m n ns = arguments-number m ns

-- a reference to an alias
pub column-number : (k : ℕ) → k ≤ most_number → highest 0 (expr_names (reference (unqualified_field (generated k)))) ≡ k
unfolding expr_names field_names qualifier_names
column-number k h = highest-one (generated k) ∙ number-generated k h

-- one step after another
pub numbered-here : (a : Model) (n : ℕ) → Numbered a n a
numbered-here a n k h l = h

pub numbered-more : (a b : Model) (n n' : ℕ) → n ≤ n' → Numbered a n b → Numbered a n' b
numbered-more a b n n' le g k h l = g k h (omega arith)

pub numbered-built : (a b c : Model) (n : ℕ) → Numbered a n b → Numbered b 0 c → Numbered a n c
numbered-built a b c n g h k l le = h k (g k l le) (omega arith)

pub numbered-turn : (a b c : Model) (n n' n'' : ℕ) → n ≤ n' → n' ≡ n'' → Numbered a n b → Numbered b n' c → Numbered a n'' c
numbered-turn a b c n n' n'' le is g h k l ge = h k (g k l (omega arith)) (omega arith)
