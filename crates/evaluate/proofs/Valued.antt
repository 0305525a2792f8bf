-- What an expression means on a row, part by part, and how much scratch it takes.
use Rattle.std.proofs.Common.{◌≡◌, ℕ, zero, suc, ◌+◌, ◌<◌, ◌≤◌, true, List, [], ◌∷◌, ◌++◌, map, length, get_or, take, set, sym, refl, ap, ◌∙◌, ap₂, arith}
use Rattle.std.proofs.lemmas.List.{get_or-map, length-map, map_push, take_more, take_more_set}
use Rattle.plan.specs.Fields.{resolved}
use Rattle.plan.specs.Model.{expr_in, no_expr}
use Rattle.plan.specs.Terms.{Expr, Exprs, Field, Literal, arguments, size_of, sizes_of}
use Rattle.plan.specs.Terms.Expr.{alias, call, literal, reference}
use Rattle.plan.specs.Terms.Exprs.{more, none}
use Rattle.plan.specs.Values.{Value}
use Rattle.plan.specs.Values.Value.{null}
use Rattle.table.specs.Contents.{part}
use Rattle.table.proofs.Parts.{length_part}
use Rattle.terms.specs.Build.{inside_node}
use Rattle.entries.specs.Entries.{entry_number}
use Rattle.terms.specs.Views.{tree_for, tree_of, view_of}
use Rattle.entries.specs.declared.node.Entry.{Entry}
use Rattle.entries.specs.declared.node.ExprNode.TheVariants.{Call}
use Rattle.entries.specs.declared.node.Run.{Run}
use Rattle.terms.specs.declared.terms.Terms.{Terms}
use Rattle.lexicon.proofs.Frames.{every-at}
use Rattle.terms.proofs.Walks.{argument, call-of, counted, entry_trees, long, resolved-arguments}
use Rattle.rows.specs.Rows.{literal_value, seek, value_in, values_in}
use Rattle.rows.specs.Worlds.{Row, World, applied}
use Rattle.evaluate.specs.Evaluating.{bare}

module _ (w : World) (fs : List Field) (row : Row) where
  pub of-literal : (v : Literal) → value_in w fs row (literal v) ≡ literal_value v
  unfolding value_in
  of-literal v = refl

  pub of-reference : (r : Field) → value_in w fs row (reference r) ≡ get_or row (seek r fs) null
  unfolding value_in
  of-reference r = refl

  pub of-alias : (e : Expr) (f : Field) → value_in w fs row (alias e f) ≡ value_in w fs row e
  unfolding value_in
  of-alias e f = refl

  of-list : (es : List Expr) → values_in w fs row (arguments es) ≡ map (value_in w fs row) es
  unfolding value_in
  of-list [] = refl
  of-list (e ∷ es) = ap (λ vs. value_in w fs row e ∷ vs) (of-list es)

  pub of-call : (n : ℕ) (es : List Expr) → value_in w fs row (call n (arguments es)) ≡ applied w n (map (value_in w fs row) es)
  unfolding value_in
  of-call n es = ap (applied w n) (of-list es)

-- of a world only the engine and the texts matter
module _ (w : World) (fs : List Field) (row : Row) where
  mutual
    unfolding value_in

    same-bare : (e : Expr) → value_in w fs row e ≡ value_in (bare w.meaning w.book_text w.row_text) fs row e
    same-bare (literal v) = refl
    same-bare (reference r) = refl
    same-bare (alias e f) = same-bare e
    same-bare (call n es) = ap (applied w n) (same-bares es)

    same-bares : (es : Exprs) → values_in w fs row es ≡ values_in (bare w.meaning w.book_text w.row_text) fs row es
    same-bares none = refl
    same-bares (more e es) = ap₂ (λ v vs. v ∷ vs) (same-bare e) (same-bares es)

  pub same-world : (meaning : List ℕ → List ℕ → ℕ → List Value → Value) (book text : List ℕ) → w.meaning ≡ meaning → w.book_text ≡ book → w.row_text ≡ text → (e : Expr) → value_in (bare meaning book text) fs row e ≡ value_in w fs row e
  same-world meaning book text p q r e =
      sym (same-bare e ∙ ap (λ m. value_in (bare m w.book_text w.row_text) fs row e) p ∙ ap (λ b. value_in (bare meaning b w.row_text) fs row e) q ∙ ap (λ t. value_in (bare meaning book t) fs row e) r)

-- a tree has a node
some_size : (e : Expr) → 1 ≤ size_of e
some_size (literal v) = omega arith
some_size (reference f) = omega arith
some_size (alias e f) = omega arith
some_size (call n es) = omega arith

-- a place for each argument
pub places : (es : List Expr) → length es ≤ sizes_of (arguments es)
places [] = omega arith
places (e ∷ es) = omega (arith, some_size e, places es)

-- beside those places, each argument has room for its own tree
pub beside : (es : List Expr) (i : ℕ) (d : Expr) → i < length es → size_of (get_or es i d) + length es ≤ sizes_of (arguments es) + 1
beside [] i d lt = absurd (omega arith)
beside (e ∷ es) zero d lt = omega (arith, places es)
beside (e ∷ es) (suc i) d lt = omega (arith, some_size e, beside es i d (omega arith))

-- one value more, of the next argument
pub one_more : {X : Type 0} (m : X → Value) (f : Expr → Value) (xs : List X) (es : List Expr) (i : ℕ) (x : X) (d : Expr) → i < length xs → i < length es
    → map m (take i xs) ≡ map f (take i es) → m x ≡ f (get_or es i d) → map m (take (i + 1) (set xs i x)) ≡ map f (take (i + 1) es)
one_more m f xs es i x d lt in-es inv h =
    ap (map m) (take_more_set xs i x lt) ∙ map_push m (take i xs) x ∙ ap₂ (λ vs v. vs ++ v ∷ []) inv h ∙ sym (ap (map f) (take_more es i d in-es) ∙ map_push f (take i es) (get_or es i d))

-- what the walk knows of a call e whose arguments are the entries xs of the list table
module _ (t : Terms) (e f : ℕ) (run : Run) (xs : List Entry) (items : xs ≡ part (view_of t).entries run.first run.count) (inside : inside_node (view_of t).bytes (view_of t).entries e (Call f run) ≡ true) (tree : tree_of t e ≡ tree_for t (Call f run)) where
  pub enough : (room : ℕ) → size_of (tree_of t e) ≤ room → run.count ≤ room
  enough room h = omega (arith, places (entry_trees t xs), long t xs, counted t e f run xs items inside tree, ap size_of (call-of t e f run xs items inside tree))

  module _ (i a : ℕ) (d : Entry) (lt : i < length xs) (is : a ≡ entry_number (get_or xs i d)) where
    pub argument-resolved : (fs : List Field) → resolved fs (tree_of t e) ≡ true → resolved fs (tree_of t a) ≡ true
    argument-resolved fs h =
        ap (resolved fs) (argument t e f run xs items inside tree i a d lt is)
        ∙ every-at (resolved fs) (entry_trees t xs) i no_expr (omega (arith, lt, long t xs)) (sym (resolved-arguments fs (entry_trees t xs)) ∙ sym (ap (resolved fs) (call-of t e f run xs items inside tree)) ∙ h)

    pub argument-room : (room rest : ℕ) → size_of (tree_of t e) ≤ room → rest + run.count ≡ room → size_of (tree_of t a) ≤ rest
    argument-room room rest h k =
        omega (arith, beside (entry_trees t xs) i no_expr (omega (arith, lt, long t xs)), long t xs, counted t e f run xs items inside tree, ap size_of (call-of t e f run xs items inside tree), ap size_of (argument t e f run xs items inside tree i a d lt is))
