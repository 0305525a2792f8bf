-- Calls that are equal: their functions, and their arguments one by one, as a loop finds it.
use Rattle.std.proofs.Common.{◌≡◌, ℕ, ◌+◌, ◌<◌, ◌≤◌, Bool, true, false, ◌&&◌, List, [], ◌∷◌, length, get_or, drop, ◌==◌, sym, refl, ap, ap₂, ◌∙◌, arith}
use Rattle.std.proofs.lemmas.Bool.{eq-eqb, ne_eqb}
use Rattle.table.specs.Contents.{part}
use Rattle.plan.specs.Model.{no_expr}
use Rattle.terms.specs.Build.{inside_node}
use Rattle.entries.specs.Entries.{entry_number}
use Rattle.terms.specs.Views.{tree_for, tree_of, view_of}
use Rattle.entries.specs.declared.node.Entry.{Entry}
use Rattle.entries.specs.declared.node.ExprNode.TheVariants.{Call}
use Rattle.entries.specs.declared.node.Run.{Run}
use Rattle.terms.specs.declared.terms.Terms.{Terms}
use Rattle.terms.proofs.Walks.{argument, call-of, counted, entry_trees, long, lower}
use Rattle.std.proofs.lemmas.List.{at_drop_more, at_drop_all}
use Rattle.plan.specs.Terms.{Expr, arguments, same_expr, same_exprs}

-- so many on one side and so many on the other
pub of-lengths : (ts us : List Expr) → (length ts ≡ length us → ⊥) → same_exprs (arguments ts) (arguments us) ≡ false
of-lengths [] [] h = absurd (h refl)
of-lengths [] (u ∷ us) h = refl
of-lengths (t ∷ ts) [] h = refl
of-lengths (t ∷ ts) (u ∷ us) h = ap (λ b. same_expr t u && b) (of-lengths ts us (λ e. h (omega (arith, e)))) ∙ and_false (same_expr t u)
  where
    and_false : (b : Bool) → (b && false) ≡ false
    and_false true = refl
    and_false false = refl

module _ (ts us : List Expr) (i : ℕ) where
  pub one_more : (d : Expr) → i < length ts → i < length us
      → same_exprs (arguments (drop i ts)) (arguments (drop i us)) ≡ (same_expr (get_or ts i d) (get_or us i d) && same_exprs (arguments (drop (i + 1) ts)) (arguments (drop (i + 1) us)))
  one_more d lt lu =
      at_drop_more (λ l. same_exprs (arguments l) (arguments (drop i us))) ts i d lt
      ∙ at_drop_more (λ l. same_exprs (arguments (get_or ts i d ∷ drop (i + 1) ts)) (arguments l)) us i d lu

  pub none_left : length ts ≤ i → length us ≤ i → same_exprs (arguments (drop i ts)) (arguments (drop i us)) ≡ true
  none_left le lf =
      at_drop_all (λ l. same_exprs (arguments l) (arguments (drop i us))) ts i le ∙ at_drop_all (λ l. same_exprs (arguments []) (arguments l)) us i lf

-- two calls a and b of the functions m and n, whose arguments are the entries xs and ys of the list table
module _ (t : Terms) (a b m n : ℕ) (first second : Run) (xs ys : List Entry) (xs-are : xs ≡ part (view_of t).entries first.first first.count) (ys-are : ys ≡ part (view_of t).entries second.first second.count)
    (a-in : inside_node (view_of t).bytes (view_of t).entries a (Call m first) ≡ true) (b-in : inside_node (view_of t).bytes (view_of t).entries b (Call n second) ≡ true)
    (a-is : tree_of t a ≡ tree_for t (Call m first)) (b-is : tree_of t b ≡ tree_for t (Call n second)) where
  pub compared : same_expr (tree_of t a) (tree_of t b) ≡ (m == n && same_exprs (arguments (entry_trees t xs)) (arguments (entry_trees t ys)))
  compared = ap₂ same_expr (call-of t a m first xs xs-are a-in a-is) (call-of t b n second ys ys-are b-in b-is)

  pub as-long : first.count ≡ second.count → length xs ≡ length ys
  as-long e = omega (arith, e, counted t a m first xs xs-are a-in a-is, counted t b n second ys ys-are b-in b-is)

  pub other-function : (m ≡ n → ⊥) → same_expr (tree_of t a) (tree_of t b) ≡ false
  other-function h = compared ∙ ap (λ c. c && same_exprs (arguments (entry_trees t xs)) (arguments (entry_trees t ys))) (ne_eqb m n h)

  pub other-count : m ≡ n → (first.count ≡ second.count → ⊥) → same_expr (tree_of t a) (tree_of t b) ≡ false
  other-count e h =
      compared ∙ ap₂ (λ c d. c && d) (eq-eqb m n e) (of-lengths (entry_trees t xs) (entry_trees t ys) (λ k. h (omega (arith, k, long t xs, long t ys, counted t a m first xs xs-are a-in a-is, counted t b n second ys ys-are b-in b-is))))

  -- one turn of the loop: x and y are the arguments at i
  module _ (i x y : ℕ) (d : Entry) (e : first.count ≡ second.count) (lt : i < length xs) (x-is : x ≡ entry_number (get_or xs i d)) (y-is : y ≡ entry_number (get_or ys i d)) where
    pub lower-first : x < a
    lower-first = lower t a m first xs xs-are a-in a-is i x d lt x-is

    pub lower-second : y < b
    lower-second = lower t b n second ys ys-are b-in b-is i y d (omega (arith, lt, as-long e)) y-is

    pub turn : same_exprs (arguments (drop i (entry_trees t xs))) (arguments (drop i (entry_trees t ys)))
        ≡ (same_expr (tree_of t x) (tree_of t y) && same_exprs (arguments (drop (i + 1) (entry_trees t xs))) (arguments (drop (i + 1) (entry_trees t ys))))
    turn =
        one_more (entry_trees t xs) (entry_trees t ys) i no_expr (omega (arith, lt, long t xs)) (omega (arith, lt, as-long e, long t ys))
        ∙ ap₂ (λ p q. same_expr p q && same_exprs (arguments (drop (i + 1) (entry_trees t xs))) (arguments (drop (i + 1) (entry_trees t ys))))
        (sym (argument t a m first xs xs-are a-in a-is i x d lt x-is)) (sym (argument t b n second ys ys-are b-in b-is i y d (omega (arith, lt, as-long e)) y-is))

  pub at-end : m ≡ n → first.count ≡ second.count → (i : ℕ) → length xs ≤ i → same_exprs (arguments (entry_trees t xs)) (arguments (entry_trees t ys)) ≡ same_exprs (arguments (drop i (entry_trees t xs))) (arguments (drop i (entry_trees t ys)))
      → same_expr (tree_of t a) (tree_of t b) ≡ true
  at-end e f i le h =
      compared ∙ ap₂ (λ c d. c && d) (eq-eqb m n e) (h ∙ none_left (entry_trees t xs) (entry_trees t ys) i (omega (arith, le, long t xs)) (omega (arith, le, as-long f, long t ys)))

  pub one-differs : m ≡ n → (rest : Bool) (i : ℕ) → same_exprs (arguments (entry_trees t xs)) (arguments (entry_trees t ys)) ≡ (false && rest) → same_expr (tree_of t a) (tree_of t b) ≡ false
  one-differs e rest i h = compared ∙ ap₂ (λ c d. c && d) (eq-eqb m n e) h
