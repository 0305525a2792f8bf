-- What a walk over an expression goes by: the arguments of a call, and what a call's references are.
use Rattle.std.proofs.Common.{◌≡◌, ℕ, ◌+◌, ◌<◌, ◌≤◌, Bool, true, false, not, ◌&&◌, ◌||◌, leb, List, [], ◌∷◌, ◌++◌, map, length, get_or, Option, sym, refl, ap, ◌∙◌, subst, arith}
use Rattle.std.proofs.lemmas.List.{length-map, get_or-map}
use Rattle.std.proofs.lemmas.List.Folds.{list_all-map}
use Rattle.std.proofs.lemmas.Bool.{and_parts, leb-true, ltb-true}
use Rattle.std.specs.List.{list_all, list_any}
use Rattle.std.specs.Iterator.{CallableAtEachTurn}
use Rattle.std.proofs.lemmas.Iterator.{YieldsList}
use Rattle.std.proofs.lemmas.Iterator.Adapters.{serves_from_places}
use Rattle.table.specs.Contents.{part}
use Rattle.table.proofs.Parts.{length_part}
use Rattle.plan.specs.Model.{expr_in, no_expr}
use Rattle.plan.specs.Terms.Expr.{call}
use Rattle.plan.specs.Terms.{Field, Expr, arguments, listed, references_of, references_of_all}
use Rattle.plan.specs.Fields.{any, every, resolves, resolved}
use Rattle.plan.specs.Functions.{function_at, is_total}
use Rattle.plan.specs.Questions.{small_tree}
use Rattle.plan.specs.Calls.{below, all_below, arity_is}
use Rattle.terms.specs.Acceptance.{acceptable, all_acceptable}
use Rattle.terms.specs.Build.{numbers_in, inside_node}
use Rattle.entries.specs.Entries.{entry_number}
use Rattle.entries.specs.declared.node.Entry.{Entry}
use Rattle.entries.specs.declared.node.ExprNode.TheVariants.{Call}
use Rattle.entries.specs.declared.node.Run.{Run}
use Rattle.terms.specs.declared.terms.Terms.{Terms}
use Rattle.terms.specs.Views.{count, tree_for, tree_of, view_of}
use Rattle.terms.proofs.Bounds.{few-arguments}
use Rattle.lexicon.proofs.Frames.{every-at}

pub record Called (es : List Entry) (e : ℕ) (run : Run) : Type 0 where
  pub long : run.first + run.count ≤ length es
  pub counts : length (numbers_in es run.first run.count) ≡ run.count
  pub lower : (k : ℕ) → k < run.count → get_or (numbers_in es run.first run.count) k 0 < e

pub called : (bs : List ℕ) (es : List Entry) (e f : ℕ) (run : Run) → inside_node bs es e (Call f run) ≡ true → Called es e run
called bs es e f run h =
    let ns = numbers_in es run.first run.count in
    let p = and_parts (leb (run.first + run.count) (length es)) (all_below e ns) h in
    let l = leb-true (run.first + run.count) (length es) p.0 in
    let n : length ns ≡ run.count = length-map (part es run.first run.count) entry_number ∙ length_part es run.first run.count l in
    record { long = l; counts = n; lower = λ k lt. ltb-true _ _ (every-at (below e) ns k 0 (omega arith) p.1) }

-- an entry of a call's list names a lower number
pub listed_lower : (bs : List ℕ) (es xs : List Entry) (e f : ℕ) (run : Run) (i : ℕ) (d : Entry) → inside_node bs es e (Call f run) ≡ true → xs ≡ part es run.first run.count → i < length xs → entry_number (get_or xs i d) < e
listed_lower bs es xs e f run i d h p lt =
    let a = called bs es e f run h in
    let l : i < run.count = omega (arith, lt, ap length p, length_part es run.first run.count a.long) in
    omega (arith, a.lower i l, ap (λ ys. get_or (map entry_number ys) i 0) p, get_or-map entry_number xs i d 0 lt)

pub every-both : {X : Type 0} (p : X → Bool) (xs ys : List X) → every p (xs ++ ys) ≡ (every p xs && every p ys)
every-both p [] ys = refl
every-both p (x ∷ xs) ys = ap (λ b. p x && b) (every-both p xs ys) ∙ and_assoc (p x) (every p xs) (every p ys)
  where
    and_assoc : (a b c : Bool) → (a && (b && c)) ≡ ((a && b) && c)
    and_assoc true b c = refl
    and_assoc false b c = refl

-- a test of each item, or of one, as a chain makes it
pub every-mapped : {X Y : Type 0} (p : Y → Bool) (f : X → Y) (xs : List X) → list_all (λ x. p (f x)) xs ≡ every p (map f xs)
every-mapped p f [] = refl
every-mapped p f (x ∷ xs) = ap (λ b. p (f x) && b) (every-mapped p f xs)

pub any-mapped : {X Y : Type 0} (p : Y → Bool) (f : X → Y) (xs : List X) → list_any (λ x. p (f x)) xs ≡ any p (map f xs)
any-mapped p f [] = refl
any-mapped p f (x ∷ xs) = ap (λ b. p (f x) || b) (any-mapped p f xs)

pub any-moved : {X Y : Type 0} (p : Y → Bool) (f : X → Y) (xs : List X) → any (λ x. p (f x)) xs ≡ any p (map f xs)
any-moved p f [] = refl
any-moved p f (x ∷ xs) = ap (λ b. p (f x) || b) (any-moved p f xs)

-- the same where a list is mapped twice
module _ {X Y Z : Type 0} (p : Z → Bool) (g : Y → Z) (f : X → Y) (xs : List X) where
  pub every-twice : list_all (λ x. p (g (f x))) xs ≡ every p (map g (map f xs))
  every-twice = sym (list_all-map (λ y. p (g y)) f xs) ∙ every-mapped p g (map f xs)

  pub any-twice : list_any (λ x. p (g (f x))) xs ≡ any p (map g (map f xs))
  any-twice = any-mapped (λ y. p (g y)) f xs ∙ any-moved p g (map f xs)

-- the number of an item, of a list whose numbers are all so low
pub item_below : {X : Type 0} (f : X → ℕ) (n : ℕ) (xs : List X) (i : ℕ) (d : X) → i < length xs → all_below n (map f xs) ≡ true → f (get_or xs i d) < n
item_below f n xs i d lt h =
    let e = get_or-map f xs i d (f d) lt in
    omega (arith, e, ltb-true _ _ (every-at (below n) (map f xs) i (f d) (omega (arith, length-map xs f)) h))

-- what a chain asks of its closure at each turn, where the numbers of all items are low
pub serves_low : {S A X F : Type 0} {steps : S → Option A → S → Type 0} {v : A → X} {s : S} {xs : List X} {R : F → A → F → Type 0} {Q : F → A → Type 0} {f : F} (num : X → ℕ) (n : ℕ)
    → YieldsList steps v s xs → all_below n (map num xs) ≡ true → ((x : A) (q : F) → R f x q → q ≡ f) → ((x : A) → num (v x) < n → Q f x) → CallableAtEachTurn steps R Q s f
serves_low {v = v} {xs = xs} num n road low stays asks =
    serves_from_places road stays (λ x k lt e. asks x (subst (λ y. num y < n) (sym e) (item_below num n xs k (v x) lt low)))

-- a call's references are those of its arguments
pub resolved-arguments : (fs : List Field) (ts : List Expr) → every (resolves fs) (references_of_all (arguments ts)) ≡ every (resolved fs) ts
resolved-arguments fs [] = refl
resolved-arguments fs (t ∷ ts) =
    every-both (resolves fs) (references_of t) (references_of_all (arguments ts)) ∙ ap (λ b. resolved fs t && b) (resolved-arguments fs ts)

pub listed-arguments : (ts : List Expr) → listed (arguments ts) ≡ ts
listed-arguments [] = refl
listed-arguments (t ∷ ts) = ap (λ l. t ∷ l) (listed-arguments ts)

-- the trees of a list of entries
abbrev pub entry_trees : Terms → List Entry → List Expr
entry_trees t xs = map (expr_in (view_of t).trees) (map entry_number xs)

pub long : (t : Terms) (xs : List Entry) → length (entry_trees t xs) ≡ length xs
long t xs = length-map (map entry_number xs) (expr_in (view_of t).trees) ∙ length-map xs entry_number

-- what the walk knows of a call e whose arguments are the entries xs of the list table
module _ (t : Terms) (e f : ℕ) (run : Run) (xs : List Entry) (items : xs ≡ part (view_of t).entries run.first run.count) (inside : inside_node (view_of t).bytes (view_of t).entries e (Call f run) ≡ true) (tree : tree_of t e ≡ tree_for t (Call f run)) where
  pub call-of : tree_of t e ≡ call f (arguments (entry_trees t xs))
  call-of = tree ∙ ap (λ l. call f (arguments (entry_trees t l))) (sym items)

  pub counted : length xs ≡ run.count
  counted = ap length items ∙ length_part (view_of t).entries run.first run.count (called (view_of t).bytes (view_of t).entries e f run inside).long

  -- a function takes at most four
  pub few : e < count t → length xs ≤ 4
  few lt =
      let fs = (view_of t).functions in
      let ts = entry_trees t xs in
      let es = arguments ts in
      let ok = sym (ap (acceptable fs) call-of) ∙ every-at (acceptable fs) (view_of t).trees e no_expr lt t.accepted in
      let p = and_parts (all_acceptable fs es) (arity_is (function_at fs f) (length (listed es)) && (not (any (is_total fs) (listed es)) && small_tree (call f es))) ok in
      let q = and_parts (arity_is (function_at fs f) (length (listed es))) (not (any (is_total fs) (listed es)) && small_tree (call f es)) p.1 in
      omega (arith, few-arguments fs f (length (listed es)) t.lexicon.good q.0, ap length (listed-arguments ts), long t xs)

  module _ (i a : ℕ) (d : Entry) (lt : i < length xs) (is : a ≡ entry_number (get_or xs i d)) where
    pub lower : a < e
    lower = omega (arith, is, listed_lower (view_of t).bytes (view_of t).entries xs e f run i d inside items lt)

    pub argument : tree_of t a ≡ get_or (entry_trees t xs) i no_expr
    argument =
        ap (tree_of t) (is ∙ sym (get_or-map entry_number xs i d 0 lt))
        ∙ sym (get_or-map (expr_in (view_of t).trees) (map entry_number xs) i 0 no_expr (omega (arith, lt, length-map xs entry_number)))
