-- What joins a list, on trees: a list that is past the limits stays so.
use Rattle.std.proofs.Common.{◌≡◌, ℕ, ◌+◌, ◌<◌, ◌≤◌, Bool, true, false, cond, ◌&&◌, ◌||◌, leb, T, List, [], ◌∷◌, ◌++◌, map, length, eqb, sym, refl, ap, ap₂, ◌∙◌, arith, length-append}
use Rattle.std.proofs.lemmas.Bool.{and_from, and_parts, le-leb, leb-true}
use mir.Facts.{and_yes}
use Rattle.plan.specs.Fields.{any, every}
use Rattle.plan.specs.Functions.{Functions}
use Rattle.plan.specs.Questions.{small_tree}
use Rattle.plan.specs.Rendering.{field_of}
use Rattle.plan.specs.Fields.{lawful}
use Rattle.plan.specs.Terms.{Expr, Exprs, Field, same_expr, same_exprs, same_field, size_of, sizes_of}
use Rattle.plan.specs.Terms.Expr.{alias, call, literal, reference}
use Rattle.plan.specs.Terms.Exprs.{more, none}
use Rattle.rewriting.specs.Extracting.{ReplaceMap, add_column, add_pair, replace_cols_by_name}
use Rattle.rewriting.specs.Routing.{Pair}
use Rattle.rows.specs.Rows.{may_mean}
use Rattle.merging.specs.Joining.{within_limits}
use Rattle.merging.specs.Merging.{columns_in, pair_in, pairs_in}

pub pair-there : (a : Expr) (acc : List Expr) → any (same_expr a) acc ≡ true → add_pair a acc ≡ acc
unfolding add_pair
pair-there a acc h = ap (λ b. cond b acc (acc ++ a ∷ [])) h

pub pair_new : (a : Expr) (acc : List Expr) → any (same_expr a) acc ≡ false → add_pair a acc ≡ acc ++ a ∷ []
unfolding add_pair
pair_new a acc h = ap (λ b. cond b acc (acc ++ a ∷ [])) h

-- equal expressions have one size
mutual
  same-size : (e d : Expr) → T (same_expr e d) → size_of e ≡ size_of d
  same-size (literal v) (literal w) h = refl
  same-size (literal v) (reference g) h = absurd h
  same-size (literal v) (alias d g) h = absurd h
  same-size (literal v) (call m ds) h = absurd h
  same-size (reference f) (literal w) h = absurd h
  same-size (reference f) (reference g) h = refl
  same-size (reference f) (alias d g) h = absurd h
  same-size (reference f) (call m ds) h = absurd h
  same-size (alias e f) (literal w) h = absurd h
  same-size (alias e f) (reference g) h = absurd h
  same-size (alias e f) (alias d g) h = ap (λ n. n + 1) (same-size e d (and_yes (same_expr e d) (same_field f g) h).0)
  same-size (alias e f) (call m ds) h = absurd h
  same-size (call n es) (literal w) h = absurd h
  same-size (call n es) (reference g) h = absurd h
  same-size (call n es) (alias d g) h = absurd h
  same-size (call n es) (call m ds) h = ap (λ n. n + 1) (same-sizes es ds (and_yes (eqb n m) (same_exprs es ds) h).1)

  same-sizes : (es ds : Exprs) → T (same_exprs es ds) → sizes_of es ≡ sizes_of ds
  same-sizes none none h = refl
  same-sizes none (more d ds) h = absurd h
  same-sizes (more e es) none h = absurd h
  same-sizes (more e es) (more d ds) h =
      let k = and_yes (same_expr e d) (same_exprs es ds) h in
      let p = same-size e d k.0 in
      let q = same-sizes es ds k.1 in
      omega arith

pub off : (b : Bool) → (b ≡ true → ⊥) → b ≡ false
off true f = absurd (f refl)
off false f = refl

pub apart : (b : Bool) → b ≡ true → b ≡ false → ⊥
apart b h k = let z : ◌≡◌ {A = ℕ} 0 1 = cc in omega arith

-- an expression that is too large equals none that is not
none-as-large : (a : Expr) (acc : List Expr) → 256 < size_of a → every small_tree acc ≡ true → any (same_expr a) acc ≡ false
none-as-large a [] lt h = refl
none-as-large a (e ∷ acc) lt h =
    let p = and_parts (small_tree e) (every small_tree acc) h in
    ap₂ (λ b c. b || c) (no (same_expr a e) (λ t. same-size a e t) (leb-true (size_of e) 256 p.0)) (none-as-large a acc lt p.1)
  where
    no : (b : Bool) → (T b → size_of a ≡ size_of e) → size_of e ≤ 256 → b ≡ false
    no true f le = let s = f tt in absurd (omega arith)
    no false f le = refl

every-front : (p : Expr → Bool) (xs ys : List Expr) → every p (xs ++ ys) ≡ true → every p xs ≡ true
every-front p [] ys h = refl
every-front p (x ∷ xs) ys h = let q = and_parts (p x) (every p (xs ++ ys)) h in and_from (p x) (every p xs) q.0 (every-front p xs ys q.1)

every-back : (p : Expr → Bool) (xs ys : List Expr) → every p (xs ++ ys) ≡ true → every p ys ≡ true
every-back p [] ys h = h
every-back p (x ∷ xs) ys h = every-back p xs ys (and_parts (p x) (every p (xs ++ ys)) h).1

pub past-more : (xs ys : List Expr) → within_limits xs ≡ false → within_limits (xs ++ ys) ≡ false
past-more xs ys h = off (within_limits (xs ++ ys)) (λ k.
    let p = and_parts (leb (length (xs ++ ys)) 64) (every small_tree (xs ++ ys)) k in
    apart (within_limits xs) (and_from (leb (length xs) 64) (every small_tree xs) (le-leb (length xs) 64 (omega (arith, leb-true (length (xs ++ ys)) 64 p.0, length-append xs ys))) (every-front small_tree xs ys p.1)) h)

pub past-count : (es : List Expr) → 64 < length es → within_limits es ≡ false
past-count es lt = off (within_limits es) (λ k. let p = and_parts (leb (length es) 64) (every small_tree es) k in let q = leb-true (length es) 64 p.0 in omega arith)

-- a pair that is too large joins, and the list is past the limits
pub past-size : (a : Expr) (acc : List Expr) → 256 < size_of a → every small_tree acc ≡ true → within_limits (add_pair a acc) ≡ false
past-size a acc lt h = ap within_limits (pair_new a acc (none-as-large a acc lt h)) ∙ off (within_limits (acc ++ a ∷ [])) (λ k.
    let p = and_parts (leb (length (acc ++ a ∷ [])) 64) (every small_tree (acc ++ a ∷ [])) k in
    let q = leb-true (size_of a) 256 (and_parts (small_tree a) true (every-back small_tree acc (a ∷ []) p.1)).0 in omega arith)

-- what joins later leaves it so
pair-past : (a : Expr) (acc : List Expr) → within_limits acc ≡ false → within_limits (add_pair a acc) ≡ false
unfolding add_pair
pair-past a acc h = go (any (same_expr a) acc)
  where
    go : (b : Bool) → within_limits (cond b acc (acc ++ a ∷ [])) ≡ false
    go true = h
    go false = past-more acc (a ∷ []) h

pub pairs-past : (m : ReplaceMap) (ps : List Pair) (acc : List Expr) → within_limits acc ≡ false → within_limits (pairs_in m ps acc) ≡ false
unfolding pairs_in
pairs-past m [] acc h = h
pairs-past m (p ∷ ps) acc h = pairs-past m ps (add_pair (pair_in m p) acc) (pair-past (pair_in m p) acc h)

column-past : (F : Functions) (ins : List Field) (e : Expr) (acc : List Expr) → within_limits acc ≡ false → within_limits (add_column F ins e acc) ≡ false
unfolding add_column
column-past F ins (literal v) acc h = h
column-past F ins (reference r) acc h = go (any (may_mean r) ins && lawful (map (field_of F) (acc ++ reference r ∷ [])))
  where
    go : (b : Bool) → within_limits (cond b (acc ++ reference r ∷ []) acc) ≡ false
    go true = past-more acc (reference r ∷ []) h
    go false = h
column-past F ins (alias e f) acc h = h
column-past F ins (call n es) acc h = h

pub columns-past : (F : Functions) (ins : List Field) (m : ReplaceMap) (cs : List Field) (acc : List Expr) → within_limits acc ≡ false → within_limits (columns_in F ins m cs acc) ≡ false
unfolding columns_in
columns-past F ins m [] acc h = h
columns-past F ins m (c ∷ cs) acc h = columns-past F ins m cs (add_column F ins (replace_cols_by_name m (reference c)) acc) (column-past F ins (replace_cols_by_name m (reference c)) acc h)

-- only a reference joins as a column
pub no-column : (F : Functions) (ins : List Field) (e : Expr) (acc : List Expr) → ((r : Field) → e ≡ reference r → ⊥) → add_column F ins e acc ≡ acc
unfolding add_column
no-column F ins (literal v) acc h = refl
no-column F ins (reference r) acc h = absurd (h r refl)
no-column F ins (alias e f) acc h = refl
no-column F ins (call n es) acc h = refl

abbrev pub column_joins : Functions → List Field → Field → Expr → List Expr → Bool
column_joins F ins r e acc = any (may_mean r) ins && lawful (map (field_of F) (acc ++ e ∷ []))

pub column-there : (F : Functions) (ins : List Field) (r : Field) (e : Expr) (acc : List Expr) → e ≡ reference r → column_joins F ins r e acc ≡ false → add_column F ins e acc ≡ acc
unfolding add_column
column-there F ins r e acc is h = ap (λ d. add_column F ins d acc) is ∙ ap (λ b. cond b (acc ++ reference r ∷ []) acc) (ap (λ d. column_joins F ins r d acc) (sym is) ∙ h)

pub column_new : (F : Functions) (ins : List Field) (r : Field) (e : Expr) (acc : List Expr) → e ≡ reference r → column_joins F ins r e acc ≡ true → add_column F ins e acc ≡ acc ++ e ∷ []
unfolding add_column
column_new F ins r e acc is h =
    ap (λ d. add_column F ins d acc) is ∙ ap (λ b. cond b (acc ++ reference r ∷ []) acc) (ap (λ d. column_joins F ins r d acc) (sym is) ∙ h) ∙ ap (λ d. acc ++ d ∷ []) (sym is)
