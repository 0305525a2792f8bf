-- The Projection of sound pairs passes questions 6 and 7: what is known resolves, and an alias of a new number clashes with nothing.
use Rattle.std.proofs.Common.{◌≡◌, ℕ, zero, suc, ◌+◌, ◌<◌, ◌≤◌, Bool, true, false, cond, not, ◌&&◌, ◌||◌, T, List, [], ◌∷◌, ◌++◌, map, length, count_by, Some, None, sym, refl, ap, ◌∙◌, subst, suc-le-suc, zero-le, le_of_suc-le-suc, not-suc-le-zero, arith}
use lib.ListN.{length-map}
use mir.Facts.{and_yes, yes_and}
use Rattle.std.proofs.ByRecursion.{All-get_or, All-map, All-push, All-weaker}
use Rattle.std.proofs.lemmas.List.Sums.{sum_by-cons}
use Rattle.std.specs.List.{AllByRecursion}
use Rattle.std.specs.Str.{bytes_eq}
use Rattle.plan.specs.Faults.{first_no}
use Rattle.plan.specs.Fields.{any, clash, every, lawful, named, resolved, resolves}
use Rattle.plan.specs.Functions.{Functions}
use Rattle.plan.specs.Names.{Name, most_number, number_of}
use Rattle.plan.specs.Plans.{Plan, fields_of}
use Rattle.plan.specs.Plans.Plan.{aggregate, filter, join, limit, projection, sort, subquery_alias, table, union}
use Rattle.plan.specs.Questions.{expressions_of, input_fields, joint_fields, limited}
use Rattle.plan.specs.Rendering.{field_of, unqualified_field}
use Rattle.plan.specs.Terms.{Expr, Exprs, Field, Qualifier, references_of, references_of_all, same_expr, same_field, same_qualifier}
use Rattle.plan.specs.Terms.Expr.{alias, call, literal, reference}
use Rattle.plan.specs.Terms.Exprs.{more, none}
use Rattle.plan.specs.Terms.Literal.{null as null_literal}
use Rattle.plan.specs.Terms.Qualifier.{qualified, unqualified}
use Rattle.plan.specs.declared.fault.Question.TheVariants.{Lawful as LawfulQuestion, Limited as LimitedQuestion, Resolved as ResolvedQuestion}
use Rattle.rows.proofs.Closure.{refs-fields}
use Rattle.rows.proofs.Finds.{name-eq}
use Rattle.rows.proofs.Lists.{all_of_map, map-append}
use Rattle.rows.proofs.More.{get_or-map-in}
use Rattle.rows.proofs.Resolving.{any_at}
use Rattle.rows.specs.Rows.{may_mean, seek, under}
use Rattle.rows.specs.Standing.{Good, Known, Knowns, Means, at, refs}
use Rattle.rewriting.proofs.Fresh.{number-generated, yes_true}
use Rattle.rewriting.proofs.Made.{good-lawful, good-lists, project-known}
use Rattle.rewriting.proofs.Marked.{no-left, no_or}
use Rattle.rewriting.proofs.Splits.{unalias-known}
use Rattle.rewriting.specs.Extracting.{add_column, add_columns, add_pair, add_pairs, aliased, build_extraction_projection_impl, build_projection_replace_map, freshly, merged, replace_cols_by_name, replace_cols_by_names, resolved_in}
use Rattle.rewriting.specs.Generated.{generated}
use Rattle.rewriting.specs.Limits.{Below, OnlyEight, OnlyLimited, Rising, Sound}
use Rattle.rewriting.specs.Routing.{Pair, unalias}

-- lists of tests
all-every : {A : Type 0} (p : A → Bool) (xs : List A) → AllByRecursion (λ x. T (p x)) xs → T (every p xs)
all-every p [] h = tt
all-every p (x ∷ xs) h = yes_and (p x) (every p xs) h.0 (all-every p xs h.1)

every-both : {A : Type 0} (p : A → Bool) (xs ys : List A) → T (every p xs) → T (every p ys) → T (every p (xs ++ ys))
every-both p [] ys a b = b
every-both p (x ∷ xs) ys a b = let c = and_yes (p x) (every p xs) a in yes_and (p x) (every p (xs ++ ys)) c.0 (every-both p xs ys c.1 b)

none-any : {A : Type 0} (p : A → Bool) (xs : List A) → AllByRecursion (λ x. T (not (p x))) xs → T (not (any p xs))
none-any p [] h = tt
none-any p (x ∷ xs) h = no_or (p x) (any p xs) h.0 (none-any p xs h.1)

-- a reference that means one field resolves
none-counted : (n : Name) (fs : List Field) → ((j : ℕ) → j < length fs → T (named n (at fs j)) → ⊥) → count_by (named n) fs ≡ 0
none-counted n [] h = refl
none-counted n (f ∷ fs) h = sum_by-cons (λ x. cond (named n x) 1 0) f fs ∙ go (named n f) (λ t. h 0 (suc-le-suc zero-le) t) (none-counted n fs (λ j l t. h (suc j) (suc-le-suc l) t))
  where
    go : (b : Bool) → (T b → ⊥) → count_by (named n) fs ≡ 0 → cond b 1 0 + count_by (named n) fs ≡ 0
    go true f e = absurd (f tt)
    go false f e = omega arith

one-counted : (n : Name) (fs : List Field) (i : ℕ) → i < length fs → T (named n (at fs i)) → ((j : ℕ) → j < length fs → T (named n (at fs j)) → j ≡ i) → count_by (named n) fs ≡ 1
one-counted n [] i h t s = absurd (not-suc-le-zero h)
one-counted n (f ∷ fs) zero h t s = sum_by-cons (λ x. cond (named n x) 1 0) f fs ∙ go (named n f) t (none-counted n fs (λ j l u. let e = s (suc j) (suc-le-suc l) u in omega arith))
  where
    go : (b : Bool) → T b → count_by (named n) fs ≡ 0 → cond b 1 0 + count_by (named n) fs ≡ 1
    go true t e = omega arith
    go false t e = absurd t
one-counted n (f ∷ fs) (suc i) h t s =
    sum_by-cons (λ x. cond (named n x) 1 0) f fs ∙ go (named n f) (λ u. let e = s 0 (suc-le-suc zero-le) u in omega arith)
    (one-counted n fs i (le_of_suc-le-suc h) t (λ j l u. let e = s (suc j) (suc-le-suc l) u in omega arith))
  where
    go : (b : Bool) → (T b → ⊥) → count_by (named n) fs ≡ 1 → cond b 1 0 + count_by (named n) fs ≡ 1
    go true f e = absurd (f tt)
    go false f e = omega arith

same-under : (a : Name) (q : Qualifier) → T (under (qualified a) q) → T (same_qualifier (qualified a) q)
unfolding under
same-under a unqualified h = absurd h
same-under a (qualified b) h = h

means-resolves : (fs : List Field) (q : Qualifier) (n : Name) (i : ℕ) → Means (record { qualifier = q; name = n }) fs i → T (resolves fs (record { qualifier = q; name = n }))
unfolding may_mean under
means-resolves fs unqualified n i m = rw (one-counted n fs i m.inside m.meant m.sole) tt
means-resolves fs (qualified a) n i m =
    let r : Field = record { qualifier = qualified a; name = n } in
    let c = and_yes (under (qualified a) (at fs i).qualifier) (bytes_eq n (at fs i).name) m.meant in
    any_at (same_field r) fs i m.inside (yes_and (same_qualifier (qualified a) (at fs i).qualifier) (bytes_eq n (at fs i).name) (same-under a (at fs i).qualifier c.0) c.1)

mutual
  pub known-resolved : (fs : List Field) (e : Expr) → Known fs e → T (resolved fs e)
  known-resolved fs (literal v) k = tt
  known-resolved fs (reference r) k = yes_and (resolves fs r) true (means-resolves fs r.qualifier r.name (seek r fs) k) tt
  known-resolved fs (alias e f) k = known-resolved fs e k
  known-resolved fs (call n es) k = knowns-resolved fs es k

  knowns-resolved : (fs : List Field) (es : Exprs) → Knowns fs es → T (every (resolves fs) (references_of_all es))
  knowns-resolved fs none k = tt
  knowns-resolved fs (more e es) k = every-both (resolves fs) (references_of e) (references_of_all es) (known-resolved fs e k.0) (knowns-resolved fs es k.1)

all-known : (fs : List Field) (es : List Expr) → AllByRecursion (Known fs) es → T (every (resolved fs) es)
all-known fs es k = all-every (resolved fs) es (All-weaker _ _ (known-resolved fs) es k)

-- names of other numbers are other names
others : (x y : Name) → (number_of x ≡ number_of y → ⊥) → bytes_eq x y ≡ false
others x y f = go (bytes_eq x y) (λ t. f (ap number_of (name-eq x y t)))
  where
    go : (b : Bool) → (T b → ⊥) → b ≡ false
    go true g = absurd (g tt)
    go false g = refl

unlike : (f g : Field) → (number_of f.name ≡ number_of g.name → ⊥) → T (not (clash f g))
unlike f g h = no-left (bytes_eq f.name g.name) _ (others f.name g.name h)

lawful-both : (fs gs : List Field) → T (lawful fs) → T (lawful gs) → AllByRecursion (λ f. AllByRecursion (λ g. T (not (clash f g))) gs) fs → T (lawful (fs ++ gs))
lawful-both [] gs a b h = b
lawful-both (f ∷ fs) gs a b h =
    let c = and_yes (not (any (clash f) fs)) (lawful fs) a in
    yes_and (not (any (clash f) (fs ++ gs))) (lawful (fs ++ gs)) (none-both fs c.0) (lawful-both fs gs c.1 b h.1)
  where
    none-both : (es : List Field) → T (not (any (clash f) es)) → T (not (any (clash f) (es ++ gs)))
    none-both [] t = none-any (clash f) gs h.0
    none-both (e ∷ es) t = go (clash f e) t (none-both es)
      where
        go : (b : Bool) → T (not (b || any (clash f) es)) → (T (not (any (clash f) es)) → T (not (any (clash f) (es ++ gs)))) → T (not (b || any (clash f) (es ++ gs)))
        go true t k = absurd t
        go false t k = k t

-- rising aliases clash neither with one another nor with fields of lower numbers
module _ (m : ℕ) where
  rising-apart : (k n : ℕ) (xs : List Name) → k < n → k ≤ most_number → Rising n xs m → AllByRecursion (λ x. T (not (clash (unqualified_field (generated k)) (unqualified_field x)))) xs
  rising-apart k n [] l h r = tt
  rising-apart k n (x ∷ xs) l h r =
      let p : number_of x ≡ r.0 = ap number_of r.3 ∙ number-generated r.0 r.2 in
      let q = number-generated k h in
      let from = r.1 in
      (unlike (unqualified_field (generated k)) (unqualified_field x) (λ e. omega arith), rising-apart k (suc r.0) xs (omega arith) h r.4)

  rising-lawful : (n : ℕ) (xs : List Name) → Rising n xs m → T (lawful (map unqualified_field xs))
  rising-lawful n [] r = tt
  rising-lawful n (x ∷ xs) r =
      yes_and (not (any (clash (unqualified_field x)) (map unqualified_field xs))) (lawful (map unqualified_field xs))
      (rw r.3 (none-any (clash (unqualified_field (generated r.0))) (map unqualified_field xs) (All-map _ unqualified_field xs (rising-apart r.0 (suc r.0) xs (omega arith) r.2 r.4))))
      (rising-lawful (suc r.0) xs r.4)

  rising-over : (fs : List Field) (n l : ℕ) (xs : List Name) → n ≤ l → Below n fs → Rising l xs m → AllByRecursion (λ x. AllByRecursion (λ g. T (not (clash (unqualified_field x) g))) fs) xs
  rising-over fs n l [] h b r = tt
  rising-over fs n l (x ∷ xs) h b r =
      let p : number_of x ≡ r.0 = ap number_of r.3 ∙ number-generated r.0 r.2 in
      let from = r.1 in
      (All-weaker _ _ (λ f c. unlike (unqualified_field x) f (λ e. omega arith)) fs b, rising-over fs n (suc r.0) xs (omega arith) b r.4)

eight : (F : Functions) (R : Plan) → T (every (resolved (input_fields F R)) (expressions_of R)) → T (lawful (joint_fields F R)) → OnlyEight F R
eight F R a b = record {
  resolves = yes_true _ a;
  lists = yes_true _ b;
  answer = go (every (resolved (input_fields F R)) (expressions_of R)) (lawful (joint_fields F R)) (limited F R) a b;
}
  where
    go : (a b c : Bool) → T a → T b → first_no ((ResolvedQuestion, a) ∷ (LawfulQuestion, b) ∷ (LimitedQuestion, c) ∷ []) ≡ cond c None (Some LimitedQuestion)
    go true true c s t = refl
    go true false c s t = absurd t
    go false b c s t = absurd s

-- over any input: the pairs, then every field
alias-fields : (F : Functions) (ps : List Pair) → map (field_of F) (map aliased ps) ≡ map unqualified_field (map (λ d. d.1) ps)
alias-fields F [] = refl
alias-fields F (p ∷ ps) = ap (λ (l : List Field). unqualified_field p.1 ∷ l) (alias-fields F ps)

fresh-fields : (F : Functions) (fs : List Field) (ps : List Pair) → map (field_of F) (freshly fs ps) ≡ map unqualified_field (map (λ d. d.1) ps) ++ fs
unfolding freshly
fresh-fields F fs ps = map-append (field_of F) (map aliased ps) (refs fs) ∙ (let a = alias-fields F ps in let b = refs-fields F fs in cc)

fresh-eight : (F : Functions) (p : Plan) (ps : List Pair) (cs : List Field) (n m : ℕ) → Good F p → Sound F p ps cs n m → OnlyEight F (projection (freshly (fields_of F p) ps) p)
fresh-eight F p ps cs n m g s = eight F (projection (freshly (fields_of F p) ps) p) (unfold freshly in resolve) (rw (fresh-fields F (fields_of F p) ps) law)
  where
    resolve : T (every (resolved (fields_of F p)) (map aliased ps ++ refs (fields_of F p)))
    resolve =
        every-both (resolved (fields_of F p)) (map aliased ps) (refs (fields_of F p))
        (all-known (fields_of F p) (map aliased ps) (All-map (Known (fields_of F p)) aliased ps s.pairs))
        (all-known (fields_of F p) (refs (fields_of F p)) (All-map (Known (fields_of F p)) reference (fields_of F p) (good-lawful F p g)))

    law : T (lawful (map unqualified_field (map (λ d. d.1) ps) ++ fields_of F p))
    law =
        lawful-both (map unqualified_field (map (λ d. d.1) ps)) (fields_of F p) (rising-lawful m n (map (λ d. d.1) ps) s.rising) (good-lists F p g)
        (All-map _ unqualified_field (map (λ d. d.1) ps) (rising-over m (fields_of F p) n n (map (λ d. d.1) ps) (omega arith) s.below s.rising))

-- over a projection: what is behind a known expression is known over its input
module _ (F : Functions) (ins : List Field) (es : List Expr) (k : AllByRecursion (Known ins) es) where
  mutual
    unfolding replace_cols_by_name

    behind-known : (e : Expr) → Known (map (field_of F) es) e → Known ins (replace_cols_by_name (build_projection_replace_map F es) e)
    behind-known (literal v) h = tt
    behind-known (reference r) h =
        let i = seek r (map (field_of F) es) in
        let inside = h.inside in
        let lt : i < length es = rw (length-map es (field_of F)) at inside in
        subst (Known ins) (sym (get_or-map-in unalias es i (reference r) (literal null_literal) lt))
        (unalias-known ins _ (All-get_or (Known ins) es i (literal null_literal) lt k))
    behind-known (alias e f) h = behind-known e h
    behind-known (call n args) h = behinds-known args h

    behinds-known : (args : Exprs) → Knowns (map (field_of F) es) args → Knowns ins (replace_cols_by_names (build_projection_replace_map F es) args)
    behinds-known none h = tt
    behinds-known (more e args) h = (behind-known e h.0, behinds-known args h.1)

  resolved_known : (e : Expr) → Known (map (field_of F) es) e → Known ins (resolved_in F es e)
  unfolding resolved_in
  resolved_known e h = behind-known e h

  -- a list that may stand over the input
  record Standing (acc : List Expr) : Type 0 where
    known : AllByRecursion (Known ins) acc
    lists : T (lawful (map (field_of F) acc))

  abbrev Lower : ℕ → List Expr → Type 0
  Lower n acc = AllByRecursion (λ e. number_of (field_of F e).name < n) acc

  push-standing : (acc : List Expr) (a : Expr) → Known ins a → AllByRecursion (λ e. T (not (clash (field_of F e) (field_of F a)))) acc → Standing acc → Standing (acc ++ a ∷ [])
  push-standing acc a h c s = record {
    known = All-push (Known ins) acc a s.known h;
    lists = rw (map-append (field_of F) acc (a ∷ [])) (lawful-both (map (field_of F) acc) (field_of F a ∷ []) s.lists tt (All-map _ (field_of F) acc (All-weaker _ _ (λ e t. (t, tt)) acc c)));
  }

  pair-joins : (acc : List Expr) (e : Expr) (n k : ℕ) → n ≤ k → k ≤ most_number → Known ins e → Lower n acc → Standing acc
      → Standing (add_pair (alias e (unqualified_field (generated k))) acc) × Lower (suc k) (add_pair (alias e (unqualified_field (generated k))) acc)
  unfolding add_pair
  pair-joins acc e n k l h known low s = go (any (same_expr a) acc)
    where
      a : Expr
      a = alias e (unqualified_field (generated k))

      lower : Lower (suc k) acc
      lower = All-weaker _ _ (λ d t. omega arith) acc low

      number : number_of (generated k) ≡ k
      number = number-generated k h

      go : (b : Bool) → Standing (cond b acc (acc ++ a ∷ [])) × Lower (suc k) (cond b acc (acc ++ a ∷ []))
      go true = (s, lower)
      go false = (
        push-standing acc a known (All-weaker _ _ (λ d t. unlike (field_of F d) (unqualified_field (generated k)) (λ e. omega (arith, number))) acc low) s,
        All-push (λ d. number_of (field_of F d).name < suc k) acc a lower (omega (arith, number)),
      )

  pairs-join : (ps : List Pair) (n m : ℕ) (acc : List Expr) → Rising n (map (λ d. d.1) ps) m → AllByRecursion (λ d. Known (map (field_of F) es) d.0) ps → Lower n acc → Standing acc → Standing (add_pairs F es ps acc)
  unfolding add_pairs
  pairs-join [] n m acc r h low s = s
  pairs-join (p ∷ ps) n m acc r h low s =
      let a = rw (← r.3) at (pair-joins acc (resolved_in F es p.0) n r.0 r.1 r.2 (resolved_known p.0 h.0) low s) in
      pairs-join ps (suc r.0) m (add_pair (alias (resolved_in F es p.0) (unqualified_field p.1)) acc) r.4 h.1 a.1 a.0

  column-joins : (e : Expr) (acc : List Expr) → Known ins e → Standing acc → Standing (add_column F ins e acc)
  unfolding add_column
  column-joins (reference r) acc h s = go (any (may_mean r) ins && lawful (map (field_of F) (acc ++ reference r ∷ []))) (λ t. (and_yes (any (may_mean r) ins) _ t).1)
    where
      go : (b : Bool) → (T b → T (lawful (map (field_of F) (acc ++ reference r ∷ [])))) → Standing (cond b (acc ++ reference r ∷ []) acc)
      go true f = record { known = All-push (Known ins) acc (reference r) s.known h; lists = f tt }
      go false f = s
  column-joins (literal v) acc h s = s
  column-joins (alias e f) acc h s = s
  column-joins (call n args) acc h s = s

  columns-join : (cs : List Field) (acc : List Expr) → AllByRecursion (λ c. Known (map (field_of F) es) (reference c)) cs → Standing acc → Standing (add_columns F ins es cs acc)
  unfolding add_columns
  columns-join [] acc h s = s
  columns-join (c ∷ cs) acc h s = columns-join cs (add_column F ins (resolved_in F es (reference c)) acc) h.1 (column-joins (resolved_in F es (reference c)) acc (resolved_known (reference c) h.0) s)

merged-eight : (F : Functions) (es : List Expr) (i : Plan) (ps : List Pair) (cs : List Field) (n m : ℕ) → Good F (projection es i) → Sound F (projection es i) ps cs n m → OnlyEight F (projection (merged F i es ps cs) i)
unfolding merged
merged-eight F es i ps cs n m g s =
    let k = project-known es i g.0 g.1 in
    let a = pairs-join F (fields_of F i) es k ps n m es s.rising s.pairs (all_of_map (λ f. number_of f.name < n) (field_of F) es s.below) (record { known = k; lists = g.0.lists }) in
    let b = columns-join F (fields_of F i) es k cs (add_pairs F es ps es) s.columns a in
    eight F (projection (merged F i es ps cs) i) (all-known (fields_of F i) _ b.known) b.lists

pub only-limited : OnlyLimited
unfolding build_extraction_projection_impl
only-limited F (table k q ns) ps cs n m g s = fresh-eight F (table k q ns) ps cs n m g s
only-limited F (projection es i) ps cs n m g s = merged-eight F es i ps cs n m g s
only-limited F (filter e i) ps cs n m g s = fresh-eight F (filter e i) ps cs n m g s
only-limited F (sort ks i) ps cs n m g s = fresh-eight F (sort ks i) ps cs n m g s
only-limited F (limit c d i) ps cs n m g s = fresh-eight F (limit c d i) ps cs n m g s
only-limited F (aggregate gs ts i) ps cs n m g s = fresh-eight F (aggregate gs ts i) ps cs n m g s
only-limited F (join k es l r) ps cs n m g s = fresh-eight F (join k es l r) ps cs n m g s
only-limited F (subquery_alias q i) ps cs n m g s = fresh-eight F (subquery_alias q i) ps cs n m g s
only-limited F (union i is) ps cs n m g s = fresh-eight F (union i is) ps cs n m g s
