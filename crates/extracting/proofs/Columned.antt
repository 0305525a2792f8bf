-- The needed columns are columns of the inputs, each of them once, and so at most 256.
use Rattle.std.proofs.Common.{◌≡◌, ℕ, ◌+◌, ◌*◌, ◌≤◌, Bool, true, false, cond, not, ◌&&◌, ◌||◌, List, [], ◌∷◌, ◌++◌, length, Some, None, Option, sym, refl, ap, ap₂, ◌∙◌, subst, arith}
use Rattle.std.proofs.lemmas.Bool.{and_from, and_parts}
use Rattle.plan.specs.Fields.{any, every}
use Rattle.plan.specs.Functions.{Functions, is_marked, placement_of}
use Rattle.plan.specs.Names.{Name, prefixed}
use Rattle.plan.specs.Terms.{Expr, Exprs, Field, references_of, references_of_all, same_field}
use Rattle.plan.specs.Terms.Expr.{alias, call, literal, reference}
use Rattle.plan.specs.Terms.Exprs.{more, none}
use Rattle.rewriting.specs.Routing.{Extractor, Side, add_extracted, entered, find_owning_input, find_sole_input, has_all_column_refs, have_all_column_refs, need, needs, noted, one, owner_of, routing_extract, routing_extracts, same_side, schema_columns, taken_if, two, under_alias, under_call}
use Rattle.lexicon.proofs.Frames.{every_append}
use Rattle.stored.proofs.PlanFacts.{field-refl, field-same}
use Rattle.extracting.specs.Columns.{Columned, is_among, none_twice, same_column, sided}

-- a column is equal only to itself
side-same : (a b : Side) → same_side a b ≡ true → a ≡ b
unfolding same_side
side-same one one h = refl
side-same one two h = absurd (let z : ◌≡◌ {A = ℕ} 0 1 = cc in omega arith)
side-same two one h = absurd (let z : ◌≡◌ {A = ℕ} 0 1 = cc in omega arith)
side-same two two h = refl

side-refl : (a : Side) → same_side a a ≡ true
unfolding same_side
side-refl one = refl
side-refl two = refl

column-same : (m n : Side × Field) → same_column m n ≡ true → m ≡ n
column-same m n h =
    let p = and_parts (same_side m.0 n.0) (same_field m.1 n.1) h in
    ap₂ (λ s f. (s, f)) (side-same m.0 n.0 p.0) (field-same m.1 n.1 p.1)

column-refl : (m : Side × Field) → same_column m m ≡ true
column-refl m = and_from _ _ (side-refl m.0) (field-refl m.1)

-- as many as there are without repetition are not more than those that they are among
without : Side × Field → List (Side × Field) → List (Side × Field)
without m [] = []
without m (c ∷ cs) = cond (same_column m c) cs (c ∷ without m cs)

without-long : (m : Side × Field) (cs : List (Side × Field)) → is_among cs m ≡ true → length (without m cs) + 1 ≡ length cs
unfolding without
without-long m [] h = absurd (let z : ◌≡◌ {A = ℕ} 0 1 = cc in omega arith)
without-long m (c ∷ cs) h = go (same_column m c) h (without-long m cs)
  where
    go : (b : Bool) → (b || is_among cs m) ≡ true → (is_among cs m ≡ true → length (without m cs) + 1 ≡ length cs) → length (cond b cs (c ∷ without m cs)) + 1 ≡ length (c ∷ cs)
    go true k f = omega arith
    go false k f = let e = f k in omega arith

without-still : (m n : Side × Field) (cs : List (Side × Field)) → same_column m n ≡ false → is_among cs n ≡ true → is_among (without m cs) n ≡ true
unfolding without
without-still m n [] h k = k
without-still m n (c ∷ cs) h k = go (same_column m c) refl (same_column n c) refl k (without-still m n cs h)
  where
    go : (b : Bool) → same_column m c ≡ b → (d : Bool) → same_column n c ≡ d → (d || is_among cs n) ≡ true → (is_among cs n ≡ true → is_among (without m cs) n ≡ true) → is_among (cond b cs (c ∷ without m cs)) n ≡ true
    go true e true g l f =
        let p : n ≡ m = column-same n c g ∙ sym (column-same m c e) in
        absurd (let q : same_column m n ≡ true = ap (same_column m) p ∙ column-refl m in let z : ◌≡◌ {A = ℕ} 0 1 = cc in omega arith)
    go true e false g l f = l
    go false e true g l f = ap (λ x. x || is_among (without m cs) n) g
    go false e false g l f = ap (λ x. x || is_among (without m cs) n) g ∙ f l

rest-among : (m : Side × Field) (ms cs : List (Side × Field)) → any (same_column m) ms ≡ false → every (is_among cs) ms ≡ true → every (is_among (without m cs)) ms ≡ true
rest-among m [] cs h k = refl
rest-among m (n ∷ ms) cs h k =
    let p = and_parts (is_among cs n) (every (is_among cs) ms) k in
    let q = neither (same_column m n) (any (same_column m) ms) h in
    and_from _ _ (without-still m n cs q.0 p.0) (rest-among m ms cs q.1 p.1)
  where
    neither : (a b : Bool) → (a || b) ≡ false → (a ≡ false) × (b ≡ false)
    neither true b e = absurd (let z : ◌≡◌ {A = ℕ} 0 1 = cc in omega arith)
    neither false b e = (refl, e)

not-true : (b : Bool) → not b ≡ true → b ≡ false
not-true true h = absurd (let z : ◌≡◌ {A = ℕ} 0 1 = cc in omega arith)
not-true false h = refl

pub not-more : (ms cs : List (Side × Field)) → Columned cs ms → length ms ≤ length cs
not-more [] cs h = omega arith
not-more (m ∷ ms) cs h =
    let a = and_parts (is_among cs m) (every (is_among cs) ms) h.among in
    let o = and_parts (not (any (same_column m) ms)) (none_twice ms) h.once in
    let r = not-more ms (without m cs) (record { among = rest-among m ms cs (not-true _ o.0) a.1; once = o.1 }) in
    omega (arith, r, without-long m cs a.0)

-- one column more
any-push : (p : Side × Field → Bool) (ms : List (Side × Field)) (n : Side × Field) → p n ≡ false → any p ms ≡ false → any p (ms ++ n ∷ []) ≡ false
any-push p [] n h k = ap (λ b. b || false) h
any-push p (m ∷ ms) n h k = go (p m) k (any-push p ms n h)
  where
    go : (b : Bool) → (b || any p ms) ≡ false → (any p ms ≡ false → any p (ms ++ n ∷ []) ≡ false) → (b || any p (ms ++ n ∷ [])) ≡ false
    go true e f = absurd (let z : ◌≡◌ {A = ℕ} 0 1 = cc in omega arith)
    go false e f = f e

once-push : (ms : List (Side × Field)) (n : Side × Field) → any (λ m. same_column m n) ms ≡ false → none_twice ms ≡ true → none_twice (ms ++ n ∷ []) ≡ true
once-push [] n h k = refl
once-push (m ∷ ms) n h k = go (same_column m n) refl h (once-push ms n)
  where
    o : (not (any (same_column m) ms) ≡ true) × (none_twice ms ≡ true)
    o = and_parts (not (any (same_column m) ms)) (none_twice ms) k

    go : (b : Bool) → same_column m n ≡ b → (b || any (λ x. same_column x n) ms) ≡ false → (any (λ x. same_column x n) ms ≡ false → none_twice ms ≡ true → none_twice (ms ++ n ∷ []) ≡ true) → none_twice (m ∷ (ms ++ n ∷ [])) ≡ true
    go true e l f = absurd (let z : ◌≡◌ {A = ℕ} 0 1 = cc in omega arith)
    go false e l f = and_from _ _ (ap not (any-push (same_column m) ms n e (not-true _ o.0))) (f l o.1)

module _ (cs : List (Side × Field)) where
  need-columned : (s : Side) (f : Field) (ms : List (Side × Field)) → is_among cs (s, f) ≡ true → Columned cs ms → Columned cs (need s f ms)
  unfolding need
  need-columned s f ms h k = go (any (λ m. same_column m (s, f)) ms) refl
    where
      go : (b : Bool) → any (λ m. same_column m (s, f)) ms ≡ b → Columned cs (cond b ms (ms ++ (s, f) ∷ []))
      go true e = k
      go false e = record { among = every_append (is_among cs) ms ((s, f) ∷ []) k.among (and_from _ _ h refl); once = once-push ms (s, f) e k.once }

  needs-columned : (s : Side) (fs : List Field) (ms : List (Side × Field)) → every (λ f. is_among cs (s, f)) fs ≡ true → Columned cs ms → Columned cs (needs s fs ms)
  unfolding needs
  needs-columned s [] ms h k = k
  needs-columned s (f ∷ fs) ms h k =
      let p = and_parts (is_among cs (s, f)) (every (λ g. is_among cs (s, g)) fs) h in
      needs-columned s fs (need s f ms) p.1 (need-columned s f ms p.0 k)

  -- an owner has all columns of what it owns
  abbrev pub Owns : (Expr → Option Side) → Type 0
  Owns own = (e : Expr) (s : Side) → own e ≡ Some s → every (λ f. is_among cs (s, f)) (references_of e) ≡ true

  module _ (F : Functions) (own : Expr → Option Side) (owns : Owns own) where
    noted-columned : (r : Field) (g : Extractor) → Columned cs g.needed → Columned cs (noted (own (reference r)) r g).needed
    unfolding noted
    noted-columned r g k = go (own (reference r)) refl
      where
        go : (o : Option Side) → own (reference r) ≡ o → Columned cs (noted o r g).needed
        go None e = k
        go (Some s) e = need-columned s r g.needed (and_parts (is_among cs (s, r)) true (owns (reference r) s e)).0 k

    added-columned : (e : Expr) (s : Side) (g : Extractor) (x : Option Name) → own e ≡ Some s → Columned cs g.needed → Columned cs (add_extracted s e g x).1.needed
    unfolding add_extracted
    added-columned e s g (Some x) h k = k
    added-columned e s g None h k = needs-columned s (references_of e) g.needed (owns e s h) k

    taken-columned : (b : Bool) (e : Expr) (g : Extractor) (w : Expr × Extractor) → Columned cs g.needed → Columned cs w.1.needed → Columned cs (taken_if b (own e) e g w).1.needed
    unfolding taken_if
    taken-columned b e g w h k = go b (own e) refl
      where
        go : (b : Bool) (o : Option Side) → own e ≡ o → Columned cs (taken_if b o e g w).1.needed
        go false o i = k
        go true None i = k
        go true (Some s) i = added-columned e s g (entered e g.entries) i h

    mutual
      unfolding routing_extract under_alias under_call

      pub walk-columned : (e : Expr) (g : Extractor) → Columned cs g.needed → Columned cs (routing_extract F own e g).1.needed
      walk-columned (literal v) g k = k
      walk-columned (reference r) g k = noted-columned r g k
      walk-columned (alias e f) g k = go (prefixed f.name) (walk-columned e g k)
        where
          go : (b : Bool) → Columned cs (routing_extract F own e g).1.needed → Columned cs (cond b (alias e f, g) (under_alias f (routing_extract F own e g))).1.needed
          go true h = k
          go false h = h
      walk-columned (call n es) g k = taken-columned (is_marked (placement_of F (call n es))) (call n es) g (under_call n (routing_extracts F own es g)) k (walks-columned es g k)

      walks-columned : (es : Exprs) (g : Extractor) → Columned cs g.needed → Columned cs (routing_extracts F own es g).1.needed
      walks-columned none g k = k
      walks-columned (more e es) g k = walks-columned es (routing_extract F own e g).1 (walk-columned e g k)

-- the columns of an input, among those of all
sided-among : (s : Side) (r : Field) (fs : List Field) → is_among (sided s fs) (s, r) ≡ any (same_field r) fs
sided-among s r [] = refl
sided-among s r (f ∷ fs) = ap₂ (λ b c. (b && same_field r f) || c) (side-refl s) (sided-among s r fs)

any-left : (p : Side × Field → Bool) (cs ds : List (Side × Field)) → any p cs ≡ true → any p (cs ++ ds) ≡ true
any-left p [] ds h = absurd (let z : ◌≡◌ {A = ℕ} 0 1 = cc in omega arith)
any-left p (c ∷ cs) ds h = go (p c) h (any-left p cs ds)
  where
    go : (b : Bool) → (b || any p cs) ≡ true → (any p cs ≡ true → any p (cs ++ ds) ≡ true) → (b || any p (cs ++ ds)) ≡ true
    go true e f = refl
    go false e f = f e

any-right : (p : Side × Field → Bool) (cs ds : List (Side × Field)) → any p ds ≡ true → any p (cs ++ ds) ≡ true
any-right p [] ds h = h
any-right p (c ∷ cs) ds h = go (p c) (any-right p cs ds h)
  where
    go : (b : Bool) → any p (cs ++ ds) ≡ true → (b || any p (cs ++ ds)) ≡ true
    go true e = refl
    go false e = e

module _ (cs : List (Side × Field)) (s : Side) (fs : List Field) (through : (r : Field) → is_among (sided s fs) (s, r) ≡ true → is_among cs (s, r) ≡ true) where
  mutual
    unfolding has_all_column_refs

    refs-among : (e : Expr) → has_all_column_refs fs e ≡ true → every (λ r. is_among cs (s, r)) (references_of e) ≡ true
    refs-among (literal v) h = refl
    refs-among (reference r) h = and_from _ _ (through r (sided-among s r fs ∙ h)) refl
    refs-among (alias e f) h = refs-among e h
    refs-among (call n es) h = all-refs-among es h

    all-refs-among : (es : Exprs) → have_all_column_refs fs es ≡ true → every (λ r. is_among cs (s, r)) (references_of_all es) ≡ true
    all-refs-among none h = refl
    all-refs-among (more e es) h =
        let p = and_parts (has_all_column_refs fs e) (have_all_column_refs fs es) h in
        every_append (λ r. is_among cs (s, r)) (references_of e) (references_of_all es) (refs-among e p.0) (all-refs-among es p.1)

pub sole-owns : (fs : List Field) → Owns (sided one fs) (find_sole_input fs)
unfolding find_sole_input owner_of
sole-owns fs e s h = go (has_all_column_refs fs e) refl h
  where
    go : (b : Bool) → has_all_column_refs fs e ≡ b → owner_of b false ≡ Some s → every (λ r. is_among (sided one fs) (s, r)) (references_of e) ≡ true
    go true k i = let q : one ≡ s = cc in subst (λ z. every (λ r. is_among (sided one fs) (z, r)) (references_of e) ≡ true) q (refs-among (sided one fs) one fs (λ r x. x) e k)
    go false k i = absurd (let z : ◌≡◌ {A = ℕ} 0 1 = cc in omega arith)

pub owning-owns : (fl fr : List Field) → Owns (sided one fl ++ sided two fr) (find_owning_input fl fr)
unfolding find_owning_input owner_of
owning-owns fl fr e s h = go (has_all_column_refs fl e) refl (has_all_column_refs fr e) refl h
  where
    go : (b : Bool) → has_all_column_refs fl e ≡ b → (d : Bool) → has_all_column_refs fr e ≡ d → owner_of b d ≡ Some s → every (λ r. is_among (sided one fl ++ sided two fr) (s, r)) (references_of e) ≡ true
    go true k true l i = absurd (let z : ◌≡◌ {A = ℕ} 0 1 = cc in omega arith)
    go true k false l i =
        let q : one ≡ s = cc in
        subst (λ z. every (λ r. is_among (sided one fl ++ sided two fr) (z, r)) (references_of e) ≡ true) q
        (refs-among (sided one fl ++ sided two fr) one fl (λ r x. any-left (same_column (one, r)) (sided one fl) (sided two fr) x) e k)
    go false k true l i =
        let q : two ≡ s = cc in
        subst (λ z. every (λ r. is_among (sided one fl ++ sided two fr) (z, r)) (references_of e) ≡ true) q
        (refs-among (sided one fl ++ sided two fr) two fr (λ r x. any-right (same_column (two, r)) (sided one fl) (sided two fr) x) e l)
    go false k false l i = absurd (let z : ◌≡◌ {A = ℕ} 0 1 = cc in omega arith)

pub columns-long : (fs : List Field) → length (schema_columns fs) ≡ 2 * length fs
unfolding schema_columns
columns-long [] = refl
columns-long (f ∷ fs) = let h = columns-long fs in omega arith
