-- A plan that stands for another and carries further columns, each with the value of an expression over the other.
use Rattle.std.proofs.Common.{◌≡◌, ℕ, suc, ◌<◌, Bool, true, false, cond, ◌&&◌, ◌||◌, T, ◌⊎◌, List, [], ◌∷◌, ◌++◌, map, length, get_or, sym, refl, ap, ◌∙◌, subst, inl, inr, append_assoc, append-nil, suc-le-suc, zero-le}
use lib.ListN.{get_or-map, length-map}
use mir.Facts.{and_yes}
use Rattle.std.proofs.ByRecursion.{all_has_itself, All-map, All-weaker, has_append_left, has_push}
use Rattle.std.specs.List.{ContainsAt as Has, AllByRecursion}
use Rattle.plan.specs.Fields.{any, lawful}
use Rattle.plan.specs.Functions.{Functions}
use Rattle.plan.specs.Plans.{Key, Plan, fields_of}
use Rattle.plan.specs.Plans.Plan.{filter, limit, projection, sort}
use Rattle.plan.specs.Rendering.{field_of, unqualified_field}
use Rattle.plan.specs.Terms.{Expr, Exprs, Field, same_expr, same_field}
use Rattle.plan.specs.Terms.Expr.{alias, call, literal, reference}
use Rattle.plan.specs.Terms.Exprs.{more, none}
use Rattle.plan.specs.Terms.Literal.{null as null_literal}
use Rattle.plan.specs.Values.{null}
use Rattle.rows.proofs.Closure.{stands-filter, stands-limit, stands-sort}
use Rattle.rows.proofs.Extract.{back-extend, covers-behind, extended, pick-behind-wide, stands-extend, stands_self}
use Rattle.rows.proofs.Finds.{covers_at, mean-refl, mean-trans, pick_at}
use Rattle.rows.proofs.Joins.{covers-left, pick-left}
use Rattle.rows.proofs.Lists.{all_any, all-gather, all_keep, all_of_map, all_two, map-append, map_with}
use Rattle.rows.proofs.More.{get_or-map-in, pick-through, stands-through, through}
use Rattle.rows.proofs.Resolving.{field-eq}
use Rattle.rows.proofs.Wide.{Wide, cut_all, rows-wide}
use Rattle.rows.proofs.Words.{eval, evals, rows}
use Rattle.rows.specs.Rows.{may_mean, rows_of, seek, value_in}
use Rattle.rows.specs.Standing.{Covers, Known, Knowns, Lawful, Stands, at, pick, refs, up_from}
use Rattle.rows.specs.Worlds.{Fitting, Row, applied}
use Rattle.rewriting.proofs.Equals.{same-eval, same_known, same-owned}
use Rattle.rewriting.specs.Extracting.{add_column, add_columns, add_pair, add_pairs, aliased, freshly, build_projection_replace_map, merged, replace_cols_by_name, replace_cols_by_names, resolved_in}
use Rattle.rewriting.specs.Routing.{Pair, has_all_column_refs, unalias}

-- R has a column that x may mean, of the value of e over P
pub record Holds (F : Functions) (R : Plan) (σ : List ℕ) (P : Plan) (x : Field) (e : Expr) : Type 0 where
  pub place : ℕ
  pub inside : place < length (fields_of F R)
  pub meant : T (may_mean x (at (fields_of F R) place))
  pub value : (W : Fitting F) → AllByRecursion (λ row. get_or row place null ≡ eval W (fields_of F P) (pick σ row) e) (rows W R)

pub record Carries (F : Functions) (R P : Plan) (ps : List Pair) : Type 0 where
  pub σ : List ℕ
  pub stands : Stands F σ R P
  pub holds : AllByRecursion (λ p. Holds F R σ P (unqualified_field p.1) p.0) ps

module _ {F : Functions} where
  pub holds-through : {σ τ : List ℕ} {R Q P : Plan} {x : Field} {e : Expr} → Stands F σ R Q → Covers (fields_of F Q) τ (fields_of F P) → Holds F Q τ P x e → Holds F R (through σ τ) P x e
  holds-through {σ} {τ} {R} {Q} {P} {x} {e} s c h =
      let a = covers_at (fields_of F R) σ (fields_of F Q) s.covers h.place h.inside in
      record {
        place = get_or σ h.place 0;
        inside = a.1;
        meant = mean-trans x (at (fields_of F Q) h.place) _ h.meant a.2;
        value = λ W. All-weaker _ _
            (λ row v. sym (pick_at σ row h.place a.0) ∙ v ∙ ap (λ (r : Row). eval W (fields_of F P) r e) (pick-through (fields_of F R) σ (fields_of F Q) τ (fields_of F P) s.covers c row))
            (rows W R) (all_of_map _ (pick σ) (rows W R) (rw (s.alike W) at (h.value W)));
      }

  pub carries-through : {σ : List ℕ} {R Q P : Plan} {ps : List Pair} → Stands F σ R Q → Carries F Q P ps → Carries F R P ps
  carries-through {ps = ps} s c = record {
    σ = _;
    stands = stands-through s c.stands;
    holds = All-weaker _ _ (λ p h. holds-through s c.stands.covers h) ps c.holds;
  }

  pub carries-none : (P : Plan) → Carries F P P []
  carries-none P = record { σ = _; stands = stands_self P; holds = tt }

  module _ {R P : Plan} {ps : List Pair} (c : Carries F R P ps) where
    pub carries-filter : (e : Expr) → Known (fields_of F P) e → Known (fields_of F R) e → Carries F (filter e R) (filter e P) ps
    unfolding rows_of
    carries-filter e kp kr = record {
      σ = c.σ;
      stands = stands-filter c.stands e kp kr;
      holds = All-weaker _ _ (λ p h. record { place = h.place; inside = h.inside; meant = h.meant; value = λ W. all_keep _ _ (rows W R) (h.value W) }) ps c.holds;
    }

    pub carries-sort : (ks : List Key) → AllByRecursion (λ k. Known (fields_of F P) k.by) ks → AllByRecursion (λ k. Known (fields_of F R) k.by) ks → Carries F (sort ks R) (sort ks P) ps
    unfolding rows_of
    carries-sort ks kp kr = record {
      σ = c.σ;
      stands = stands-sort c.stands ks kp kr;
      holds = All-weaker _ _ (λ p h. record { place = h.place; inside = h.inside; meant = h.meant; value = λ W. all-gather _ _ (rows W R) (h.value W) }) ps c.holds;
    }

    pub carries-limit : (s n : ℕ) → Carries F (limit s n R) (limit s n P) ps
    unfolding rows_of
    carries-limit s n = record {
      σ = c.σ;
      stands = stands-limit c.stands s n;
      holds = All-weaker _ _ (λ p h. record { place = h.place; inside = h.inside; meant = h.meant; value = λ W. cut_all _ s n (rows W R) (h.value W) }) ps c.holds;
    }

-- an entry of a projection's list
abbrev pub entry : List Expr → ℕ → Expr
entry es k = get_or es k (literal null_literal)

pub field-entry : (F : Functions) (es : List Expr) (k : ℕ) (a : Expr) → k < length es → entry es k ≡ a → at (map (field_of F) es) k ≡ field_of F a
field-entry F es k a h p = get_or-map-in (field_of F) es k (unqualified_field []) (literal null_literal) h ∙ ap (field_of F) p

module _ {F : Functions} where
  pub value-entry : (W : Fitting F) (fs : List Field) (row : Row) (es : List Expr) (k : ℕ) (a : Expr) → entry es k ≡ a → get_or (map (eval W fs row) es) k null ≡ eval W fs row a
  unfolding value_in
  value-entry W fs row es k a p = get_or-map (eval W fs row) es k (literal null_literal) ∙ ap (eval W fs row) p

-- over any input: the pairs, then every field
module _ (F : Functions) (I : Plan) (lawful : Lawful (fields_of F I)) (ps : List Pair) where
  fresh-has : AllByRecursion (λ p. Has (map aliased ps ++ refs (fields_of F I)) (aliased p)) ps
  fresh-has = All-weaker _ _ (λ p h. has_append_left (map aliased ps) (refs (fields_of F I)) (aliased p) h) ps (all_of_map (Has (map aliased ps)) aliased ps (all_has_itself (map aliased ps)))

  fresh-value : (W : Fitting F) (row : Row) (p : Pair) (h : Has (map aliased ps ++ refs (fields_of F I)) (aliased p)) → Wide (length (fields_of F I)) row
      → get_or (map (eval W (fields_of F I) row) (map aliased ps ++ refs (fields_of F I))) h.0 null
      ≡ eval W (fields_of F I) (pick (up_from (length (map aliased ps)) (length (fields_of F I))) (map (eval W (fields_of F I) row) (map aliased ps ++ refs (fields_of F I)))) p.0
  unfolding value_in
  fresh-value W row p h w =
      value-entry W (fields_of F I) row (map aliased ps ++ refs (fields_of F I)) h.0 (aliased p) (h.2 (literal null_literal))
      ∙ sym (ap (λ (r : Row). eval W (fields_of F I) r p.0) (ap (pick _) (extended (map aliased ps) I lawful W row w) ∙ back-extend (map aliased ps) I lawful W row w))

  fresh_holds : (p : Pair) → Has (map aliased ps ++ refs (fields_of F I)) (aliased p)
      → Holds F (projection (map aliased ps ++ refs (fields_of F I)) I) (up_from (length (map aliased ps)) (length (fields_of F I))) I (unqualified_field p.1) p.0
  unfolding rows_of
  fresh_holds p h = record {
    place = h.0;
    inside = rw (length-map (map aliased ps ++ refs (fields_of F I)) (field_of F)) h.1;
    meant = rw (field-entry F (map aliased ps ++ refs (fields_of F I)) h.0 (aliased p) h.1 (h.2 (literal null_literal))) (mean-refl (unqualified_field p.1));
    value = λ W. All-map _ _ (rows W I) (All-weaker _ _ (λ row w. fresh-value W row p h w) (rows W I) (rows-wide W I));
  }

  pub carries-fresh : Carries F (projection (freshly (fields_of F I) ps) I) I ps
  unfolding freshly
  carries-fresh = record {
    σ = _;
    stands = stands-extend (map aliased ps) I lawful;
    holds = All-weaker _ _ fresh_holds ps fresh-has;
  }

module _ {F : Functions} where
  -- what is behind an expression over a projection has its value
  module _ (W : Fitting F) (fs : List Field) (es : List Expr) (row : Row) where
    unalias-eval : (e : Expr) → eval W fs row (unalias e) ≡ eval W fs row e
    unfolding value_in unalias
    unalias-eval (reference r) = refl
    unalias-eval (literal v) = refl
    unalias-eval (alias e f) = refl
    unalias-eval (call n args) = refl

    mutual
      unfolding value_in replace_cols_by_name unalias

      replace-eval : (e : Expr) → Known (map (field_of F) es) e → eval W (map (field_of F) es) (map (eval W fs row) es) e ≡ eval W fs row (replace_cols_by_name (build_projection_replace_map F es) e)
      replace-eval (reference r) known =
          let k = seek r (map (field_of F) es) in
          let h = known.inside in
          let lt : k < length es = rw (length-map es (field_of F)) at h in
          get_or-map (eval W fs row) es k (literal null_literal) ∙ sym (unalias-eval (get_or es k (literal null_literal))) ∙ sym (ap (eval W fs row) (get_or-map-in unalias es k (reference r) (literal null_literal) lt))
      replace-eval (literal v) h = refl
      replace-eval (alias e f) h = replace-eval e h
      replace-eval (call n args) h = ap (applied W.world n) (replaces-eval args h)

      replaces-eval : (args : Exprs) → Knowns (map (field_of F) es) args → evals W (map (field_of F) es) (map (eval W fs row) es) args ≡ evals W fs row (replace_cols_by_names (build_projection_replace_map F es) args)
      replaces-eval none h = refl
      replaces-eval (more e args) h = let p = replace-eval e h.0 in let q = replaces-eval args h.1 in cc

    pub resolved-eval : (e : Expr) → Known (map (field_of F) es) e → eval W (map (field_of F) es) (map (eval W fs row) es) e ≡ eval W fs row (resolved_in F es e)
    unfolding resolved_in
    resolved-eval e h = replace-eval e h

-- the same, or equal as expressions
abbrev pub Alike : Expr → Expr → Type 0
Alike a b = (a ≡ b) ⊎ T (same_expr a b)

pub alike-eval : {F : Functions} (W : Fitting F) (fs : List Field) (row : Row) (a b : Expr) → Alike a b → eval W fs row a ≡ eval W fs row b
alike-eval W fs row a b (inl p) = ap (eval W fs row) p
alike-eval W fs row a b (inr h) = same-eval W fs row a b h

pub alike-known : (fs : List Field) (a b : Expr) → Alike a b → Known fs a → Known fs b
alike-known fs a b (inl p) k = subst (Known fs) p k
alike-known fs a b (inr h) k = same_known fs a b h k

pub alike-owned : (fs : List Field) (a b : Expr) → Alike a b → T (has_all_column_refs fs a) → T (has_all_column_refs fs b)
alike-owned fs a b (inl p) k = subst (λ (e : Expr). T (has_all_column_refs fs e)) p k
alike-owned fs a b (inr h) k = subst T (same-owned fs a b h) k

alike-field : (F : Functions) (e : Expr) (f : Field) (b : Expr) → Alike (alias e f) b → field_of F b ≡ f
alike-field F e f b (inl p) = sym (ap (field_of F) p)
alike-field F e f (literal v) (inr h) = absurd h
alike-field F e f (reference g) (inr h) = absurd h
alike-field F e f (alias d g) (inr h) = sym (field-eq f g (and_yes (same_expr e d) (same_field f g) h).1)
alike-field F e f (call n es) (inr h) = absurd h

-- a list has an expression like a
abbrev Like : List Expr → Expr → Type 0
Like es a = (b : Expr) × Has es b × Alike a b

-- over a projection: more entries behind its own
module _ (F : Functions) (es rest : List Expr) (I : Plan) where
  covers_more : Covers (map (field_of F) (es ++ rest)) (up_from 0 (length es)) (map (field_of F) es)
  covers_more = rw (map-append (field_of F) es rest, ← (length-map es (field_of F))) (covers-left (map (field_of F) es) (map (field_of F) rest) _ (map (field_of F) es) (covers-behind [] (map (field_of F) es)))

  back-row : (W : Fitting F) (row : Row) → pick (up_from 0 (length es)) (map (eval W (fields_of F I) row) (es ++ rest)) ≡ map (eval W (fields_of F I) row) es
  back-row W row =
      let vs = map (eval W (fields_of F I) row) es in
      let us = map (eval W (fields_of F I) row) rest in
      let c = covers-behind [] (map (field_of F) es) in
      let n : length (map (field_of F) es) ≡ length es = length-map es (field_of F) in
      let w : length vs ≡ length (map (field_of F) es) = length-map es _ ∙ sym n in
      let p : pick (up_from 0 (length (map (field_of F) es))) (vs ++ us) ≡ vs =
      pick-left (map (field_of F) es) _ (map (field_of F) es) c vs us w ∙ pick-behind-wide 0 (length (map (field_of F) es)) [] vs refl w in
      rw (map-append (eval W (fields_of F I) row) es rest) (rw n at p)

  pub stands-more : Stands F (up_from 0 (length es)) (projection (es ++ rest) I) (projection es I)
  unfolding rows_of
  stands-more = record { covers = covers_more; alike = λ W. sym (map_with _ _ _ (rows W I) (λ row. back-row W row)) }

  more-holds : (p : Pair) → Known (map (field_of F) es) p.0 → Like (es ++ rest) (alias (resolved_in F es p.0) (unqualified_field p.1)) → Holds F (projection (es ++ rest) I) (up_from 0 (length es)) (projection es I) (unqualified_field p.1) p.0
  unfolding rows_of value_in
  more-holds p k h = record {
    place = h.1.0;
    inside = rw (length-map (es ++ rest) (field_of F)) h.1.1;
    meant = rw (field-entry F (es ++ rest) h.1.0 h.0 h.1.1 (h.1.2 (literal null_literal)), alike-field F _ _ h.0 h.2) (mean-refl (unqualified_field p.1));
    value = λ W. All-map _ _ (rows W I) (all_any _ (rows W I) (λ row.
        value-entry W (fields_of F I) row (es ++ rest) h.1.0 h.0 (h.1.2 (literal null_literal))
        ∙ sym (alike-eval W (fields_of F I) row (alias (resolved_in F es p.0) (unqualified_field p.1)) h.0 h.2)
        ∙ sym (resolved-eval W (fields_of F I) es row p.0 k) ∙ sym (ap (λ (r : Row). eval W (map (field_of F) es) r p.0) (back-row W row))));
  }

  pub carries-more : (ps : List Pair) → AllByRecursion (λ p. Known (map (field_of F) es) p.0) ps → AllByRecursion (λ p. Like (es ++ rest) (alias (resolved_in F es p.0) (unqualified_field p.1))) ps → Carries F (projection (es ++ rest) I) (projection es I) ps
  carries-more ps k h = record { σ = _; stands = stands-more; holds = all_two _ _ _ more-holds ps k h }

-- the merge adds behind, and has every pair
has-any : (a : Expr) (es : List Expr) → T (any (same_expr a) es) → Like es a
has-any a [] h = absurd h
has-any a (e ∷ es) h = go (same_expr a e) refl h (λ k. has-any a es k)
  where
    go : (b : Bool) → same_expr a e ≡ b → T (b || any (same_expr a) es) → (T (any (same_expr a) es) → Like es a) → Like (e ∷ es) a
    go true p h f = (e, (0, suc-le-suc zero-le, λ d. refl), inr (subst T (sym p) tt))
    go false p h f = let k = f h in (k.0, (suc k.1.0, suc-le-suc k.1.1, k.1.2), k.2)

abbrev Grown : List Expr → List Expr → Type 0
Grown es fs = (rest : List Expr) × (fs ≡ es ++ rest)

grown-self : (es : List Expr) → Grown es es
grown-self es = ([], sym (append-nil es))

grown-trans : (a b c : List Expr) → Grown a b → Grown b c → Grown a c
grown-trans a b c g h = (g.0 ++ h.0, h.1 ∙ ap (λ (l : List Expr). l ++ h.0) g.1 ∙ append_assoc a g.0 h.0)

grown-has : (a b : List Expr) (x : Expr) → Grown a b → Like a x → Like b x
grown-has a b x g h = (h.0, rw g.1 (has_append_left a g.0 h.0 h.1), h.2)

add-pair : (a : Expr) (acc : List Expr) → Grown acc (add_pair a acc) × Like (add_pair a acc) a
unfolding add_pair
add-pair a acc = go (any (same_expr a) acc) (λ h. has-any a acc h)
  where
    go : (b : Bool) → (T b → Like acc a) → Grown acc (cond b acc (acc ++ a ∷ [])) × Like (cond b acc (acc ++ a ∷ [])) a
    go true f = (grown-self acc, f tt)
    go false f = ((a ∷ [], refl), (a, has_push acc a, inl refl))

add-pairs : (F : Functions) (es : List Expr) (ps : List Pair) (acc : List Expr)
    → Grown acc (add_pairs F es ps acc) × AllByRecursion (λ p. Like (add_pairs F es ps acc) (alias (resolved_in F es p.0) (unqualified_field p.1))) ps
unfolding add_pairs
add-pairs F es [] acc = (grown-self acc, tt)
add-pairs F es (p ∷ ps) acc =
    let a = alias (resolved_in F es p.0) (unqualified_field p.1) in
    let g = add-pair a acc in
    let h = add-pairs F es ps (add_pair a acc) in
    (grown-trans acc (add_pair a acc) _ g.0 h.0, (grown-has (add_pair a acc) _ a h.0 g.1, h.1))

add-column : (F : Functions) (ins : List Field) (e : Expr) (acc : List Expr) → Grown acc (add_column F ins e acc)
unfolding add_column
add-column F ins (reference r) acc = go (any (may_mean r) ins && lawful (map (field_of F) (acc ++ reference r ∷ [])))
  where
    go : (b : Bool) → Grown acc (cond b (acc ++ reference r ∷ []) acc)
    go true = (reference r ∷ [], refl)
    go false = grown-self acc
add-column F ins (literal v) acc = grown-self acc
add-column F ins (alias e f) acc = grown-self acc
add-column F ins (call n es) acc = grown-self acc

add-columns : (F : Functions) (ins : List Field) (es : List Expr) (cs : List Field) (acc : List Expr) → Grown acc (add_columns F ins es cs acc)
unfolding add_columns
add-columns F ins es [] acc = grown-self acc
add-columns F ins es (c ∷ cs) acc = grown-trans acc _ _ (add-column F ins (resolved_in F es (reference c)) acc) (add-columns F ins es cs (add_column F ins (resolved_in F es (reference c)) acc))

pub merged-grown : (F : Functions) (I : Plan) (es : List Expr) (ps : List Pair) (cs : List Field) → Grown es (merged F I es ps cs)
unfolding merged
merged-grown F I es ps cs = grown-trans es _ _ (add-pairs F es ps es).0 (add-columns F (fields_of F I) es cs (add_pairs F es ps es))

module _ {F : Functions} where
  pub carries-merge : (es : List Expr) (I : Plan) (ps : List Pair) (cs : List Field) → AllByRecursion (λ p. Known (map (field_of F) es) p.0) ps → Carries F (projection (merged F I es ps cs) I) (projection es I) ps
  unfolding merged
  carries-merge es I ps cs k =
      let g = merged-grown F I es ps cs in
      let a = add-pairs F es ps es in
      let c = add-columns F (fields_of F I) es cs (add_pairs F es ps es) in
      let h = All-weaker _ _ (λ p l. grown-has (add_pairs F es ps es) (merged F I es ps cs) (alias (resolved_in F es p.0) (unqualified_field p.1)) c l) ps a.1 in
      subst (λ (l : List Expr). Carries F (projection l I) (projection es I) ps) (sym g.1) (carries-more F es g.0 I ps k
      (subst (λ (l : List Expr). AllByRecursion (λ p. Like l (alias (resolved_in F es p.0) (unqualified_field p.1))) ps) g.1 h))
