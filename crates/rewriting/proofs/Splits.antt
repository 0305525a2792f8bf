-- A projection's push: the split, the recovery, and the push over a node.
use Rattle.std.proofs.Common.{◌≡◌, ℕ, suc, Bool, true, false, cond, ◌&&◌, ◌||◌, T, eqb, List, [], ◌∷◌, ◌++◌, map, length, get_or, Some, sym, refl, ap, ◌∙◌, subst, inl, inr, suc-le-suc, zero-le, arith}
use mir.Facts.{and_yes}
use Rattle.std.proofs.ByRecursion.{all-has, All-map, All-push, All-weaker, has_push}
use Rattle.std.specs.List.{AllByRecursion}
use Rattle.plan.specs.Faults.{fault}
use Rattle.plan.specs.Functions.{Functions}
use Rattle.plan.specs.Names.{Name, prefixed}
use Rattle.plan.specs.Plans.{Plan, fields_of}
use Rattle.plan.specs.Plans.Plan.{aggregate, filter, join, limit, projection, sort, subquery_alias, table, union}
use Rattle.plan.specs.Rendering.{field_of, unqualified_field}
use Rattle.plan.specs.Terms.{Expr, Exprs, Field, Qualifier, is_unqualified, same_expr, same_field}
use Rattle.plan.specs.Terms.Expr.{alias, call, literal, reference}
use Rattle.plan.specs.Terms.Qualifier.{qualified, unqualified}
use Rattle.plan.specs.Values.{null}
use Rattle.plan.specs.declared.fault.Question.TheVariants.{Limited}
use Rattle.plan.specs.declared.fault.Stage.TheVariants.{Extraction, Recovery}
use Rattle.rows.proofs.Extract.{stands_self}
use Rattle.rows.proofs.Finds.{covers_at, mean-trans, pick_at, name-eq}
use Rattle.rows.proofs.Lists.{all_any, all_keep, all_two, map_on, map_with}
use Rattle.rows.proofs.Resolving.{field-eq}
use Rattle.rows.proofs.Words.{eval, rows}
use Rattle.rows.specs.Lists.{keep}
use Rattle.rows.specs.Rows.{rows_of, seek, value_in}
use Rattle.rows.specs.Standing.{Covers, Good, Known, Passed, Same, Stands, at, pick, up_from}
use Rattle.rows.specs.Worlds.{Fitting, Row}
use Rattle.rewriting.proofs.Carries.{Carries, Holds, carries-fresh, carries-merge, carries-none}
use Rattle.rewriting.proofs.Made.{good-lawful, made-gives, project-known, then-gives, when-gives}
use Rattle.rewriting.proofs.Swaps.{Swap, here, in_alias, in_call, same, swap-mono}
use Rattle.rewriting.proofs.Walks.{After, Held, after_same, after-trans, carries-held, carry-all, held-longer, walk_after}
use Rattle.rewriting.specs.Extracting.{Outcome, build_extraction_projection_impl, built, made, no_change, refused, stage_of, build_extraction_projection}
use Rattle.rewriting.specs.Laws.{Gives}
use Rattle.rewriting.specs.Outlay.{Tally}
use Rattle.rewriting.specs.Pushing.{Into, Split, back_to, captured, is_extracted, or_in_place, push_split, recover_push, same_set, split_all, split_and_push, split_one, walked, is_extraction, enter}
use Rattle.rewriting.specs.Routing.{Entry, Extractor, Pair, Side, empty_extractor, find_sole_input, has_all_column_refs, needed_of, one, owner_of, pairs_of, unalias, schema_columns, has_extractable_expr}
use Rattle.plan.specs.Fields.{any}
use Rattle.std.specs.Str.{bytes_eq}

abbrev pub IsRef : Expr → Type 0
IsRef (reference r) = Unit {0}
IsRef (literal v) = ⊥
IsRef (alias e f) = ⊥
IsRef (call n es) = ⊥

-- b shows what e did, under the same field
pub record Back (F : Functions) (K : Field → Expr → Type 0) (e b : Expr) : Type 0 where
  pub source : Expr
  pub swap : Swap K source b
  pub known : (fs : List Field) → Known fs e → Known fs source
  pub worth : (W : Fitting F) (fs : List Field) (row : Row) → eval W fs row source ≡ eval W fs row e
  pub field : field_of F b ≡ field_of F e

back-mono : (F : Functions) (K K' : Field → Expr → Type 0) → ((x : Field) (e : Expr) → K x e → K' x e) → (e b : Expr) → Back F K e b → Back F K' e b
back-mono F K K' f e b k = record { source = k.source; swap = swap-mono K K' f k.swap; known = k.known; worth = k.worth; field = k.field }

abbrev pub BackAll : Functions → (Field → Expr → Type 0) → List Expr → List Expr → Type 0
BackAll F K [] [] = Unit {0}
BackAll F K [] (b ∷ bs) = ⊥
BackAll F K (e ∷ es) [] = ⊥
BackAll F K (e ∷ es) (b ∷ bs) = Back F K e b × BackAll F K es bs

backs-mono : (F : Functions) (K K' : Field → Expr → Type 0) → ((x : Field) (e : Expr) → K x e → K' x e) → (es bs : List Expr) → BackAll F K es bs → BackAll F K' es bs
backs-mono F K K' f [] [] k = tt
backs-mono F K K' f [] (b ∷ bs) k = absurd k
backs-mono F K K' f (e ∷ es) [] k = absurd k
backs-mono F K K' f (e ∷ es) (b ∷ bs) k = (back-mono F K K' f e b k.0, backs-mono F K K' f es bs k.1)

back-swap : (F : Functions) (K : Field → Expr → Type 0) (e b : Expr) → Swap K e b → field_of F b ≡ field_of F e → Back F K e b
back-swap F K e b s p = record { source = e; swap = s; known = λ fs k. k; worth = λ W fs row. refl; field = p }

back_to_lem : (F : Functions) (K : Field → Expr → Type 0) (e b : Expr) → Swap K e b → Back F K e (back_to F (field_of F e) b)
unfolding back_to value_in
back_to_lem F K e b s = go (same_field (field_of F b) (field_of F e)) (λ h. field-eq (field_of F b) (field_of F e) h)
  where
    go : (c : Bool) → (T c → field_of F b ≡ field_of F e) → Back F K e (cond c b (alias b (field_of F e)))
    go true f = back-swap F K e b s (f tt)
    go false f = record { source = alias e (field_of F e); swap = in_alias s; known = λ fs k. k; worth = λ W fs row. refl; field = refl }

-- an entry of the one input, over its fields
abbrev pub Here : List Field → Entry → Type 0
Here fs d = (d.0 ≡ one) × Known fs d.1

pub owned-one : (fs : List Field) (e : Expr) (s : Side) → find_sole_input (schema_columns fs) e ≡ Some s → s ≡ one
unfolding find_sole_input owner_of
owned-one fs e s p = go (has_all_column_refs (schema_columns fs) e) p
  where
    go : (b : Bool) → owner_of b false ≡ Some s → s ≡ one
    go true p = cc
    go false p = let z : ◌≡◌ {A = ℕ} 0 1 = cc in absurd (omega arith)

bare-none : (q : Qualifier) → T (is_unqualified q) → q ≡ unqualified
bare-none unqualified h = refl
bare-none (qualified a) h = absurd h

-- an expression that stands under an alias is held
has-entered : (e : Expr) (x : Name) (ds : List Entry) → T (any (λ c. same_expr c.1 e && bytes_eq c.2 x) ds) → Held ds (unqualified_field x) e
has-entered e x [] h = absurd h
has-entered e x (d ∷ ds) h = go (same_expr d.1 e && bytes_eq d.2 x) (λ t. and_yes (same_expr d.1 e) (bytes_eq d.2 x) t) h (λ k. has-entered e x ds k)
  where
    go : (b : Bool) → (T b → T (same_expr d.1 e) × T (bytes_eq d.2 x)) → T (b || any (λ c. same_expr c.1 e && bytes_eq c.2 x) ds)
        → (T (any (λ c. same_expr c.1 e && bytes_eq c.2 x) ds) → Held ds (unqualified_field x) e) → Held (d ∷ ds) (unqualified_field x) e
    go true f h k = let a = f tt in (d, (0, suc-le-suc zero-le, λ c. refl), ap unqualified_field (sym (name-eq d.2 x a.1)), inr a.0)
    go false f h k = let a = k h in (a.0, (suc a.1.0, suc-le-suc a.1.1, a.1.2), a.2, a.3)

module _ (F : Functions) (fs : List Field) where
  pub entry_here : (s : Side) (n : ℕ) (es : Exprs) (x : Name) → Known fs (call n es) → find_sole_input (schema_columns fs) (call n es) ≡ Some s → Here fs (s, call n es, x)
  entry_here s n es x k p = (owned-one fs (call n es) s p, k)

  abbrev One : (e : Expr) (g : Extractor) → Expr × Extractor × Bool → Type 0
  One e g a = Back F (Held a.1.entries) e a.0 × After (Here fs) g a.1 × (T a.2 → IsRef a.0)

  walked_one : (e : Expr) (g : Extractor) → Known fs e → One e g (walked F (find_sole_input (schema_columns fs)) e g)
  unfolding walked
  walked_one e g k = let h = walk_after F (find_sole_input (schema_columns fs)) fs (Here fs) entry_here e g k in (back_to_lem F _ e _ h.0, h.1, λ t. absurd t)

  enter-after : (e : Expr) (f : Field) (g h : Extractor) → Known fs e → h.entries ≡ enter (one, alias e f, f.name) g.entries
      → Held h.entries (unqualified_field f.name) (alias e f) × After (Here fs) g h
  unfolding enter
  enter-after e f g h k p = go (any (λ c. same_expr c.1 (alias e f) && bytes_eq c.2 f.name) g.entries) (λ t. has-entered (alias e f) f.name g.entries t) p
    where
      d : Entry
      d = (one, alias e f, f.name)

      go : (b : Bool) → (T b → Held g.entries (unqualified_field f.name) (alias e f)) → h.entries ≡ cond b g.entries (g.entries ++ d ∷ [])
          → Held h.entries (unqualified_field f.name) (alias e f) × After (Here fs) g h
      go true t p = (rw p (t tt), after_same (Here fs) g h (sym p))
      go false t p = (
        rw p (d, has_push g.entries d, refl, inl refl),
        record { longer = (d ∷ [], p); keeps = λ q. rw p (All-push (Here fs) g.entries d q (refl, k)) },
      )

  split_one_lem : (e : Expr) (g : Extractor) → Known fs e → One e g (split_one F (find_sole_input (schema_columns fs)) e g)
  unfolding split_one captured is_extracted
  split_one_lem (reference r) g k = (back-swap F _ (reference r) (reference r) same refl, after_same (Here fs) g _ refl, λ t. tt)
  split_one_lem (literal v) g k = walked_one (literal v) g k
  split_one_lem (alias e f) g k = go (is_extracted f) refl
    where
      go : (b : Bool) → is_extracted f ≡ b → One (alias e f) g (cond b (captured e f g) (walked F (find_sole_input (schema_columns fs)) (alias e f) g))
      go true p =
          let a = enter-after e f g (captured e f g).1 k refl in
          let q : f.qualifier ≡ unqualified = bare-none f.qualifier (and_yes (prefixed f.name) (is_unqualified f.qualifier) (subst T (sym p) tt)).1 in
          (back-swap F _ (alias e f) (reference (unqualified_field f.name)) (here a.0) (λ i. record { qualifier = sym q i; name = f.name }), a.1, λ t. tt)
      go false p = walked_one (alias e f) g k
  split_one_lem (call n es) g k = walked_one (call n es) g k

  pub split-all : (es : List Expr) (g : Extractor) → AllByRecursion (Known fs) es
      → BackAll F (Held (split_all F (find_sole_input (schema_columns fs)) es g).store.entries) es (split_all F (find_sole_input (schema_columns fs)) es g).back
      × After (Here fs) g (split_all F (find_sole_input (schema_columns fs)) es g).store × (T (split_all F (find_sole_input (schema_columns fs)) es g).whole → AllByRecursion IsRef (split_all F (find_sole_input (schema_columns fs)) es g).back)
  unfolding split_all
  split-all [] g k = (tt, after_same (Here fs) g g refl, λ t. tt)
  split-all (e ∷ es) g k =
      let a = split_one_lem e g k.0 in
      let b = split-all es (split_one F (find_sole_input (schema_columns fs)) e g).1 k.1 in (
        (back-mono F _ _ (held-longer _ _ b.1.longer) e _ a.0, b.0),
        after-trans (Here fs) g _ _ a.1 b.1,
        λ t. let c = and_yes (split_one F (find_sole_input (schema_columns fs)) e g).2 (split_all F (find_sole_input (schema_columns fs)) es (split_one F (find_sole_input (schema_columns fs)) e g).1).whole t in (a.2 c.0, b.2 c.1),
      )

-- the recovery has the projection's fields and rows
backs-fields : (F : Functions) (K : Field → Expr → Type 0) (es bs : List Expr) → BackAll F K es bs → map (field_of F) bs ≡ map (field_of F) es
backs-fields F K [] [] k = refl
backs-fields F K [] (b ∷ bs) k = absurd k
backs-fields F K (e ∷ es) [] k = absurd k
backs-fields F K (e ∷ es) (b ∷ bs) k = let p = k.0.field in let q = backs-fields F K es bs k.1 in cc

module _ {F : Functions} where
  backs-row : (W : Fitting F) (R P : Plan) (σ : List ℕ) (row : Row)
      → ((e e' : Expr) → Swap (Holds F R σ P) e e' → Known (fields_of F P) e → Known (fields_of F R) e' → eval W (fields_of F P) (pick σ row) e ≡ eval W (fields_of F R) row e')
      → (es bs : List Expr) → BackAll F (Holds F R σ P) es bs → AllByRecursion (Known (fields_of F P)) es → AllByRecursion (Known (fields_of F R)) bs
      → map (eval W (fields_of F P) (pick σ row)) es ≡ map (eval W (fields_of F R) row) bs
  backs-row W R P σ row f [] [] k kp kr = refl
  backs-row W R P σ row f [] (b ∷ bs) k kp kr = absurd k
  backs-row W R P σ row f (e ∷ es) [] k kp kr = absurd k
  backs-row W R P σ row f (e ∷ es) (b ∷ bs) k kp kr =
      let a = k.0 in
      let p = sym (a.worth W (fields_of F P) (pick σ row)) ∙ f a.source b a.swap (a.known (fields_of F P) kp.0) kr.0 in
      let q = backs-row W R P σ row f es bs k.1 kp.1 kr.1 in
      cc

  pub recovery-same : {R P : Plan} {σ : List ℕ} → Stands F σ R P → (es bs : List Expr) → BackAll F (Holds F R σ P) es bs → AllByRecursion (Known (fields_of F P)) es → AllByRecursion (Known (fields_of F R)) bs
      → Same F (projection bs R) (projection es P)
  unfolding rows_of
  recovery-same {R} {P} {σ} s es bs k kp kr = record {
    fields_same = backs-fields F _ es bs k;
    rows_same = λ W. sym (rw (s.alike W) (map_with _ (pick σ) (λ row. map (eval W (fields_of F P) (pick σ row)) es) (rows W R) (λ row. refl)
        ∙ map_on _ _ (rows W R) (carry-all W s (λ row. map (eval W (fields_of F P) (pick σ row)) es ≡ map (eval W (fields_of F R) row) bs) (λ row f. backs-row W R P σ row f es bs k kp kr))));
  }

  -- a reference in place of e: its place
  ref-place : {R P : Plan} {σ : List ℕ} → Stands F σ R P → (y : Field) → Known (fields_of F P) (reference y) → Holds F R σ P y (reference y)
  unfolding value_in
  ref-place {R} {P} {σ} s y k =
      let i = seek y (fields_of F P) in
      let a = covers_at (fields_of F R) σ (fields_of F P) s.covers i k.inside in
      record {
        place = get_or σ i 0;
        inside = a.1;
        meant = mean-trans y (at (fields_of F P) i) (at (fields_of F R) (get_or σ i 0)) k.meant a.2;
        value = λ W. all_any _ (rows W R) (λ row. sym (pick_at σ row i a.0));
      }

  swap-place : {R P : Plan} {σ : List ℕ} (s : Stands F σ R P) (e b : Expr) → Swap (Holds F R σ P) e b → (y : Field) → b ≡ reference y → Known (fields_of F P) e → Holds F R σ P y e
  unfolding value_in
  swap-place {R} {P} {σ} s e b (same {e = d}) y p k = rw p (ref-place s y (rw p at k))
  swap-place {R} {P} {σ} s e b (here {e = d} {x = x} h) y p k = let q : x ≡ y = cc in rw (← q) h
  swap-place {R} {P} {σ} s e b (in_alias {e' = d} {f = f} w) y p k = let z : ◌≡◌ {A = ℕ} 0 1 = cc in absurd (omega arith)
  swap-place {R} {P} {σ} s e b (in_call {n = n} {es' = ds} w) y p k = let z : ◌≡◌ {A = ℕ} 0 1 = cc in absurd (omega arith)

  back-place : {R P : Plan} {σ : List ℕ} → Stands F σ R P → (e b : Expr) → Back F (Holds F R σ P) e b → IsRef b → Known (fields_of F P) e → Holds F R σ P (field_of F e) e
  back-place {R} {P} {σ} s e (reference y) k r kp =
      let h = swap-place s k.source (reference y) k.swap y refl (k.known (fields_of F P) kp) in
      rw (← k.field) (record {
        place = h.place;
        inside = h.inside;
        meant = h.meant;
        value = λ W. All-weaker _ _ (λ row v. v ∙ k.worth W (fields_of F P) (pick σ row)) (rows W R) (h.value W);
      })
  back-place s e (literal v) k r kp = absurd r
  back-place s e (alias d f) k r kp = absurd r
  back-place s e (call n es) k r kp = absurd r

-- what was wholly captured stands there, in some places
abbrev Placed : Functions → Plan → Plan → List ℕ → List Expr → Type 0
Placed F R P σ es = (τ : List ℕ) × Covers (fields_of F R) τ (map (field_of F) es) × ((W : Fitting F) → AllByRecursion (λ row. map (eval W (fields_of F P) (pick σ row)) es ≡ pick τ row) (rows W R))

module _ {F : Functions} where
  backs-placed : {R P : Plan} {σ : List ℕ} → Stands F σ R P → (es bs : List Expr) → BackAll F (Holds F R σ P) es bs → AllByRecursion IsRef bs → AllByRecursion (Known (fields_of F P)) es → Placed F R P σ es
  unfolding pick
  backs-placed {R} s [] [] k r kp = ([], tt, λ W. all_any _ (rows W R) (λ row. refl))
  backs-placed s [] (b ∷ bs) k r kp = absurd k
  backs-placed s (e ∷ es) [] k r kp = absurd k
  backs-placed {R} {P} {σ} s (e ∷ es) (b ∷ bs) k r kp =
      let h = back-place s e b k.0 r.0 kp.0 in
      let t = backs-placed s es bs k.1 r.1 kp.1 in
      (h.place ∷ t.0, (h.inside, h.meant, t.1), λ W. all_two _ _ _ (λ row p q. step W row h.place t.0 p q) (rows W R) (h.value W) (t.2 W))
    where
      step : (W : Fitting F) (row : Row) (i : ℕ) (τ : List ℕ) → get_or row i null ≡ eval W (fields_of F P) (pick σ row) e → map (eval W (fields_of F P) (pick σ row)) es ≡ pick τ row
          → map (eval W (fields_of F P) (pick σ row)) (e ∷ es) ≡ pick (i ∷ τ) row
      step W row i τ p q = cc

-- an answer: a good plan that stands for another
pub record Answer (F : Functions) (R Q : Plan) : Type 0 where
  pub good : Good F R
  pub σ : List ℕ
  pub stands : Stands F σ R Q

module _ {F : Functions} where
  placed-answer : {R P : Plan} {σ : List ℕ} → Good F R → Stands F σ R P → (es : List Expr) → Placed F R P σ es → Answer F R (projection es P)
  unfolding rows_of
  placed-answer {R} {P} {σ} g s es t = record {
    good = g;
    σ = t.0;
    stands = record {
      covers = t.1;
      alike = λ W. rw (s.alike W) (map_with _ (pick σ) (λ row. map (eval W (fields_of F P) (pick σ row)) es) (rows W R) (λ row. refl) ∙ map_on _ _ (rows W R) (t.2 W));
    };
  }

  same_answer : {R Q : Plan} → Good F R → Same F R Q → Answer F R Q
  same_answer {R} {Q} g s =
      let t = stands_self R in
      record {
        good = g;
        σ = up_from 0 (length (fields_of F R));
        stands = record { covers = subst (λ (fs : List Field). Covers (fields_of F R) (up_from 0 (length (fields_of F R))) fs) s.fields_same t.covers; alike = λ W. sym (s.rows_same W) ∙ t.alike W };
      }

  -- the extraction projection over an input
  pub carries-extraction : (P : Plan) → Good F P → (ps : List Pair) (cs : List Field) → AllByRecursion (λ p. Known (fields_of F P) p.0) ps → Carries F (build_extraction_projection_impl F P ps cs) P ps
  unfolding build_extraction_projection_impl
  carries-extraction (table k q ns) g ps cs h = carries-fresh F (table k q ns) (good-lawful F (table k q ns) g) ps
  carries-extraction (projection es i) g ps cs l = carries-merge es i ps cs l
  carries-extraction (filter e i) g ps cs h = carries-fresh F (filter e i) (good-lawful F (filter e i) g) ps
  carries-extraction (sort ks i) g ps cs h = carries-fresh F (sort ks i) (good-lawful F (sort ks i) g) ps
  carries-extraction (limit s c i) g ps cs h = carries-fresh F (limit s c i) (good-lawful F (limit s c i) g) ps
  carries-extraction (join k es l r) g ps cs h = carries-fresh F (join k es l r) (good-lawful F (join k es l r) g) ps
  carries-extraction (subquery_alias n i) g ps cs h = carries-fresh F (subquery_alias n i) (good-lawful F (subquery_alias n i) g) ps
  carries-extraction (union i is) g ps cs h = carries-fresh F (union i is) (good-lawful F (union i is) g) ps
  carries-extraction (aggregate gs ts i) g ps cs h = carries-fresh F (aggregate gs ts i) (good-lawful F (aggregate gs ts i) g) ps

pub extraction-good : (F : Functions) (P : Plan) → Good F P → (ps : List Pair) (cs : List Field) → Passed F (build_extraction_projection_impl F P ps cs) → Good F (build_extraction_projection_impl F P ps cs)
unfolding build_extraction_projection_impl
extraction-good F (table k q ns) g ps cs a = (a, g)
extraction-good F (projection es i) g ps cs a = (a, g.1)
extraction-good F (filter e i) g ps cs a = (a, g)
extraction-good F (sort ks i) g ps cs a = (a, g)
extraction-good F (limit s c i) g ps cs a = (a, g)
extraction-good F (join k es l r) g ps cs a = (a, g)
extraction-good F (subquery_alias n i) g ps cs a = (a, g)
extraction-good F (union i is) g ps cs a = (a, g)
extraction-good F (aggregate gs ts i) g ps cs a = (a, g)

-- a good plan that carries pairs
pub record Bears (F : Functions) (R P : Plan) (ps : List Pair) : Type 0 where
  pub good : Good F R
  pub carries : Carries F R P ps

abbrev pub IntoSound : Functions → Plan → Into → Type 0
IntoSound F P into = (ps : List Pair) (cs : List Field) (whole : Bool) (level : ℕ) (n : Tally) → AllByRecursion (λ p. Known (fields_of F P) p.0) ps
    → Gives (λ R. Bears F R P ps) (into ps cs whole level n)

pub unalias-known : (fs : List Field) (e : Expr) → Known fs e → Known fs (unalias e)
unfolding unalias
unalias-known fs (reference r) k = k
unalias-known fs (literal v) k = k
unalias-known fs (alias e f) k = k
unalias-known fs (call n es) k = k

pub pairs-all : (Q : Pair → Type 0) (s : Side) (ds : List Entry) → AllByRecursion (λ d. Q (unalias d.1, d.2)) ds → AllByRecursion Q (pairs_of s ds)
unfolding pairs_of
pairs-all Q s ds h = All-map Q _ _ (all_keep _ _ ds h)

pub keep-with : {A : Type 0} (P Q : A → Type 0) (f : A → Bool) → ((x : A) → P x → T (f x) → Q x) → (xs : List A) → AllByRecursion P xs → AllByRecursion Q (keep f xs)
unfolding keep
keep-with P Q f g [] h = tt
keep-with P Q f g (x ∷ xs) h = go (f x) (g x h.0) (keep-with P Q f g xs h.1)
  where
    go : (b : Bool) → (T b → Q x) → AllByRecursion Q (keep f xs) → AllByRecursion Q (cond b (x ∷ keep f xs) (keep f xs))
    go true k a = (k tt, a)
    go false k a = a

pub extraction-bears : (F : Functions) (P : Plan) → Good F P → (level : ℕ) (ps : List Pair) (cs : List Field) (n : Tally) → AllByRecursion (λ p. Known (fields_of F P) p.0) ps → Gives (λ R. Bears F R P ps) (build_extraction_projection F level P ps cs n)
unfolding build_extraction_projection
extraction-bears F P g level [] cs n k = record { good = g; carries = carries-none P }
extraction-bears F P g level (d ∷ ds) cs n k =
    made-gives _ F (stage_of P) level (build_extraction_projection_impl F P (d ∷ ds) cs) _ (λ a. record { good = extraction-good F P g (d ∷ ds) cs a; carries = carries-extraction P g (d ∷ ds) cs k })

module _ (F : Functions) (P : Plan) (g : Good F P) (into : Into) (sound : IntoSound F P into) where
  place-bears : (ps : List Pair) (cs : List Field) (new : Bool) (level : ℕ) (o : Outcome) → AllByRecursion (λ p. Known (fields_of F P) p.0) ps → Gives (λ R. Bears F R P ps) o → Gives (λ R. Bears F R P ps) (or_in_place F P ps cs new level o)
  unfolding or_in_place
  place-bears ps cs new level (built q n) k h = h
  place-bears ps cs true level (no_change n) k h = extraction-bears F P g level ps cs n k
  place-bears ps cs false level (no_change n) k h = tt
  place-bears ps cs new level (refused x n) k h = tt

  abbrev the_split : List Expr → ℕ → Split
  the_split es n = split_all F (find_sole_input (schema_columns (fields_of F P))) es (empty_extractor n)

  recover-answers : (es : List Expr) (n : ℕ) → AllByRecursion (Known (fields_of F P)) es → (level : ℕ) (R : Plan) (m : Tally) → Bears F R P (pairs_of one (the_split es n).store.entries)
      → Gives (λ R. Answer F R (projection es P)) (recover_push F es (the_split es n) level R m)
  unfolding recover_push
  recover-answers es n k level R m b = go _ (λ t. (and_yes (the_split es n).whole (eqb (length (fields_of F R)) (length es)) (and_yes ((the_split es n).whole && eqb (length (fields_of F R)) (length es)) (same_set (fields_of F R) (map (field_of F) es)) t).0).0)
    where
      ds : List Entry
      ds = (the_split es n).store.entries

      a : BackAll F (Held ds) es (the_split es n).back × After (Here (fields_of F P)) (empty_extractor n) (the_split es n).store × (T (the_split es n).whole → AllByRecursion IsRef (the_split es n).back)
      a = split-all F (fields_of F P) es (empty_extractor n) k

      here-all : AllByRecursion (Here (fields_of F P)) ds
      here-all = a.1.keeps (unfold empty_extractor in tt)

      backs : BackAll F (Holds F R b.carries.σ P) es (the_split es n).back
      backs = backs-mono F _ _ (λ x e h. carries-held one ds b.carries x e h (all-has _ ds h.0 here-all h.1).0) es _ a.0

      go : (c : Bool) → (T c → T (the_split es n).whole) → Gives (λ R. Answer F R (projection es P)) (cond c (built R m) (made F Recovery level (projection (the_split es n).back R) m))
      go true f = placed-answer b.good b.carries.stands es (backs-placed b.carries.stands es _ backs (a.2 (f tt)) k)
      go false f = made-gives _ F Recovery level (projection (the_split es n).back R) m (λ r.
          same_answer (r, b.good) (recovery-same b.carries.stands es _ backs k (project-known _ R r b.good)))

  pub over-answers : (es : List Expr) (level : ℕ) (n : Tally) → AllByRecursion (Known (fields_of F P)) es → Gives (λ R. Answer F R (projection es P)) (split_and_push F P into es level n)
  unfolding split_and_push push_split
  over-answers es level n k = when-gives _ (any is_extraction es || has_extractable_expr F es) n _ (go (pairs_of one (the_split es n.next).store.entries) refl)
    where
      a : BackAll F (Held (the_split es n.next).store.entries) es (the_split es n.next).back × After (Here (fields_of F P)) (empty_extractor n.next) (the_split es n.next).store
          × (T (the_split es n.next).whole → AllByRecursion IsRef (the_split es n.next).back)
      a = split-all F (fields_of F P) es (empty_extractor n.next) k

      known-pairs : AllByRecursion (λ p. Known (fields_of F P) p.0) (pairs_of one (the_split es n.next).store.entries)
      known-pairs =
          pairs-all (λ p. Known (fields_of F P) p.0) one (the_split es n.next).store.entries
          (All-weaker _ _ (λ d h. unalias-known (fields_of F P) d.1 h.1) (the_split es n.next).store.entries (a.1.keeps (unfold empty_extractor in tt)))

      unless : (b : Bool) (k : Tally) (o : Outcome) → Gives (λ R. Answer F R (projection es P)) o → Gives (λ R. Answer F R (projection es P)) (cond b (refused (fault Limited Extraction level) k) o)
      unless true k o h = tt
      unless false k o h = h

      go : (ps : List Pair) → pairs_of one (the_split es n.next).store.entries ≡ ps → Gives (λ R. Answer F R (projection es P)) (push_split F P into es (the_split es n.next) level n ps)
      go [] e = tt
      go (d ∷ ds) e =
          let cs = needed_of one (the_split es n.next).store.needed in
          unless (the_split es n.next).store.full _ _ (then-gives (λ R. Bears F R P (d ∷ ds)) _ _ _
          (place-bears (d ∷ ds) cs (the_split es n.next).store.new level _ (rw e at known-pairs) (sound (d ∷ ds) cs (the_split es n.next).whole level _ (rw e at known-pairs)))
          (λ R m b. recover-answers es n.next k level R m (rw e b)))
