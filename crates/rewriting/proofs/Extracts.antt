-- Extract keeps fields and rows.
use Rattle.std.proofs.Common.{◌≡◌, ℕ, ◌+◌, ◌<◌, Bool, true, false, cond, T, eqb, ◌⊎◌, List, [], ◌∷◌, ◌++◌, map, length, get_or, Some, sym, refl, ap, ◌∙◌, subst, inl, inr, append-nil, arith, eqb→eq, length-append, get_or-append-add}
use lib.ListN.{get_or-append}
use mir.Facts.{yes_and}
use Rattle.std.proofs.ByRecursion.{all-has, All-map, All-weaker}
use Rattle.std.specs.List.{AllByRecursion}
use Rattle.plan.specs.Faults.{fault}
use Rattle.plan.specs.Functions.{Functions}
use Rattle.plan.specs.Names.{Name}
use Rattle.plan.specs.Plans.{Key, Plan, fields_of, shown}
use Rattle.plan.specs.Plans.Plan.{aggregate, filter, join, limit, projection, sort, subquery_alias, table, union}
use Rattle.plan.specs.Rendering.{field_of, unqualified_field}
use Rattle.plan.specs.Terms.{Expr, Exprs, Field, Qualifier, same_qualifier}
use Rattle.plan.specs.Terms.Expr.{call, reference}
use Rattle.plan.specs.Terms.Qualifier.{qualified, unqualified}
use Rattle.plan.specs.Values.{is_true, null}
use Rattle.plan.specs.declared.code.JoinKind.{JoinKind}
use Rattle.plan.specs.declared.code.JoinKind.TheVariants.{Full, Inner, Left, LeftAnti, LeftSemi, Right, RightAnti, RightSemi}
use Rattle.plan.specs.declared.fault.Question.TheVariants.{Limited}
use Rattle.plan.specs.declared.fault.Stage.TheVariants.{Extraction, Rebuilt, Recovery}
use Rattle.rows.proofs.Closure.{recovery, refs-fields}
use Rattle.rows.proofs.Finds.{covers-length, name-refl}
use Rattle.rows.proofs.Joins.{covers-both, covers-sides, joined-nat, pick-both, shift, sides_at}
use Rattle.rows.proofs.Lists.{all_two, gather-map, keep-map, keep-on, map-append, map_on, map_with}
use Rattle.rows.proofs.Sides.{eval_left, eval_right}
use Rattle.rows.proofs.Wide.{Wide, rows-wide}
use Rattle.rows.proofs.Words.{eval, rows}
use Rattle.rows.specs.Rows.{holds, key_values, matches, rows_of, value_in}
use Rattle.rows.specs.Standing.{Good, Known, Passed, Same, Stands, pick, refs}
use Rattle.rows.specs.Worlds.{Fitting, Row}
use Rattle.rewriting.proofs.Carries.{Carries, Holds, alike-known, alike-owned, carries-none, merged-grown}
use Rattle.rewriting.proofs.CarryJoins.{known-left, known-right, pick-wide}
use Rattle.rewriting.proofs.Equals.{fields-eq}
use Rattle.rewriting.proofs.Made.{filter-known, good-lawful, join-known, made-gives, of_refs, project-known, sort-known, then-gives, remade-gives, when-gives}
use Rattle.rewriting.proofs.PushKeeps.{same-fields}
use Rattle.rewriting.proofs.Splits.{Bears, Here, carries-extraction, entry_here, extraction-good, keep-with, pairs-all, unalias-known}
use Rattle.rewriting.proofs.Swaps.{Swap, SwapAll, swap-mono}
use Rattle.rewriting.proofs.Walks.{AnyHolds, Held, SwapKeys, agree-rows, carries-held, carry-all, keys-after, list-after, swap-carry, walk_after}
use Rattle.rewriting.specs.Extracting.{Outcome, aliased, build_extraction_projection_impl, build_recovery_projection, built, by_place, extract_from_plan, build_extraction_projection, freshly, merged, no_change, rebuilt, refused, same_fields, stage_of, when_new, remade, when_extractable}
use Rattle.rewriting.specs.Laws.{Gives}
use Rattle.rewriting.specs.Outlay.{Tally}
use Rattle.rewriting.specs.Routing.{Entry, Extractor, Pair, Side, empty_extractor, find_owning_input, find_sole_input, has_all_column_refs, one, owner_of, pairs_of, routing_extract, routing_extract_all, same_side, unalias, routing_extract_keys, two, schema_columns, has_extractable_expr}

abbrev pub Keeping : Functions → Plan → Plan → Type 0
Keeping F P R = Same F R P × Good F R

-- more fields, or the same
abbrev pub Widens : List Field → List Field → Type 0
Widens rs ps = (rs ≡ ps) ⊎ (length ps < length rs)

widens-append : (rs ps : List Field) → (rest : List Field) → rs ≡ ps ++ rest → Widens rs ps
widens-append rs ps [] p = inl (p ∙ append-nil ps)
widens-append rs ps (m ∷ rest) p = let q = ap length p ∙ length-append ps (m ∷ rest) in inr (omega arith)

fresh-widens : (F : Functions) (fs : List Field) (d : Pair) (ds : List Pair) → Widens (map (field_of F) (freshly fs (d ∷ ds))) fs
unfolding freshly
fresh-widens F fs d ds =
    let p : length (map (field_of F) (map aliased (d ∷ ds) ++ refs fs)) ≡ length (map (field_of F) (map aliased (d ∷ ds))) + length (map (field_of F) (refs fs)) =
    ap length (map-append (field_of F) (map aliased (d ∷ ds)) (refs fs)) ∙ length-append (map (field_of F) (map aliased (d ∷ ds))) (map (field_of F) (refs fs)) in
    let q : length (map (field_of F) (refs fs)) ≡ length fs = ap length (refs-fields F fs) in
    inr (omega arith)

extraction-widens : (F : Functions) (P : Plan) (d : Pair) (ds : List Pair) (cs : List Field) → Widens (fields_of F (build_extraction_projection_impl F P (d ∷ ds) cs)) (fields_of F P)
unfolding build_extraction_projection_impl
extraction-widens F (table k q ns) d ds cs = fresh-widens F _ d ds
extraction-widens F (projection es i) d ds cs =
    let g = merged-grown F i es (d ∷ ds) cs in
    widens-append (map (field_of F) (merged F i es (d ∷ ds) cs)) (map (field_of F) es) (map (field_of F) g.0) (ap (λ (l : List Expr). map (field_of F) l) g.1 ∙ map-append (field_of F) es g.0)
extraction-widens F (filter e i) d ds cs = fresh-widens F _ d ds
extraction-widens F (sort ks i) d ds cs = fresh-widens F _ d ds
extraction-widens F (limit s c i) d ds cs = fresh-widens F _ d ds
extraction-widens F (join k es l r) d ds cs = fresh-widens F _ d ds
extraction-widens F (subquery_alias n i) d ds cs = fresh-widens F _ d ds
extraction-widens F (union i is) d ds cs = fresh-widens F _ d ds
extraction-widens F (aggregate gs ts i) d ds cs = fresh-widens F _ d ds

pub record Placed (F : Functions) (R P : Plan) (ps : List Pair) : Type 0 where
  pub bears : Bears F R P ps
  pub widens : Widens (fields_of F R) (fields_of F P)

pub extracted-placed : (F : Functions) (P : Plan) → Good F P → (ps : List Pair) (cs : List Field) (n : Tally) → AllByRecursion (λ p. Known (fields_of F P) p.0) ps → Gives (λ R. Placed F R P ps) (build_extraction_projection F 0 P ps cs n)
unfolding build_extraction_projection
extracted-placed F P g [] cs n k = record { bears = record { good = g; carries = carries-none P }; widens = inl refl }
extracted-placed F P g (d ∷ ds) cs n k = made-gives _ F (stage_of P) 0 (build_extraction_projection_impl F P (d ∷ ds) cs) _ (λ a. record {
  bears = record { good = extraction-good F P g (d ∷ ds) cs a; carries = carries-extraction P g (d ∷ ds) cs k };
  widens = extraction-widens F P d ds cs;
})

-- what a walk over one input takes out is known there
pub here-known : (fs : List Field) (ds : List Entry) → AllByRecursion (Here fs) ds → AllByRecursion (λ p. Known fs p.0) (pairs_of one ds)
here-known fs ds h = pairs-all (λ p. Known fs p.0) one ds (All-weaker _ _ (λ d k. unalias-known fs d.1 k.1) ds h)

-- the recovery
qualifier-refl : (q : Qualifier) → T (same_qualifier q q)
qualifier-refl unqualified = tt
qualifier-refl (qualified a) = name-refl a

fields-refl : (fs : List Field) → T (same_fields fs fs)
unfolding same_fields
fields-refl [] = tt
fields-refl (f ∷ fs) = yes_and _ _ (yes_and _ _ (qualifier-refl f.qualifier) (name-refl f.name)) (fields-refl fs)

recovered-wide : (F : Functions) (P R : Plan) (n : Tally) (σ : List ℕ) → Good F R → Stands F σ R P → Widens (fields_of F R) (fields_of F P) → Gives (Keeping F P) (build_recovery_projection F 0 (fields_of F P) R n)
unfolding build_recovery_projection
recovered-wide F P R n σ g s w = go (same_fields (fields_of F P) (fields_of F R)) refl (eqb (length (fields_of F P)) (length (fields_of F R))) refl
  where
    go : (a : Bool) → same_fields (fields_of F P) (fields_of F R) ≡ a → (b : Bool) → eqb (length (fields_of F P)) (length (fields_of F R)) ≡ b
        → Gives (Keeping F P) (cond a (built R n) (remade F Recovery 0 (projection (cond b (by_place (fields_of F P) (fields_of F R)) (refs (fields_of F P))) R) n))
    go true p b q = (same-fields s (fields-eq (fields_of F P) (fields_of F R) (subst T (sym p) tt)) (good-lawful F R g), g)
    go false p true q =
        let c : length (fields_of F P) ≡ length (fields_of F R) = eqb→eq _ _ (subst T (sym q) tt) in
        absurd (elim w [ inl e ↦ subst T p (rw e (fields-refl (fields_of F P))) | inr lt ↦ omega arith ])
    go false p false q = remade-gives _ F Recovery 0 (projection (refs (fields_of F P)) R) n (λ x. (recovery s (of_refs (Known (fields_of F R)) (fields_of F P) (project-known _ R x g)), (x, g)))

rebuilt-wide : (F : Functions) (P R : Plan) (n : Tally) → (Passed F R → Good F R × ((σ : List ℕ) × Stands F σ R P)) → Widens (fields_of F R) (fields_of F P)
    → Gives (Keeping F P) (rebuilt F 0 (fields_of F P) R n)
unfolding rebuilt
rebuilt-wide F P R n f w =
    then-gives (λ q. (q ≡ R) × (Good F R × ((σ : List ℕ) × Stands F σ R P))) _ _ _ (made-gives _ F Rebuilt 0 R n (λ a. (refl, f a)))
    (λ q m h. rw h.0 (recovered-wide F P R m h.1.1.0 h.1.0 h.1.1.1 w))

pub when-new : (Z : Plan → Type 0) (g : Extractor) (n t : Tally) (o : Outcome) → Gives Z o → Gives Z (when_new g n t o)
unfolding when_new
when-new Z g n t o h = go g.full g.new
  where
    go : (a b : Bool) → Gives Z (cond a (refused (fault Limited Extraction 0) t) (cond b o (no_change n)))
    go true b = tt
    go false true = h
    go false false = tt

pub when-extractable : (Z : Plan → Type 0) (F : Functions) (es : List Expr) (n : Tally) (o : Outcome) → Gives Z o → Gives Z (when_extractable F es n o)
unfolding when_extractable
when-extractable Z F es n o h = when-gives Z (has_extractable_expr F es) n o h

module _ {F : Functions} where
  -- the entries of a walk over one input, in a plan that carries its pairs
  pub here-held : {R P : Plan} (g : Extractor) → AllByRecursion (Here (fields_of F P)) g.entries → (c : Carries F R P (pairs_of one g.entries)) (x : Field) (e : Expr) → Held g.entries x e → Holds F R c.σ P x e
  here-held g h c x e k = carries-held one g.entries c x e k (all-has _ g.entries k.0 h k.1).0

  stands-filter-carry : {R P : Plan} {σ : List ℕ} (s : Stands F σ R P) (e e' : Expr) → Swap (Holds F R σ P) e e' → Known (fields_of F P) e → Known (fields_of F R) e' → Stands F σ (filter e' R) (filter e P)
  unfolding rows_of holds
  stands-filter-carry {R} {P} {σ} s e e' w kp kr = record {
    covers = s.covers;
    alike = λ W. rw (s.alike W) (keep-map (pick σ) (λ row. holds W.world (fields_of F P) e (pick σ row)) (holds W.world (fields_of F P) e) (rows W R) (λ row. refl)
        ∙ ap (λ (l : List Row). map (pick σ) l) (keep-on _ _ (rows W R) (carry-all W s _ (λ row f. ap is_true (f e e' w kp kr)))));
  }

pub filter-keeps : (F : Functions) (e : Expr) (i : Plan) (n : Tally) → Good F (filter e i) → Gives (Keeping F (filter e i)) (extract_from_plan F (filter e i) n)
unfolding extract_from_plan
filter-keeps F e i n g =
    let w = routing_extract F (find_sole_input (schema_columns (fields_of F i))) e (empty_extractor n.next) in
    let a = walk_after F (find_sole_input (schema_columns (fields_of F i))) (fields_of F i) (Here (fields_of F i)) (entry_here F (fields_of F i)) e (empty_extractor n.next) (filter-known e i g.0) in
    let h : AllByRecursion (Here (fields_of F i)) w.1.entries = a.1.keeps (unfold empty_extractor in tt) in
    when-extractable (Keeping F (filter e i)) F _ n _ (when-new (Keeping F (filter e i)) w.1 _ _ _ (then-gives _ (Keeping F (filter e i)) _ _ (extracted-placed F i g.1 _ _ _ (here-known (fields_of F i) w.1.entries h))
    (λ r m b. rebuilt-wide F (filter e i) (filter w.0 r) m (λ x. (
      (x, b.bears.good),
      (
        b.bears.carries.σ,
        stands-filter-carry b.bears.carries.stands e w.0 (swap-mono _ _ (here-held w.1 h b.bears.carries) a.0) (filter-known e i g.0) (filter-known w.0 r x),
      ),
    )) b.widens)))

-- sort
keys-ways : (K : Field → Expr → Type 0) (ks js : List Key) → SwapKeys K ks js → map (λ k. k.direction) ks ≡ map (λ k. k.direction) js
keys-ways K [] [] s = refl
keys-ways K [] (d ∷ ds) s = absurd s
keys-ways K (c ∷ cs) [] s = absurd s
keys-ways K (c ∷ cs) (d ∷ ds) s = let p = s.0.1 in let q = keys-ways K cs ds s.1 in cc

keys-mono : (K K' : Field → Expr → Type 0) → ((x : Field) (e : Expr) → K x e → K' x e) → (ks js : List Key) → SwapKeys K ks js → SwapKeys K' ks js
keys-mono K K' f [] [] s = tt
keys-mono K K' f [] (d ∷ ds) s = absurd s
keys-mono K K' f (c ∷ cs) [] s = absurd s
keys-mono K K' f (c ∷ cs) (d ∷ ds) s = ((swap-mono K K' f s.0.0, s.0.1), keys-mono K K' f cs ds s.1)

-- what a row's swap says
abbrev pub Carried : (F : Functions) → Fitting F → Plan → List ℕ → Plan → Row → Type 0
Carried F W R σ P row = (e e' : Expr) → Swap (Holds F R σ P) e e' → Known (fields_of F P) e → Known (fields_of F R) e' → eval W (fields_of F P) (pick σ row) e ≡ eval W (fields_of F R) row e'

module _ {F : Functions} where
  keys-row : (W : Fitting F) (R : Plan) (σ : List ℕ) (P : Plan) (row : Row) → Carried F W R σ P row → (ks js : List Key) → SwapKeys (Holds F R σ P) ks js
      → AllByRecursion (λ k. Known (fields_of F P) k.by) ks → AllByRecursion (λ k. Known (fields_of F R) k.by) js
      → map (λ k. eval W (fields_of F P) (pick σ row) k.by) ks ≡ map (λ k. eval W (fields_of F R) row k.by) js
  keys-row W R σ P row f [] [] s kp kr = refl
  keys-row W R σ P row f [] (d ∷ ds) s kp kr = absurd s
  keys-row W R σ P row f (c ∷ cs) [] s kp kr = absurd s
  keys-row W R σ P row f (c ∷ cs) (d ∷ ds) s kp kr =
      let p = f c.by d.by s.0.0 kp.0 kr.0 in
      let q = keys-row W R σ P row f cs ds s.1 kp.1 kr.1 in
      cc

  stands-sort-carry : {R P : Plan} {σ : List ℕ} (s : Stands F σ R P) (ks js : List Key) → SwapKeys (Holds F R σ P) ks js
      → AllByRecursion (λ k. Known (fields_of F P) k.by) ks → AllByRecursion (λ k. Known (fields_of F R) k.by) js → Stands F σ (sort js R) (sort ks P)
  unfolding rows_of key_values
  stands-sort-carry {R} {P} {σ} s ks js w kp kr = record {
    covers = s.covers;
    alike = λ W.
        let keys_p = λ (row : Row). map (λ (k : Key). eval W (fields_of F P) row k.by) ks in
        let keys_r = λ (row : Row). map (λ (k : Key). eval W (fields_of F R) row k.by) js in
        let a : map keys_p (map (pick σ) (rows W R)) ≡ map keys_r (rows W R) =
        map_with keys_p (pick σ) (λ row. keys_p (pick σ row)) (rows W R) (λ row. refl)
        ∙ map_on _ _ (rows W R) (carry-all W s (λ row. keys_p (pick σ row) ≡ keys_r row) (λ row f. keys-row W R σ P row f ks js w kp kr)) in
        rw (s.alike W, a, keys-ways _ ks js w) (gather-map (pick σ) _ (rows W R));
  }

pub sort-keeps : (F : Functions) (ks : List Key) (i : Plan) (n : Tally) → Good F (sort ks i) → Gives (Keeping F (sort ks i)) (extract_from_plan F (sort ks i) n)
unfolding extract_from_plan
sort-keeps F ks i n g =
    let w = routing_extract_keys F (find_sole_input (schema_columns (fields_of F i))) ks (empty_extractor n.next) in
    let a = keys-after F (find_sole_input (schema_columns (fields_of F i))) (fields_of F i) (Here (fields_of F i)) (entry_here F (fields_of F i)) ks (empty_extractor n.next) (sort-known ks i g.0) in
    let h : AllByRecursion (Here (fields_of F i)) w.1.entries = a.1.keeps (unfold empty_extractor in tt) in
    when-extractable (Keeping F (sort ks i)) F _ n _ (when-new (Keeping F (sort ks i)) w.1 _ _ _ (then-gives _ (Keeping F (sort ks i)) _ _ (extracted-placed F i g.1 _ _ _ (here-known (fields_of F i) w.1.entries h))
    (λ r m b. rebuilt-wide F (sort ks i) (sort w.0 r) m (λ x. (
      (x, b.bears.good),
      (
        b.bears.carries.σ,
        stands-sort-carry b.bears.carries.stands ks w.0 (keys-mono _ _ (here-held w.1 h b.bears.carries) ks w.0 a.0) (sort-known ks i g.0) (sort-known w.0 r x),
      ),
    )) b.widens)))

-- join: an entry of a side
Sided : List Field → List Field → Entry → Type 0
Sided fl fr d = Known (fl ++ fr) d.1 × (find_owning_input (schema_columns fl) (schema_columns fr) d.1 ≡ Some d.0)

entry-sided : (fl fr : List Field) (s : Side) (n : ℕ) (es : Exprs) (x : Name) → Known (fl ++ fr) (call n es) → find_owning_input (schema_columns fl) (schema_columns fr) (call n es) ≡ Some s → Sided fl fr (s, call n es, x)
unfolding Sided
entry-sided fl fr s n es x k p = (k, p)

pub owner-side : (a b : Bool) (s : Side) → owner_of a b ≡ Some s → ((s ≡ one) × T a) ⊎ ((s ≡ two) × T b)
unfolding owner_of
owner-side true true s p = let z : ◌≡◌ {A = ℕ} 0 1 = cc in absurd (omega arith)
owner-side true false s p = inl (cc, tt)
owner-side false true s p = inr (cc, tt)
owner-side false false s p = let z : ◌≡◌ {A = ℕ} 0 1 = cc in absurd (omega arith)

-- each side knows what is taken out for it
sided-left : (fl fr : List Field) (d : Entry) → Sided fl fr d → T (same_side d.0 one) → Known fl (unalias d.1)
unfolding Sided find_owning_input same_side
sided-left fl fr d h t = unalias-known fl d.1 (elim (owner-side (has_all_column_refs (schema_columns fl) d.1) (has_all_column_refs (schema_columns fr) d.1) d.0 h.1) [
  | inl a ↦ known-left fl fr d.1 h.0 a.1
  | inr a ↦ absurd (subst (λ (s : Side). T (same_side s one)) a.0 t)
])

sided-right : (fl fr : List Field) (d : Entry) → Sided fl fr d → T (same_side d.0 two) → Known fr (unalias d.1)
unfolding Sided find_owning_input same_side
sided-right fl fr d h t = unalias-known fr d.1 (elim (owner-side (has_all_column_refs (schema_columns fl) d.1) (has_all_column_refs (schema_columns fr) d.1) d.0 h.1) [
  | inl a ↦ absurd (subst (λ (s : Side). T (same_side s two)) a.0 t)
  | inr a ↦ known-right fl fr d.1 h.0 a.1
])

left-known : (fl fr : List Field) (ds : List Entry) → AllByRecursion (Sided fl fr) ds → AllByRecursion (λ p. Known fl p.0) (pairs_of one ds)
unfolding pairs_of
left-known fl fr ds h = All-map (λ p. Known fl p.0) _ _ (keep-with (Sided fl fr) (λ d. Known fl (unalias d.1)) (λ d. same_side d.0 one) (sided-left fl fr) ds h)

right-known : (fl fr : List Field) (ds : List Entry) → AllByRecursion (Sided fl fr) ds → AllByRecursion (λ p. Known fr p.0) (pairs_of two ds)
unfolding pairs_of
right-known fl fr ds h = All-map (λ p. Known fr p.0) _ _ (keep-with (Sided fl fr) (λ d. Known fr (unalias d.1)) (λ d. same_side d.0 two) (sided-right fl fr) ds h)

-- a column of either side
record Beside (F : Functions) (x y l r : Plan) (σ τ : List ℕ) (f : Field) (e : Expr) : Type 0 where
  joint : Known (fields_of F l ++ fields_of F r) e
  side : (Holds F x σ l f e × Known (fields_of F l) e) ⊎ (Holds F y τ r f e × Known (fields_of F r) e)

module _ {F : Functions} where
  held-beside : (x y l r : Plan) (ds : List Entry) → AllByRecursion (Sided (fields_of F l) (fields_of F r)) ds → (cx : Carries F x l (pairs_of one ds)) (cy : Carries F y r (pairs_of two ds))
      → (f : Field) (e : Expr) → Held ds f e → Beside F x y l r cx.σ cy.σ f e
  unfolding Sided find_owning_input
  held-beside x y l r ds h cx cy f e k =
      let d = k.0 in
      let a = all-has _ ds d h k.1 in
      let j : Known (fields_of F l ++ fields_of F r) e = alike-known (fields_of F l ++ fields_of F r) d.1 e k.3 a.0 in
      record {
        joint = j;
        side = elim (owner-side (has_all_column_refs (schema_columns (fields_of F l)) d.1) (has_all_column_refs (schema_columns (fields_of F r)) d.1) d.0 a.1) [
          | inl t ↦ inl (carries-held one ds cx f e k t.0, known-left (fields_of F l) (fields_of F r) e j (alike-owned (schema_columns (fields_of F l)) d.1 e k.3 t.1))
          | inr t ↦ inr (carries-held two ds cy f e k t.0, known-right (fields_of F l) (fields_of F r) e j (alike-owned (schema_columns (fields_of F r)) d.1 e k.3 t.1))
        ];
      }

  matches-carry : (W : Fitting F) (ps rs : List Field) (l r l' r' : Row) (K : Field → Expr → Type 0)
      → ((e e' : Expr) → Swap K e e' → Known ps e → Known rs e' → eval W ps (l ++ r) e ≡ eval W rs (l' ++ r') e')
      → (cs ds : List Expr) → SwapAll K cs ds → AllByRecursion (Known ps) cs → AllByRecursion (Known rs) ds → matches W.world ps cs l r ≡ matches W.world rs ds l' r'
  unfolding matches holds
  matches-carry W ps rs l r l' r' K f [] [] s kp kr = refl
  matches-carry W ps rs l r l' r' K f [] (d ∷ ds) s kp kr = absurd s
  matches-carry W ps rs l r l' r' K f (c ∷ cs) [] s kp kr = absurd s
  matches-carry W ps rs l r l' r' K f (c ∷ cs) (d ∷ ds) s kp kr =
      let p = f c d s.0 kp.0 kr.0 in
      let q = matches-carry W ps rs l r l' r' K f cs ds s.1 kp.1 kr.1 in
      cc

pub swaps-mono : (K K' : Field → Expr → Type 0) → ((x : Field) (e : Expr) → K x e → K' x e) → (cs ds : List Expr) → SwapAll K cs ds → SwapAll K' cs ds
swaps-mono K K' f [] [] s = tt
swaps-mono K K' f [] (d ∷ ds) s = absurd s
swaps-mono K K' f (c ∷ cs) [] s = absurd s
swaps-mono K K' f (c ∷ cs) (d ∷ ds) s = (swap-mono K K' f s.0, swaps-mono K K' f cs ds s.1)

module _ {F : Functions} where
  module _ {x y l r : Plan} {σ τ : List ℕ} (sl : Stands F σ x l) (sr : Stands F τ y r) (cs ds : List Expr) (w : SwapAll (Beside F x y l r σ τ) cs ds)
      (kp : AllByRecursion (Known (fields_of F l ++ fields_of F r)) cs) (kr : AllByRecursion (Known (fields_of F x ++ fields_of F y)) ds) where
    abbrev AtLeft : Fitting F → Row → Type 0
    AtLeft W u = ((i : AnyHolds F x σ l) → get_or u i.2.place null ≡ eval W (fields_of F l) (pick σ u) i.1) × Wide (length (fields_of F x)) u

    abbrev AtRight : Fitting F → Row → Type 0
    AtRight W v = ((i : AnyHolds F y τ r) → get_or v i.2.place null ≡ eval W (fields_of F r) (pick τ v) i.1) × Wide (length (fields_of F y)) v

    match : (W : Fitting F) (u v : Row) → AtLeft W u → AtRight W v → matches W.world (fields_of F l ++ fields_of F r) cs (pick σ u) (pick τ v) ≡ matches W.world (fields_of F x ++ fields_of F y) ds u v
    unfolding value_in
    match W u v p q =
        matches-carry W (fields_of F l ++ fields_of F r) (fields_of F x ++ fields_of F y) (pick σ u) (pick τ v) u v (Beside F x y l r σ τ)
        (λ e e' s a b. ap (λ (z : Row). eval W (fields_of F l ++ fields_of F r) z e) glue
        ∙ swap-carry W (fields_of F x ++ fields_of F y) ρ (fields_of F l ++ fields_of F r) (covers-both (fields_of F x) (fields_of F y) σ τ (fields_of F l) (fields_of F r) sl.covers sr.covers) (u ++ v) (Beside F x y l r σ τ) agree s a b)
        cs ds w kp kr
      where
        ρ : List ℕ
        ρ = σ ++ shift (length (fields_of F x)) τ

        glue : pick σ u ++ pick τ v ≡ pick ρ (u ++ v)
        glue = pick-both (fields_of F x) (fields_of F y) σ τ (fields_of F l) (fields_of F r) sl.covers sr.covers u v p.1

        wide_l : length (pick σ u) ≡ length (fields_of F l)
        wide_l = pick-wide σ u ∙ covers-length (fields_of F x) σ (fields_of F l) sl.covers

        wide_r : length (pick τ v) ≡ length (fields_of F r)
        wide_r = pick-wide τ v ∙ covers-length (fields_of F y) τ (fields_of F r) sr.covers

        agree : (f : Field) (e : Expr) → Beside F x y l r σ τ f e → Known (fields_of F x ++ fields_of F y) (reference f) → eval W (fields_of F l ++ fields_of F r) (pick ρ (u ++ v)) e ≡ eval W (fields_of F x ++ fields_of F y) (u ++ v) (reference f)
        agree f e h k = sym (ap (λ (z : Row). eval W (fields_of F l ++ fields_of F r) z e) glue) ∙ elim h.side [
          | inl a ↦
              let lt = a.0.inside in
              let long = length-append (fields_of F x) (fields_of F y) in
              let in_u : a.0.place < length u = rw p.1 lt in
              eval_left W (fields_of F l) (fields_of F r) (pick σ u) (pick τ v) e a.1 h.joint wide_l ∙ sym (p.0 (f, e, a.0)) ∙ sym (get_or-append u v null a.0.place in_u)
              ∙ ap (λ (j : ℕ). get_or (u ++ v) j null) (k.sole a.0.place (omega arith) (rw (get_or-append (fields_of F x) (fields_of F y) (unqualified_field []) a.0.place lt) a.0.meant))
          | inr a ↦
              let lt = a.0.inside in
              let long = length-append (fields_of F x) (fields_of F y) in
              eval_right W (fields_of F l) (fields_of F r) (pick σ u) (pick τ v) e a.1 h.joint wide_l wide_r ∙ sym (q.0 (f, e, a.0)) ∙ sym (get_or-append-add u v a.0.place null)
              ∙ ap (λ (j : ℕ). get_or (u ++ v) (j + a.0.place) null) p.1
              ∙ ap (λ (j : ℕ). get_or (u ++ v) j null) (k.sole (length (fields_of F x) + a.0.place) (omega arith) (rw (get_or-append-add (fields_of F x) (fields_of F y) a.0.place (unqualified_field [])) a.0.meant))
        ]

    stands-join-carry : (k : JoinKind) → Stands F (sides_at k (length (fields_of F x)) σ τ) (join k ds x y) (join k cs l r)
    unfolding rows_of
    stands-join-carry k = record {
      covers = covers-sides (fields_of F x) (fields_of F y) σ τ (fields_of F l) (fields_of F r) sl.covers sr.covers k;
      alike = λ W. rw (sl.alike W, sr.alike W)
          (joined-nat (fields_of F x) (fields_of F y) σ τ (fields_of F l) (fields_of F r) sl.covers sr.covers
          (matches W.world (fields_of F l ++ fields_of F r) cs) (matches W.world (fields_of F x ++ fields_of F y) ds) (AtLeft W) (AtRight W) (λ u p. p.1) (match W) (rows W x) (rows W y)
          (all_two _ _ (AtLeft W) (λ u p q. (p, q)) (rows W x) (agree-rows W x l σ) (rows-wide W x)) (all_two _ _ (AtRight W) (λ v p q. (p, q)) (rows W y) (agree-rows W y r τ) (rows-wide W y)) k);
    }

widens-both : (a b c d : List Field) → Widens a c → Widens b d → Widens (a ++ b) (c ++ d)
widens-both a b c d (inl p) (inl q) = inl (cc)
widens-both a b c d (inl p) (inr q) = let m = length-append a b in let n = length-append c d in let e = ap length p in inr (omega arith)
widens-both a b c d (inr p) (inl q) = let m = length-append a b in let n = length-append c d in let e = ap length q in inr (omega arith)
widens-both a b c d (inr p) (inr q) = let m = length-append a b in let n = length-append c d in inr (omega arith)

widens-sides : (k : JoinKind) (a b c d : List Field) → Widens a c → Widens b d → Widens (shown k a b) (shown k c d)
widens-sides Inner a b c d p q = widens-both a b c d p q
widens-sides Left a b c d p q = widens-both a b c d p q
widens-sides Right a b c d p q = widens-both a b c d p q
widens-sides Full a b c d p q = widens-both a b c d p q
widens-sides LeftSemi a b c d p q = rw (append-nil a, append-nil c) p
widens-sides LeftAnti a b c d p q = rw (append-nil a, append-nil c) p
widens-sides RightSemi a b c d p q = q
widens-sides RightAnti a b c d p q = q

pub join-keeps : (F : Functions) (k : JoinKind) (cs : List Expr) (l r : Plan) (n : Tally) → Good F (join k cs l r) → Gives (Keeping F (join k cs l r)) (extract_from_plan F (join k cs l r) n)
unfolding extract_from_plan
join-keeps F k cs l r n g =
    let own = find_owning_input (schema_columns (fields_of F l)) (schema_columns (fields_of F r)) in
    let w = routing_extract_all F own cs (empty_extractor n.next) in
    let a = list-after F own (fields_of F l ++ fields_of F r) (Sided (fields_of F l) (fields_of F r)) (entry-sided (fields_of F l) (fields_of F r)) cs (empty_extractor n.next) (join-known k cs l r g.0) in
    let h : AllByRecursion (Sided (fields_of F l) (fields_of F r)) w.1.entries = a.1.keeps (unfold empty_extractor in tt) in
    when-extractable (Keeping F (join k cs l r)) F _ n _ (when-new (Keeping F (join k cs l r)) w.1 _ _ _ (then-gives _ (Keeping F (join k cs l r)) _ _ (extracted-placed F l g.1 _ _ _ (left-known (fields_of F l) (fields_of F r) w.1.entries h))
    (λ x m bx. then-gives _ (Keeping F (join k cs l r)) _ _ (extracted-placed F r g.2 _ _ _ (right-known (fields_of F l) (fields_of F r) w.1.entries h))
    (λ y o by. rebuilt-wide F (join k cs l r) (join k w.0 x y) o (λ s. (
      (s, bx.bears.good, by.bears.good),
      (
        _,
        stands-join-carry bx.bears.carries.stands by.bears.carries.stands cs w.0
            (swaps-mono _ _ (held-beside x y l r w.1.entries h bx.bears.carries by.bears.carries) cs w.0 a.0) (join-known k cs l r g.0) (join-known k w.0 x y s) k,
      ),
    ))
    (widens-sides k (fields_of F x) (fields_of F y) (fields_of F l) (fields_of F r) bx.widens by.widens)))))
