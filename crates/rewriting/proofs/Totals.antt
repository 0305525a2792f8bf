-- Extract of an aggregate, and the law of extract.
use Rattle.std.proofs.Common.{◌≡◌, ℕ, suc, Bool, true, false, cond, T, eqb, List, [], ◌∷◌, ◌++◌, map, length, Option, sym, refl, ap, ◌∙◌, subst, arith, length-append}
use lib.Dec.{eqb_refl}
use lib.ListN.{length-map}
use mir.Facts.{and_yes, yes_and}
use Rattle.std.proofs.ByRecursion.{All-weaker}
use Rattle.std.specs.List.{AllByRecursion}
use Rattle.plan.specs.Fields.{every}
use Rattle.plan.specs.Functions.{Functions, function_at, is_marked, is_total, is_total_rule, placed_by, placement_of, placements_of, rule_in}
use Rattle.plan.specs.Names.{prefixed}
use Rattle.plan.specs.Plans.{Plan, fields_of}
use Rattle.plan.specs.Plans.Plan.{aggregate, filter, join, limit, projection, sort, subquery_alias, table, union}
use Rattle.plan.specs.Rendering.{field_of}
use Rattle.plan.specs.Terms.{Expr, Exprs, Field, same_field}
use Rattle.plan.specs.Terms.Expr.{alias, call, literal, reference}
use Rattle.plan.specs.declared.code.Rule.{Rule}
use Rattle.plan.specs.declared.code.Rule.TheVariants.{Always, AnyColumn, FirstColumn, Stay, Total}
use Rattle.plan.specs.declared.fault.Stage.TheVariants.{Rebuilt, Recovery}
use Rattle.rows.proofs.Extract.{own_row}
use Rattle.rows.proofs.Lists.{all_split, map_on, map_same, map_with}
use Rattle.rows.proofs.More.{taken-alike}
use Rattle.rows.proofs.Resolving.{field-eq}
use Rattle.rows.proofs.Wide.{rows-wide}
use Rattle.rows.proofs.Words.{eval, evals, rows}
use Rattle.rows.specs.Rows.{keyed, rows_of, taken_by, total_number, value_in}
use Rattle.rows.specs.Standing.{Good, Known, Knowns, Lawful, Same, Stands, pick, refs}
use Rattle.rows.specs.Worlds.{Fitting, Row}
use Rattle.rewriting.proofs.Carries.{Holds}
use Rattle.rewriting.proofs.Equals.{fields-eq}
use Rattle.rewriting.proofs.Extracts.{Carried, Keeping, extracted-placed, filter-keeps, here-held, here-known, join-keeps, sort-keeps, swaps-mono, when-extractable, when-new}
use Rattle.rewriting.proofs.Made.{aggregate-known, every-all, good-lawful, made-gives, then-gives, remade-gives}
use Rattle.rewriting.proofs.Splits.{Here, entry_here}
use Rattle.rewriting.proofs.Swaps.{SwapAll, Swaps, both, same_nil, swap-mono}
use Rattle.rewriting.proofs.Walks.{After, Held, after_same, after-trans, carry-all, held-longer, list-after, walks-after}
use Rattle.rewriting.specs.Extracting.{build_recovery_projection, built, by_place, extract_from_plan, rebuilt, same_fields, remade}
use Rattle.rewriting.specs.Laws.{Gives}
use Rattle.rewriting.specs.Outlay.{Tally}
use Rattle.rewriting.specs.Routing.{Extractor, Side, empty_extractor, find_sole_input, routing_extract, routing_extract_all, routing_extracts, taken_if, under_alias, under_call, schema_columns}

-- a total, with columns for parts of what it takes
pub data Head (K : Field → Expr → Type 0) : Expr → Expr → Type 0 where
  whole : {e : Expr} → Head K e e
  inside : {e e' : Expr} {f : Field} → Head K e e' → Head K (alias e f) (alias e' f)
  taking : {n : ℕ} {es es' : Exprs} → Swaps K es es' → Head K (call n es) (call n es')

swaps-more : (K K' : Field → Expr → Type 0) → ((x : Field) (e : Expr) → K x e → K' x e) → (es es' : Exprs) → Swaps K es es' → Swaps K' es es'
swaps-more K K' f es es' same_nil = same_nil
swaps-more K K' f es es' (both s ss) = both (swap-mono K K' f s) (swaps-more K K' f _ _ ss)

head-mono : (K K' : Field → Expr → Type 0) → ((x : Field) (e : Expr) → K x e → K' x e) → {e e' : Expr} → Head K e e' → Head K' e e'
head-mono K K' f whole = whole
head-mono K K' f (inside h) = inside (head-mono K K' f h)
head-mono K K' f (taking s) = taking (swaps-more K K' f _ _ s)

abbrev pub HeadAll : (Field → Expr → Type 0) → List Expr → List Expr → Type 0
HeadAll K [] [] = Unit {0}
HeadAll K [] (d ∷ ds) = ⊥
HeadAll K (c ∷ cs) [] = ⊥
HeadAll K (c ∷ cs) (d ∷ ds) = Head K c d × HeadAll K cs ds

heads-mono : (K K' : Field → Expr → Type 0) → ((x : Field) (e : Expr) → K x e → K' x e) → (cs ds : List Expr) → HeadAll K cs ds → HeadAll K' cs ds
heads-mono K K' f [] [] s = tt
heads-mono K K' f [] (d ∷ ds) s = absurd s
heads-mono K K' f (c ∷ cs) [] s = absurd s
heads-mono K K' f (c ∷ cs) (d ∷ ds) s = (head-mono K K' f s.0, heads-mono K K' f cs ds s.1)

pub total-stays : (F : Functions) (n : ℕ) (es : Exprs) → T (is_total_rule (rule_in (function_at F n))) → is_marked (placement_of F (call n es)) ≡ false
total-stays F n es t = go (rule_in (function_at F n)) t
  where
    go : (r : Rule) → T (is_total_rule r) → is_marked (placed_by r (placements_of F es)) ≡ false
    go Stay t = absurd t
    go FirstColumn t = absurd t
    go AnyColumn t = absurd t
    go Always t = absurd t
    go Total t = refl

not_taken : (b : Bool) (o : Option Side) (e : Expr) (g : Extractor) (w : Expr × Extractor) → b ≡ false → taken_if b o e g w ≡ w
unfolding taken_if
not_taken true o e g w p = let z : ◌≡◌ {A = ℕ} 0 1 = cc in absurd (omega arith)
not_taken false o e g w p = refl

module _ (F : Functions) (fs : List Field) where
  total-after : (e : Expr) (g : Extractor) → T (is_total F e) → Known fs e
      → Head (Held (routing_extract F (find_sole_input (schema_columns fs)) e g).1.entries) e (routing_extract F (find_sole_input (schema_columns fs)) e g).0 × After (Here fs) g (routing_extract F (find_sole_input (schema_columns fs)) e g).1
  unfolding routing_extract under_alias under_call
  total-after (reference r) g t k = absurd t
  total-after (literal v) g t k = absurd t
  total-after (alias e f) g t k = go (prefixed f.name) (total-after e g t k)
    where
      go : (b : Bool) → Head (Held (routing_extract F (find_sole_input (schema_columns fs)) e g).1.entries) e (routing_extract F (find_sole_input (schema_columns fs)) e g).0 × After (Here fs) g (routing_extract F (find_sole_input (schema_columns fs)) e g).1
          → Head (Held (cond b (alias e f, g) (under_alias f (routing_extract F (find_sole_input (schema_columns fs)) e g))).1.entries) (alias e f) (cond b (alias e f, g) (under_alias f (routing_extract F (find_sole_input (schema_columns fs)) e g))).0
          × After (Here fs) g (cond b (alias e f, g) (under_alias f (routing_extract F (find_sole_input (schema_columns fs)) e g))).1
      go true h = (whole, after_same (Here fs) g g refl)
      go false h = (inside h.0, h.1)
  total-after (call n es) g t k =
      let a = walks-after F (find_sole_input (schema_columns fs)) fs (Here fs) (entry_here F fs) es g k in
      rw (not_taken (is_marked (placement_of F (call n es))) (find_sole_input (schema_columns fs) (call n es)) (call n es) g (under_call n (routing_extracts F (find_sole_input (schema_columns fs)) es g)) (total-stays F n es t))
      (taking a.0, a.1)

  pub totals-after : (es : List Expr) (g : Extractor) → AllByRecursion (λ e. T (is_total F e)) es → AllByRecursion (Known fs) es
      → HeadAll (Held (routing_extract_all F (find_sole_input (schema_columns fs)) es g).1.entries) es (routing_extract_all F (find_sole_input (schema_columns fs)) es g).0 × After (Here fs) g (routing_extract_all F (find_sole_input (schema_columns fs)) es g).1
  unfolding routing_extract_all
  totals-after [] g t k = (tt, after_same (Here fs) g g refl)
  totals-after (e ∷ es) g t k =
      let a = total-after e g t.0 k.0 in
      let b = totals-after es (routing_extract F (find_sole_input (schema_columns fs)) e g).1 t.1 k.1 in
      ((head-mono _ _ (held-longer _ _ b.1.longer) a.0, b.0), after-trans (Here fs) g _ _ a.1 b.1)

module _ {F : Functions} where
  -- what the group rule sees
  evals-row : (W : Fitting F) (R : Plan) (σ : List ℕ) (P : Plan) (row : Row) → Carried F W R σ P row → {es es' : Exprs} → Swaps (Holds F R σ P) es es'
      → Knowns (fields_of F P) es → Knowns (fields_of F R) es' → evals W (fields_of F P) (pick σ row) es ≡ evals W (fields_of F R) row es'
  unfolding value_in
  evals-row W R σ P row f same_nil kp kr = refl
  evals-row W R σ P row f (both s ss) kp kr = let p = f _ _ s kp.0 kr.0 in let q = evals-row W R σ P row f ss kp.1 kr.1 in cc

  head-taken : (W : Fitting F) {R P : Plan} {σ : List ℕ} (s : Stands F σ R P) (row : Row) → Carried F W R σ P row → {e e' : Expr} → Head (Holds F R σ P) e e'
      → Known (fields_of F P) e → Known (fields_of F R) e' → taken_by W.world (fields_of F P) (pick σ row) e ≡ taken_by W.world (fields_of F R) row e'
  unfolding taken_by
  head-taken W s row f (whole {e = e}) kp kr = taken-alike s W row e kp kr
  head-taken W s row f (inside h) kp kr = head-taken W s row f h kp kr
  head-taken W {R} {P} {σ} s row f (taking t) kp kr = evals-row W R σ P row f t kp kr

head-number : {K : Field → Expr → Type 0} {e e' : Expr} → Head K e e' → total_number e ≡ total_number e'
unfolding total_number
head-number whole = refl
head-number (inside h) = head-number h
head-number (taking s) = refl

heads-number : (K : Field → Expr → Type 0) (cs ds : List Expr) → HeadAll K cs ds → map total_number cs ≡ map total_number ds
heads-number K [] [] s = refl
heads-number K [] (d ∷ ds) s = absurd s
heads-number K (c ∷ cs) [] s = absurd s
heads-number K (c ∷ cs) (d ∷ ds) s = let p = head-number s.0 in let q = heads-number K cs ds s.1 in cc

pub head-total : (F : Functions) {K : Field → Expr → Type 0} {e e' : Expr} → Head K e e' → T (is_total F e) → T (is_total F e')
head-total F whole t = t
head-total F (inside h) t = head-total F h t
head-total F (taking s) t = t

heads-total : (F : Functions) (K : Field → Expr → Type 0) (cs ds : List Expr) → HeadAll K cs ds → T (every (is_total F) cs) → T (every (is_total F) ds)
heads-total F K [] [] s t = tt
heads-total F K [] (d ∷ ds) s t = absurd s
heads-total F K (c ∷ cs) [] s t = absurd s
heads-total F K (c ∷ cs) (d ∷ ds) s t =
    let a = and_yes (is_total F c) (every (is_total F) cs) t in
    yes_and (is_total F d) (every (is_total F) ds) (head-total F s.0 a.0) (heads-total F K cs ds s.1 a.1)

heads-long : (K : Field → Expr → Type 0) (cs ds : List Expr) → HeadAll K cs ds → length cs ≡ length ds
heads-long K [] [] s = refl
heads-long K [] (d ∷ ds) s = absurd s
heads-long K (c ∷ cs) [] s = absurd s
heads-long K (c ∷ cs) (d ∷ ds) s = ap suc (heads-long K cs ds s.1)

swaps-long : (K : Field → Expr → Type 0) (cs ds : List Expr) → SwapAll K cs ds → length cs ≡ length ds
swaps-long K [] [] s = refl
swaps-long K [] (d ∷ ds) s = absurd s
swaps-long K (c ∷ cs) [] s = absurd s
swaps-long K (c ∷ cs) (d ∷ ds) s = ap suc (swaps-long K cs ds s.1)

module _ {F : Functions} where
  groups-row : (W : Fitting F) (R : Plan) (σ : List ℕ) (P : Plan) (row : Row) → Carried F W R σ P row → (cs ds : List Expr) → SwapAll (Holds F R σ P) cs ds
      → AllByRecursion (Known (fields_of F P)) cs → AllByRecursion (Known (fields_of F R)) ds → map (eval W (fields_of F P) (pick σ row)) cs ≡ map (eval W (fields_of F R) row) ds
  groups-row W R σ P row f [] [] s kp kr = refl
  groups-row W R σ P row f [] (d ∷ ds) s kp kr = absurd s
  groups-row W R σ P row f (c ∷ cs) [] s kp kr = absurd s
  groups-row W R σ P row f (c ∷ cs) (d ∷ ds) s kp kr = let p = f c d s.0 kp.0 kr.0 in let q = groups-row W R σ P row f cs ds s.1 kp.1 kr.1 in cc

  totals-row : (W : Fitting F) {R P : Plan} {σ : List ℕ} (s : Stands F σ R P) (row : Row) → Carried F W R σ P row → (cs ds : List Expr) → HeadAll (Holds F R σ P) cs ds
      → AllByRecursion (Known (fields_of F P)) cs → AllByRecursion (Known (fields_of F R)) ds → map (taken_by W.world (fields_of F P) (pick σ row)) cs ≡ map (taken_by W.world (fields_of F R) row) ds
  totals-row W s row f [] [] h kp kr = refl
  totals-row W s row f [] (d ∷ ds) h kp kr = absurd h
  totals-row W s row f (c ∷ cs) [] h kp kr = absurd h
  totals-row W s row f (c ∷ cs) (d ∷ ds) h kp kr =
      let p = head-taken W s row f h.0 kp.0 kr.0 in
      let q = totals-row W s row f cs ds h.1 kp.1 kr.1 in
      cc

module _ {F : Functions} where
  aggregate-rows : {R P : Plan} {σ : List ℕ} (s : Stands F σ R P) (gs ts gs' ts' : List Expr) → SwapAll (Holds F R σ P) gs gs' → HeadAll (Holds F R σ P) ts ts'
      → AllByRecursion (Known (fields_of F P)) (gs ++ ts) → AllByRecursion (Known (fields_of F R)) (gs' ++ ts') → (W : Fitting F) → rows W (aggregate gs' ts' R) ≡ rows W (aggregate gs ts P)
  unfolding rows_of keyed
  aggregate-rows {R} {P} {σ} s gs ts gs' ts' wg wt kp kr W =
      let a = all_split _ gs ts kp in
      let b = all_split _ gs' ts' kr in
      let long : length (gs ++ ts) ≡ length (gs' ++ ts') = length-append gs ts ∙ (let p = swaps-long _ gs gs' wg in let q = heads-long _ ts ts' wt in cc) ∙ sym (length-append gs' ts') in
      let keys : map (keyed W.world (fields_of F P) gs ts) (map (pick σ) (rows W R)) ≡ map (keyed W.world (fields_of F R) gs' ts') (rows W R) =
      map_with _ (pick σ) (λ row. keyed W.world (fields_of F P) gs ts (pick σ row)) (rows W R) (λ row. refl)
      ∙ map_on _ _ (rows W R) (carry-all W s (λ row. keyed W.world (fields_of F P) gs ts (pick σ row) ≡ keyed W.world (fields_of F R) gs' ts' row) (λ row f.
      let p = groups-row W R σ P row f gs gs' wg a.0 b.0 in let q = totals-row W s row f ts ts' wt a.1 b.1 in cc)) in
      sym (rw (s.alike W, keys, long, heads-number _ ts ts' wt))

-- the recovery by place
place-fields : (F : Functions) (fs gs : List Field) → length fs ≡ length gs → map (field_of F) (by_place fs gs) ≡ fs
unfolding by_place
place-fields F [] [] p = refl
place-fields F [] (g ∷ gs) p = refl
place-fields F (f ∷ fs) [] p = absurd (omega arith)
place-fields F (f ∷ fs) (g ∷ gs) p = go (same_field f g) (λ t. field-eq f g t) (place-fields F fs gs (omega arith))
  where
    go : (b : Bool) → (T b → f ≡ g) → map (field_of F) (by_place fs gs) ≡ fs → field_of F (cond b (reference g) (alias (reference g) f)) ∷ map (field_of F) (by_place fs gs) ≡ f ∷ fs
    go true h q = let p = h tt in cc
    go false h q = cc

module _ {F : Functions} where
  place-row : (W : Fitting F) (hs : List Field) (row : Row) (fs gs : List Field) → length fs ≡ length gs → map (eval W hs row) (by_place fs gs) ≡ map (eval W hs row) (refs gs)
  unfolding by_place value_in
  place-row W hs row [] [] p = refl
  place-row W hs row [] (g ∷ gs) p = absurd (omega arith)
  place-row W hs row (f ∷ fs) [] p = absurd (omega arith)
  place-row W hs row (f ∷ fs) (g ∷ gs) p = go (same_field f g) (place-row W hs row fs gs (omega arith))
    where
      go : (b : Bool) → map (eval W hs row) (by_place fs gs) ≡ map (eval W hs row) (refs gs)
          → eval W hs row (cond b (reference g) (alias (reference g) f)) ∷ map (eval W hs row) (by_place fs gs) ≡ eval W hs row (reference g) ∷ map (eval W hs row) (refs gs)
      go true q = cc
      go false q = cc

  place_same : (P R : Plan) → Lawful (fields_of F R) → length (fields_of F P) ≡ length (fields_of F R) → ((W : Fitting F) → rows W R ≡ rows W P) → Same F (projection (by_place (fields_of F P) (fields_of F R)) R) P
  unfolding rows_of
  place_same P R h p q = record {
    fields_same = place-fields F (fields_of F P) (fields_of F R) p;
    rows_same = λ W. map_same _ (rows W R) (All-weaker _ _ (λ row w. place-row W (fields_of F R) row (fields_of F P) (fields_of F R) p ∙ own_row W (fields_of F R) h row w) (rows W R) (rows-wide W R)) ∙ q W;
  }

recovered-count : (F : Functions) (P R : Plan) (n : Tally) → Good F R → length (fields_of F P) ≡ length (fields_of F R) → ((W : Fitting F) → rows W R ≡ rows W P) → Gives (Keeping F P) (build_recovery_projection F 0 (fields_of F P) R n)
unfolding build_recovery_projection
recovered-count F P R n g p q = go (same_fields (fields_of F P) (fields_of F R)) refl (eqb (length (fields_of F P)) (length (fields_of F R))) refl
  where
    go : (a : Bool) → same_fields (fields_of F P) (fields_of F R) ≡ a → (b : Bool) → eqb (length (fields_of F P)) (length (fields_of F R)) ≡ b
        → Gives (Keeping F P) (cond a (built R n) (remade F Recovery 0 (projection (cond b (by_place (fields_of F P) (fields_of F R)) (refs (fields_of F P))) R) n))
    go true e b f = (record { fields_same = sym (fields-eq (fields_of F P) (fields_of F R) (subst T (sym e) tt)); rows_same = q }, g)
    go false e true f = remade-gives _ F Recovery 0 (projection (by_place (fields_of F P) (fields_of F R)) R) n (λ x. (place_same P R (good-lawful F R g) p q, (x, g)))
    go false e false f = absurd (subst T f (rw p (eqb_refl (length (fields_of F R)))))

rebuilt-count : (F : Functions) (gs ts gs' ts' : List Expr) (i r : Plan) (n : Tally) → Good F r → T (every (is_total F) ts') → length gs ≡ length gs' → length ts ≡ length ts'
    → (AllByRecursion (Known (fields_of F r)) (gs' ++ ts') → (W : Fitting F) → rows W (aggregate gs' ts' r) ≡ rows W (aggregate gs ts i))
    → Gives (Keeping F (aggregate gs ts i)) (rebuilt F 0 (fields_of F (aggregate gs ts i)) (aggregate gs' ts' r) n)
unfolding rebuilt
rebuilt-count F gs ts gs' ts' i r n gr g p q f =
    then-gives (λ x. (x ≡ aggregate gs' ts' r) × (Good F (aggregate gs' ts' r) × ((W : Fitting F) → rows W (aggregate gs' ts' r) ≡ rows W (aggregate gs ts i)))) _ _ _
    (made-gives _ F Rebuilt 0 (aggregate gs' ts' r) n (λ a. (refl, ((a, gr, g), f (aggregate-known gs' ts' r a gr)))))
    (λ x m h. rw h.0 (recovered-count F (aggregate gs ts i) (aggregate gs' ts' r) m h.1.0 long h.1.1))
  where
    long : length (map (field_of F) (gs ++ ts)) ≡ length (map (field_of F) (gs' ++ ts'))
    long = length-map (gs ++ ts) (field_of F) ∙ length-append gs ts ∙ (cc) ∙ sym (length-append gs' ts') ∙ sym (length-map (gs' ++ ts') (field_of F))

aggregate-keeps : (F : Functions) (gs ts : List Expr) (i : Plan) (n : Tally) → Good F (aggregate gs ts i)
    → Gives (Keeping F (aggregate gs ts i)) (extract_from_plan F (aggregate gs ts i) n)
unfolding extract_from_plan
aggregate-keeps F gs ts i n g =
    let k = all_split _ gs ts (aggregate-known gs ts i g.0 g.1) in
    let w = routing_extract_all F (find_sole_input (schema_columns (fields_of F i))) gs (empty_extractor n.next) in
    let v = routing_extract_all F (find_sole_input (schema_columns (fields_of F i))) ts w.1 in
    let a = list-after F (find_sole_input (schema_columns (fields_of F i))) (fields_of F i) (Here (fields_of F i)) (entry_here F (fields_of F i)) gs (empty_extractor n.next) k.0 in
    let b = totals-after F (fields_of F i) ts w.1 (every-all (is_total F) ts g.2) k.1 in
    let h : AllByRecursion (Here (fields_of F i)) v.1.entries = b.1.keeps (a.1.keeps (unfold empty_extractor in tt)) in
    let wg = swaps-mono _ _ (held-longer _ _ b.1.longer) gs w.0 a.0 in
    when-extractable (Keeping F (aggregate gs ts i)) F _ n _ (when-new (Keeping F (aggregate gs ts i)) v.1 _ _ _ (then-gives _ (Keeping F (aggregate gs ts i)) _ _ (extracted-placed F i g.1 _ _ _ (here-known (fields_of F i) v.1.entries h))
    (λ r m p. rebuilt-count F gs ts w.0 v.0 i r m p.bears.good (heads-total F _ ts v.0 b.0 g.2) (swaps-long _ gs w.0 wg) (heads-long _ ts v.0 b.0)
    (λ kr. aggregate-rows p.bears.carries.stands gs ts w.0 v.0 (swaps-mono _ _ (here-held v.1 h p.bears.carries) gs w.0 wg)
    (heads-mono _ _ (here-held v.1 h p.bears.carries) ts v.0 b.0) (aggregate-known gs ts i g.0 g.1) kr))))

pub extract-keeps : (F : Functions) (P : Plan) (n : Tally) → Good F P → Gives (Keeping F P) (extract_from_plan F P n)
extract-keeps F (table k q ns) n g = unfold extract_from_plan in tt
extract-keeps F (projection es i) n g = unfold extract_from_plan in tt
extract-keeps F (filter e i) n g = filter-keeps F e i n g
extract-keeps F (sort ks i) n g = sort-keeps F ks i n g
extract-keeps F (limit s c i) n g = unfold extract_from_plan in tt
extract-keeps F (join k cs l r) n g = join-keeps F k cs l r n g
extract-keeps F (subquery_alias s i) n g = unfold extract_from_plan in tt
extract-keeps F (union i is) n g = unfold extract_from_plan in tt
extract-keeps F (aggregate gs ts i) n g = aggregate-keeps F gs ts i n g
