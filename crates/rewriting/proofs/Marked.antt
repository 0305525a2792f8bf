-- After a walk no Marked call with one owner is left: replacing a call by a reference changes no placement above it,
-- and what holds a generated reference has no owner.
use Rattle.std.proofs.Common.{◌≡◌, ℕ, ◌<◌, ◌≤◌, Bool, true, false, cond, not, ◌&&◌, ◌||◌, T, leb, ◌⊎◌, List, [], ◌∷◌, ◌++◌, map, is_some, Some, None, Option, sym, refl, ap, ◌∙◌, subst, inl, inr, arith, leb→le}
use mir.Facts.{and_yes, yes_and}
use Rattle.std.proofs.ByRecursion.{all-has, All-push}
use Rattle.std.specs.List.{AllByRecursion}
use Rattle.plan.specs.Faults.{fault}
use Rattle.plan.specs.Fields.{any, every}
use Rattle.plan.specs.Functions.{Functions, Placement, all_constant, column, constant, first_column, function_at, is_constant, is_keep, is_marked, keep, marked, marked_if, none_kept, placed_by, placement_of, placements_of, rule_in}
use Rattle.plan.specs.Names.{Name, most_number, number_of, prefixed}
use Rattle.plan.specs.Plans.{Key, Plan, fields_of}
use Rattle.plan.specs.Plans.Plan.{aggregate, filter, join, limit, projection, sort, subquery_alias, table, union}
use Rattle.plan.specs.Questions.{expressions_of, input_fields}
use Rattle.plan.specs.Rendering.{unqualified_field}
use Rattle.std.specs.Str.{bytes_eq}
use Rattle.plan.specs.Terms.{Expr, Exprs, Field, same_field, same_qualifier}
use Rattle.plan.specs.Terms.Qualifier.{unqualified}
use Rattle.plan.specs.Terms.Expr.{alias, call, literal, reference}
use Rattle.plan.specs.Terms.Exprs.{more, none}
use Rattle.plan.specs.declared.code.JoinKind.{JoinKind}
use Rattle.plan.specs.declared.code.Rule.{Rule}
use Rattle.plan.specs.declared.code.Rule.TheVariants.{Always, AnyColumn, FirstColumn, Stay, Total}
use Rattle.plan.specs.declared.fault.Question.TheVariants.{Limited}
use Rattle.plan.specs.declared.fault.Stage.TheVariants.{Extraction, Rebuilt, Recovery}
use Rattle.rows.proofs.Lists.{all_split}
use Rattle.rewriting.proofs.Fresh.{lower-differs}
use Rattle.rewriting.proofs.Made.{gives-weaker, made-gives, then-gives, remade-gives, when-gives}
use Rattle.rewriting.proofs.Walks.{entered-held}
use Rattle.rewriting.specs.Extracting.{Outcome, build_recovery_projection, built, extract_from_plan, no_change, rebuilt, refused, same_fields, when_new, remade, when_extractable}
use Rattle.rewriting.specs.Generated.{countable, generated}
use Rattle.rewriting.specs.Laws.{Gives}
use Rattle.rewriting.specs.Marked.{ExtractLeavesNothing, IsOrRecovers, NothingLeft, RebuiltAs, marked_left, marked_left_all, owner_in}
use Rattle.rewriting.specs.Outlay.{Tally}
use Rattle.rewriting.specs.Routing.{Extractor, Side, add_extracted, empty_extractor, entered, find_owning_input, find_sole_input, has_all_column_refs, have_all_column_refs, noted, owner_of, routing_extract, routing_extract_all, routing_extract_keys, routing_extracts, taken_if, under_alias, under_call, schema_columns, has_extractable_expr}
use Rattle.rewriting.specs.Worked.{start}

-- placements that the rules cannot tell apart
pub record Akin (p q : Placement) : Type 0 where
  pub constants : is_constant p ≡ is_constant q
  pub keeps : is_keep p ≡ is_keep q

akin-self : (p : Placement) → Akin p p
akin-self p = record { constants = refl; keeps = refl }

abbrev AkinAll : List Placement → List Placement → Type 0
AkinAll [] [] = Unit {0}
AkinAll [] (q ∷ qs) = ⊥
AkinAll (p ∷ ps) [] = ⊥
AkinAll (p ∷ ps) (q ∷ qs) = Akin p q × AkinAll ps qs

akin-constant : (ps qs : List Placement) → AkinAll ps qs → all_constant ps ≡ all_constant qs
akin-constant [] [] a = refl
akin-constant [] (q ∷ qs) a = absurd a
akin-constant (p ∷ ps) [] a = absurd a
akin-constant (p ∷ ps) (q ∷ qs) a = let x = a.0.constants in let y = akin-constant ps qs a.1 in cc

akin-kept : (ps qs : List Placement) → AkinAll ps qs → none_kept ps ≡ none_kept qs
akin-kept [] [] a = refl
akin-kept [] (q ∷ qs) a = absurd a
akin-kept (p ∷ ps) [] a = absurd a
akin-kept (p ∷ ps) (q ∷ qs) a = let x = a.0.keeps in let y = akin-kept ps qs a.1 in cc

akin-first : (ps qs : List Placement) → AkinAll ps qs → first_column ps ≡ first_column qs
akin-first [] [] a = refl
akin-first [] (q ∷ qs) a = absurd a
akin-first (p ∷ ps) [] a = absurd a
akin-first (p ∷ ps) (q ∷ qs) a = let x = a.0.constants in let z = a.0.keeps in let y = akin-constant ps qs a.1 in cc

akin-placed : (r : Rule) (ps qs : List Placement) → AkinAll ps qs → placed_by r ps ≡ placed_by r qs
akin-placed Stay ps qs a = refl
akin-placed FirstColumn ps qs a = ap marked_if (akin-first ps qs a)
akin-placed AnyColumn ps qs a = let x = akin-kept ps qs a in let y = akin-constant ps qs a in cc
akin-placed Always ps qs a = refl
akin-placed Total ps qs a = refl

akin-marked : (p : Placement) → T (is_marked p) → Akin column p
akin-marked column h = absurd h
akin-marked constant h = absurd h
akin-marked marked h = record { constants = refl; keeps = refl }
akin-marked keep h = absurd h

-- the second input, or none
abbrev covered : Option (List Field) → Expr → Bool
covered None e = false
covered (Some fs) e = has_all_column_refs fs e

abbrev covered_all : Option (List Field) → Exprs → Bool
covered_all None es = false
covered_all (Some fs) es = have_all_column_refs fs es

covered-alias : (o : Option (List Field)) (e : Expr) (f : Field) → covered o (alias e f) ≡ covered o e
unfolding has_all_column_refs
covered-alias None e f = refl
covered-alias (Some fs) e f = refl

covered-call : (o : Option (List Field)) (n : ℕ) (es : Exprs) → covered o (call n es) ≡ covered_all o es
unfolding has_all_column_refs
covered-call None n es = refl
covered-call (Some fs) n es = refl

covered_more : (o : Option (List Field)) (e : Expr) (es : Exprs) → covered_all o (more e es) ≡ covered o e && covered_all o es
unfolding has_all_column_refs
covered_more None e es = refl
covered_more (Some fs) e es = refl

and-false : (a b : Bool) → b ≡ false → a && b ≡ false
and-false true b p = p
and-false false b p = refl

pub no_or : (a b : Bool) → T (not a) → T (not b) → T (not (a || b))
no_or true b h k = h
no_or false b h k = k

no-and : (a b : Bool) → b ≡ false → T (not (a && b))
no-and a b p = rw (and-false a b p) tt

pub no-left : (a b : Bool) → a ≡ false → T (not (a && b))
no-left true b p = let z : ◌≡◌ {A = ℕ} 0 1 = cc in absurd (omega arith)
no-left false b p = tt

or_no : (a b : Bool) → T (not (a || b)) → T (not a) × T (not b)
or_no true b h = absurd h
or_no false b h = (tt, h)

module _ (F : Functions) (fl : List Field) (o : Option (List Field)) where
  abbrev owner : Expr → Option Side
  owner e = owner_of (covered (Some fl) e) (covered o e)

  -- the same references of the inputs, or a generated one
  abbrev Covering : Bool → Bool → Bool → Bool → Type 0
  Covering a a' b b' = ((a' ≡ a) × (b' ≡ b)) ⊎ ((a' ≡ false) × (b' ≡ false))

  record Clean (e e' : Expr) : Type 0 where
    akin : Akin (placement_of F e') (placement_of F e)
    cover : Covering (covered (Some fl) e) (covered (Some fl) e') (covered o e) (covered o e')
    gone : T (not (marked_left F owner e'))

  record CleanAll (es es' : Exprs) : Type 0 where
    akin : AkinAll (placements_of F es') (placements_of F es)
    cover : Covering (covered_all (Some fl) es) (covered_all (Some fl) es') (covered_all o es) (covered_all o es')
    gone : T (not (marked_left_all F owner es'))

  -- a name that no field of the inputs has
  Absent : Name → Type 0
  Absent x = (covered (Some fl) (reference (unqualified_field x)) ≡ false) × (covered o (reference (unqualified_field x)) ≡ false)

  owner-none : (a b a' b' : Bool) → Covering a a' b b' → owner_of a b ≡ None → is_some (owner_of a' b') ≡ false
  unfolding owner_of
  owner-none a b a' b' (inl p) q =
      let r : owner_of a' b' ≡ owner_of a b = (let x = p.0 in let y = p.1 in cc) in
      ap is_some (r ∙ q)
  owner-none a b a' b' (inr p) q =
      let r : owner_of a' b' ≡ owner_of false false = (let x = p.0 in let y = p.1 in cc) in
      ap is_some r

  -- a call that stays: not Marked, or without one owner
  call-clean : (n : ℕ) (es es' : Exprs) → CleanAll es es' → (is_marked (placement_of F (call n es)) ≡ false) ⊎ (owner (call n es) ≡ None) → Clean (call n es) (call n es')
  unfolding marked_left
  call-clean n es es' c s = record {
    akin = rw same_place (akin-self _);
    cover = cover-call;
    gone = no_or _ _ (stays s) c.gone;
  }
    where
      same_place : placement_of F (call n es') ≡ placement_of F (call n es)
      same_place = akin-placed (rule_in (function_at F n)) (placements_of F es') (placements_of F es) c.akin

      cover-call : Covering (covered (Some fl) (call n es)) (covered (Some fl) (call n es')) (covered o (call n es)) (covered o (call n es'))
      cover-call = rw (covered-call o n es, covered-call o n es', covered-call (Some fl) n es, covered-call (Some fl) n es') c.cover

      stays : (is_marked (placement_of F (call n es)) ≡ false) ⊎ (owner (call n es) ≡ None) → T (not (is_marked (placement_of F (call n es')) && is_some (owner (call n es'))))
      stays (inl p) = no-left _ _ (ap is_marked same_place ∙ p)
      stays (inr q) = no-and _ _ (owner-none _ _ _ _ cover-call q)

  more-clean : (e e' : Expr) (es es' : Exprs) → Clean e e' → CleanAll es es' → CleanAll (more e es) (more e' es')
  unfolding marked_left
  more-clean e e' es es' c d = record { akin = (c.akin, d.akin); cover = both-cover; gone = no_or _ _ c.gone d.gone }
    where
      join_cover : (a a' b b' x x' y y' : Bool) → Covering a a' b b' → Covering x x' y y' → Covering (a && x) (a' && x') (b && y) (b' && y')
      join_cover a a' b b' x x' y y' (inl p) (inl q) = let r = p.0 in let s = p.1 in let t = q.0 in let u = q.1 in inl (cc, cc)
      join_cover a a' b b' x x' y y' (inl p) (inr q) = inr (and-false a' x' q.0, and-false b' y' q.1)
      join_cover a a' b b' x x' y y' (inr p) q = let r = p.0 in let s = p.1 in inr (cc, cc)

      both-cover : Covering (covered_all (Some fl) (more e es)) (covered_all (Some fl) (more e' es')) (covered_all o (more e es)) (covered_all o (more e' es'))
      both-cover = rw (covered_more o e es, covered_more o e' es', covered_more (Some fl) e es, covered_more (Some fl) e' es') (join_cover _ _ _ _ _ _ _ _ c.cover d.cover)

  module _ (start : ℕ) (new : (k : ℕ) → start ≤ k → k ≤ most_number → Absent (generated k)) where
    -- what is known between the steps of a walk
    record Going (g : Extractor) : Type 0 where
      absent : AllByRecursion (λ d. Absent d.2) g.entries
      later : start ≤ g.next

    abbrev Unfull : Extractor → Type 0
    Unfull g = T (not g.full)

    noted-full : (s : Option Side) (r : Field) (g : Extractor) → (noted s r g).full ≡ g.full
    unfolding noted
    noted-full None r g = refl
    noted-full (Some s) r g = refl

    noted-going : (s : Option Side) (r : Field) (g : Extractor) → Going g → Going (noted s r g)
    unfolding noted
    noted-going None r g h = h
    noted-going (Some s) r g h = record { absent = h.absent; later = h.later }

    added-unfull : (s : Side) (e : Expr) (g : Extractor) (x : Option Name) → Unfull (add_extracted s e g x).1 → Unfull g
    unfolding add_extracted
    added-unfull s e g (Some x) h = h
    added-unfull s e g None h = (or_no g.full (not (countable g.next)) h).0

    taken-unfull : (b : Bool) (s : Option Side) (e : Expr) (g : Extractor) (w : Expr × Extractor) → (Unfull w.1 → Unfull g) → Unfull (taken_if b s e g w).1 → Unfull g
    unfolding taken_if
    taken-unfull false s e g w f h = f h
    taken-unfull true None e g w f h = f h
    taken-unfull true (Some s) e g w f h = added-unfull s e g (entered e g.entries) h

    mutual
      unfolding routing_extract under_alias under_call

      walk-unfull : (e : Expr) (g : Extractor) → Unfull (routing_extract F owner e g).1 → Unfull g
      walk-unfull (literal v) g h = h
      walk-unfull (reference r) g h = rw (noted-full (owner (reference r)) r g) at h
      walk-unfull (alias e f) g h = go (prefixed f.name) h (λ k. walk-unfull e g k)
        where
          go : (b : Bool) → Unfull (cond b (alias e f, g) (under_alias f (routing_extract F owner e g))).1 → (Unfull (routing_extract F owner e g).1 → Unfull g) → Unfull g
          go true h k = h
          go false h k = k h
      walk-unfull (call n es) g h =
          taken-unfull (is_marked (placement_of F (call n es))) (owner (call n es)) (call n es) g (under_call n (routing_extracts F owner es g)) (λ k. walks-unfull es g k) h

      walks-unfull : (es : Exprs) (g : Extractor) → Unfull (routing_extracts F owner es g).1 → Unfull g
      walks-unfull none g h = h
      walks-unfull (more e es) g h = walk-unfull e g (walks-unfull es (routing_extract F owner e g).1 h)

    reference-clean : (e : Expr) (x : Name) → T (is_marked (placement_of F e)) → Absent x → Clean e (reference (unqualified_field x))
    unfolding marked_left Absent
    reference-clean e x h a = record { akin = akin-marked (placement_of F e) h; cover = inr a; gone = tt }

    added-clean : (s : Side) (e : Expr) (g : Extractor) (x : Option Name) → entered e g.entries ≡ x → T (is_marked (placement_of F e)) → Unfull (add_extracted s e g x).1 → Going g
        → Clean e (add_extracted s e g x).0 × Going (add_extracted s e g x).1
    unfolding add_extracted countable
    added-clean s e g (Some x) p h u k =
        let d = entered-held e g.entries x p in
        let a = all-has (λ d. Absent d.2) g.entries d.0 k.absent d.1 in
        let q : x ≡ d.0.2 = ap (λ (f : Field). f.name) d.2 in
        (reference-clean e x h (subst Absent (sym q) a), record { absent = k.absent; later = k.later })
    added-clean s e g None p h u k =
        let c = or_no g.full (not (leb g.next most_number)) u in
        let b : T (leb g.next most_number) = no-no (leb g.next most_number) c.1 in
        let a = new g.next k.later (leb→le g.next most_number b) in
        let l = k.later in
        (reference-clean e (generated g.next) h a, record { absent = All-push (λ d. Absent d.2) g.entries (s, e, generated g.next) k.absent a; later = omega arith })
      where
        no-no : (b : Bool) → T (not (not b)) → T b
        no-no true h = tt
        no-no false h = h

    taken-clean : (b : Bool) (s : Option Side) (n : ℕ) (es : Exprs) (g : Extractor) (w : Expr × Extractor) → is_marked (placement_of F (call n es)) ≡ b → owner (call n es) ≡ s
        → Unfull (taken_if b s (call n es) g w).1 → Going g
        → (Unfull w.1 → (is_marked (placement_of F (call n es)) ≡ false) ⊎ (owner (call n es) ≡ None) → Clean (call n es) w.0 × Going w.1)
        → Clean (call n es) (taken_if b s (call n es) g w).0 × Going (taken_if b s (call n es) g w).1
    unfolding taken_if
    taken-clean false s n es g w p q u k f = f u (inl p)
    taken-clean true None n es g w p q u k f = f u (inr q)
    taken-clean true (Some s) n es g w p q u k f = added-clean s (call n es) g (entered (call n es) g.entries) refl (subst T (sym p) tt) u k

    mutual
      unfolding routing_extract under_alias under_call marked_left

      walk-clean : (e : Expr) (g : Extractor) → Unfull (routing_extract F owner e g).1 → Going g → Clean e (routing_extract F owner e g).0 × Going (routing_extract F owner e g).1
      walk-clean (literal v) g u k = (record { akin = akin-self constant; cover = inl (refl, refl); gone = tt }, k)
      walk-clean (reference r) g u k = (record { akin = akin-self column; cover = inl (refl, refl); gone = tt }, noted-going (owner (reference r)) r g k)
      walk-clean (alias e f) g u k = go (prefixed f.name) refl u (λ v. walk-clean e g v k)
        where
          under-alias : (d : Expr) → Clean e d → T (not (not (prefixed f.name) && marked_left F owner d)) → Clean (alias e f) (alias d f)
          under-alias d c h = record {
            akin = c.akin;
            cover = rw (covered-alias o e f, covered-alias o d f, covered-alias (Some fl) e f, covered-alias (Some fl) d f) c.cover;
            gone = h;
          }

          go : (b : Bool) → prefixed f.name ≡ b → Unfull (cond b (alias e f, g) (under_alias f (routing_extract F owner e g))).1
              → (Unfull (routing_extract F owner e g).1 → Clean e (routing_extract F owner e g).0 × Going (routing_extract F owner e g).1)
              → Clean (alias e f) (cond b (alias e f, g) (under_alias f (routing_extract F owner e g))).0 × Going (cond b (alias e f, g) (under_alias f (routing_extract F owner e g))).1
          go true p u h = (record { akin = akin-self _; cover = inl (refl, refl); gone = no-left _ _ (ap not p) }, k)
          go false p u h = let c = h u in (under-alias _ c.0 (rw p c.0.gone), c.1)
      walk-clean (call n es) g u k =
          taken-clean (is_marked (placement_of F (call n es))) (owner (call n es)) n es g (under_call n (routing_extracts F owner es g)) refl refl u k
          (λ v s. let c = walks-clean es g v k in (call-clean n es _ c.0 s, c.1))

      walks-clean : (es : Exprs) (g : Extractor) → Unfull (routing_extracts F owner es g).1 → Going g → CleanAll es (routing_extracts F owner es g).0 × Going (routing_extracts F owner es g).1
      walks-clean none g u k = (record { akin = tt; cover = inl (refl, refl); gone = tt }, k)
      walks-clean (more e es) g u k =
          let a = walk-clean e g (walks-unfull es (routing_extract F owner e g).1 u) k in
          let b = walks-clean es (routing_extract F owner e g).1 u a.1 in
          (more-clean e _ es _ a.0 b.0, b.1)

    abbrev gone : Expr → Bool
    gone e = not (marked_left F owner e)

    list-unfull : (es : List Expr) (g : Extractor) → Unfull (routing_extract_all F owner es g).1 → Unfull g
    unfolding routing_extract_all
    list-unfull [] g u = u
    list-unfull (e ∷ es) g u = walk-unfull e g (list-unfull es (routing_extract F owner e g).1 u)

    list-clean : (es : List Expr) (g : Extractor) → Unfull (routing_extract_all F owner es g).1 → Going g → T (every gone (routing_extract_all F owner es g).0) × Going (routing_extract_all F owner es g).1
    unfolding routing_extract_all
    list-clean [] g u k = (tt, k)
    list-clean (e ∷ es) g u k =
        let a = walk-clean e g (list-unfull es (routing_extract F owner e g).1 u) k in
        let b = list-clean es (routing_extract F owner e g).1 u a.1 in
        (yes_and _ _ a.0.gone b.0, b.1)

    keys-unfull : (ks : List Key) (g : Extractor) → Unfull (routing_extract_keys F owner ks g).1 → Unfull g
    unfolding routing_extract_keys
    keys-unfull [] g u = u
    keys-unfull (e ∷ es) g u = walk-unfull e.by g (keys-unfull es (routing_extract F owner e.by g).1 u)

    keys-clean : (ks : List Key) (g : Extractor) → Unfull (routing_extract_keys F owner ks g).1 → Going g
        → T (every gone (map (λ k. k.by) (routing_extract_keys F owner ks g).0)) × Going (routing_extract_keys F owner ks g).1
    unfolding routing_extract_keys
    keys-clean [] g u k = (tt, k)
    keys-clean (e ∷ es) g u k =
        let a = walk-clean e.by g (keys-unfull es (routing_extract F owner e.by g).1 u) k in
        let b = keys-clean es (routing_extract F owner e.by g).1 u a.1 in
        (yes_and _ _ a.0.gone b.0, b.1)

    one-clean : (e : Expr) (g : Extractor) → Unfull (routing_extract F owner e g).1 → Going g → T (gone (routing_extract F owner e g).0)
    one-clean e g u k = (walk-clean e g u k).0.gone

    going-empty : Going (empty_extractor start)
    unfolding empty_extractor
    going-empty = record { absent = tt; later = omega arith }

-- the numbers from start on are new to the fields of an input
field-absent : (fs : List Field) (start k : ℕ) → AllByRecursion (λ f. number_of f.name < start) fs → start ≤ k → k ≤ most_number → any (same_field (unqualified_field (generated k))) (schema_columns fs) ≡ false
unfolding schema_columns
field-absent [] start k h l m = refl
field-absent (f ∷ fs) start k h l m =
    let a = h.0 in
    let p = lower-differs k f.name m (omega arith) in
    let d = and-false (same_qualifier unqualified f.qualifier) (bytes_eq (generated k) f.name) p in
    let q = field-absent fs start k h.1 l m in
    cc

when-unfull : (Z : Plan → Type 0) (F : Functions) (es : List Expr) (g : Extractor) (n t : Tally) (o : Outcome) → (T (not g.full) → Gives Z o) → Gives Z (when_extractable F es n (when_new g n t o))
unfolding when_extractable when_new
when-unfull Z F es g n t o h = when-gives Z (has_extractable_expr F es) n _ (go g.full g.new h)
  where
    go : (a b : Bool) → (T (not a) → Gives Z o) → Gives Z (cond a (refused (fault Limited Extraction 0) t) (cond b o (no_change n)))
    go true b h = tt
    go false true h = h tt
    go false false h = tt

any-gives : (o : Outcome) → Gives (λ p. Unit {0}) o
any-gives (built p n) = tt
any-gives (no_change n) = tt
any-gives (refused x n) = tt

recovers : (F : Functions) (level : ℕ) (old : List Field) (p : Plan) (n : Tally) → Gives (λ R. IsOrRecovers R p) (build_recovery_projection F level old p n)
unfolding build_recovery_projection
recovers F level old p n = go (same_fields old (fields_of F p)) _
  where
    go : (b : Bool) (es : List Expr) → Gives (λ R. IsOrRecovers R p) (cond b (built p n) (remade F Recovery level (projection es p) n))
    go true es = inl refl
    go false es = remade-gives _ F Recovery level (projection es p) n (λ a. inr (es, refl))

rebuilt-left : (F : Functions) (P : Plan) (old : List Field) (node : Plan) (n : Tally) → RebuiltAs P node → T (every (λ e. not (marked_left F (owner_in F P) e)) (expressions_of node))
    → Gives (NothingLeft F P) (rebuilt F 0 old node n)
unfolding rebuilt
rebuilt-left F P old node n k c =
    then-gives (λ q. q ≡ node) _ _ _ (made-gives _ F Rebuilt 0 node n (λ a. refl)) (λ q m e. rw e (gives-weaker (λ R. IsOrRecovers R node) (NothingLeft F P) _ (λ R a. record { node = node; answer = a; kind = k; clean = c }) (recovers F 0 old node m)))

module _ (F : Functions) (i : Plan) (n : Tally) (h : AllByRecursion (λ f. number_of f.name < n.next) (fields_of F i)) where
  sole-new : (k : ℕ) → n.next ≤ k → k ≤ most_number → Absent F (schema_columns (fields_of F i)) None (generated k)
  unfolding Absent has_all_column_refs
  sole-new k l m = (field-absent (fields_of F i) n.next k h l m, refl)

  filter-left : (e : Expr) → Gives (NothingLeft F (filter e i)) (extract_from_plan F (filter e i) n)
  unfolding extract_from_plan owner_in find_sole_input
  filter-left e =
      when-unfull _ F _ _ _ _ _ (λ u. then-gives (λ p. Unit {0}) _ _ _ (any-gives _) (λ r m t.
      rebuilt-left F (filter e i) _ (filter (routing_extract F (find_sole_input (schema_columns (fields_of F i))) e (empty_extractor n.next)).0 r) m (_, r, refl)
      (yes_and _ _ (one-clean F (schema_columns (fields_of F i)) None n.next sole-new e (empty_extractor n.next) u (going-empty F (schema_columns (fields_of F i)) None n.next sole-new)) tt)))

  sort-left : (ks : List Key) → Gives (NothingLeft F (sort ks i)) (extract_from_plan F (sort ks i) n)
  unfolding extract_from_plan owner_in find_sole_input
  sort-left ks =
      when-unfull _ F _ _ _ _ _ (λ u. then-gives (λ p. Unit {0}) _ _ _ (any-gives _) (λ r m t.
      rebuilt-left F (sort ks i) _ (sort (routing_extract_keys F (find_sole_input (schema_columns (fields_of F i))) ks (empty_extractor n.next)).0 r) m (_, r, refl)
      (keys-clean F (schema_columns (fields_of F i)) None n.next sole-new ks (empty_extractor n.next) u (going-empty F (schema_columns (fields_of F i)) None n.next sole-new)).0))

  every-join : (p : Expr → Bool) (xs ys : List Expr) → T (every p xs) → T (every p ys) → T (every p (xs ++ ys))
  every-join p [] ys a b = b
  every-join p (x ∷ xs) ys a b = let c = and_yes (p x) (every p xs) a in yes_and (p x) (every p (xs ++ ys)) c.0 (every-join p xs ys c.1 b)

  aggregate-left : (gs ts : List Expr) → Gives (NothingLeft F (aggregate gs ts i)) (extract_from_plan F (aggregate gs ts i) n)
  unfolding extract_from_plan owner_in find_sole_input
  aggregate-left gs ts =
      let own = find_sole_input (schema_columns (fields_of F i)) in
      let w = routing_extract_all F own gs (empty_extractor n.next) in
      let v = routing_extract_all F own ts w.1 in
      when-unfull _ F _ v.1 _ _ _ (λ u.
      let a = list-clean F (schema_columns (fields_of F i)) None n.next sole-new gs (empty_extractor n.next) (list-unfull F (schema_columns (fields_of F i)) None n.next sole-new ts w.1 u) (going-empty F (schema_columns (fields_of F i)) None n.next sole-new) in
      let b = list-clean F (schema_columns (fields_of F i)) None n.next sole-new ts w.1 u a.1 in
      then-gives (λ p. Unit {0}) _ _ _ (any-gives _) (λ r m t.
      rebuilt-left F (aggregate gs ts i) _ (aggregate w.0 v.0 r) m (_, _, r, refl) (every-join _ w.0 v.0 a.0 b.0)))

join-left : (F : Functions) (k : JoinKind) (cs : List Expr) (l r : Plan) (n : Tally) → AllByRecursion (λ f. number_of f.name < n.next) (fields_of F l ++ fields_of F r)
    → Gives (NothingLeft F (join k cs l r)) (extract_from_plan F (join k cs l r) n)
unfolding extract_from_plan owner_in find_owning_input
join-left F k cs l r n h =
    when-unfull _ F _ _ _ _ _ (λ u. then-gives (λ p. Unit {0}) _ _ _ (any-gives _) (λ x m t. then-gives (λ p. Unit {0}) _ _ _ (any-gives _) (λ y o s.
    rebuilt-left F (join k cs l r) _ (join k (routing_extract_all F (find_owning_input (schema_columns (fields_of F l)) (schema_columns (fields_of F r))) cs (empty_extractor n.next)).0 x y) o (_, x, y, refl)
    (list-clean F (schema_columns (fields_of F l)) (Some (schema_columns (fields_of F r))) n.next new cs (empty_extractor n.next) u (going-empty F (schema_columns (fields_of F l)) (Some (schema_columns (fields_of F r))) n.next new)).0)))
  where
    new : (j : ℕ) → n.next ≤ j → j ≤ most_number → Absent F (schema_columns (fields_of F l)) (Some (schema_columns (fields_of F r))) (generated j)
    new j a b = let s = all_split _ (fields_of F l) (fields_of F r) h in unfold Absent in unfold has_all_column_refs in (field-absent (fields_of F l) n.next j s.0 a b, field-absent (fields_of F r) n.next j s.1 a b)

left-gives : (F : Functions) (P : Plan) (n : Tally) → AllByRecursion (λ f. number_of f.name < n.next) (input_fields F P) → Gives (NothingLeft F P) (extract_from_plan F P n)
left-gives F (table k q ns) n h = unfold extract_from_plan in tt
left-gives F (projection es i) n h = unfold extract_from_plan in tt
left-gives F (filter e i) n h = filter-left F i n h e
left-gives F (sort ks i) n h = sort-left F i n h ks
left-gives F (limit s c i) n h = unfold extract_from_plan in tt
left-gives F (aggregate gs ts i) n h = aggregate-left F i n h gs ts
left-gives F (join k cs l r) n h = join-left F k cs l r n h
left-gives F (subquery_alias s i) n h = unfold extract_from_plan in tt
left-gives F (union i is) n h = unfold extract_from_plan in tt

pub extract-leaves-nothing : ExtractLeavesNothing
extract-leaves-nothing F P R n m h p = subst (Gives (NothingLeft F P)) p (left-gives F P n h)
