-- What walks find is sound, and what extract refuses at a Projection of pairs it refuses by question 8.
use Rattle.std.proofs.Common.{◌≡◌, ℕ, suc, ◌<◌, ◌≤◌, Bool, true, false, cond, not, ◌||◌, T, eqb, leb, List, [], ◌∷◌, ◌++◌, map, length, Some, None, Option, sym, refl, ap, ◌∙◌, subst, inl, inr, arith, leb→le}
use Rattle.std.proofs.ByRecursion.{All-append, All-get_or, All-map, All-push, All-weaker}
use Rattle.std.specs.List.{AllByRecursion}
use Rattle.plan.specs.Faults.{fault, first_no}
use Rattle.plan.specs.Functions.{Functions, is_marked, is_total, placement_of}
use Rattle.plan.specs.Model.{no_node}
use Rattle.plan.specs.Names.{Name, most_number, number_of, prefixed}
use Rattle.plan.specs.Plans.{Key, Plan, fields_of}
use Rattle.plan.specs.Plans.Plan.{aggregate, filter, join, limit, projection, sort, subquery_alias, table, union}
use Rattle.plan.specs.Questions.{input_fields, limited, node_asked}
use Rattle.plan.specs.Swapping.{own_space}
use Rattle.plan.specs.Terms.{Expr, Exprs, Field, references_of, references_of_all}
use Rattle.plan.specs.Terms.Expr.{alias, call, literal, reference}
use Rattle.plan.specs.Terms.Exprs.{more, none}
use Rattle.plan.specs.declared.fault.Question.{Question}
use Rattle.plan.specs.declared.fault.Question.TheVariants.{Limited}
use Rattle.plan.specs.declared.fault.Stage.{Stage}
use Rattle.plan.specs.declared.fault.Stage.TheVariants.{Extraction, Rebuilt, Recovery}
use Rattle.rows.proofs.Lists.{all_split, map-append}
use Rattle.rows.specs.Lists.{keep}
use Rattle.rows.specs.Standing.{Good, Known, Knowns, refs}
use Rattle.rewriting.proofs.Book.{fields-lower}
use Rattle.rewriting.proofs.CarryJoins.{known-left, known-right}
use Rattle.rewriting.proofs.Extracts.{owner-side}
use Rattle.rewriting.proofs.Limits.{only-limited}
use Rattle.rewriting.proofs.Made.{aggregate-known, filter-known, join-known, sort-known}
use Rattle.rewriting.proofs.Splits.{keep-with, owned-one, pairs-all, unalias-known}
use Rattle.rewriting.proofs.Totals.{total-stays}
use Rattle.rewriting.specs.Extracting.{Outcome, and_then, build_extraction_projection, build_extraction_projection_impl, build_recovery_projection, built, by_place, extract_from_plan, made, made_if, no_change, rebuilt, refused, remade, same_fields, stage_of, when_extractable, when_new}
use Rattle.rewriting.specs.Generated.{countable, generated, next_number}
use Rattle.rewriting.specs.Limits.{Below, ExtractIsLimited, OnlyEight, ProjectionsAreLimited, Rising, Sound, Taken, Walks, WalksAreSound, fields_at, is_of_pairs}
use Rattle.rewriting.specs.Outlay.{Tally, charged}
use Rattle.rewriting.specs.Routing.{Entry, Extractor, Pair, Side, add_extracted, empty_extractor, entered, find_owning_input, find_sole_input, has_all_column_refs, has_extractable_expr, need, needed_of, needs, noted, one, pairs_of, routing_extract, routing_extract_all, routing_extract_keys, routing_extracts, same_side, schema_columns, taken_if, two, unalias, under_alias, under_call}

-- what holds of an extractor after each step of a walk holds after the walk
module _ (F : Functions) (own : Expr → Option Side) (fs : List Field) (Z : Extractor → Type 0)
    (notes : (s : Side) (r : Field) (g : Extractor) → Known fs (reference r) → own (reference r) ≡ Some s → Z g → Z (noted (Some s) r g))
    (takes : (s : Side) (e : Expr) (g : Extractor) (o : Option Name) → Known fs e → own e ≡ Some s → is_marked (placement_of F e) ≡ true → Z g → Z (add_extracted s e g o).1) where
  noted-holds : (o : Option Side) (r : Field) (g : Extractor) → Known fs (reference r) → own (reference r) ≡ o → Z g → Z (noted o r g)
  unfolding noted
  noted-holds None r g k p z = z
  noted-holds (Some s) r g k p z = notes s r g k p z

  taken-holds : (b : Bool) (o : Option Side) (e : Expr) (g : Extractor) (w : Expr × Extractor) → Known fs e → own e ≡ o → is_marked (placement_of F e) ≡ b → Z g → Z w.1 → Z (taken_if b o e g w).1
  unfolding taken_if
  taken-holds false o e g w k p m z h = h
  taken-holds true None e g w k p m z h = h
  taken-holds true (Some s) e g w k p m z h = takes s e g (entered e g.entries) k p m z

  mutual
    unfolding routing_extract under_alias under_call

    walk-holds : (e : Expr) (g : Extractor) → Known fs e → Z g → Z (routing_extract F own e g).1
    walk-holds (literal v) g k z = z
    walk-holds (reference r) g k z = noted-holds (own (reference r)) r g k refl z
    walk-holds (alias e f) g k z = go (prefixed f.name) (walk-holds e g k z)
      where
        go : (b : Bool) → Z (routing_extract F own e g).1 → Z (cond b (alias e f, g) (under_alias f (routing_extract F own e g))).1
        go true h = z
        go false h = h
    walk-holds (call n es) g k z = taken-holds (is_marked (placement_of F (call n es))) (own (call n es)) (call n es) g (under_call n (routing_extracts F own es g)) k refl refl z (walks-hold es g k z)

    walks-hold : (es : Exprs) (g : Extractor) → Knowns fs es → Z g → Z (routing_extracts F own es g).1
    walks-hold none g k z = z
    walks-hold (more e es) g k z = walks-hold es (routing_extract F own e g).1 k.1 (walk-holds e g k.0 z)

  list-holds : (es : List Expr) (g : Extractor) → AllByRecursion (Known fs) es → Z g → Z (routing_extract_all F own es g).1
  unfolding routing_extract_all
  list-holds [] g k z = z
  list-holds (e ∷ es) g k z = list-holds es (routing_extract F own e g).1 k.1 (walk-holds e g k.0 z)

  keys-hold : (ks : List Key) (g : Extractor) → AllByRecursion (λ k. Known fs k.by) ks → Z g → Z (routing_extract_keys F own ks g).1
  unfolding routing_extract_keys
  keys-hold [] g k z = z
  keys-hold (e ∷ es) g k z = keys-hold es (routing_extract F own e.by g).1 k.1 (walk-holds e.by g k.0 z)

-- what is Marked is no total, and so nothing that a walk takes out is one
marked-plain : (F : Functions) (e : Expr) → is_marked (placement_of F e) ≡ true → is_total F e ≡ false
marked-plain F (literal v) h = refl
marked-plain F (reference r) h = refl
marked-plain F (alias e f) h = marked-plain F e h
marked-plain F (call n es) h = go (is_total F (call n es)) refl
  where
    go : (b : Bool) → is_total F (call n es) ≡ b → b ≡ false
    go true p = absurd (let q = total-stays F n es (subst T (sym p) tt) in let z : ◌≡◌ {A = ℕ} 0 1 = cc in omega arith)
    go false p = refl

abbrev pub Plain : Functions → List Entry → Type 0
Plain F ds = AllByRecursion (λ d. is_total F d.1 ≡ false) ds

module _ (F : Functions) (own : Expr → Option Side) (fs : List Field) where
  notes-plain : (s : Side) (r : Field) (g : Extractor) → Known fs (reference r) → own (reference r) ≡ Some s → Plain F g.entries → Plain F (noted (Some s) r g).entries
  unfolding noted
  notes-plain s r g k p z = z

  takes-plain : (s : Side) (e : Expr) (g : Extractor) (o : Option Name) → Known fs e → own e ≡ Some s → is_marked (placement_of F e) ≡ true → Plain F g.entries → Plain F (add_extracted s e g o).1.entries
  unfolding add_extracted
  takes-plain s e g (Some x) k p m z = z
  takes-plain s e g None k p m z = All-push _ g.entries (s, e, generated g.next) z (marked-plain F e m)

  pub walk-plain : (e : Expr) (g : Extractor) → Known fs e → Plain F g.entries → Plain F (routing_extract F own e g).1.entries
  walk-plain = walk-holds F own fs (λ g. Plain F g.entries) notes-plain takes-plain

  pub list-plain : (es : List Expr) (g : Extractor) → AllByRecursion (Known fs) es → Plain F g.entries → Plain F (routing_extract_all F own es g).1.entries
  list-plain = list-holds F own fs (λ g. Plain F g.entries) notes-plain takes-plain

  pub keys-plain : (ks : List Key) (g : Extractor) → AllByRecursion (λ k. Known fs k.by) ks → Plain F g.entries → Plain F (routing_extract_keys F own ks g).1.entries
  keys-plain = keys-hold F own fs (λ g. Plain F g.entries) notes-plain takes-plain

unalias-plain : (F : Functions) (e : Expr) → is_total F e ≡ false → is_total F (unalias e) ≡ false
unfolding unalias
unalias-plain F (literal v) h = h
unalias-plain F (reference r) h = h
unalias-plain F (alias e f) h = h
unalias-plain F (call n es) h = h

pub pairs-plain : (F : Functions) (s : Side) (ds : List Entry) → Plain F ds → AllByRecursion (λ p. is_total F p.0 ≡ false) (pairs_of s ds)
pairs-plain F s ds h = pairs-all (λ p. is_total F p.0 ≡ false) s ds (All-weaker _ _ (λ d k. unalias-plain F d.1 k) ds h)

-- needed columns
need-holds : (Q : Side × Field → Type 0) (s : Side) (f : Field) (ns : List (Side × Field)) → Q (s, f) → AllByRecursion Q ns → AllByRecursion Q (need s f ns)
unfolding need
need-holds Q s f ns q h = go _
  where
    go : (b : Bool) → AllByRecursion Q (cond b ns (ns ++ (s, f) ∷ []))
    go true = h
    go false = All-push Q ns (s, f) h q

needs-hold : (Q : Side × Field → Type 0) (s : Side) (fs : List Field) (ns : List (Side × Field)) → AllByRecursion (λ f. Q (s, f)) fs → AllByRecursion Q ns → AllByRecursion Q (needs s fs ns)
unfolding needs
needs-hold Q s [] ns q h = h
needs-hold Q s (f ∷ fs) ns q h = needs-hold Q s fs (need s f ns) q.1 (need-holds Q s f ns q.0 h)

mutual
  references-known : (fs : List Field) (e : Expr) → Known fs e → AllByRecursion (λ r. Known fs (reference r)) (references_of e)
  references-known fs (literal v) k = tt
  references-known fs (reference r) k = (k, tt)
  references-known fs (alias e f) k = references-known fs e k
  references-known fs (call n es) k = references-all fs es k

  references-all : (fs : List Field) (es : Exprs) → Knowns fs es → AllByRecursion (λ r. Known fs (reference r)) (references_of_all es)
  references-all fs none k = tt
  references-all fs (more e es) k = All-append (λ r. Known fs (reference r)) (references_of e) (references_of_all es) (references-known fs e k.0) (references-all fs es k.1)

-- rising aliases
rising-before : (n : ℕ) (xs : List Name) (m : ℕ) → Rising n xs m → n ≤ m
rising-before n [] m r = r
rising-before n (x ∷ xs) m r = let a = r.1 in let b = rising-before (suc r.0) xs m r.4 in omega arith

rising-push : (n : ℕ) (xs : List Name) (m : ℕ) → m ≤ most_number → Rising n xs m → Rising n (xs ++ generated m ∷ []) (suc m)
rising-push n [] m h r = (m, r, h, refl, omega arith)
rising-push n (x ∷ xs) m h r = (r.0, r.1, r.2, r.3, rising-push (suc r.0) xs m h r.4)

rising-from : (n l : ℕ) (xs : List Name) (m : ℕ) → n ≤ l → Rising l xs m → Rising n xs m
rising-from n l [] m h r = omega arith
rising-from n l (x ∷ xs) m h r = let a = r.1 in (r.0, omega arith, r.2, r.3, r.4)

not-full : (a b : Bool) → a || not b ≡ false → (a ≡ false) × T b
not-full true b p = let z : ◌≡◌ {A = ℕ} 0 1 = cc in absurd (omega arith)
not-full false true p = (refl, tt)
not-full false false p = let z : ◌≡◌ {A = ℕ} 0 1 = cc in absurd (omega arith)

-- a step of a walk over one or two inputs, each of which knows what it owns
module _ (own : Expr → Option Side) (fs fl fr : List Field) (owned : (s : Side) (e : Expr) → Known fs e → own e ≡ Some s → Known (fields_at fl fr s) e) (n : ℕ) where
  notes-taken : (s : Side) (r : Field) (g : Extractor) → Known fs (reference r) → own (reference r) ≡ Some s → Taken fl fr n g → Taken fl fr n (noted (Some s) r g)
  unfolding noted
  notes-taken s r g k p t = record { rising = t.rising; entries = t.entries; needed = need-holds _ s r g.needed (owned s (reference r) k p) t.needed }

  takes-taken : (F : Functions) (s : Side) (e : Expr) (g : Extractor) (o : Option Name) → Known fs e → own e ≡ Some s → is_marked (placement_of F e) ≡ true → Taken fl fr n g → Taken fl fr n (add_extracted s e g o).1
  unfolding add_extracted countable
  takes-taken F s e g (Some x) k p m t = record { rising = t.rising; entries = t.entries; needed = t.needed }
  takes-taken F s e g None k p m t = record {
    rising = λ f.
        let c = not-full g.full (leb g.next most_number) f in
        rw (map-append (λ (d : Entry). d.2) g.entries ((s, e, generated g.next) ∷ [])) (rising-push n (map (λ d. d.2) g.entries) g.next (leb→le g.next most_number c.1) (t.rising c.0));
    entries = All-push _ g.entries (s, e, generated g.next) t.entries (owned s e k p);
    needed = needs-hold _ s (references_of e) g.needed (references-known (fields_at fl fr s) e (owned s e k p)) t.needed;
  }

walks-taken : (F : Functions) (own : Expr → Option Side) (fs fl fr : List Field) → ((s : Side) (e : Expr) → Known fs e → own e ≡ Some s → Known (fields_at fl fr s) e) → Walks F own fs fl fr
walks-taken F own fs fl fr owned = record {
  one_walk = λ e n g k t. walk-holds F own fs (Taken fl fr n) (notes-taken own fs fl fr owned n) (takes-taken own fs fl fr owned n F) e g k t;
  all_walks = λ es n g k t. list-holds F own fs (Taken fl fr n) (notes-taken own fs fl fr owned n) (takes-taken own fs fl fr owned n F) es g k t;
  key_walks = λ ks n g k t. keys-hold F own fs (Taken fl fr n) (notes-taken own fs fl fr owned n) (takes-taken own fs fl fr owned n F) ks g k t;
}

sole-known : (fs : List Field) (s : Side) (e : Expr) → Known fs e → find_sole_input (schema_columns fs) e ≡ Some s → Known (fields_at fs [] s) e
sole-known fs s e k p = subst (λ (s : Side). Known (fields_at fs [] s) e) (sym (owned-one fs e s p)) k

owning-known : (fl fr : List Field) (s : Side) (e : Expr) → Known (fl ++ fr) e → find_owning_input (schema_columns fl) (schema_columns fr) e ≡ Some s → Known (fields_at fl fr s) e
unfolding find_owning_input
owning-known fl fr s e k p = elim (owner-side (has_all_column_refs (schema_columns fl) e) (has_all_column_refs (schema_columns fr) e) s p) [
  | inl a ↦ subst (λ (s : Side). Known (fields_at fl fr s) e) (sym a.0) (known-left fl fr e k a.1)
  | inr a ↦ subst (λ (s : Side). Known (fields_at fl fr s) e) (sym a.0) (known-right fl fr e k a.1)
]

-- the pairs and the columns of one input
side-is : (a b : Side) → T (same_side a b) → a ≡ b
unfolding same_side
side-is one one h = refl
side-is one two h = absurd h
side-is two one h = absurd h
side-is two two h = refl

rising-pairs : (s : Side) (n : ℕ) (ds : List Entry) (m : ℕ) → Rising n (map (λ d. d.2) ds) m → Rising n (map (λ d. d.1) (pairs_of s ds)) m
unfolding pairs_of keep
rising-pairs s n [] m r = r
rising-pairs s n (d ∷ ds) m r = go (same_side d.0 s) (rising-pairs s (suc r.0) ds m r.4)
  where
    go : (b : Bool) → Rising (suc r.0) (map (λ (p : Pair). p.1) (pairs_of s ds)) m → Rising n (map (λ (p : Pair). p.1) (map (λ d. (unalias d.1, d.2)) (cond b (d ∷ keep (λ d. same_side d.0 s) ds) (keep (λ d. same_side d.0 s) ds)))) m
    go true h = (r.0, r.1, r.2, r.3, h)
    go false h = let a = r.1 in rising-from n (suc r.0) _ m (omega arith) h

sound-taken : (F : Functions) (p : Plan) (s : Side) (fl fr : List Field) (n : ℕ) (g : Extractor) → fields_at fl fr s ≡ fields_of F p → Below n (fields_of F p) → g.full ≡ false → Taken fl fr n g
    → Sound F p (pairs_of s g.entries) (needed_of s g.needed) n g.next
unfolding pairs_of needed_of
sound-taken F p s fl fr n g e b f t = record {
  below = b;
  rising = rising-pairs s n g.entries g.next (t.rising f);
  pairs = All-map _ _ _ (keep-with _ (λ d. Known (fields_of F p) (unalias d.1)) (λ d. same_side d.0 s) (λ d k h. unalias-known (fields_of F p) d.1 (here d.0 d.1 (side-is d.0 s h) k)) g.entries t.entries);
  columns = All-map _ _ _ (keep-with _ (λ m. Known (fields_of F p) (reference m.1)) (λ m. same_side m.0 s) (λ m k h. here m.0 (reference m.1) (side-is m.0 s h) k) g.needed t.needed);
}
  where
    here : (a : Side) (d : Expr) → a ≡ s → Known (fields_at fl fr a) d → Known (fields_of F p) d
    here a d q k = subst (λ (fs : List Field). Known fs d) (ap (fields_at fl fr) q ∙ e) k

pub walks-sound : WalksAreSound
walks-sound = record {
  below = λ m i h. All-get_or (λ n. Below (next_number m) (fields_of m.functions n.tree)) m.plans i no_node h (fields-lower m);
  start = λ fl fr n. unfold empty_extractor in record { rising = λ f. omega arith; entries = tt; needed = tt };
  sole = λ F fs. walks-taken F (find_sole_input (schema_columns fs)) fs fs [] (sole-known fs);
  owning = λ F fl fr. walks-taken F (find_owning_input (schema_columns fl) (schema_columns fr)) (fl ++ fr) fl fr (owning-known fl fr);
  sound = sound-taken;
}

-- where an outcome is a refusal at a Projection of pairs, it is by question 8
abbrev Blames : Outcome → Type 0
Blames (built p n) = Unit {0}
Blames (no_change n) = Unit {0}
Blames (refused x n) = T (is_of_pairs x.stage) → x.question ≡ Limited

then-blames : (o : Outcome) (f : Plan → Tally → Outcome) → Blames o → ((p : Plan) (n : Tally) → Blames (f p n)) → Blames (and_then o f)
unfolding and_then
then-blames (built p n) f h k = k p n
then-blames (no_change n) f h k = tt
then-blames (refused x n) f h k = h

made-blames : (F : Functions) (stage : Stage) (level : ℕ) (R : Plan) (n : Tally) → OnlyEight F R → Blames (made F stage level R n)
unfolding made made_if
made-blames F stage level R n h = rw h.answer (go (limited F R))
  where
    go : (b : Bool) → Blames (made_if (cond b None (Some Limited)) stage level R (charged (own_space F R) n))
    go true = tt
    go false = λ t. refl

made-elsewhere : (F : Functions) (stage : Stage) (level : ℕ) (R : Plan) (n : Tally) → (T (is_of_pairs stage) → ⊥) → Blames (made F stage level R n)
unfolding made made_if
made-elsewhere F stage level R n h = go (first_no (node_asked F R))
  where
    go : (o : Option Question) → Blames (made_if o stage level R (charged (own_space F R) n))
    go None = tt
    go (Some q) = λ t. absurd (h t)

extraction-blames : (F : Functions) (level : ℕ) (p : Plan) (ps : List Pair) (cs : List Field) (n m : ℕ) (t : Tally) → Good F p → Sound F p ps cs n m → Blames (build_extraction_projection F level p ps cs t)
unfolding build_extraction_projection
extraction-blames F level p [] cs n m t g s = tt
extraction-blames F level p (d ∷ ds) cs n m t g s = made-blames F (stage_of p) level (build_extraction_projection_impl F p (d ∷ ds) cs) _ (only-limited F p (d ∷ ds) cs n m g s)

rebuilt-blames : (F : Functions) (old : List Field) (p : Plan) (n : Tally) → Blames (rebuilt F 0 old p n)
unfolding rebuilt build_recovery_projection remade
rebuilt-blames F old p n = then-blames _ _ (made-elsewhere F Rebuilt 0 p n (λ t. t)) (λ q m. go (same_fields old (fields_of F q)) q m)
  where
    go : (b : Bool) (q : Plan) (m : Tally) → Blames (cond b (built q m) (remade F Recovery 0 (projection (cond (eqb (length old) (length (fields_of F q))) (by_place old (fields_of F q)) (refs old)) q) m))
    go true q m = tt
    go false q m = made-elsewhere F Recovery 0 _ _ (λ t. t)

new-blames : (F : Functions) (es : List Expr) (g : Extractor) (n t : Tally) (o : Outcome) → (g.full ≡ false → Blames o) → Blames (when_extractable F es n (when_new g n t o))
unfolding when_extractable when_new
new-blames F es g n t o h = go (has_extractable_expr F es) g.full g.new h
  where
    go : (a b c : Bool) → (b ≡ false → Blames o) → Blames (cond a (cond b (refused (fault Limited Extraction 0) t) (cond c o (no_change n))) (no_change n))
    go true true c h = λ t. refl
    go true false true h = h refl
    go true false false h = tt
    go false b c h = tt

-- the one input of a node
sole-blames : (F : Functions) (i : Plan) (n : ℕ) (g : Extractor) (t : Tally) (old : List Field) (node : Plan → Plan) → Good F i → Below n (fields_of F i) → g.full ≡ false → Taken (fields_of F i) [] n g
    → Blames (and_then (build_extraction_projection F 0 i (pairs_of one g.entries) (needed_of one g.needed) t) (λ r m. rebuilt F 0 old (node r) m))
sole-blames F i n g t old node k b f h = then-blames _ _ (extraction-blames F 0 i _ _ n g.next t k (walks-sound.sound F i one (fields_of F i) [] n g refl b f h)) (λ r m. rebuilt-blames F old (node r) m)

extract-blames : (F : Functions) (P : Plan) (n : Tally) → Good F P → Below n.next (input_fields F P) → Blames (extract_from_plan F P n)
unfolding extract_from_plan
extract-blames F (table k q ns) n g b = tt
extract-blames F (projection es i) n g b = tt
extract-blames F (filter e i) n g b =
    new-blames F _ _ n _ _ (λ f. sole-blames F i n.next _ _ _ _ g.1 b f
    ((walks-sound.sole F (fields_of F i)).one_walk e n.next (empty_extractor n.next) (filter-known e i g.0) (walks-sound.start (fields_of F i) [] n.next)))
extract-blames F (sort ks i) n g b =
    new-blames F _ _ n _ _ (λ f. sole-blames F i n.next _ _ _ _ g.1 b f
    ((walks-sound.sole F (fields_of F i)).key_walks ks n.next (empty_extractor n.next) (sort-known ks i g.0) (walks-sound.start (fields_of F i) [] n.next)))
extract-blames F (limit s c i) n g b = tt
extract-blames F (aggregate gs ts i) n g b =
    let w = routing_extract_all F (find_sole_input (schema_columns (fields_of F i))) gs (empty_extractor n.next) in
    let k = all_split (Known (fields_of F i)) gs ts (aggregate-known gs ts i g.0 g.1) in
    let a = (walks-sound.sole F (fields_of F i)).all_walks gs n.next (empty_extractor n.next) k.0 (walks-sound.start (fields_of F i) [] n.next) in
    new-blames F _ _ n _ _ (λ f. sole-blames F i n.next _ _ _ _ g.1 b f ((walks-sound.sole F (fields_of F i)).all_walks ts n.next w.1 k.1 a))
extract-blames F (join k cs l r) n g b =
    let fl = fields_of F l in
    let fr = fields_of F r in
    let w = routing_extract_all F (find_owning_input (schema_columns fl) (schema_columns fr)) cs (empty_extractor n.next) in
    let a = (walks-sound.owning F fl fr).all_walks cs n.next (empty_extractor n.next) (join-known k cs l r g.0) (walks-sound.start fl fr n.next) in
    let c = all_split (λ f. number_of f.name < n.next) fl fr b in
    new-blames F _ _ n _ _ (λ f. then-blames _ _ (extraction-blames F 0 l _ _ n.next w.1.next _ g.1 (walks-sound.sound F l one fl fr n.next w.1 refl c.0 f a))
    (λ x m. then-blames _ _ (extraction-blames F 0 r _ _ n.next w.1.next m g.2 (walks-sound.sound F r two fl fr n.next w.1 refl c.1 f a)) (λ y o. rebuilt-blames F _ _ o)))
extract-blames F (subquery_alias s i) n g b = tt
extract-blames F (union i is) n g b = tt

projections-limited : ProjectionsAreLimited
projections-limited F P n m x g b p t = subst Blames p (extract-blames F P n g b) t

pub extract-is-limited : ExtractIsLimited
extract-is-limited = record { only = only-limited; walks = walks-sound; projections = projections-limited }
