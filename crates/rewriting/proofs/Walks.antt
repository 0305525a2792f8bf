-- The walk replaces parts by references to the columns that it enters; what such an expression is worth.
use Rattle.std.proofs.Common.{◌≡◌, ℕ, suc, Bool, true, false, cond, T, List, [], ◌∷◌, ◌++◌, map, get_or, Some, None, Option, sym, refl, ap, ◌∙◌, subst, inl, inr, append_assoc, append-nil, suc-le-suc, zero-le, arith}
use Rattle.std.proofs.ByRecursion.{all-has, All-push, All-weaker, has_append_left, has_push}
use Rattle.std.specs.List.{ContainsAt as Has, AllByRecursion}
use Rattle.plan.specs.Functions.{Functions, is_marked, placement_of}
use Rattle.plan.specs.Names.{Name, prefixed}
use Rattle.plan.specs.Plans.{Key, Plan, fields_of}
use Rattle.plan.specs.Rendering.{unqualified_field}
use Rattle.plan.specs.Terms.{Expr, Exprs, Field, same_expr}
use Rattle.plan.specs.Terms.Expr.{alias, call, literal, reference}
use Rattle.plan.specs.Terms.Exprs.{more, none}
use Rattle.plan.specs.Values.{null}
use Rattle.rows.proofs.Finds.{eval-alike}
use Rattle.rows.proofs.Lists.{all-forall}
use Rattle.rows.proofs.Words.{eval, evals, rows}
use Rattle.rows.specs.Lists.{keep}
use Rattle.rows.specs.Rows.{value_in}
use Rattle.rows.specs.Standing.{Covers, Known, Knowns, Stands, pick}
use Rattle.rows.specs.Worlds.{Fitting, Row, applied}
use Rattle.rewriting.proofs.Carries.{Alike, Carries, Holds, alike-eval}
use Rattle.rewriting.proofs.Swaps.{Swap, SwapAll, Swaps, both, here, in_alias, in_call, same, same_nil, swap-mono}
use Rattle.rewriting.specs.Generated.{generated}
use Rattle.rewriting.specs.Routing.{Entry, Extractor, Pair, Side, add_extracted, entered, noted, one, pairs_of, routing_extract, routing_extract_all, routing_extract_keys, routing_extracts, same_side, taken_if, two, unalias, under_alias, under_call}

-- the entries name the column x for e
abbrev pub Held : List Entry → Field → Expr → Type 0
Held ds x e = (d : Entry) × Has ds d × (x ≡ unqualified_field d.2) × Alike d.1 e

abbrev pub Longer : List Entry → List Entry → Type 0
Longer ds es = (more : List Entry) × (es ≡ ds ++ more)

pub longer-self : (ds : List Entry) → Longer ds ds
longer-self ds = ([], sym (append-nil ds))

pub longer-trans : (a b c : List Entry) → Longer a b → Longer b c → Longer a c
longer-trans a b c g h = (g.0 ++ h.0, h.1 ∙ ap (λ (l : List Entry). l ++ h.0) g.1 ∙ append_assoc a g.0 h.0)

pub held-longer : (ds es : List Entry) → Longer ds es → (x : Field) (e : Expr) → Held ds x e → Held es x e
held-longer ds es g x e h = (h.0, rw g.1 (has_append_left ds g.0 h.0 h.1), h.2, h.3)

pub swap-longer : (ds es : List Entry) → Longer ds es → {a b : Expr} → Swap (Held ds) a b → Swap (Held es) a b
swap-longer ds es g s = swap-mono (Held ds) (Held es) (held-longer ds es g) s

pub entered-held : (e : Expr) (ds : List Entry) (x : Name) → entered e ds ≡ Some x → Held ds (unqualified_field x) e
unfolding entered
entered-held e [] x p = let z : ◌≡◌ {A = ℕ} 0 1 = cc in absurd (omega arith)
entered-held e (d ∷ ds) x p = go (same_expr d.1 e) refl p (λ q. entered-held e ds x q)
  where
    go : (b : Bool) → same_expr d.1 e ≡ b → cond b (Some d.2) (entered e ds) ≡ Some x → (entered e ds ≡ Some x → Held ds (unqualified_field x) e) → Held (d ∷ ds) (unqualified_field x) e
    go true q p f = let r : d.2 ≡ x = cc in (d, (0, suc-le-suc zero-le, λ c. refl), ap unqualified_field (sym r), inr (subst T (sym q) tt))
    go false q p f = let h = f p in (h.0, (suc h.1.0, suc-le-suc h.1.1, h.1.2), h.2, h.3)

-- after a walk: the entries, longer by lawful ones
pub record After (Q : Entry → Type 0) (g h : Extractor) : Type 0 where
  pub longer : Longer g.entries h.entries
  pub keeps : AllByRecursion Q g.entries → AllByRecursion Q h.entries

pub after_same : (Q : Entry → Type 0) (g h : Extractor) → g.entries ≡ h.entries → After Q g h
after_same Q g h p = record { longer = ([], sym p ∙ sym (append-nil g.entries)); keeps = λ k. rw (← p) k }

pub after-trans : (Q : Entry → Type 0) (f g h : Extractor) → After Q f g → After Q g h → After Q f h
after-trans Q f g h a b = record { longer = longer-trans f.entries g.entries h.entries a.longer b.longer; keeps = λ k. b.keeps (a.keeps k) }

module _ (F : Functions) (own : Expr → Option Side) (fs : List Field) (Q : Entry → Type 0)
    (q : (s : Side) (n : ℕ) (es : Exprs) (x : Name) → Known fs (call n es) → own (call n es) ≡ Some s → Q (s, call n es, x)) where
  noted-after : (o : Option Side) (r : Field) (g : Extractor) → After Q g (noted o r g)
  unfolding noted
  noted-after None r g = after_same Q g g refl
  noted-after (Some s) r g = after_same Q g (noted (Some s) r g) refl

  out-after : (s : Side) (n : ℕ) (es : Exprs) (g : Extractor) → Known fs (call n es) → own (call n es) ≡ Some s → (o : Option Name) → entered (call n es) g.entries ≡ o
      → Swap (Held (add_extracted s (call n es) g o).1.entries) (call n es) (add_extracted s (call n es) g o).0 × After Q g (add_extracted s (call n es) g o).1
  unfolding add_extracted
  out-after s n es g k p (Some x) e = (here (entered-held (call n es) g.entries x e), record { longer = longer-self g.entries; keeps = λ h. h })
  out-after s n es g k p None e =
      let x = generated g.next in (
        here ((s, call n es, x), has_push g.entries (s, call n es, x), refl, inl refl),
        record { longer = ((s, call n es, x) ∷ [], refl); keeps = λ h. All-push Q g.entries (s, call n es, x) h (q s n es x k p) },
      )

  taken-after : (b : Bool) (o : Option Side) (n : ℕ) (es : Exprs) (g : Extractor) (w : Expr × Extractor) → Known fs (call n es) → own (call n es) ≡ o
      → Swap (Held w.1.entries) (call n es) w.0 × After Q g w.1
      → Swap (Held (taken_if b o (call n es) g w).1.entries) (call n es) (taken_if b o (call n es) g w).0 × After Q g (taken_if b o (call n es) g w).1
  unfolding taken_if
  taken-after false o n es g w k p h = h
  taken-after true None n es g w k p h = h
  taken-after true (Some s) n es g w k p h = out-after s n es g k p (entered (call n es) g.entries) refl

  mutual
    unfolding routing_extract under_alias under_call

    pub walk_after : (e : Expr) (g : Extractor) → Known fs e → Swap (Held (routing_extract F own e g).1.entries) e (routing_extract F own e g).0 × After Q g (routing_extract F own e g).1
    walk_after (reference r) g k = (same, noted-after (own (reference r)) r g)
    walk_after (literal v) g k = (same, after_same Q g g refl)
    walk_after (alias e f) g k = go (prefixed f.name) (walk_after e g k)
      where
        go : (b : Bool) → Swap (Held (routing_extract F own e g).1.entries) e (routing_extract F own e g).0 × After Q g (routing_extract F own e g).1
            → Swap (Held (cond b (alias e f, g) (under_alias f (routing_extract F own e g))).1.entries) (alias e f) (cond b (alias e f, g) (under_alias f (routing_extract F own e g))).0
            × After Q g (cond b (alias e f, g) (under_alias f (routing_extract F own e g))).1
        go true h = (same, after_same Q g g refl)
        go false h = (in_alias h.0, h.1)
    walk_after (call n es) g k =
        let h = walks-after es g k in
        taken-after (is_marked (placement_of F (call n es))) (own (call n es)) n es g (under_call n (routing_extracts F own es g)) k refl (in_call h.0, h.1)

    pub walks-after : (es : Exprs) (g : Extractor) → Knowns fs es → Swaps (Held (routing_extracts F own es g).1.entries) es (routing_extracts F own es g).0 × After Q g (routing_extracts F own es g).1
    walks-after none g k = (same_nil, after_same Q g g refl)
    walks-after (more e es) g k =
        let a = walk_after e g k.0 in
        let b = walks-after es (routing_extract F own e g).1 k.1 in
        (both (swap-longer _ _ b.1.longer a.0) b.0, after-trans Q g _ _ a.1 b.1)

  pub list-after : (es : List Expr) (g : Extractor) → AllByRecursion (Known fs) es
      → SwapAll (Held (routing_extract_all F own es g).1.entries) es (routing_extract_all F own es g).0 × After Q g (routing_extract_all F own es g).1
  unfolding routing_extract_all
  list-after [] g k = (tt, after_same Q g g refl)
  list-after (e ∷ es) g k =
      let a = walk_after e g k.0 in
      let b = list-after es (routing_extract F own e g).1 k.1 in
      ((swap-longer _ _ b.1.longer a.0, b.0), after-trans Q g _ _ a.1 b.1)

-- keys of a sort
abbrev pub SwapKeys : (Field → Expr → Type 0) → List Key → List Key → Type 0
SwapKeys K [] [] = Unit {0}
SwapKeys K [] (d ∷ ds) = ⊥
SwapKeys K (c ∷ cs) [] = ⊥
SwapKeys K (c ∷ cs) (d ∷ ds) = (Swap K c.by d.by × (c.direction ≡ d.direction)) × SwapKeys K cs ds

module _ (F : Functions) (own : Expr → Option Side) (fs : List Field) (Q : Entry → Type 0)
    (q : (s : Side) (n : ℕ) (es : Exprs) (x : Name) → Known fs (call n es) → own (call n es) ≡ Some s → Q (s, call n es, x)) where
  pub keys-after : (ks : List Key) (g : Extractor) → AllByRecursion (λ k. Known fs k.by) ks
      → SwapKeys (Held (routing_extract_keys F own ks g).1.entries) ks (routing_extract_keys F own ks g).0 × After Q g (routing_extract_keys F own ks g).1
  unfolding routing_extract_keys
  keys-after [] g k = (tt, after_same Q g g refl)
  keys-after (e ∷ es) g k =
      let a = walk_after F own fs Q q e.by g k.0 in
      let b = keys-after es (routing_extract F own e.by g).1 k.1 in
      (((swap-longer _ _ b.1.longer a.0, refl), b.0), after-trans Q g _ _ a.1 b.1)

module _ {F : Functions} where
  -- an expression with columns of R for some parts has on R's rows the value that it had on P's
  module _ (W : Fitting F) (R P : Plan) (σ : List ℕ) (c : Covers (fields_of F R) σ (fields_of F P)) (row : Row)
      (agree : (x : Field) (e : Expr) (h : Holds F R σ P x e) → get_or row h.place null ≡ eval W (fields_of F P) (pick σ row) e) where
    mutual
      unfolding value_in

      carry-at : {e e' : Expr} → Swap (Holds F R σ P) e e' → Known (fields_of F P) e → Known (fields_of F R) e' → eval W (fields_of F P) (pick σ row) e ≡ eval W (fields_of F R) row e'
      carry-at (same {e = e}) kp kr = eval-alike W (fields_of F R) σ (fields_of F P) c row e kp kr
      carry-at (here {e = e} {x = x} h) kp kr = sym (agree x e h) ∙ ap (λ (k : ℕ). get_or row k null) (kr.sole h.place h.inside h.meant)
      carry-at (in_alias s) kp kr = carry-at s kp kr
      carry-at (in_call {n = n} s) kp kr = ap (applied W.world n) (carries-at s kp kr)

      carries-at : {es es' : Exprs} → Swaps (Holds F R σ P) es es' → Knowns (fields_of F P) es → Knowns (fields_of F R) es' → evals W (fields_of F P) (pick σ row) es ≡ evals W (fields_of F R) row es'
      carries-at same_nil kp kr = refl
      carries-at (both s ss) kp kr = let p = carry-at s kp.0 kr.0 in let q = carries-at ss kp.1 kr.1 in cc

abbrev pub AnyHolds : Functions → Plan → List ℕ → Plan → Type 0
AnyHolds F R σ P = (x : Field) × (e : Expr) × Holds F R σ P x e

module _ {F : Functions} where
  pub carry-all : (W : Fitting F) {σ : List ℕ} {R P : Plan} → Stands F σ R P → (Z : Row → Type 0)
      → ((row : Row) → ((e e' : Expr) → Swap (Holds F R σ P) e e' → Known (fields_of F P) e → Known (fields_of F R) e' → eval W (fields_of F P) (pick σ row) e ≡ eval W (fields_of F R) row e') → Z row)
      → AllByRecursion Z (rows W R)
  carry-all W {σ} {R} {P} s Z f =
      All-weaker (λ row. (i : AnyHolds F R σ P) → get_or row i.2.place null ≡ eval W (fields_of F P) (pick σ row) i.1) Z
      (λ row h. f row (λ e e' w kp kr. carry-at W R P σ s.covers row (λ x e k. h (x, e, k)) w kp kr))
      (rows W R) (all-forall (λ (i : AnyHolds F R σ P) (row : Row). get_or row i.2.place null ≡ eval W (fields_of F P) (pick σ row) i.1) (rows W R) (λ i. i.2.value W))

  -- what a plan that carries the pairs of a side holds for their entries
  unalias-holds : {R P : Plan} {σ : List ℕ} {x : Field} (e : Expr) → Holds F R σ P x (unalias e) → Holds F R σ P x e
  unfolding unalias value_in
  unalias-holds (reference r) h = h
  unalias-holds (literal v) h = h
  unalias-holds (alias e f) h = record { place = h.place; inside = h.inside; meant = h.meant; value = h.value }
  unalias-holds (call n es) h = h

module _ {F : Functions} where
  holds-alike : {R P : Plan} {σ : List ℕ} {x : Field} (a e : Expr) → Alike a e → Holds F R σ P x a → Holds F R σ P x e
  holds-alike {R} {P} {σ} a e p h = record {
    place = h.place;
    inside = h.inside;
    meant = h.meant;
    value = λ W. All-weaker _ _ (λ row v. v ∙ alike-eval W (fields_of F P) (pick σ row) a e p) (rows W R) (h.value W);
  }

same-side : (a b : Side) → a ≡ b → T (same_side a b)
unfolding same_side
same-side one one p = tt
same-side one two p = let z : ◌≡◌ {A = ℕ} 0 1 = cc in absurd (omega arith)
same-side two one p = let z : ◌≡◌ {A = ℕ} 0 1 = cc in absurd (omega arith)
same-side two two p = tt

side-pairs : (Q : Pair → Type 0) (s : Side) (ds : List Entry) → AllByRecursion Q (pairs_of s ds) → AllByRecursion (λ d. T (same_side d.0 s) → Q (unalias d.1, d.2)) ds
unfolding pairs_of keep
side-pairs Q s [] h = tt
side-pairs Q s (d ∷ ds) h = go (same_side d.0 s) h (λ k. side-pairs Q s ds k)
  where
    rest : List Pair
    rest = pairs_of s ds

    go : (b : Bool) → AllByRecursion Q (map (λ d. (unalias d.1, d.2)) (cond b (d ∷ keep (λ d. same_side d.0 s) ds) (keep (λ d. same_side d.0 s) ds)))
        → (AllByRecursion Q rest → AllByRecursion (λ d. T (same_side d.0 s) → Q (unalias d.1, d.2)) ds)
        → (T b → Q (unalias d.1, d.2)) × AllByRecursion (λ d. T (same_side d.0 s) → Q (unalias d.1, d.2)) ds
    go true h f = (λ t. h.0, f h.1)
    go false h f = (λ t. absurd t, f h)

module _ {F : Functions} where
  pub carries-held : {R P : Plan} (s : Side) (ds : List Entry) (c : Carries F R P (pairs_of s ds)) (x : Field) (e : Expr) (h : Held ds x e) → h.0.0 ≡ s → Holds F R c.σ P x e
  carries-held {R} {P} s ds c x e h p =
      let d = h.0 in
      let a = all-has _ ds d (side-pairs (λ p. Holds F R c.σ P (unqualified_field p.1) p.0) s ds c.holds) h.1 (same-side d.0 s p) in
      rw h.2 (holds-alike d.1 e h.3 (unalias-holds d.1 a))

  pub agree-rows : (W : Fitting F) (R P : Plan) (σ : List ℕ) → AllByRecursion (λ row. (i : AnyHolds F R σ P) → get_or row i.2.place null ≡ eval W (fields_of F P) (pick σ row) i.1) (rows W R)
  agree-rows W R P σ = all-forall (λ (i : AnyHolds F R σ P) (row : Row). get_or row i.2.place null ≡ eval W (fields_of F P) (pick σ row) i.1) (rows W R) (λ i. i.2.value W)

  -- the same of any two lists of fields
  module _ (W : Fitting F) (rs : List Field) (σ : List ℕ) (ps : List Field) (c : Covers rs σ ps) (row : Row) (K : Field → Expr → Type 0)
      (agree : (x : Field) (e : Expr) → K x e → Known rs (reference x) → eval W ps (pick σ row) e ≡ eval W rs row (reference x)) where
    mutual
      unfolding value_in

      pub swap-carry : {e e' : Expr} → Swap K e e' → Known ps e → Known rs e' → eval W ps (pick σ row) e ≡ eval W rs row e'
      swap-carry (same {e = e}) kp kr = eval-alike W rs σ ps c row e kp kr
      swap-carry (here {e = e} {x = x} h) kp kr = agree x e h kr
      swap-carry (in_alias s) kp kr = swap-carry s kp kr
      swap-carry (in_call {n = n} s) kp kr = ap (applied W.world n) (swaps-carry s kp kr)

      pub swaps-carry : {es es' : Exprs} → Swaps K es es' → Knowns ps es → Knowns rs es' → evals W ps (pick σ row) es ≡ evals W rs row es'
      swaps-carry same_nil kp kr = refl
      swaps-carry (both s ss) kp kr = let p = swap-carry s kp.0 kr.0 in let q = swaps-carry ss kp.1 kr.1 in cc
