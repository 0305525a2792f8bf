-- What a walk makes of an expression: it is no larger, and a total only if it was one; the extractor only goes on.
use Rattle.std.proofs.Common.{◌≡◌, ℕ, ◌+◌, ◌<◌, ◌≤◌, Bool, true, false, cond, not, ◌&&◌, ◌||◌, List, [], ◌∷◌, ◌++◌, length, get_or, drop, Some, None, Option, refl, ap, ◌∙◌, arith}
use Rattle.std.proofs.lemmas.List.{at_drop_all, at_drop_more, length_push}
use Rattle.plan.specs.Functions.{Functions, is_marked, is_total, placement_of}
use Rattle.plan.specs.Names.{Name, prefixed}
use Rattle.plan.specs.Terms.{Expr, Exprs, Field, Literal, arguments, references_of, same_field, size_of, sizes_of}
use Rattle.plan.specs.Terms.Expr.{alias, call, literal, reference}
use Rattle.plan.specs.Terms.Exprs.{more, none}
use Rattle.plan.specs.Fields.{any}
use Rattle.rewriting.specs.Generated.{countable}
use Rattle.rewriting.specs.Routing.{Extractor, Side, add_extracted, entered, need, needs, noted, routing_extract, routing_extract_all, routing_extracts, same_side, taken_if, under_alias, under_call}

-- the needed columns only grow
pub need-longer : (s : Side) (f : Field) (ns : List (Side × Field)) → length ns ≤ length (need s f ns)
unfolding need
need-longer s f ns = go (any (λ m. same_side m.0 s && same_field m.1 f) ns)
  where
    go : (b : Bool) → length ns ≤ length (cond b ns (ns ++ (s, f) ∷ []))
    go true = omega arith
    go false = omega (arith, length_push ns (s, f))

pub needs-longer : (s : Side) (fs : List Field) (ns : List (Side × Field)) → length ns ≤ length (needs s fs ns)
unfolding needs
needs-longer s [] ns = omega arith
needs-longer s (f ∷ fs) ns = let a = need-longer s f ns in let b = needs-longer s fs (need s f ns) in omega arith

-- what goes on from g to h: no needed column is lost, and no number; something that was taken out stays so, and so does a number past the bound
pub record Onward (g h : Extractor) : Type 0 where
  pub longer : length g.needed ≤ length h.needed
  pub later : g.next ≤ h.next
  pub new : g.new ≡ true → h.new ≡ true
  pub full : g.full ≡ true → h.full ≡ true

at-once : (g : Extractor) → Onward g g
at-once g = record { longer = omega arith; later = omega arith; new = λ h. h; full = λ h. h }

onward-then : (a b c : Extractor) → Onward a b → Onward b c → Onward a c
onward-then a b c p q = record { longer = omega (arith, p.longer, q.longer); later = omega (arith, p.later, q.later); new = λ h. q.new (p.new h); full = λ h. q.full (p.full h) }

noted-onward : (o : Option Side) (r : Field) (g : Extractor) → Onward g (noted o r g)
unfolding noted
noted-onward None r g = at-once g
noted-onward (Some s) r g = record { longer = need-longer s r g.needed; later = omega arith; new = λ h. h; full = λ h. h }

added-onward : (s : Side) (e : Expr) (g : Extractor) (x : Option Name) → Onward g (add_extracted s e g x).1
unfolding add_extracted
added-onward s e g (Some x) = record { longer = omega arith; later = omega arith; new = λ h. refl; full = λ h. h }
added-onward s e g None = record { longer = needs-longer s (references_of e) g.needed; later = omega arith; new = λ h. refl; full = λ h. ap (λ b. b || not (countable g.next)) h }

taken-onward : (b : Bool) (o : Option Side) (e : Expr) (g : Extractor) (w : Expr × Extractor) → Onward g w.1 → Onward g (taken_if b o e g w).1
unfolding taken_if
taken-onward false o e g w h = h
taken-onward true None e g w h = h
taken-onward true (Some s) e g w h = added-onward s e g (entered e g.entries)

-- where nothing is taken out in the end, nothing was before
pub not-before : (g h : Extractor) → Onward g h → h.new ≡ false → g.new ≡ false
not-before g h o e = go g.new o.new
  where
    go : (b : Bool) → (b ≡ true → h.new ≡ true) → b ≡ false
    go true f = let p = f refl in cc
    go false f = refl

pub added-new : (s : Side) (e : Expr) (g : Extractor) (x : Option Name) → (add_extracted s e g x).1.new ≡ true
unfolding add_extracted
added-new s e g (Some x) = refl
added-new s e g None = refl

-- sizes and totals
added-small : (s : Side) (e d : Expr) (g : Extractor) (x : Option Name) → 1 ≤ size_of d → size_of (add_extracted s e g x).0 ≤ size_of d
unfolding add_extracted
added-small s e d g (Some x) h = h
added-small s e d g None h = h

taken-small : (b : Bool) (o : Option Side) (e : Expr) (g : Extractor) (w : Expr × Extractor) → 1 ≤ size_of e → size_of w.0 ≤ size_of e → size_of (taken_if b o e g w).0 ≤ size_of e
unfolding taken_if
taken-small false o e g w h k = k
taken-small true None e g w h k = k
taken-small true (Some s) e g w h k = added-small s e e g (entered e g.entries) h

added-no-total : (F : Functions) (s : Side) (e : Expr) (g : Extractor) (x : Option Name) → is_total F (add_extracted s e g x).0 ≡ false
unfolding add_extracted
added-no-total F s e g (Some x) = refl
added-no-total F s e g None = refl

taken-no-total : (F : Functions) (b : Bool) (o : Option Side) (e : Expr) (g : Extractor) (w : Expr × Extractor) → is_total F w.0 ≡ false → is_total F (taken_if b o e g w).0 ≡ false
unfolding taken_if
taken-no-total F false o e g w h = h
taken-no-total F true None e g w h = h
taken-no-total F true (Some s) e g w h = added-no-total F s e g (entered e g.entries)

module _ (F : Functions) (own : Expr → Option Side) where
  mutual
    unfolding routing_extract under_alias under_call

    pub walk-onward : (e : Expr) (g : Extractor) → Onward g (routing_extract F own e g).1
    walk-onward (literal v) g = at-once g
    walk-onward (reference r) g = noted-onward (own (reference r)) r g
    walk-onward (alias e f) g = go (prefixed f.name) (walk-onward e g)
      where
        go : (b : Bool) → Onward g (routing_extract F own e g).1 → Onward g (cond b (alias e f, g) (under_alias f (routing_extract F own e g))).1
        go true h = at-once g
        go false h = h
    walk-onward (call n es) g = taken-onward (is_marked (placement_of F (call n es))) (own (call n es)) (call n es) g (under_call n (routing_extracts F own es g)) (walks-onward es g)

    walks-onward : (es : Exprs) (g : Extractor) → Onward g (routing_extracts F own es g).1
    walks-onward none g = at-once g
    walks-onward (more e es) g = let w = routing_extract F own e g in onward-then g w.1 (routing_extracts F own es w.1).1 (walk-onward e g) (walks-onward es w.1)

  mutual
    unfolding routing_extract under_alias under_call

    pub walk-small : (e : Expr) (g : Extractor) → size_of (routing_extract F own e g).0 ≤ size_of e
    walk-small (literal v) g = omega arith
    walk-small (reference r) g = omega arith
    walk-small (alias e f) g = go (prefixed f.name) (walk-small e g)
      where
        go : (b : Bool) → size_of (routing_extract F own e g).0 ≤ size_of e → size_of (cond b (alias e f, g) (under_alias f (routing_extract F own e g))).0 ≤ size_of (alias e f)
        go true h = omega arith
        go false h = omega arith
    walk-small (call n es) g = taken-small (is_marked (placement_of F (call n es))) (own (call n es)) (call n es) g (under_call n (routing_extracts F own es g)) (omega arith) (let h = walks-small es g in omega arith)

    walks-small : (es : Exprs) (g : Extractor) → sizes_of (routing_extracts F own es g).0 ≤ sizes_of es
    walks-small none g = omega arith
    walks-small (more e es) g = let a = walk-small e g in let b = walks-small es (routing_extract F own e g).1 in omega arith

  pub walk-no-total : (e : Expr) (g : Extractor) → is_total F e ≡ false → is_total F (routing_extract F own e g).0 ≡ false
  unfolding routing_extract under_alias under_call
  walk-no-total (literal v) g h = refl
  walk-no-total (reference r) g h = refl
  walk-no-total (alias e f) g h = go (prefixed f.name) (walk-no-total e g h)
    where
      go : (b : Bool) → is_total F (routing_extract F own e g).0 ≡ false → is_total F (cond b (alias e f, g) (under_alias f (routing_extract F own e g))).0 ≡ false
      go true k = h
      go false k = k
  walk-no-total (call n es) g h = taken-no-total F (is_marked (placement_of F (call n es))) (own (call n es)) (call n es) g (under_call n (routing_extracts F own es g)) h

  -- a list of expressions, as the arguments of a call
  pub as-arguments : (ts : List Expr) (g : Extractor) → routing_extracts F own (arguments ts) g ≡ (arguments (routing_extract_all F own ts g).0, (routing_extract_all F own ts g).1)
  unfolding routing_extract routing_extract_all
  as-arguments [] g = refl
  as-arguments (t ∷ ts) g =
      let w = routing_extract F own t g in
      ap (λ (v : Exprs × Extractor). (more w.0 v.0, v.1)) (as-arguments ts w.1)

  pub all-onward : (ts : List Expr) (g : Extractor) → Onward g (routing_extract_all F own ts g).1
  unfolding routing_extract_all
  all-onward [] g = at-once g
  all-onward (t ∷ ts) g = let w = routing_extract F own t g in onward-then g w.1 (routing_extract_all F own ts w.1).1 (walk-onward t g) (all-onward ts w.1)

  pub all-small : (ts : List Expr) (g : Extractor) → sizes_of (arguments (routing_extract_all F own ts g).0) ≤ sizes_of (arguments ts)
  unfolding routing_extract_all
  all-small [] g = omega arith
  all-small (t ∷ ts) g = let a = walk-small t g in let b = all-small ts (routing_extract F own t g).1 in omega arith

  pub all-counted : (ts : List Expr) (g : Extractor) → length (routing_extract_all F own ts g).0 ≡ length ts
  unfolding routing_extract_all
  all-counted [] g = refl
  all-counted (t ∷ ts) g = let a = all-counted ts (routing_extract F own t g).1 in omega arith

  pub all-no-total : (ts : List Expr) (g : Extractor) → any (is_total F) ts ≡ false → any (is_total F) (routing_extract_all F own ts g).0 ≡ false
  unfolding routing_extract_all
  all-no-total [] g h = refl
  all-no-total (t ∷ ts) g h =
      let w = routing_extract F own t g in
      either (is_total F t) (any (is_total F) ts) (is_total F w.0) (any (is_total F) (routing_extract_all F own ts w.1).0) h (walk-no-total t g) (all-no-total ts w.1)
    where
      either : (a b c d : Bool) → (a || b) ≡ false → (a ≡ false → c ≡ false) → (b ≡ false → d ≡ false) → (c || d) ≡ false
      either true b c d k f g = absurd (let z : ◌≡◌ {A = ℕ} 0 1 = cc in omega arith)
      either false b c d k f g = ap (λ x. x || d) (f refl) ∙ g k

  -- the walk, case by case
  pub walk-literal : (v : Literal) (g : Extractor) → routing_extract F own (literal v) g ≡ (literal v, g)
  unfolding routing_extract
  walk-literal v g = refl

  pub walk-reference : (r : Field) (g : Extractor) → routing_extract F own (reference r) g ≡ (reference r, noted (own (reference r)) r g)
  unfolding routing_extract
  walk-reference r g = refl

  pub walk-prefixed : (e : Expr) (f : Field) (g : Extractor) → prefixed f.name ≡ true → routing_extract F own (alias e f) g ≡ (alias e f, g)
  unfolding routing_extract
  walk-prefixed e f g h = ap (λ b. cond b (alias e f, g) (under_alias f (routing_extract F own e g))) h

  pub walk-alias : (e : Expr) (f : Field) (g : Extractor) → prefixed f.name ≡ false → routing_extract F own (alias e f) g ≡ (alias (routing_extract F own e g).0 f, (routing_extract F own e g).1)
  unfolding routing_extract under_alias
  walk-alias e f g h = ap (λ b. cond b (alias e f, g) (under_alias f (routing_extract F own e g))) h

  taken-some : (b : Bool) (o : Option Side) (s : Side) (e : Expr) (g : Extractor) (w : Expr × Extractor) → Some s ≡ cond b o None → taken_if b o e g w ≡ add_extracted s e g (entered e g.entries)
  unfolding taken_if
  taken-some false o s e g w h = absurd (let z : ◌≡◌ {A = ℕ} 0 1 = cc in omega arith)
  taken-some true None s e g w h = absurd (let z : ◌≡◌ {A = ℕ} 0 1 = cc in omega arith)
  taken-some true (Some r) s e g w h = let i : r ≡ s = cc in ap (λ x. add_extracted x e g (entered e g.entries)) i

  taken-none : (b : Bool) (o : Option Side) (e : Expr) (g : Extractor) (w : Expr × Extractor) → None ≡ cond b o None → taken_if b o e g w ≡ w
  unfolding taken_if
  taken-none false o e g w h = refl
  taken-none true None e g w h = refl
  taken-none true (Some r) e g w h = absurd (let z : ◌≡◌ {A = ℕ} 0 1 = cc in omega arith)

  pub walk-taken : (s : Side) (n : ℕ) (es : Exprs) (g : Extractor) → Some s ≡ cond (is_marked (placement_of F (call n es))) (own (call n es)) None
      → routing_extract F own (call n es) g ≡ add_extracted s (call n es) g (entered (call n es) g.entries)
  unfolding routing_extract
  walk-taken s n es g h = taken-some (is_marked (placement_of F (call n es))) (own (call n es)) s (call n es) g (under_call n (routing_extracts F own es g)) h

  pub walk-call : (n : ℕ) (ts : List Expr) (g : Extractor) → None ≡ cond (is_marked (placement_of F (call n (arguments ts)))) (own (call n (arguments ts))) None
      → routing_extract F own (call n (arguments ts)) g ≡ (call n (arguments (routing_extract_all F own ts g).0), (routing_extract_all F own ts g).1)
  unfolding routing_extract under_call
  walk-call n ts g h =
      taken-none (is_marked (placement_of F (call n (arguments ts)))) (own (call n (arguments ts))) (call n (arguments ts)) g (under_call n (routing_extracts F own (arguments ts) g)) h
      ∙ ap (under_call n) (as-arguments ts g)

  -- one expression more of a list, and none
  pub all-turn : (ts : List Expr) (i : ℕ) (d : Expr) (g : Extractor) → i < length ts
      → routing_extract_all F own (drop i ts) g
      ≡ ((routing_extract F own (get_or ts i d) g).0 ∷ (routing_extract_all F own (drop (i + 1) ts) (routing_extract F own (get_or ts i d) g).1).0, (routing_extract_all F own (drop (i + 1) ts) (routing_extract F own (get_or ts i d) g).1).1)
  unfolding routing_extract_all
  all-turn ts i d g lt = at_drop_more (λ l. routing_extract_all F own l g) ts i d lt

  pub all_end : (ts : List Expr) (i : ℕ) (g : Extractor) → length ts ≤ i → routing_extract_all F own (drop i ts) g ≡ ([], g)
  unfolding routing_extract_all
  all_end ts i g le = at_drop_all (λ l. routing_extract_all F own l g) ts i le
