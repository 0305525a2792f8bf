-- Needed columns, list by list; and what an extractor stands for that needs more, or has one more entry.
use Rattle.std.proofs.Common.{◌≡◌, ℕ, suc, ◌+◌, ◌<◌, ◌≤◌, Bool, true, false, cond, not, ◌&&◌, ◌||◌, List, [], ◌∷◌, ◌++◌, map, length, get_or, drop, Some, None, Option, option_map, sym, refl, ap, ap₂, ◌∙◌, arith}
use Rattle.std.proofs.lemmas.List.{at_drop_all, at_drop_more, map_push}
use Rattle.plan.specs.Fields.{any}
use Rattle.plan.specs.Model.{expr_in}
use Rattle.plan.specs.Terms.{Expr, Field, arguments, references_of, references_of_all, same_field}
use Rattle.rewriting.specs.Generated.{countable, generated}
use Rattle.rewriting.specs.Routing.{Entry, Side, add_extracted, need, needs, noted, same_side}
use Rattle.rewriting.specs.Routing
use Rattle.routing.specs.Sides.{side_of}
use Rattle.routing.specs.declared.owning.Side.{Side as Given}
use Rattle.terms.specs.Views.{View}
use Rattle.extracting.specs.Extractors.{entry_of, extractor_of, need_of, needing, needs_of}
use Rattle.extracting.specs.declared.extractor.Extracted.{Extracted}
use Rattle.extracting.specs.declared.extractor.Extractor.{Extractor}
use Rattle.extracting.specs.declared.extractor.Needed.{Needed}

module _ (s : Side) where
  pub needs-append : (fs gs : List Field) (ns : List (Side × Field)) → needs s (fs ++ gs) ns ≡ needs s gs (needs s fs ns)
  unfolding needs
  needs-append [] gs ns = refl
  needs-append (f ∷ fs) gs ns = needs-append fs gs (Routing.need s f ns)

  -- the columns of the arguments from i on
  pub needs-turn : (ts : List Expr) (i : ℕ) (d : Expr) (ns : List (Side × Field)) → i < length ts
      → needs s (references_of_all (arguments (drop i ts))) ns ≡ needs s (references_of_all (arguments (drop (i + 1) ts))) (needs s (references_of (get_or ts i d)) ns)
  needs-turn ts i d ns lt =
      at_drop_more (λ l. needs s (references_of_all (arguments l)) ns) ts i d lt
      ∙ needs-append (references_of (get_or ts i d)) (references_of_all (arguments (drop (i + 1) ts))) ns

  pub needs_end : (ts : List Expr) (i : ℕ) (ns : List (Side × Field)) → length ts ≤ i → needs s (references_of_all (arguments (drop i ts))) ns ≡ ns
  unfolding needs
  needs_end ts i ns le = at_drop_all (λ l. needs s (references_of_all (arguments l)) ns) ts i le

pub needing_is : (v : View) (x y : Extractor) (s : Side) (fs : List Field) → y.entries ≡ x.entries → y.next ≡ x.next → y.is_new ≡ x.is_new → needs_of v y ≡ needs s fs (needs_of v x) → extractor_of v y ≡ needing s fs (extractor_of v x)
needing_is v x y s fs a b c d = cc

-- an extractor whose entries are E and whose columns are N: those of y, which needs the columns of t too, and d beside, with t under the next number
pub entered_is : (v : View) (x y : Extractor) (d : Extracted) (t : Expr) (E : List Extracted) (N : List Needed) (n : ℕ) → expr_in v.trees d.inner.0 ≡ t → d.alias ≡ x.next → extractor_of v y ≡ needing (side_of d.side) (references_of t) (extractor_of v x)
    → y.entries ≡ x.entries → E ≡ y.entries ++ d ∷ [] → N ≡ y.needed → n ≡ x.next + 1 → countable x.next ≡ true
    → ◌≡◌ {A = Routing.Extractor} (record { entries = map (entry_of v) E; needed = map (need_of v) N; next = n; new = true; full = false }) (add_extracted (side_of d.side) t (extractor_of v x) None).1
unfolding add_extracted
entered_is v x y d t E N n tree alias value same entries needed next number =
    let a : map (entry_of v) E ≡ map (entry_of v) x.entries ++ (side_of d.side, t, generated x.next) ∷ [] =
    ap (map (entry_of v)) entries ∙ map_push (entry_of v) y.entries d ∙ ap₂ (λ l e. map (entry_of v) l ++ e ∷ []) same (ap₂ (λ u k. (side_of d.side, u, generated k)) tree alias) in
    let b : map (need_of v) N ≡ needs (side_of d.side) (references_of t) (needs_of v x) = ap (map (need_of v)) needed ∙ ap (λ g. g.needed) value in
    let m : n ≡ suc x.next = omega arith in
    let f : false ≡ (false || not (countable x.next)) = sym (ap (λ k. false || not k) number) in
    same-extractor _ _ _ _ _ _ _ _ a b m f
  where
    same-extractor : (a a' : List Entry) (b b' : List (Side × Field)) (n n' : ℕ) (f f' : Bool) → a ≡ a' → b ≡ b' → n ≡ n' → f ≡ f'
        → ◌≡◌ {A = Routing.Extractor} (record { entries = a; needed = b; next = n; new = true; full = f }) (record { entries = a'; needed = b'; next = n'; new = true; full = f' })
    same-extractor a a' b b' n n' f f' p q r s = cc

-- one column more, or the same
module _ (s : Side) (f : Field) (ns : List (Side × Field)) where
  pub need-new : any (λ m. same_side m.0 s && same_field m.1 f) ns ≡ false → needs s (f ∷ []) ns ≡ ns ++ (s, f) ∷ []
  unfolding needs need
  need-new h = ap (λ b. cond b ns (ns ++ (s, f) ∷ [])) h

  pub need_old : any (λ m. same_side m.0 s && same_field m.1 f) ns ≡ true → needs s (f ∷ []) ns ≡ ns
  unfolding needs need
  need_old h = ap (λ b. cond b ns (ns ++ (s, f) ∷ [])) h

  pub needs-one : needs s (f ∷ []) ns ≡ Routing.need s f ns
  unfolding needs
  needs-one = refl

pub needs-nil : (s : Side) (ns : List (Side × Field)) → needs s [] ns ≡ ns
unfolding needs
needs-nil s ns = refl

pub noted_some : (o : Option Given) (d : Given) (r : Field) (g : Routing.Extractor) → o ≡ Some d → noted (option_map side_of o) r g ≡ needing (side_of d) (r ∷ []) g
unfolding noted needs
noted_some o d r g e = ap (λ x. noted (option_map side_of x) r g) e

pub noted_none : (o : Option Given) (r : Field) (g : Routing.Extractor) → o ≡ None → noted (option_map side_of o) r g ≡ g
unfolding noted
noted_none o r g e = ap (λ x. noted (option_map side_of x) r g) e
