-- The alias that an expression has already, entry by entry; and an entry more, under the next number.
use Rattle.std.proofs.Common.{◌≡◌, ℕ, ◌+◌, ◌<◌, ◌≤◌, true, false, cond, List, [], ◌∷◌, ◌++◌, map, length, get_or, drop, Some, None, refl, sym, ap, ◌∙◌, arith}
use Rattle.std.proofs.lemmas.Bool.{and_from, and_parts, lt-ltb, ltb-true}
use Rattle.lexicon.proofs.Frames.{every_append}
use Rattle.table.proofs.Loops.{mapped-step, mapped_end}
use Rattle.plan.specs.Fields.{every}
use Rattle.plan.specs.Terms.{Expr, same_expr}
use Rattle.rewriting.specs.Generated.{countable, generated}
use Rattle.rewriting.specs.Routing.{Entry, entered}
use Rattle.terms.specs.Views.{View}
use Rattle.extracting.specs.Extractors.{Inside, entry_in, entry_of, is_before}
use Rattle.extracting.specs.declared.extractor.Extracted.{Extracted}
use Rattle.extracting.specs.declared.extractor.Extractor.{Extractor}

module _ (v : View) (e : Expr) (xs : List Extracted) (i : ℕ) where
  abbrev all : List Entry
  all = map (entry_of v) xs

  one-more : (d : Extracted) → i < length xs → entered e (drop i all) ≡ cond (same_expr (entry_of v (get_or xs i d)).1 e) (Some (generated (get_or xs i d).alias)) (entered e (drop (i + 1) all))
  unfolding entered
  one-more d lt = mapped-step (entered e) (entry_of v) xs i d lt

  pub found : (d x : Extracted) → i < length xs → x ≡ get_or xs i d → same_expr (entry_of v x).1 e ≡ true → entered e (drop i all) ≡ Some (generated x.alias)
  found d x lt is h =
      one-more d lt ∙ ap (λ y. cond (same_expr (entry_of v y).1 e) (Some (generated y.alias)) (entered e (drop (i + 1) all))) (sym is)
      ∙ ap (λ b. cond b (Some (generated x.alias)) (entered e (drop (i + 1) all))) h

  pub passed : (d x : Extracted) → i < length xs → x ≡ get_or xs i d → same_expr (entry_of v x).1 e ≡ false → entered e (drop i all) ≡ entered e (drop (i + 1) all)
  passed d x lt is h =
      one-more d lt ∙ ap (λ y. cond (same_expr (entry_of v y).1 e) (Some (generated y.alias)) (entered e (drop (i + 1) all))) (sym is)
      ∙ ap (λ b. cond b (Some (generated x.alias)) (entered e (drop (i + 1) all))) h

  pub none_left : length xs ≤ i → entered e (drop i all) ≡ None
  unfolding entered
  none_left le = mapped_end (entered e) (entry_of v) xs i le

earlier-more : (n m : ℕ) (ds : List Extracted) → n ≤ m → every (is_before n) ds ≡ true → every (is_before m) ds ≡ true
earlier-more n m [] le h = refl
earlier-more n m (d ∷ ds) le h =
    let p = and_parts (is_before n d) (every (is_before n) ds) h in
    and_from _ _ (lt-ltb d.alias m (omega (arith, ltb-true d.alias n p.0))) (earlier-more n m ds le p.1)

module _ (v : View) (y : Extractor) (d : Extracted) (E : List Extracted) (inside : Inside v y) (pushed : E ≡ y.entries ++ d ∷ []) (number : d.alias ≡ y.next) where
  pub entries-inside : d.inner.0 < length v.trees → countable y.next ≡ true → every (entry_in v) E ≡ true
  entries-inside lt h =
      ap (every (entry_in v)) pushed
      ∙ every_append (entry_in v) y.entries (d ∷ []) inside.entries (and_from _ _ (and_from _ _ (lt-ltb d.inner.0 (length v.trees) lt) (ap countable number ∙ h)) refl)

  pub entries-earlier : every (is_before (y.next + 1)) E ≡ true
  entries-earlier =
      let n = y.next + 1 in
      ap (every (is_before n)) pushed ∙ every_append (is_before n) y.entries (d ∷ []) (earlier-more y.next n y.entries (omega arith) inside.earlier) (and_from _ _ (lt-ltb d.alias n (omega (arith, number))) refl)
