-- A field of an Aggregate may be renamed to what it was: it is the same after the walk, or an alias may have its name.
use Rattle.std.proofs.Common.{◌≡◌, ℕ, Bool, true, false, cond, not, T, ◌&&◌, ◌||◌, List, [], ◌∷◌, ◌++◌, map, length, Some, None, Option, sym, refl, ap, ap₂, ◌∙◌, subst}
use Rattle.std.proofs.lemmas.Bool.{and_from, and_parts}
use Rattle.plan.specs.Calls.{good_alias, good_field}
use Rattle.plan.specs.Fields.{every}
use Rattle.plan.specs.Functions.{Functions}
use Rattle.plan.specs.Names.{Name, prefixed}
use Rattle.plan.specs.Rendering.{field_of, unqualified_field}
use Rattle.plan.specs.Terms.{Expr, Field, Qualifier, same_field, same_qualifier}
use Rattle.plan.specs.Terms.Expr.{alias, call, literal, reference}
use Rattle.plan.specs.Terms.Qualifier.{qualified, unqualified}
use Rattle.recovering.specs.Renaming.{can_rename}
use Rattle.rows.proofs.Finds.{name-refl}
use mir.Facts.{yes_and}
use Rattle.rewriting.specs.Routing.{Extractor, Side, routing_extract, routing_extract_all, under_alias}

-- f may be the name of g
abbrev pub Renames : Field → Field → Type 0
Renames f g = (same_field f g || good_alias f) ≡ true

or-left : (a b : Bool) → a ≡ true → (a || b) ≡ true
or-left true b h = refl
or-left false b h = cc

or-right : (a b : Bool) → b ≡ true → (a || b) ≡ true
or-right true b h = refl
or-right false b h = h

is-yes : (b : Bool) → T b → b ≡ true
is-yes true h = refl
is-yes false h = absurd h

field-self : (f : Field) → same_field f f ≡ true
field-self f = is-yes (same_field f f) (yes_and _ _ (of-qualifier f.qualifier) (name-refl f.name))
  where
    of-qualifier : (q : Qualifier) → T (same_qualifier q q)
    of-qualifier unqualified = tt
    of-qualifier (qualified a) = name-refl a

renames-self : (f : Field) → Renames f f
renames-self f = or-left (same_field f f) (good_alias f) (field-self f)

pub can-rename-self : (fs : List Field) → can_rename fs fs ≡ true
can-rename-self [] = refl
can-rename-self (f ∷ fs) = and_from _ _ (renames-self f) (can-rename-self fs)

-- a name without qualifier
bare-renames : (n : Name) (g : Field) → good_field (unqualified_field n) ≡ true → Renames (unqualified_field n) g
bare-renames n g h = or-right (same_field (unqualified_field n) g) (good_alias (unqualified_field n)) (and_from (good_field (unqualified_field n)) _ h (or-right (not (prefixed n)) true refl))

module _ (F : Functions) (own : Expr → Option Side) where
  walk-renames : (e : Expr) (g : Extractor) → good_field (field_of F e) ≡ true → Renames (field_of F e) (field_of F (routing_extract F own e g).0)
  unfolding routing_extract under_alias
  walk-renames (literal v) g h = renames-self (field_of F (literal v))
  walk-renames (reference r) g h = renames-self r
  walk-renames (alias e f) g h = go (prefixed f.name)
    where
      go : (b : Bool) → Renames f (field_of F (cond b (alias e f, g) (under_alias f (routing_extract F own e g))).0)
      go true = renames-self f
      go false = renames-self f
  walk-renames (call n es) g h = bare-renames (field_of F (call n es)).name (field_of F (routing_extract F own (call n es) g).0) h

  list-renames : (es : List Expr) (g : Extractor) → every good_field (map (field_of F) es) ≡ true → can_rename (map (field_of F) es) (map (field_of F) (routing_extract_all F own es g).0) ≡ true
  unfolding routing_extract_all
  list-renames [] g h = refl
  list-renames (e ∷ es) g h =
      let p = and_parts (good_field (field_of F e)) (every good_field (map (field_of F) es)) h in
      and_from _ _ (walk-renames e g p.0) (list-renames es (routing_extract F own e g).1 p.1)

  -- two lists, one after the other
  pub lists-rename : (gs ts : List Expr) (g : Extractor) → every good_field (map (field_of F) (gs ++ ts)) ≡ true
      → can_rename (map (field_of F) (gs ++ ts)) (map (field_of F) ((routing_extract_all F own gs g).0 ++ (routing_extract_all F own ts (routing_extract_all F own gs g).1).0)) ≡ true
  unfolding routing_extract_all
  lists-rename [] ts g h = list-renames ts g h
  lists-rename (e ∷ gs) ts g h =
      let p = and_parts (good_field (field_of F e)) (every good_field (map (field_of F) (gs ++ ts))) h in
      and_from _ _ (walk-renames e g p.0) (lists-rename gs ts (routing_extract F own e g).1 p.1)
