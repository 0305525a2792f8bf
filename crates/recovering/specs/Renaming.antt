-- The list of a recovery; cited by src/renaming.rt and src/recovery.rt.
--     placed f g      the field g under the name of f: as it is where they are the same, else an alias
--     recovery_list fs gs      the fields gs under the names fs, by place if there are as many, else by name
--     can_rename fs gs      at each place the fields are the same, or an alias may have the first one's name
use Rattle.std.specs.Prelude.{Bool, true, cond, ◌&&◌, ◌||◌, List, [], ◌∷◌, length, ◌==◌}
use Rattle.plan.specs.Calls.{good_alias}
use Rattle.plan.specs.Terms.{Expr, Field, same_field}
use Rattle.plan.specs.Terms.Expr.{alias, reference}
use Rattle.rewriting.specs.Extracting.{by_place}
use Rattle.rows.specs.Standing.{refs}

abbrev pub placed : Field → Field → Expr
placed f g = cond (same_field f g) (reference g) (alias (reference g) f)

abbrev pub recovery_list : List Field → List Field → List Expr
recovery_list fs gs = cond (length fs == length gs) (by_place fs gs) (refs fs)

abbrev pub can_rename : List Field → List Field → Bool
can_rename [] gs = true
can_rename (f ∷ fs) [] = true
can_rename (f ∷ fs) (g ∷ gs) = (same_field f g || good_alias f) && can_rename fs gs
