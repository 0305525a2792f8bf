-- Which field a reference means, and which lists of fields are lawful.
--     resolves fs r      the reference r means exactly one field of fs
--     lawful fs      no field occurs twice, and none without a qualifier shares its name with another
use Rattle.std.specs.Prelude.{Bool, true, false, cond, not, ◌&&◌, ◌||◌, List, [], ◌∷◌, count_by, ◌==◌}
use Rattle.std.specs.Str.{bytes_eq}
use Rattle.plan.specs.Names.{Name}
use Rattle.plan.specs.Terms.{Field, Expr, same_qualifier, is_unqualified, same_field, references_of}

abbrev pub any : {A : Type 0} → (A → Bool) → List A → Bool
any p [] = false
any p (x ∷ xs) = p x || any p xs

abbrev pub every : {A : Type 0} → (A → Bool) → List A → Bool
every p [] = true
every p (x ∷ xs) = p x && every p xs

abbrev pub named : Name → Field → Bool
named n f = bytes_eq n f.name

-- with a qualifier, the same field is there; without one, exactly one field has the name
abbrev pub resolves : List Field → Field → Bool
resolves fs r = cond (is_unqualified r.qualifier) (count_by (named r.name) fs == 1) (any (same_field r) fs)

-- every reference of an expression resolves
abbrev pub resolved : List Field → Expr → Bool
resolved fs e = every (resolves fs) (references_of e)

-- two fields that may not stand in one list
abbrev pub clash : Field → Field → Bool
clash f g = bytes_eq f.name g.name && (same_qualifier f.qualifier g.qualifier || (is_unqualified f.qualifier || is_unqualified g.qualifier))

abbrev pub lawful : List Field → Bool
lawful [] = true
lawful (f ∷ fs) = not (any (clash f) fs) && lawful fs
