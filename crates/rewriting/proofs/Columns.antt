-- A reference is among the columns of a list of fields where it may mean one of them.
use Rattle.std.proofs.Common.{◌≡◌, Bool, true, false, ◌&&◌, ◌||◌, List, [], ◌∷◌, refl}
use Rattle.std.specs.Str.{bytes_eq}
use Rattle.plan.specs.Fields.{any}
use Rattle.plan.specs.Terms.{Field, Qualifier, same_field, same_qualifier}
use Rattle.plan.specs.Terms.Qualifier.{qualified, unqualified}
use Rattle.rows.specs.Rows.{may_mean, under}
use Rattle.rewriting.specs.Routing.{schema_columns}

with-without : (q p : Qualifier) (b x : Bool) → (same_qualifier q p && b) || ((same_qualifier q unqualified && b) || x) ≡ (under q p && b) || x
unfolding under
with-without unqualified unqualified true x = refl
with-without unqualified unqualified false x = refl
with-without unqualified (qualified c) true x = refl
with-without unqualified (qualified c) false x = refl
with-without (qualified a) unqualified b x = refl
with-without (qualified a) (qualified c) b x = refl

pub columns-mean : (r : Field) (fs : List Field) → any (same_field r) (schema_columns fs) ≡ any (may_mean r) fs
unfolding schema_columns may_mean
columns-mean r [] = refl
columns-mean r (f ∷ fs) =
    let p = with-without r.qualifier f.qualifier (bytes_eq r.name f.name) (any (same_field r) (schema_columns fs)) in
    let q = columns-mean r fs in
    cc
