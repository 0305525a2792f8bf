-- Where the other tables have room, it is the text that decides.
use Rattle.std.proofs.Common.{◌≡◌, ◌+◌, ◌≤◌, ◌&&◌, leb, length, sym, ◌∙◌, ap₂, arith}
use Rattle.std.proofs.lemmas.Bool.{le-leb}
use Rattle.plan.specs.Model.{Space, fits}
use Rattle.terms.proofs.Facts.{counted}
use Rattle.tables.specs.Holding.{view_in}
use Rattle.tables.specs.declared.tables.Tables.{Tables}

pub rest-fits : (u m : Space) → u.exprs + m.exprs ≤ 1024 → u.plans + m.plans ≤ 128 → u.entries + m.entries ≤ 2048 → u.fields + m.fields ≤ 2048 → leb (u.bytes + m.bytes) 16384 ≡ fits u m
rest-fits u m e p l f =
    let b = leb (u.bytes + m.bytes) 16384 in
    sym (ap₂ (λ x y. (x && y) && (leb (u.entries + m.entries) 2048 && (leb (u.fields + m.fields) 2048 && b))) (le-leb _ _ e) (le-leb _ _ p) ∙ ap₂ (λ x y. x && (y && b)) (le-leb _ _ l) (le-leb _ _ f))

-- there are never too many expressions
pub exprs-fit : (t : Tables) → length (view_in t).trees + 0 ≤ 1024
exprs-fit t = omega (arith, counted t.terms, t.terms.few)
