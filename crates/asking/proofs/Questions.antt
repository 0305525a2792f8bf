-- Questions that were answered yes decide nothing.
use Rattle.std.proofs.Common.{◌≡◌, true, List, [], ◌∷◌, ◌++◌, refl, ◌∙◌}
use Rattle.std.proofs.lemmas.Bool.{cond-true}
use Rattle.plan.specs.Faults.{Asked, first_no}

-- every question is answered yes
abbrev pub AllYes : List Asked → Type 0
AllYes [] = Unit {0}
AllYes (a ∷ later) = (a.1 ≡ true) × AllYes later

pub go_on : (qs rest : List Asked) → AllYes qs → first_no (qs ++ rest) ≡ first_no rest
go_on [] rest h = refl
go_on (a ∷ qs) rest h = cond-true a.1 _ _ h.0 ∙ go_on qs rest h.1
