-- From the questions of several calls, one after the other, to all of them.
use Rattle.std.proofs.Common.{◌≡◌, true, false, List, [], ◌∷◌, ◌++◌, Some, None, Ok, Err, Result, sym, refl, ◌∙◌, subst}
use Rattle.plan.specs.Faults.{Asked, Settled, first_no}
use Rattle.plan.specs.declared.fault.Fault.{Fault}
use Rattle.plan.specs.declared.fault.Question.{Question}

-- where none of the first is answered no, the others decide
pub go-on : (qs rest : List Asked) → first_no qs ≡ None → first_no (qs ++ rest) ≡ first_no rest
go-on [] rest h = refl
go-on ((q, true) ∷ qs) rest h = go-on qs rest h
go-on ((q, false) ∷ qs) rest h = cc

-- where one of the first is answered no, it decides
pub stop : (qs rest : List Asked) (q : Question) → first_no qs ≡ Some q → first_no (qs ++ rest) ≡ Some q
stop [] rest q h = cc
stop ((p, true) ∷ qs) rest q h = stop qs rest q h
stop ((p, false) ∷ qs) rest q h = h

-- a call that goes on by its own questions leaves the decision to what comes after it
pub settled-on : {A : Type 0} (qs rest : List Asked) (P : A → Type 0) (r : Result A Fault) → first_no qs ≡ None → Settled rest P (Unit {0}) r → Settled (qs ++ rest) P (Unit {0}) r
settled-on qs rest P (Ok v) h s = (go-on qs rest h ∙ s.0, s.1)
settled-on qs rest P (Err f) h s = (go-on qs rest h ∙ s.0, s.1, s.2)

module _ {A B : Type 0} (P : A → Type 0) (R : B → Type 0) (f : Fault) (r : Result B Fault) (e : r ≡ Err f) where
  -- its refusal is handed on
  pub refused-last : (qs : List Asked) → Settled qs P (Unit {0}) (Err f) → Settled qs R (Unit {0}) r
  refused-last qs h = subst (Settled qs R (Unit {0})) (sym e) h

  -- and nothing after it is asked
  pub refused-first : (qs rest : List Asked) → Settled qs P (Unit {0}) (Err f) → Settled (qs ++ rest) R (Unit {0}) r
  refused-first qs rest h = refused-last (qs ++ rest) (stop qs rest f.question h.0, h.1, tt)
