use Rattle.std.proofs.Common.{◌≡◌, Err, Result, MatchResult, sym, subst, arith, rules}
use Rattle.tables.proofs.Begun.{tables-then, begun-then}
use Rattle.attempt.proofs.tests.aliased.Goals as goal

refused : {A E : Type 0} (r : Result A E) (e : E) (P : A → Type 0) (Q : Type 0) → r ≡ Err e → Q → MatchResult r P (λ _. Q)
refused r e P Q h q = subst (λ x. MatchResult x P (λ _. Q)) (sym h) q

pub drop-attempt-requires : goal.drop-attempt-requires
drop-attempt-requires c = (c.args.tables.now, begun-then _ _ _ _ c.begin-attempt.ensures.begun c.literal.ensures.begins)

pub returns-in_err-inner : goal.returns-in_err-inner
returns-in_err-inner c =
    let back = c.drop-attempt.ensures.model c.args.tables.now (begun-then _ _ _ _ c.begin-attempt.ensures.begun c.literal.ensures.begins) in
    search rules

pub drop-attempt-requires-in_err-outer : goal.drop-attempt-requires-in_err-outer
drop-attempt-requires-in_err-outer c =
    (c.args.tables.now, begun-then _ _ _ _ c.begin-attempt.ensures.begun (tables-then _ _ _ c.literal.ensures.begins c.alias.ensures.begins))

pub returns-in_err-outer : goal.returns-in_err-outer
returns-in_err-outer c =
    let e : c.from_residual-in_err-outer.result ≡ Err c.in_err-outer.field-0.0 = search rules in
    let back = c.drop-attempt-in_err-outer.ensures.model c.args.tables.now (begun-then _ _ _ _ c.begin-attempt.ensures.begun (tables-then _ _ _ c.literal.ensures.begins c.alias.ensures.begins)) in
    let r = c.begin-attempt.ensures.same_reference in
    refused _ _ _ _ e (grind (arith, back, r))

pub returns : goal.returns
returns c =
    let b = (begun-then _ _ _ _ c.begin-attempt.ensures.begun (tables-then _ _ _ c.literal.ensures.begins c.alias.ensures.begins)).begins in
    search rules
