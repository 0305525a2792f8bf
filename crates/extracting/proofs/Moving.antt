-- Where nothing was taken out, the expression is given back: so if something is refused, something was taken out.
use Rattle.std.proofs.Common.{◌≡◌, Bool, true, false, Ok, Err, Result, IfOk, refl}
use Rattle.plan.specs.declared.fault.Fault.{Fault}
use Rattle.entries.specs.declared.node.ExprId.{ExprId}

-- new says whether something was taken out
pub given-back : (r : Result ExprId Fault) (e : ExprId) (new : Bool) → (new ≡ false → r ≡ Ok e) → IfOk r (λ d. new ≡ false → d.0 ≡ e.0)
given-back (Ok d) e new h = λ q. let p = h q in cc
given-back (Err f) e new h = tt

pub refused-new : (f : Fault) (e : ExprId) (new : Bool) → (new ≡ false → ◌≡◌ {A = Result ExprId Fault} (Err f) (Ok e)) → new ≡ true
refused-new f e true h = refl
refused-new f e false h = let p = h refl in cc
