-- The value of an expression of one side of a Join, on a joined row.
use Rattle.std.proofs.Common.{◌≡◌, List, [], ◌++◌, length, sym, refl, ap, ◌∙◌}
use Rattle.plan.specs.Functions.{Functions}
use Rattle.plan.specs.Terms.{Expr, Field}
use Rattle.rows.proofs.Extract.{covers-behind, pick-behind-wide}
use Rattle.rows.proofs.Finds.{eval-alike}
use Rattle.rows.proofs.Joins.{covers-left, pick-left}
use Rattle.rows.proofs.Wide.{Wide}
use Rattle.rows.proofs.Words.{eval}
use Rattle.rows.specs.Standing.{Known, up_from}
use Rattle.rows.specs.Worlds.{Fitting, Row}

module _ {F : Functions} where
  -- the value of an expression of one side, in a joined row
  module _ (W : Fitting F) (fl fr : List Field) (l r : Row) (e : Expr) where
    pub eval_left : Known fl e → Known (fl ++ fr) e → Wide (length fl) l → eval W (fl ++ fr) (l ++ r) e ≡ eval W fl l e
    eval_left kl kj w =
        let c = covers-behind [] fl in
        let σ = up_from 0 (length fl) in
        sym (eval-alike W (fl ++ fr) σ fl (covers-left fl fr σ fl c) (l ++ r) e kl kj)
        ∙ ap (λ (s : Row). eval W fl s e) (pick-left fl σ fl c l r w ∙ pick-behind-wide 0 (length fl) [] l refl w)

    pub eval_right : Known fr e → Known (fl ++ fr) e → Wide (length fl) l → Wide (length fr) r → eval W (fl ++ fr) (l ++ r) e ≡ eval W fr r e
    eval_right kr kj w v =
        sym (eval-alike W (fl ++ fr) (up_from (length fl) (length fr)) fr (covers-behind fl fr) (l ++ r) e kr kj)
        ∙ ap (λ (s : Row). eval W fr s e) (pick-behind-wide (length fl) (length fr) l r w v)
