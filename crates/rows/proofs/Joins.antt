-- What stands for both sides of a join stands for the join.
use Rattle.std.proofs.Common.{◌≡◌, ℕ, zero, suc, ◌+◌, ◌<◌, Bool, not, List, [], ◌∷◌, ◌++◌, map, length, get_or, sym, refl, ap, ◌∙◌, append-nil, arith, length-append, get_or-append-add}
use lib.ListN.{get_or-append}
use Rattle.std.specs.List.{AllByRecursion}
use Rattle.plan.specs.Functions.{Functions}
use Rattle.plan.specs.Plans.{Plan, fields_of, shown}
use Rattle.plan.specs.Plans.Plan.{join}
use Rattle.plan.specs.Rendering.{unqualified_field}
use Rattle.plan.specs.Terms.{Expr, Field}
use Rattle.plan.specs.Values.{is_true, null}
use Rattle.plan.specs.declared.code.JoinKind.{JoinKind}
use Rattle.plan.specs.declared.code.JoinKind.TheVariants.{Full, Inner, Left, LeftAnti, LeftSemi, Right, RightAnti, RightSemi}
use Rattle.rows.proofs.Finds.{covers-length, eval-alike}
use Rattle.rows.proofs.JoinLists.{every-on, left-nat, lone-nat, pairs-nat, pairs_padded-nat, right-nat}
use Rattle.rows.proofs.Lists.{all_any, all_two, map-append}
use Rattle.rows.proofs.Wide.{Wide, nulls-wide, rows-wide}
use Rattle.rows.proofs.Words.{rows}
use Rattle.rows.specs.Rows.{holds, joined, lone, matches, nulls, pairs, pairs_padded, rows_of}
use Rattle.rows.specs.Standing.{Covers, Known, Stands, pick}
use Rattle.rows.specs.Worlds.{Fitting, Row}

abbrev pub shift : ℕ → List ℕ → List ℕ
shift n τ = map (λ i. n + i) τ

abbrev pub sides_at : JoinKind → ℕ → List ℕ → List ℕ → List ℕ
sides_at Inner n σ τ = σ ++ shift n τ
sides_at Left n σ τ = σ ++ shift n τ
sides_at Right n σ τ = σ ++ shift n τ
sides_at Full n σ τ = σ ++ shift n τ
sides_at LeftSemi n σ τ = σ
sides_at LeftAnti n σ τ = σ
sides_at RightSemi n σ τ = τ
sides_at RightAnti n σ τ = τ

pub covers-left : (rl rr : List Field) (σ : List ℕ) (ps : List Field) → Covers rl σ ps → Covers (rl ++ rr) σ ps
covers-left rl rr [] [] c = tt
covers-left rl rr [] (p ∷ ps) c = absurd c
covers-left rl rr (k ∷ σ) [] c = absurd c
covers-left rl rr (k ∷ σ) (p ∷ ps) c =
    let h = c.0 in
    (rw (length-append rl rr) (omega arith), rw (get_or-append rl rr (unqualified_field []) k h) c.1, covers-left rl rr σ ps c.2)

covers-right : (rl rr : List Field) (τ : List ℕ) (ps : List Field) → Covers rr τ ps → Covers (rl ++ rr) (shift (length rl) τ) ps
covers-right rl rr [] [] c = tt
covers-right rl rr [] (p ∷ ps) c = absurd c
covers-right rl rr (k ∷ τ) [] c = absurd c
covers-right rl rr (k ∷ τ) (p ∷ ps) c =
    let h = c.0 in
    (rw (length-append rl rr) (omega arith), rw (get_or-append-add rl rr k (unqualified_field [])) c.1, covers-right rl rr τ ps c.2)

covers-append : (rs : List Field) (σ τ : List ℕ) (ps qs : List Field) → Covers rs σ ps → Covers rs τ qs → Covers rs (σ ++ τ) (ps ++ qs)
covers-append rs [] τ [] qs c d = d
covers-append rs [] τ (p ∷ ps) qs c d = absurd c
covers-append rs (k ∷ σ) τ [] qs c d = absurd c
covers-append rs (k ∷ σ) τ (p ∷ ps) qs c d = (c.0, c.1, covers-append rs σ τ ps qs c.2 d)

pub pick-left : (rl : List Field) (σ : List ℕ) (ps : List Field) → Covers rl σ ps → (l r : Row) → Wide (length rl) l → pick σ (l ++ r) ≡ pick σ l
unfolding pick
pick-left rl [] [] c l r w = refl
pick-left rl [] (p ∷ ps) c l r w = absurd c
pick-left rl (k ∷ σ) [] c l r w = absurd c
pick-left rl (k ∷ σ) (p ∷ ps) c l r w =
    let h : k < length l = rw w c.0 in
    let a = get_or-append l r null k h in
    let b = pick-left rl σ ps c.2 l r w in
    cc

pub pick-right : (n : ℕ) (τ : List ℕ) (l r : Row) → Wide n l → pick (shift n τ) (l ++ r) ≡ pick τ r
unfolding pick
pick-right n [] l r w = refl
pick-right n (k ∷ τ) l r w =
    let a : get_or (l ++ r) (n + k) null ≡ get_or r k null = rw (← w) (get_or-append-add l r k null) in
    let b = pick-right n τ l r w in
    cc

pub get_or-nulls : (n k : ℕ) → get_or (nulls n) k null ≡ null
unfolding nulls
get_or-nulls zero k = refl
get_or-nulls (suc n) zero = refl
get_or-nulls (suc n) (suc k) = get_or-nulls n k

pub pick-nulls : (σ : List ℕ) (n : ℕ) → pick σ (nulls n) ≡ nulls (length σ)
unfolding pick nulls
pick-nulls [] n = refl
pick-nulls (k ∷ σ) n = let a = get_or-nulls n k in let b = pick-nulls σ n in cc

module _ (rl rr : List Field) (σ τ : List ℕ) (pl pr : List Field) (cl : Covers rl σ pl) (cr : Covers rr τ pr) where
  pub covers-both : Covers (rl ++ rr) (σ ++ shift (length rl) τ) (pl ++ pr)
  covers-both = covers-append (rl ++ rr) σ (shift (length rl) τ) pl pr (covers-left rl rr σ pl cl) (covers-right rl rr τ pr cr)

  pub covers-sides : (k : JoinKind) → Covers (shown k rl rr) (sides_at k (length rl) σ τ) (shown k pl pr)
  covers-sides Inner = covers-both
  covers-sides Left = covers-both
  covers-sides Right = covers-both
  covers-sides Full = covers-both
  covers-sides LeftSemi = rw (append-nil rl, append-nil pl) cl
  covers-sides LeftAnti = rw (append-nil rl, append-nil pl) cl
  covers-sides RightSemi = cr
  covers-sides RightAnti = cr

  pub pick-both : (l r : Row) → Wide (length rl) l → pick σ l ++ pick τ r ≡ pick (σ ++ shift (length rl) τ) (l ++ r)
  unfolding pick
  pick-both l r w =
      let a = pick-left rl σ pl cl l r w in
      let b = pick-right (length rl) τ l r w in
      let c = map-append (λ i. get_or (l ++ r) i null) σ (shift (length rl) τ) in
      cc

  matches-alike : {F : Functions} (W : Fitting F) (cs : List Expr) → AllByRecursion (Known (pl ++ pr)) cs → AllByRecursion (Known (rl ++ rr)) cs → (l r : Row) → Wide (length rl) l
      → matches W.world (pl ++ pr) cs (pick σ l) (pick τ r) ≡ matches W.world (rl ++ rr) cs l r
  unfolding matches holds
  matches-alike W cs kp kr l r w =
      rw (pick-both l r w) (every-on _ _ cs (all_two _ _ _
      (λ e p q. ap is_true (eval-alike W (rl ++ rr) (σ ++ shift (length rl) τ) (pl ++ pr) covers-both (l ++ r) e p q)) cs kp kr))

  pad-right : (l : Row) → Wide (length rl) l → pick σ l ++ nulls (length pr) ≡ pick (σ ++ shift (length rl) τ) (l ++ nulls (length rr))
  pad-right l w =
      let a = pick-both l (nulls (length rr)) w in
      let b = pick-nulls τ (length rr) in
      let c = covers-length rr τ pr cr in
      cc

  pad-left : (r : Row) → nulls (length pl) ++ pick τ r ≡ pick (σ ++ shift (length rl) τ) (nulls (length rl) ++ r)
  pad-left r =
      let a = pick-both (nulls (length rl)) r (nulls-wide (length rl)) in
      let b = pick-nulls σ (length rl) in
      let c = covers-length rl σ pl cl in
      cc

  -- tests that agree on what is known of the rows of each side give rows that are alike
  module _ (m_p m_r : Row → Row → Bool) (QL QR : Row → Type 0) (wide : (l : Row) → QL l → Wide (length rl) l)
      (mm : (l r : Row) → QL l → QR r → m_p (pick σ l) (pick τ r) ≡ m_r l r) (ls rs : List Row) (hl : AllByRecursion QL ls) (hr : AllByRecursion QR rs) where
    both : (l r : Row) → QL l → QR r → pick σ l ++ pick τ r ≡ pick (σ ++ shift (length rl) τ) (l ++ r)
    both l r p q = pick-both l r (wide l p)

    pairs-alike : pairs m_p (map (pick σ) ls) (map (pick τ) rs) ≡ map (pick (σ ++ shift (length rl) τ)) (pairs m_r ls rs)
    pairs-alike = pairs-nat _ _ _ _ _ _ _ ls rs hl hr mm both

    padded-alike : pairs_padded m_p (length pr) (map (pick σ) ls) (map (pick τ) rs) ≡ map (pick (σ ++ shift (length rl) τ)) (pairs_padded m_r (length rr) ls rs)
    padded-alike = pairs_padded-nat _ _ _ _ _ _ _ ls rs hl hr mm both (length rr) (length pr) (λ l p. pad-right l (wide l p))

    lone-alike : lone m_p (length pl) (map (pick σ) ls) (map (pick τ) rs) ≡ map (pick (σ ++ shift (length rl) τ)) (lone m_r (length rl) ls rs)
    lone-alike = lone-nat _ _ _ _ _ _ _ ls rs hl hr mm both (length rl) (length pl) (λ r k. pad-left r)

    pub joined-nat : (k : JoinKind)
        → joined k m_p (length pl) (length pr) (map (pick σ) ls) (map (pick τ) rs) ≡ map (pick (sides_at k (length rl) σ τ)) (joined k m_r (length rl) (length rr) ls rs)
    unfolding joined
    joined-nat Inner = pairs-alike
    joined-nat Left = padded-alike
    joined-nat Right = rw (pairs-alike, lone-alike) (sym (map-append _ (pairs m_r ls rs) _))
    joined-nat Full = rw (padded-alike, lone-alike) (sym (map-append _ (pairs_padded m_r (length rr) ls rs) _))
    joined-nat LeftSemi = left-nat _ _ (pick (σ ++ shift (length rl) τ)) _ _ _ _ ls rs hl hr mm both (λ b. b)
    joined-nat LeftAnti = left-nat _ _ (pick (σ ++ shift (length rl) τ)) _ _ _ _ ls rs hl hr mm both not
    joined-nat RightSemi = right-nat _ _ (pick (σ ++ shift (length rl) τ)) _ _ _ _ ls rs hl hr mm both (λ b. b)
    joined-nat RightAnti = right-nat _ _ (pick (σ ++ shift (length rl) τ)) _ _ _ _ ls rs hl hr mm both not

module _ {F : Functions} where
  -- the general law: the conditions of the new join agree with the old ones' on the rows
  pub stands-join-when : {σ τ : List ℕ} {RL RR PL PR : Plan} → Stands F σ RL PL → Stands F τ RR PR → (k : JoinKind) (cs cs' : List Expr)
      → AllByRecursion (Known (fields_of F PL ++ fields_of F PR)) cs → AllByRecursion (Known (fields_of F RL ++ fields_of F RR)) cs → (QL QR : Fitting F → Row → Type 0)
      → ((W : Fitting F) → AllByRecursion (QL W) (rows W RL)) → ((W : Fitting F) → AllByRecursion (QR W) (rows W RR))
      → ((W : Fitting F) (l r : Row) → QL W l × Wide (length (fields_of F RL)) l → QR W r × Wide (length (fields_of F RR)) r
      → matches W.world (fields_of F RL ++ fields_of F RR) cs l r ≡ matches W.world (fields_of F RL ++ fields_of F RR) cs' l r)
      → Stands F (sides_at k (length (fields_of F RL)) σ τ) (join k cs' RL RR) (join k cs PL PR)
  unfolding rows_of
  stands-join-when {σ} {τ} {RL} {RR} {PL} {PR} sl sr k cs cs' kp kr QL QR hl hr mm = record {
    covers = covers-sides (fields_of F RL) (fields_of F RR) σ τ (fields_of F PL) (fields_of F PR) sl.covers sr.covers k;
    alike = λ W. rw (sl.alike W, sr.alike W)
        (joined-nat (fields_of F RL) (fields_of F RR) σ τ (fields_of F PL) (fields_of F PR) sl.covers sr.covers
        (matches W.world (fields_of F PL ++ fields_of F PR) cs) (matches W.world (fields_of F RL ++ fields_of F RR) cs')
        (λ l. QL W l × Wide (length (fields_of F RL)) l) (λ r. QR W r × Wide (length (fields_of F RR)) r) (λ l p. p.1)
        (λ l r p q. matches-alike (fields_of F RL) (fields_of F RR) σ τ (fields_of F PL) (fields_of F PR) sl.covers sr.covers W cs kp kr l r p.1 ∙ mm W l r p q)
        (rows W RL) (rows W RR)
        (all_two _ _ _ (λ l p q. (p, q)) (rows W RL) (hl W) (rows-wide W RL)) (all_two _ _ _ (λ r p q. (p, q)) (rows W RR) (hr W) (rows-wide W RR)) k);
  }

  pub stands-join : {σ τ : List ℕ} {RL RR PL PR : Plan} → Stands F σ RL PL → Stands F τ RR PR → (k : JoinKind) (cs : List Expr)
      → AllByRecursion (Known (fields_of F PL ++ fields_of F PR)) cs → AllByRecursion (Known (fields_of F RL ++ fields_of F RR)) cs
      → Stands F (sides_at k (length (fields_of F RL)) σ τ) (join k cs RL RR) (join k cs PL PR)
  stands-join {RL = RL} {RR = RR} sl sr k cs kp kr =
      stands-join-when sl sr k cs cs kp kr (λ W l. Unit {0}) (λ W r. Unit {0})
      (λ W. all_any _ (rows W RL) (λ l. tt)) (λ W. all_any _ (rows W RR) (λ r. tt)) (λ W l r p q. refl)
