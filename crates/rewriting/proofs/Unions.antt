-- A union of inputs that carry columns at the same places carries them.
use Rattle.std.proofs.Common.{◌≡◌, ℕ, Bool, true, false, cond, ◌&&◌, T, eqb, List, [], ◌∷◌, ◌++◌, map, length, get_or, take, sym, refl, ap, ◌∙◌, subst, eqb→eq}
use lib.ListN.{length-map}
use mir.Facts.{and_yes, yes_and}
use Rattle.std.proofs.ByRecursion.{All-append, All-weaker}
use Rattle.std.specs.List.{AllByRecursion}
use Rattle.plan.specs.Fields.{every, resolves}
use Rattle.plan.specs.Functions.{Functions}
use Rattle.plan.specs.Plans.{Plan, Plans, fields_of, without_qualifier}
use Rattle.plan.specs.Plans.Plan.{union}
use Rattle.plan.specs.Plans.Plans.{also, done}
use Rattle.plan.specs.Rendering.{unqualified_field}
use Rattle.plan.specs.Terms.{Field}
use Rattle.plan.specs.Terms.Expr.{reference}
use Rattle.plan.specs.Terms.Qualifier.{unqualified}
use Rattle.plan.specs.Values.{null}
use Rattle.rows.proofs.Lists.{all_any, all-forall, all_of_map, all_two, map-append}
use Rattle.rows.proofs.More.{covers-map, get_or-map-in}
use Rattle.rows.proofs.Resolving.{reference-known}
use Rattle.rows.proofs.Wide.{Wide, rows-wide}
use Rattle.rows.proofs.Words.{eval, further, rows}
use Rattle.rows.specs.Rows.{fit, may_mean, nulls, rows_of, seek, under}
use Rattle.rows.specs.Standing.{Covers, Good, Goods, Known, Stands, at, pick, wide_all}
use Rattle.rows.specs.Worlds.{Fitting, Row}
use Rattle.rewriting.proofs.Carries.{Carries, Holds}
use Rattle.rewriting.proofs.Made.{every-all, good-lawful, good-lists}
use Rattle.rewriting.proofs.Pushes.{name-means, rename-eval, rebuilt-gives}
use Rattle.rewriting.proofs.Splits.{Bears}
use Rattle.rewriting.specs.Extracting.{no_change}
use Rattle.rewriting.specs.Laws.{Gives}
use Rattle.rewriting.specs.Outlay.{Tally}
use Rattle.rewriting.specs.Pushing.{aliases_of, all_fit_places, fits_places, places_in, remap, remap_pairs, same_places, united, rebuilt_over}
use Rattle.rewriting.specs.Routing.{Pair}

places-eq : (a b : List ℕ) → T (same_places a b) → a ≡ b
unfolding same_places
places-eq [] [] h = refl
places-eq [] (b ∷ bs) h = absurd h
places-eq (a ∷ τ) [] h = absurd h
places-eq (a ∷ τ) (b ∷ bs) h =
    let k = and_yes (eqb a b) (same_places τ bs) h in
    let p = eqb→eq a b k.0 in
    let q = places-eq τ bs k.1 in
    cc

covers-sole : (rs : List Field) (σ : List ℕ) (ps : List Field) → Covers rs σ ps → AllByRecursion (λ f. Known rs (reference f)) ps → σ ≡ map (λ f. seek f rs) ps
covers-sole rs [] [] c k = refl
covers-sole rs [] (p ∷ ps) c k = absurd c
covers-sole rs (i ∷ σ) [] c k = absurd c
covers-sole rs (i ∷ σ) (p ∷ ps) c k =
    let a = k.0.sole i c.0 c.1 in
    let b = covers-sole rs σ ps c.2 k.1 in
    cc

map_each : {A B : Type 0} (f g : A → B) (xs : List A) → map f xs ≡ map g xs → AllByRecursion (λ x. f x ≡ g x) xs
map_each f g [] p = tt
map_each f g (x ∷ xs) p = (cc, map_each f g xs (cc))

take-self : (row x : Row) → take (length row) (row ++ x) ≡ row
take-self [] x = refl
take-self (v ∷ row) x = ap (λ (r : Row). v ∷ r) (take-self row x)

fit-self : (n : ℕ) (row : Row) → Wide n row → fit n row ≡ row
unfolding fit
fit-self n row w = rw (← w) (take-self row (nulls (length row)))

fit-rows : (n : ℕ) (rs : List Row) → AllByRecursion (Wide n) rs → map (fit n) rs ≡ rs
fit-rows n [] h = refl
fit-rows n (r ∷ rs) h = let p = fit-self n r h.0 in let q = fit-rows n rs h.1 in cc

-- the inputs bear the renamed pairs
abbrev pub BearsAll : Functions → List Field → List Pair → Plans → Plans → Type 0
BearsAll F from ps done done = Unit {0}
BearsAll F from ps done (also r rs) = ⊥
BearsAll F from ps (also i is) done = ⊥
BearsAll F from ps (also i is) (also r rs) = Bears F r i (remap_pairs from (fields_of F i) ps) × BearsAll F from ps is rs

pub bears-goods : (F : Functions) (from : List Field) (ps : List Pair) (is rs : Plans) → BearsAll F from ps is rs → Goods F rs
bears-goods F from ps done done b = tt
bears-goods F from ps done (also r rs) b = absurd b
bears-goods F from ps (also i is) done b = absurd b
bears-goods F from ps (also i is) (also r rs) b = (b.0.good, bears-goods F from ps is rs b.1)

module _ (F : Functions) (from : List Field) (ps : List Pair) (known-ps : AllByRecursion (λ p. Known from p.0) ps) (first : Plan) (n : ℕ) (τ : List ℕ) where
  -- an input, at the places of the first
  record Part (i r : Plan) : Type 0 where
    stands : Stands F τ r i
    wide : length (fields_of F r) ≡ n
    meant : AllByRecursion (λ p. Known (fields_of F r) (reference (unqualified_field p.1))) ps
    values : AllByRecursion (λ p. (W : Fitting F) → AllByRecursion (λ row. get_or row (seek (unqualified_field p.1) (fields_of F first)) null ≡ eval W from (pick τ row) p.0) (rows W r)) ps

  part : (i r : Plan) → Good F i → length from ≡ length (fields_of F i) → Bears F r i (remap_pairs from (fields_of F i) ps)
      → T (fits_places F n τ (places_in F first (aliases_of ps)) ps i r) → Part i r
  unfolding fits_places places_in remap_pairs aliases_of
  part i r g long b h =
      let a = and_yes (every (resolves (fields_of F r)) (fields_of F i) && same_places (map (λ f. seek f (fields_of F r)) (fields_of F i)) τ) _ h in
      let b1 = and_yes (every (resolves (fields_of F r)) (fields_of F i)) (same_places (map (λ f. seek f (fields_of F r)) (fields_of F i)) τ) a.0 in
      let c = and_yes (every (resolves (fields_of F r)) (aliases_of ps) && same_places (map (λ f. seek f (fields_of F r)) (aliases_of ps)) (map (λ f. seek f (fields_of F first)) (aliases_of ps))) _ a.1 in
      let c1 = and_yes (every (resolves (fields_of F r)) (aliases_of ps)) (same_places (map (λ f. seek f (fields_of F r)) (aliases_of ps)) (map (λ f. seek f (fields_of F first)) (aliases_of ps))) c.0 in
      let d = and_yes (eqb (length (fields_of F r)) n) _ c.1 in
      let old = All-weaker _ _ (λ f t. reference-known (fields_of F r) (good-lists F r b.good) f t) (fields_of F i) (every-all (resolves (fields_of F r)) (fields_of F i) b1.0) in
      let new = All-weaker _ _ (λ f t. reference-known (fields_of F r) (good-lists F r b.good) f t) (aliases_of ps) (every-all (resolves (fields_of F r)) (aliases_of ps) c1.0) in
      let eτ : b.carries.σ ≡ τ = covers-sole (fields_of F r) b.carries.σ (fields_of F i) b.carries.stands.covers old ∙ places-eq _ τ b1.1 in
      let eω = map_each (λ f. seek f (fields_of F r)) (λ f. seek f (fields_of F first)) (aliases_of ps) (places-eq _ _ c1.1) in
      record {
        stands = subst (λ (σ : List ℕ). Stands F σ r i) eτ b.carries.stands;
        wide = eqb→eq (length (fields_of F r)) n d.0;
        meant = all_of_map (λ f. Known (fields_of F r) (reference f)) (λ d. (unqualified_field d.1)) ps new;
        values = all_two Named Borne _ (λ p x y. value p x y eτ) ps
            (all_two _ _ Named (λ p x y. (x, y)) ps known-ps (all_of_map (λ f. Known (fields_of F r) (reference f) × (seek f (fields_of F r) ≡ seek f (fields_of F first))) (λ d. (unqualified_field d.1)) ps
            (all_two _ _ _ (λ f x y. (x, y)) (aliases_of ps) new eω)))
            (all_of_map (λ p. Holds F r b.carries.σ i (unqualified_field p.1) p.0) (λ p. (remap from (fields_of F i) p.0, p.1)) ps b.carries.holds);
      }
    where
      Named : Pair → Type 0
      Named p = Known from p.0 × (Known (fields_of F r) (reference (unqualified_field p.1)) × (seek (unqualified_field p.1) (fields_of F r) ≡ seek (unqualified_field p.1) (fields_of F first)))

      Borne : Pair → Type 0
      Borne p = Holds F r b.carries.σ i (unqualified_field p.1) (remap from (fields_of F i) p.0)

      value : (p : Pair) → Named p → Borne p → b.carries.σ ≡ τ → (W : Fitting F)
          → AllByRecursion (λ row. get_or row (seek (unqualified_field p.1) (fields_of F first)) null ≡ eval W from (pick τ row) p.0) (rows W r)
      value p x y e W =
          All-weaker _ _ (λ row v.
          ap (λ (k : ℕ). get_or row k null) (sym (x.1.0.sole y.place y.inside y.meant ∙ x.1.1)) ∙ v
          ∙ sym (rename-eval W from (fields_of F i) long (good-lawful F i g) (pick b.carries.σ row) p.0 x.0)
          ∙ ap (λ (σ : List ℕ). eval W from (pick σ row) p.0) e) (rows W r) (y.value W)

  abbrev PartAll : Plans → Plans → Type 0
  PartAll done done = Unit {0}
  PartAll done (also r rs) = ⊥
  PartAll (also i is) done = ⊥
  PartAll (also i is) (also r rs) = Part i r × PartAll is rs

  part-all : (is rs : Plans) → Goods F is → T (wide_all F (length from) is) → BearsAll F from ps is rs → T (all_fit_places F n τ (places_in F first (aliases_of ps)) ps is rs) → PartAll is rs
  unfolding wide_all all_fit_places
  part-all done done g w b h = tt
  part-all done (also r rs) g w b h = absurd b
  part-all (also i is) done g w b h = absurd b
  part-all (also i is) (also r rs) g w b h =
      let v = and_yes (eqb (length (fields_of F i)) (length from)) (wide_all F (length from) is) w in
      let k = and_yes (fits_places F n τ (places_in F first (aliases_of ps)) ps i r) (all_fit_places F n τ (places_in F first (aliases_of ps)) ps is rs) h in
      (part i r g.0 (sym (eqb→eq (length (fields_of F i)) (length from) v.0)) b.0 k.0, part-all is rs g.1 v.1 b.1 k.1)

  rest-alike : (W : Fitting F) (is rs : Plans) → T (wide_all F (length from) is) → PartAll is rs → further W (length from) is ≡ map (pick τ) (further W n rs)
  unfolding rows_of wide_all
  rest-alike W done done w p = refl
  rest-alike W done (also r rs) w p = absurd p
  rest-alike W (also i is) done w p = absurd p
  rest-alike W (also i is) (also r rs) w p =
      let v = and_yes (eqb (length (fields_of F i)) (length from)) (wide_all F (length from) is) w in
      let a : map (fit (length from)) (rows W i) ≡ rows W i = fit-rows (length from) (rows W i) (rw (eqb→eq (length (fields_of F i)) (length from) v.0) at (rows-wide W i)) in
      let b : map (fit n) (rows W r) ≡ rows W r = fit-rows n (rows W r) (rw p.0.wide at (rows-wide W r)) in
      let c = p.0.stands.alike W in
      let d = rest-alike W is rs v.1 p.1 in
      let e = map-append (pick τ) (map (fit n) (rows W r)) (further W n rs) in
      cc

  rest-values : (W : Fitting F) (is rs : Plans) → PartAll is rs
      → AllByRecursion (λ p. AllByRecursion (λ row. get_or row (seek (unqualified_field p.1) (fields_of F first)) null ≡ eval W from (pick τ row) p.0) (further W n rs)) ps
  unfolding rows_of
  rest-values W done done p = all_any _ ps (λ q. tt)
  rest-values W done (also r rs) p = absurd p
  rest-values W (also i is) done p = absurd p
  rest-values W (also i is) (also r rs) p =
      let b : map (fit n) (rows W r) ≡ rows W r = fit-rows n (rows W r) (rw p.0.wide at (rows-wide W r)) in
      all_two _ _ _ (λ q x y. All-append _ (map (fit n) (rows W r)) (further W n rs) (rw b (x W)) y) ps p.0.values (rest-values W is rs p.1)

bare-mean : (f g : Field) → T (may_mean f g) → T (may_mean (unqualified_field f.name) (unqualified_field g.name))
unfolding may_mean under
bare-mean f g h = (and_yes _ _ h).1

abbrev bare_all : List Field → List Field
bare_all fs = map without_qualifier fs

module _ {F : Functions} where
  module _ (i : Plan) (is : Plans) (r : Plan) (rs : Plans) (ps : List Pair) (g : Good F (union i is)) (k : AllByRecursion (λ p. Known (fields_of F (union i is)) p.0) ps) where
    pub carries-union : Bears F r i (remap_pairs (fields_of F (union i is)) (fields_of F i) ps) → BearsAll F (fields_of F (union i is)) ps is rs
        → T (fits_places F (length (fields_of F r)) (places_in F r (fields_of F i)) (places_in F r (aliases_of ps)) ps i r)
        → T (all_fit_places F (length (fields_of F r)) (places_in F r (fields_of F i)) (places_in F r (aliases_of ps)) ps is rs)
        → Carries F (union r rs) (union i is) ps
    unfolding rows_of
    carries-union b bs h hs = record {
      σ = τ;
      stands = record {
        covers = covers-map _ bare-mean (fields_of F r) τ (fields_of F i) one.stands.covers;
        alike = λ W. alike W;
      };
      holds = all_two Named (λ p. (W : Fitting F) → AllByRecursion (Ok W p) (further W n rs)) _ hold ps (all_two _ _ Named (λ p x y. (x, y)) ps one.values fitted)
          (all-forall (λ (W : Fitting F) p. AllByRecursion (Ok W p) (further W n rs)) ps (λ W. rest-values F from ps k r n τ W is rs rest));
    }
      where
        from : List Field
        from = bare_all (fields_of F i)

        long : length from ≡ length (fields_of F i)
        long = length-map {B = Field} (fields_of F i) without_qualifier

        n : ℕ
        n = length (fields_of F r)

        τ : List ℕ
        τ = places_in F r (fields_of F i)

        wide : T (wide_all F (length from) is)
        wide = rw long g.3

        one : Part F from ps k r n τ i r
        one = part F from ps k r n τ i r g.1 long b h

        rest : PartAll F from ps k r n τ is rs
        rest = part-all F from ps k r n τ is rs g.2 wide bs hs

        alike : (W : Fitting F) → rows W i ++ further W (length (fields_of F i)) is ≡ map (pick τ) (rows W r ++ further W n rs)
        alike W =
            let a = one.stands.alike W in
            let c = rest-alike F from ps k r n τ W is rs wide rest in
            let d = map-append (pick τ) (rows W r) (further W n rs) in
            let e = long in
            cc

        Ok : Fitting F → Pair → Row → Type 0
        Ok W p row = get_or row (seek (unqualified_field p.1) (fields_of F r)) null ≡ eval W from (pick τ row) p.0

        Named : Pair → Type 0
        Named p = ((W : Fitting F) → AllByRecursion (Ok W p) (rows W r)) × Known (fields_of F r) (reference (unqualified_field p.1))

        fitted : AllByRecursion (λ p. Known (fields_of F r) (reference (unqualified_field p.1))) ps
        fitted = one.meant

        hold : (p : Pair) → Named p → ((W : Fitting F) → AllByRecursion (Ok W p) (further W n rs)) → Holds F (union r rs) τ (union i is) (unqualified_field p.1) p.0
        hold p x y = record {
          place = seek (unqualified_field p.1) (fields_of F r);
          inside = rw (length-map {B = Field} (fields_of F r) without_qualifier) x.1.inside;
          meant = rw (get_or-map-in {B = Field} without_qualifier (fields_of F r) (seek (unqualified_field p.1) (fields_of F r)) (unqualified_field []) (unqualified_field []) x.1.inside)
              (name-means p.1 unqualified (at (fields_of F r) (seek (unqualified_field p.1) (fields_of F r))) x.1.meant);
          value = λ W. All-append _ (rows W r) (further W n rs) (x.0 W) (y W);
        }

place-wide : (F : Functions) (n : ℕ) (τ ω : List ℕ) (ps : List Pair) (p r : Plan) → T (fits_places F n τ ω ps p r) → T (eqb (length (fields_of F r)) n)
unfolding fits_places
place-wide F n τ ω ps p r h =
    let a = and_yes (every (resolves (fields_of F r)) (fields_of F p) && same_places (places_in F r (fields_of F p)) τ) _ h in
    let b = and_yes (every (resolves (fields_of F r)) (aliases_of ps) && same_places (places_in F r (aliases_of ps)) ω) _ a.1 in
    (and_yes (eqb (length (fields_of F r)) n) _ b.1).0

all-wide : (F : Functions) (n : ℕ) (τ ω : List ℕ) (ps : List Pair) (is rs : Plans) → T (all_fit_places F n τ ω ps is rs) → T (wide_all F n rs)
unfolding all_fit_places wide_all
all-wide F n τ ω ps done done h = tt
all-wide F n τ ω ps done (also r rs) h = absurd h
all-wide F n τ ω ps (also p is) done h = absurd h
all-wide F n τ ω ps (also p is) (also r rs) h =
    let a = and_yes (fits_places F n τ ω ps p r) (all_fit_places F n τ ω ps is rs) h in
    yes_and (eqb (length (fields_of F r)) n) (wide_all F n rs) (place-wide F n τ ω ps p r a.0) (all-wide F n τ ω ps is rs a.1)

pub union-united : (F : Functions) (level : ℕ) (ps : List Pair) (i : Plan) (is : Plans) (r : Plan) (rs : Plans) (n : Tally) → Good F (union i is)
    → AllByRecursion (λ p. Known (fields_of F (union i is)) p.0) ps → Bears F r i (remap_pairs (fields_of F (union i is)) (fields_of F i) ps) → BearsAll F (fields_of F (union i is)) ps is rs
    → Gives (λ R. Bears F R (union i is) ps) (united F level ps i is r rs n)
unfolding united
union-united F level ps i is r rs n g k b bs = go _ (λ t. and_yes (fits_places F (length (fields_of F r)) (places_in F r (fields_of F i)) (places_in F r (aliases_of ps)) ps i r) _ t)
  where
    go : (c : Bool) → (T c → T (fits_places F (length (fields_of F r)) (places_in F r (fields_of F i)) (places_in F r (aliases_of ps)) ps i r)
        × T (all_fit_places F (length (fields_of F r)) (places_in F r (fields_of F i)) (places_in F r (aliases_of ps)) ps is rs))
        → Gives (λ R. Bears F R (union i is) ps) (cond c (rebuilt_over F level ps (union r rs) n) (no_change n))
    go true f = rebuilt-gives _ level ps (union r rs) n (λ s. record {
      good = (s, b.good, bears-goods F (fields_of F (union i is)) ps is rs bs, all-wide F _ _ _ ps is rs (f tt).1);
      carries = carries-union i is r rs ps g k b bs (f tt).0 (f tt).1;
    })
    go false f = tt
