-- Pairs that are merged into a list one after another.
use Rattle.std.proofs.Common.{◌≡◌, ℕ, ◌+◌, ◌<◌, ◌≤◌, Bool, true, false, cond, List, [], ◌∷◌, ◌++◌, map, length, get_or, drop, Ok, Err, Result, inl, inr, sym, refl, ap, ◌∙◌, subst, arith}
use Rattle.std.proofs.lemmas.Bool.{ltb-true}
use Rattle.std.proofs.lemmas.List.{at_drop_all, at_drop_more, get_or-map, length-map, map-append}
use Rattle.lexicon.proofs.Begun.{at-once}
use Rattle.lexicon.proofs.Frames.{every-at}
use Rattle.plan.specs.Calls.{all_below}
use Rattle.plan.specs.Model.{Space, Within, exprs_in, plus}
use Rattle.plan.specs.Terms.{Expr}
use Rattle.plan.specs.declared.fault.Fault.{Fault}
use Rattle.rewriting.specs.Extracting
use Rattle.rewriting.specs.Extracting.{add_pair}
use Rattle.rewriting.specs.Outlay.{list_space, nothing, tree_space}
use Rattle.rewriting.specs.Routing
use Rattle.rewriting.specs.Routing.{Entry, Pair, Side, pairs_of, same_side, unalias}
use Rattle.routing.specs.Sides.{side_of}
use Rattle.routing.specs.declared.owning.Side
use Rattle.rows.specs.Lists.{keep}
use Rattle.entries.specs.declared.node.ExprId.{ExprId}
use Rattle.tables.proofs.Answers.{space-same}
use Rattle.tables.proofs.Begun.{tables-then}
use Rattle.tables.specs.Begun.{TablesBegin}
use Rattle.tables.specs.Holding.{model_of, view_in}
use Rattle.tables.specs.declared.tables.Tables.{Tables}
use Rattle.terms.proofs.Begun.{terms-at-once}
use Rattle.terms.specs.Views.{View, numbers_of}
use Rattle.extracting.proofs.Growing.{extractor-stays, grows-at-once, grows-then}
use Rattle.extracting.proofs.Numbers.{numbered-here, numbered-more}
use Rattle.extracting.proofs.Spaces.{AtMost, at-most-nothing, no-room, within-same, within-then, within_more}
use Rattle.extracting.specs.Extractors.{Inside, entries_of, entry_in, entry_of, is_before}
use Rattle.extracting.specs.Walking.{Grows, Numbered}
use Rattle.extracting.specs.declared.extractor.Extracted.{Extracted}
use Rattle.extracting.specs.declared.extractor.Extractor.{Extractor}
use Rattle.merging.specs.Joining.{within_limits}
use Rattle.merging.specs.Merging.{Gathered, GatheredBy, PairsMerged, Stopped, pair_in, pair_of, pairs_at, pairs_in}
use Rattle.merging.specs.Replacing.{MapIn, map_of}
use Rattle.merging.specs.declared.replacing.ReplaceMap.{ReplaceMap}
use Rattle.merging.proofs.Following.{map-stays, numbered-both}
use Rattle.merging.proofs.Joined.{pairs-past}

-- the pairs of one entry, and of one before others
pairs-one : (s : Side) (d : Entry) → same_side d.0 s ≡ true → pairs_of s (d ∷ []) ≡ (unalias d.1, d.2) ∷ []
unfolding pairs_of keep
pairs-one s d h = ap (λ b. map (λ (x : Entry). (unalias x.1, x.2)) (cond b (d ∷ []) [])) h

pairs-none : (s : Side) (d : Entry) → same_side d.0 s ≡ false → pairs_of s (d ∷ []) ≡ []
unfolding pairs_of keep
pairs-none s d h = ap (λ b. map (λ (x : Entry). (unalias x.1, x.2)) (cond b (d ∷ []) [])) h

abbrev bare : Entry → Pair
bare x = (unalias x.1, x.2)

pairs-cons : (s : Side) (d : Entry) (ds : List Entry) → pairs_of s (d ∷ ds) ≡ pairs_of s (d ∷ []) ++ pairs_of s ds
unfolding pairs_of keep
pairs-cons s d ds = go (same_side d.0 s)
  where
    go : (b : Bool) → map bare (cond b (d ∷ keep (λ x. same_side x.0 s) ds) (keep (λ x. same_side x.0 s) ds)) ≡ map bare (cond b (d ∷ []) []) ++ map bare (keep (λ x. same_side x.0 s) ds)
    go true = refl
    go false = refl

pairs-empty : (s : Side) → pairs_of s [] ≡ []
unfolding pairs_of keep
pairs-empty s = refl

module _ (m : Extracting.ReplaceMap) where
  pub no-pairs : (acc : List Expr) → pairs_in m [] acc ≡ acc
  unfolding pairs_in
  no-pairs acc = refl

  pub one-pair : (p : Pair) (acc : List Expr) → pairs_in m (p ∷ []) acc ≡ add_pair (pair_in m p) acc
  unfolding pairs_in
  one-pair p acc = refl

  pairs-both : (ps qs : List Pair) (acc : List Expr) → pairs_in m (ps ++ qs) acc ≡ pairs_in m qs (pairs_in m ps acc)
  unfolding pairs_in
  pairs-both [] qs acc = refl
  pairs-both (p ∷ ps) qs acc = pairs-both ps qs (add_pair (pair_in m p) acc)

-- the places of a list, and of one list behind another
single-space : (e : Expr) → list_space (e ∷ []) ≡ tree_space e
unfolding list_space tree_space
single-space e = space-same _ _ _ _ _ _ _ _ _ _ (omega arith) (omega arith) (omega arith) (omega arith) (omega arith)

space-both : (us vs : List Expr) → list_space (us ++ vs) ≡ plus (list_space us) (list_space vs)
unfolding list_space
space-both [] vs = space-same _ _ _ _ _ _ _ _ _ _ (omega arith) (omega arith) (omega arith) (omega arith) (omega arith)
space-both (u ∷ us) vs =
    let h = space-both us vs in
    space-same _ _ _ _ _ _ _ _ _ _ (omega (arith, ap (λ s. s.exprs) h)) (omega (arith, ap (λ s. s.plans) h)) (omega (arith, ap (λ s. s.entries) h)) (omega (arith, ap (λ s. s.fields) h)) (omega (arith, ap (λ s. s.bytes) h))

-- a pair of the other input is left out, and one of this input is merged
module _ (t : Tables) (m : ReplaceMap) (s : Side.Side) (d : Extracted) (list : List ExprId) (there : all_below (length (view_in t).trees) (numbers_of list) ≡ true) where
  abbrev acc : List Expr
  acc = exprs_in (view_in t).trees (numbers_of list)

  pub left-out : same_side (side_of d.side) (side_of s) ≡ false → length list ≤ 64 → PairsMerged t m (pairs_at (view_in t) s d) (d.alias + 1) list (Ok tt) list t
  left-out h few =
      let none = pairs-none (side_of s) (entry_of (view_in t) d) h in
      record {
        present = there;
        trees = sym (ap (λ ps. pairs_in (map_of (view_in t) m) ps acc) none ∙ no-pairs (map_of (view_in t) m) acc);
        few = few;
        grows = grows-at-once (model_of t);
        spent = within-same (model_of t).used _;
        numbers = numbered-here (model_of t) (d.alias + 1);
      }

  pub taken-in : (r : Result (Unit {0}) Fault) (ids : List ExprId) (u : Tables) → same_side (side_of d.side) (side_of s) ≡ true
      → GatheredBy t (tree_space (pair_in (map_of (view_in t) m) (pair_of (view_in t) d))) (d.alias + 1) (add_pair (pair_in (map_of (view_in t) m) (pair_of (view_in t) d)) acc) r ids u → PairsMerged t m (pairs_at (view_in t) s d) (d.alias + 1) list r ids u
  taken-in r ids u h a =
      let k = map_of (view_in t) m in
      let p = pair_of (view_in t) d in
      let one = pairs-one (side_of s) (entry_of (view_in t) d) h in
      subst (λ ps. PairsMerged t m ps (d.alias + 1) list r ids u) (sym one)
      (subst (λ o. GatheredBy t o (d.alias + 1) (pairs_in k (p ∷ []) acc) r ids u) (sym (single-space (pair_in k p))) (subst (λ es. GatheredBy t (tree_space (pair_in k p)) (d.alias + 1) es r ids u) (sym (one-pair k p acc)) a))

-- after some pairs were merged, with the pairs rest left of all those whose places are o
pub record Gathering (t u : Tables) (m : ReplaceMap) (o : Space) (low : ℕ) (whole : List Expr) (rest : List Pair) (ids : List ExprId) : Type 0 where
  pub whole_is : whole ≡ pairs_in (map_of (view_in t) m) rest (exprs_in (view_in u).trees (numbers_of ids))
  pub there : all_below (length (view_in u).trees) (numbers_of ids) ≡ true
  pub few : length ids ≤ 64
  pub grows : Grows (model_of t) (model_of u)
  pub numbers : Numbered (model_of t) low (model_of u)
  pub begins : TablesBegin t u
  pub done : Space
  pub spent : Within (model_of t).used done (model_of u).used
  pub room : AtMost (plus done (list_space (map (pair_in (map_of (view_in t) m)) rest))) o

module _ (t u : Tables) (m : ReplaceMap) (inside : MapIn (view_in t) m) (o : Space) (low : ℕ) (whole : List Expr) (rest ps later : List Pair) (ids : List ExprId) (next : rest ≡ ps ++ later) (k : Gathering t u m o low whole rest ids) where
  abbrev f : Pair → Expr
  f = pair_in (map_of (view_in t) m)

  map-here : map_of (view_in u) m ≡ map_of (view_in t) m
  map-here = map-stays t u k.grows m inside

  split : whole ≡ pairs_in (map_of (view_in t) m) later (pairs_in (map_of (view_in t) m) ps (exprs_in (view_in u).trees (numbers_of ids)))
  split = k.whole_is ∙ ap (λ l. pairs_in (map_of (view_in t) m) l (exprs_in (view_in u).trees (numbers_of ids))) next ∙ pairs-both (map_of (view_in t) m) ps later (exprs_in (view_in u).trees (numbers_of ids))

  parts : AtMost (plus (plus k.done (list_space (map f ps))) (list_space (map f later))) o
  parts =
      let e = ap (λ l. list_space (map f l)) next ∙ ap list_space (map-append f ps later) ∙ space-both (map f ps) (map f later) in
      record {
        exprs = omega (arith, k.room.exprs, ap (λ s. s.exprs) e);
        plans = omega (arith, k.room.plans, ap (λ s. s.plans) e);
        entries = omega (arith, k.room.entries, ap (λ s. s.entries) e);
        fields = omega (arith, k.room.fields, ap (λ s. s.fields) e);
        bytes = omega (arith, k.room.bytes, ap (λ s. s.bytes) e);
      }

  so-far : AtMost (plus k.done (list_space (map f ps))) o
  so-far = record { exprs = omega (arith, parts.exprs); plans = omega (arith, parts.plans); entries = omega (arith, parts.entries); fields = omega (arith, parts.fields); bytes = omega (arith, parts.bytes) }

  -- the next pairs are refused
  pub refused : (n : ℕ) (d : Fault) (ids' : List ExprId) (u' : Tables) → PairsMerged u m ps n ids (Err d) ids' u' → Stopped t o whole d
  refused n d ids' u' a = go (subst (λ q. Stopped u (list_space (map (pair_in q) ps)) (pairs_in q ps (exprs_in (view_in u).trees (numbers_of ids))) d) map-here a)
    where
      go : Stopped u (list_space (map f ps)) (pairs_in (map_of (view_in t) m) ps (exprs_in (view_in u).trees (numbers_of ids))) d → Stopped t o whole d
      go (inl h) = inl (h.0, no-room (model_of t).used k.done (model_of u).used (list_space (map f ps)) o k.spent so-far h.1)
      go (inr h) = inr (h.0, ap within_limits split ∙ pairs-past (map_of (view_in t) m) later (pairs_in (map_of (view_in t) m) ps (exprs_in (view_in u).trees (numbers_of ids))) h.1)

  -- they are merged
  pub turn : (n : ℕ) → n ≤ low → (ids' : List ExprId) (u' : Tables) → PairsMerged u m ps n ids (Ok tt) ids' u' → TablesBegin u u' → Gathering t u' m o low whole later ids'
  turn n le ids' u' a begins =
      let b : Gathered u (list_space (map f ps)) n (pairs_in (map_of (view_in t) m) ps (exprs_in (view_in u).trees (numbers_of ids))) ids' u' =
      subst (λ q. Gathered u (list_space (map (pair_in q) ps)) n (pairs_in q ps (exprs_in (view_in u).trees (numbers_of ids))) ids' u') map-here a in
      record {
        whole_is = split ∙ ap (pairs_in (map_of (view_in t) m) later) (sym b.trees);
        there = b.present;
        few = b.few;
        grows = grows-then (model_of t) (model_of u) (model_of u') k.grows b.grows;
        numbers = numbered-both (model_of t) (model_of u) (model_of u') low k.numbers (numbered-more (model_of u) (model_of u') n low le b.numbers);
        begins = tables-then t u u' k.begins begins;
        done = plus k.done (list_space (map f ps));
        spent = within-then (model_of t).used k.done (model_of u).used (list_space (map f ps)) (model_of u').used k.spent b.spent;
        room = parts;
      }

-- before the first, and after the last
pub gathering-none : (t : Tables) (m : ReplaceMap) (low : ℕ) (rest : List Pair) (ids : List ExprId) → all_below (length (view_in t).trees) (numbers_of ids) ≡ true → length ids ≤ 64
    → Gathering t t m (list_space (map (pair_in (map_of (view_in t) m)) rest)) low (pairs_in (map_of (view_in t) m) rest (exprs_in (view_in t).trees (numbers_of ids))) rest ids
gathering-none t m low rest ids there few = record {
  whole_is = refl;
  there = there;
  few = few;
  grows = grows-at-once (model_of t);
  numbers = numbered-here (model_of t) low;
  begins = record { terms = terms-at-once t.terms; fields = at-once t.fields; plans = at-once t.plans };
  done = nothing;
  spent = within-same (model_of t).used nothing;
  room = at-most-nothing (list_space (map (pair_in (map_of (view_in t) m)) rest));
}

pub gathered-all : (t u : Tables) (m : ReplaceMap) (o : Space) (low : ℕ) (whole : List Expr) (rest : List Pair) (ids : List ExprId) → rest ≡ [] → Gathering t u m o low whole rest ids → Gathered t o low whole ids u
gathered-all t u m o low whole rest ids e k = record {
  present = k.there;
  trees = sym (k.whole_is ∙ ap (λ l. pairs_in (map_of (view_in t) m) l (exprs_in (view_in u).trees (numbers_of ids))) e ∙ no-pairs (map_of (view_in t) m) (exprs_in (view_in u).trees (numbers_of ids)));
  few = k.few;
  grows = k.grows;
  spent = within_more (model_of t).used k.done o (model_of u).used k.spent (record { exprs = omega (arith, k.room.exprs); plans = omega (arith, k.room.plans); entries = omega (arith, k.room.entries); fields = omega (arith, k.room.fields); bytes = omega (arith, k.room.bytes) });
  numbers = k.numbers;
}

-- the entries of an extractor, over tables that have grown
module _ (t u : Tables) (x : Extractor) (s : Side.Side) (inside : Inside (view_in t) x) (g : Grows (model_of t) (model_of u)) (i : ℕ) (lt : i < length x.entries) (d : Extracted) where
  abbrev here : Extracted
  here = get_or x.entries i d

  entry-is : entry_of (view_in u) here ≡ entry_of (view_in t) here
  entry-is =
      sym (get_or-map (entry_of (view_in u)) x.entries i d (entry_of (view_in t) here) lt)
      ∙ ap (λ (q : Routing.Extractor). get_or q.entries i (entry_of (view_in t) here)) (extractor-stays t u g x inside).0 ∙ get_or-map (entry_of (view_in t)) x.entries i d (entry_of (view_in t) here) lt

  pub entry-inside : entry_in (view_in u) here ≡ true
  entry-inside = every-at (entry_in (view_in u)) x.entries i d lt (extractor-stays t u g x inside).1.entries

  pub entry-early : here.alias + 1 ≤ x.next
  entry-early = let e = ltb-true here.alias x.next (every-at (is_before x.next) x.entries i d lt inside.earlier) in omega arith

  pub entry-next : pairs_of (side_of s) (drop i (entries_of (view_in t) x)) ≡ pairs_at (view_in u) s here ++ pairs_of (side_of s) (drop (i + 1) (entries_of (view_in t) x))
  entry-next =
      at_drop_more (pairs_of (side_of s)) (entries_of (view_in t) x) i (entry_of (view_in t) d) (omega (arith, lt, length-map x.entries (entry_of (view_in t))))
      ∙ ap (λ e. pairs_of (side_of s) (e ∷ drop (i + 1) (entries_of (view_in t) x))) (get_or-map (entry_of (view_in t)) x.entries i d (entry_of (view_in t) d) lt ∙ sym entry-is)
      ∙ pairs-cons (side_of s) (entry_of (view_in u) here) (drop (i + 1) (entries_of (view_in t) x))

pub entries-end : (v : View) (x : Extractor) (s : Side.Side) (i : ℕ) → length x.entries ≤ i → pairs_of (side_of s) (drop i (entries_of v x)) ≡ []
entries-end v x s i le = at_drop_all (pairs_of (side_of s)) (entries_of v x) i (omega (arith, le, length-map x.entries (entry_of v))) ∙ pairs-empty (side_of s)
