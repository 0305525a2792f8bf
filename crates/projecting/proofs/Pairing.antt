-- The expressions of entries, made under their aliases, one entry after another.
use Rattle.std.proofs.Common.{◌≡◌, ℕ, ◌+◌, ◌<◌, ◌≤◌, max, Bool, true, false, cond, ◌&&◌, ◌⊎◌, ltb, leb, List, [], ◌∷◌, ◌++◌, map, length, get_or, drop, Ok, Err, Some, inl, inr, sym, refl, ap, ◌∙◌, subst, arith, length-append}
use Rattle.std.proofs.lemmas.Bool.{and_from, and_parts, le-leb, leb-true, lt-ltb, ltb-true}
use Rattle.std.proofs.lemmas.List.{map-append}
use Rattle.std.proofs.lemmas.List.Sums.{sum_by-append, sum_by-cons}
use Rattle.lexicon.proofs.Frames.{every-at}
use Rattle.numbering.proofs.Highest.{highest-append, highest-one}
use Rattle.numbering.proofs.Kept.{known-number}
use Rattle.table.proofs.Loops.{mapped-step, mapped_end}
use Rattle.plan.specs.Calls.Call.{make_alias}
use Rattle.plan.specs.Calls.{Answers, outlay}
use Rattle.plan.specs.Faults.{fault, first_no}
use Rattle.plan.specs.Fields.{every}
use Rattle.plan.specs.Model.{expr_in, fits, space}
use Rattle.plan.specs.Names.{Name, most_number}
use Rattle.plan.specs.Questions.{small_tree}
use Rattle.plan.specs.Rendering.{unqualified_field}
use Rattle.plan.specs.Terms.{Expr, Field}
use Rattle.plan.specs.Terms.Expr.{alias}
use Rattle.plan.specs.declared.fault.Fault.{Fault}
use Rattle.plan.specs.declared.fault.Question.{Question}
use Rattle.plan.specs.declared.fault.Question.TheVariants.{Limited, Named, Present, Space as SpaceQuestion}
use Rattle.plan.specs.declared.fault.Stage.TheVariants.{Extraction}
use Rattle.rewriting.proofs.Fresh.{generated-is-good, number-generated}
use Rattle.rewriting.specs.Extracting.{aliased}
use Rattle.rewriting.specs.Generated.{countable, expr_names, field_names, generated, highest, next_number, qualifier_names}
use Rattle.rewriting.specs.Outlay.{entries_of, tree_space}
use Rattle.rewriting.specs.Routing.{Entry, Pair, Side, pairs_of, same_side, unalias}
use Rattle.routing.specs.Sides.{side_of}
use Rattle.routing.specs.declared.owning.Side.{Side as Given}
use Rattle.rows.specs.Lists.{keep}
use Rattle.tables.specs.Answering.{answered_expr}
use Rattle.tables.specs.Holding.{model_of, view_in}
use Rattle.tables.specs.declared.tables.Tables.{Tables}
use Rattle.terms.proofs.Walks.{every-both}
use Rattle.entries.specs.declared.node.ExprId.{ExprId}
use Rattle.extracting.proofs.Built.{made-built}
use Rattle.extracting.proofs.Growing.{longer, tree-stays}
use Rattle.extracting.proofs.Spaces.{AtMost}
use Rattle.extracting.specs.Extractors.{Inside, entry_in, entry_of, is_before}
use Rattle.extracting.specs.Walking.{Built}
use Rattle.extracting.specs.declared.extractor.Extracted.{Extracted}
use Rattle.extracting.specs.declared.extractor.Extractor.{Extractor}
use Rattle.stepping.proofs.Chain.{fits-no-more}
use Rattle.projecting.proofs.Keeping.{built-more}
use Rattle.projecting.proofs.Listing.{Partly, made-one, one-listed, onto-long, onto-none, partly-end, partly-full, partly-turn}
use Rattle.projecting.specs.Freshly.{Misfit, entry_tree, entry_trees, small_list, trees_for}
use Rattle.projecting.specs.Onto.{Onto}

-- the pairs of one input
abbrev pair_of : Entry → Pair
pair_of d = (unalias d.1, d.2)

pairs-more : (s : Side) (d : Entry) (ds : List Entry) → pairs_of s (d ∷ ds) ≡ pairs_of s (d ∷ []) ++ pairs_of s ds
unfolding pairs_of keep
pairs-more s d ds = go (same_side d.0 s)
  where
    go : (b : Bool) → map pair_of (cond b (d ∷ keep (λ x. same_side x.0 s) ds) (keep (λ x. same_side x.0 s) ds))
        ≡ map pair_of (cond b (d ∷ []) []) ++ map pair_of (keep (λ x. same_side x.0 s) ds)
    go true = refl
    go false = refl

pairs-of-it : (s : Side) (d : Entry) → same_side d.0 s ≡ true → pairs_of s (d ∷ []) ≡ (unalias d.1, d.2) ∷ []
unfolding pairs_of keep
pairs-of-it s d h = ap (λ b. map pair_of (cond b (d ∷ []) [])) h

pairs-of-none : (s : Side) (d : Entry) → same_side d.0 s ≡ false → pairs_of s (d ∷ []) ≡ []
unfolding pairs_of keep
pairs-of-none s d h = ap (λ b. map pair_of (cond b (d ∷ []) [])) h

no-pairs : (s : Side) → map aliased (pairs_of s []) ≡ []
unfolding pairs_of keep
no-pairs s = refl

-- an alias without qualifier takes no more than its tree's places
alias-space : (e : Expr) (n : Name) → AtMost (space 1 0 0 0 (length n + 0)) (tree_space (alias e (unqualified_field n)))
unfolding tree_space entries_of expr_names field_names qualifier_names
alias-space e n = record {
  exprs = omega arith;
  plans = omega arith;
  entries = omega arith;
  fields = omega arith;
  bytes = omega (arith, sum_by-append length (n ∷ []) (expr_names e), sum_by-cons length n []);
}

alias-number : (e : Expr) (k m : ℕ) → k ≤ most_number → highest 0 (expr_names e) < m → highest 0 (expr_names (alias e (unqualified_field (generated k)))) < max (k + 1) m
unfolding expr_names field_names qualifier_names
alias-number e k m h l = omega (arith, highest-append (generated k ∷ []) (expr_names e), highest-one (generated k), number-generated k h)

-- where the alias is well formed, its size or the space refuses it
size-or-space : (p q b room : Bool) (z : Question) → p ≡ true → q ≡ true → first_no ((Present, p) ∷ (Named, q) ∷ (Limited, b) ∷ (SpaceQuestion, room) ∷ []) ≡ Some z → ((z ≡ SpaceQuestion) × (room ≡ false)) ⊎ ((z ≡ Limited) × (b ≡ false))
size-or-space true true true true z h k e = absurd (let z : ◌≡◌ {A = ℕ} 0 1 = cc in omega arith)
size-or-space true true true false z h k e = inl (cc, refl)
size-or-space true true false room z h k e = inr (cc, refl)
size-or-space true false b room z h k e = absurd (let z : ◌≡◌ {A = ℕ} 0 1 = cc in omega arith)
size-or-space false q b room z h k e = absurd (let z : ◌≡◌ {A = ℕ} 0 1 = cc in omega arith)

module _ (t u : Tables) (d : Extracted) (inside : entry_in (view_in t) d ≡ true) (inner : ExprId) (present : inner.0 < length (view_in t).trees) (tree : expr_in (view_in t).trees inner.0 ≡ unalias (expr_in (view_in t).trees d.inner.0)) where
  abbrev f : Field
  f = unqualified_field (generated d.alias)

  abbrev e : Expr
  e = entry_tree (view_in t) d

  few : d.alias ≤ most_number
  unfolding countable
  few = leb-true d.alias most_number (and_parts (ltb d.inner.0 (length (view_in t).trees)) (countable d.alias) inside).1

  low : highest 0 (expr_names e) < max (d.alias + 1) (next_number (model_of t))
  low = alias-number (unalias (expr_in (view_in t).trees d.inner.0)) d.alias (next_number (model_of t)) few (subst (λ x. highest 0 (expr_names x) < next_number (model_of t)) tree (known-number (model_of t) inner.0 present))

  pub aliased-made : (r : ExprId) → Answers (model_of t) (make_alias inner.0 f) (answered_expr (Ok r)) (model_of u) → Built t (tree_space e) (d.alias + 1) e r.0 u
  aliased-made r a =
      let b = made-built t u (make_alias inner.0 f) e (ap (λ x. alias x f ∷ []) tree) refl refl refl (d.alias + 1) r.0 low a in
      built-more t _ _ (d.alias + 1) e r.0 u (alias-space (unalias (expr_in (view_in t).trees d.inner.0)) (generated d.alias)) b

  pub aliased-refused : (g : Fault) → Answers (model_of t) (make_alias inner.0 f) (answered_expr (Err g)) (model_of u) → Misfit t 0 (e ∷ []) (fault g.question Extraction 0)
  aliased-refused g a = go (size-or-space _ _ _ _ g.question (lt-ltb inner.0 (length (view_in t).trees) present) (generated-is-good d.alias few).2 a.0)
    where
      go : ((g.question ≡ SpaceQuestion) × (fits (model_of t).used (outlay (model_of t) (make_alias inner.0 f)) ≡ false)) ⊎ ((g.question ≡ Limited) × (small_tree (alias (expr_in (view_in t).trees inner.0) f) ≡ false))
          → Misfit t 0 (e ∷ []) (fault g.question Extraction 0)
      go (inl h) = inl (h.0, ap (fits (model_of t).used) (one-listed e) ∙ fits-no-more (model_of t).used _ _ (alias-space (unalias (expr_in (view_in t).trees d.inner.0)) (generated d.alias)) h.1)
      go (inr h) = inr (ap (λ q. fault q Extraction 0) h.0, ap (λ b. b && true) (sym (ap (λ x. small_tree (alias x f)) tree) ∙ h.1))

-- an entry of another input, and one of this
module _ (t : Tables) (s : Given) (d : Extracted) where
  abbrev here : List Expr
  here = entry_trees (view_in t) s d

  pub entry-passed : (list : List ExprId) → same_side (side_of d.side) (side_of s) ≡ false → Onto t here (d.alias + 1) list list t
  entry-passed list h = subst (λ ps. Onto t (map aliased ps) (d.alias + 1) list list t) (sym (pairs-of-none (side_of s) (entry_of (view_in t) d) h)) (onto-none t (d.alias + 1) list)

  module _ (h : same_side (side_of d.side) (side_of s) ≡ true) where
    here-is : here ≡ entry_tree (view_in t) d ∷ []
    here-is = ap (map aliased) (pairs-of-it (side_of s) (entry_of (view_in t) d) h)

    pub entry-pushed : (u : Tables) (list after : List ExprId) (r : ExprId) → Built t (tree_space (entry_tree (view_in t) d)) (d.alias + 1) (entry_tree (view_in t) d) r.0 u → after ≡ list ++ r ∷ [] → Onto t here (d.alias + 1) list after u
    entry-pushed u list after r b is =
        subst (λ es. Onto t es (d.alias + 1) list after u) (sym here-is)
        (record { more = r ∷ []; is = is; made = made-one t u (entry_tree (view_in t) d) (d.alias + 1) (d.alias + 1) r (omega arith) b })

    pub entry-full : (k : ℕ) → 64 ≤ k → small_list k here ≡ false
    entry-full k le = ap (small_list k) here-is ∙ ap (λ b. b && every small_tree (entry_tree (view_in t) d ∷ [])) (over (k + 1) (omega arith))
      where
        over : (n : ℕ) → 64 < n → leb n 64 ≡ false
        over n lt = go (leb n 64) refl
          where
            go : (b : Bool) → leb n 64 ≡ b → b ≡ false
            go true e = absurd (let l = leb-true n 64 e in omega arith)
            go false e = refl

    pub entry-refused : (k : ℕ) (g : Fault) → k < 64 → Misfit t 0 (entry_tree (view_in t) d ∷ []) g → Misfit t k here g
    entry-refused k g lt a = subst (λ es. Misfit t k es g) (sym here-is) (go a)
      where
        go : Misfit t 0 (entry_tree (view_in t) d ∷ []) g → Misfit t k (entry_tree (view_in t) d ∷ []) g
        go (inl x) = inl x
        go (inr x) = inr (x.0, ap (λ b. b && every small_tree (entry_tree (view_in t) d ∷ [])) (le-leb (k + 1) 64 (omega arith)) ∙ x.1)

-- a part of a list that may be is one that may be
small-part : (k : ℕ) (done here later : List Expr) → small_list k (done ++ (here ++ later)) ≡ true → small_list (k + length done) here ≡ true
small-part k done here later h =
    let all = done ++ (here ++ later) in
    let p = and_parts (leb (k + length all) 64) (every small_tree all) h in
    let a = and_parts (every small_tree done) (every small_tree (here ++ later)) (sym (every-both small_tree done (here ++ later)) ∙ p.1) in
    let b = and_parts (every small_tree here) (every small_tree later) (sym (every-both small_tree here later) ∙ a.1) in
    and_from _ _ (le-leb (k + length done + length here) 64 (omega (arith, leb-true (k + length all) 64 p.0, length-append done (here ++ later), length-append here later))) b.0

pub unless : (a b : Bool) → (a ≡ true → b ≡ true) → b ≡ false → a ≡ false
unless true b f e = absurd (let g = f refl in let z : ◌≡◌ {A = ℕ} 0 1 = cc in omega arith)
unless false b f e = refl

-- entries one by one
module _ (t : Tables) (x : Extractor) (s : Given) (before : List ExprId) (inside : Inside (view_in t) x) (u : Tables) (i : ℕ) (now : List ExprId)
    (p : Partly t (trees_for (view_in t) x s) x.next before u (map aliased (pairs_of (side_of s) (drop i (map (entry_of (view_in t)) x.entries)))) now) where
  abbrev es : List Expr
  es = trees_for (view_in t) x s

  module _ (lt : i < length x.entries) (d : Extracted) where
    abbrev held : Extracted
    held = get_or x.entries i d

    abbrev part : List Expr
    part = entry_trees (view_in u) s held

    abbrev later : List Expr
    later = map aliased (pairs_of (side_of s) (drop (i + 1) (map (entry_of (view_in t)) x.entries)))

    known : (ltb held.inner.0 (length (view_in t).trees) ≡ true) × (countable held.alias ≡ true)
    known = and_parts (ltb held.inner.0 (length (view_in t).trees)) (countable held.alias) (every-at (entry_in (view_in t)) x.entries i d lt inside.entries)

    there : held.inner.0 < length (view_in t).trees
    there = ltb-true held.inner.0 (length (view_in t).trees) known.0

    pub inside-here : entry_in (view_in u) held ≡ true
    inside-here = and_from _ _ (lt-ltb held.inner.0 (length (view_in u).trees) (omega (arith, there, longer t u p.onto.made.grows))) known.1

    earlier : held.alias + 1 ≤ x.next
    earlier = omega (arith, ltb-true held.alias x.next (every-at (is_before x.next) x.entries i d lt inside.earlier))

    same-entry : entry_of (view_in u) held ≡ entry_of (view_in t) held
    same-entry = ap (λ y. (side_of held.side, y, generated held.alias)) (tree-stays t u p.onto.made.grows held.inner.0 there)

    left-is : map aliased (pairs_of (side_of s) (drop i (map (entry_of (view_in t)) x.entries))) ≡ part ++ later
    left-is =
        mapped-step (λ ds. map aliased (pairs_of (side_of s) ds)) (entry_of (view_in t)) x.entries i d lt
        ∙ ap (map aliased) (pairs-more (side_of s) (entry_of (view_in t) held) (drop (i + 1) (map (entry_of (view_in t)) x.entries)))
        ∙ map-append aliased (pairs_of (side_of s) (entry_of (view_in t) held ∷ [])) (pairs_of (side_of s) (drop (i + 1) (map (entry_of (view_in t)) x.entries)))
        ∙ ap (λ y. map aliased (pairs_of (side_of s) (y ∷ [])) ++ later) (sym same-entry)

    partly : Partly t es x.next before u (part ++ later) now
    partly = subst (λ l. Partly t es x.next before u l now) left-is p

    pub pair-turn : (w : Tables) (after : List ExprId) → Onto u part (held.alias + 1) now after w → Partly t es x.next before w later after
    pair-turn w after a = partly-turn t es x.next before u now part later w (held.alias + 1) after earlier partly a

    pub pair-refused : (g : Fault) → Misfit u (length now) part g → Misfit t (length before) es g
    pair-refused g (inl a) = inl (a.0, partly-full t es x.next before u now part later partly a.1)
    pair-refused g (inr a) =
        inr (
          a.0,
          ap (small_list (length before)) partly.all
              ∙ unless _ _ (small-part (length before) partly.done part later) (ap (λ k. small_list k part) (sym (onto-long t u partly.done x.next before now partly.onto)) ∙ a.1),
        )

  pub pairs-end : length x.entries ≤ i → Onto t es x.next before now u
  pairs-end le =
      let none = mapped_end (λ ds. map aliased (pairs_of (side_of s) ds)) (entry_of (view_in t)) x.entries i le ∙ no-pairs (side_of s) in
      partly-end t es x.next before u now (subst (λ l. Partly t es x.next before u l now) none p)
