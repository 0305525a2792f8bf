-- Drafts as the text grows, and what storing them leaves.
use Rattle.std.proofs.Common.{◌≡◌, ℕ, ◌+◌, ◌-◌, ◌<◌, ◌≤◌, true, ltb, List, [], ◌∷◌, ◌++◌, map, length, get_or, take, drop, sym, refl, ap, ◌∙◌, subst, ap₂, arith, length-append, length-take, Some, None, Option}
use Rattle.std.proofs.lemmas.List.{append-nil, append_assoc, map_push, take_more, take-take, drop-take, drop-drop, length-map, take_all}
use Rattle.std.proofs.lemmas.List.Sums.{sum_by-cons, sum_by_push, sum_by_more, sum_by-take-le}
use Rattle.std.proofs.lemmas.Bool.{and_parts, and_from, leb-true}
use Rattle.table.specs.Contents.{part}
use Rattle.table.proofs.Parts.{length_part}
use Rattle.plan.specs.Terms.Qualifier.{qualified}
use Rattle.plan.specs.Rendering.{rendered}
use Rattle.plan.specs.Fields.{every}
use Rattle.plan.specs.Model.{expr_in}
use Rattle.terms.specs.Build.{width_of}
use Rattle.entries.specs.Spans.{stored_field, stored_in, qualifier_at, qualifier_in}
use Rattle.names.specs.Spans.{word, span_in}
use Rattle.terms.specs.Views.{View, grown}
use Rattle.entries.specs.declared.node.Entry.{Entry}
use Rattle.names.specs.declared.parts.Span.{Span}
use Rattle.entries.specs.declared.node.StoredField.{StoredField}
use Rattle.terms.proofs.Facts.{grown-twice}
use Rattle.lexicon.proofs.Frames.{every-at, every_append, span_grow}
use Rattle.terms.proofs.Frames.{stored-grow}
use Rattle.draft.specs.Drafts.{word_at, word_in, owner_at, owner_in, draft_field, draft_in, word_bytes, field_bytes, draft_bytes, stored_qualifier, LentIn, WordAs, StoredAs, StoredAll}
use Rattle.draft.specs.declared.storing.Lent.{Lent}
use Rattle.draft.specs.declared.word.Word.{Word}
use Rattle.draft.specs.declared.word.Word.TheVariants.{Stored, Owner, Given, Rendered}
use Rattle.draft.specs.declared.word.Relation.{Relation}
use Rattle.draft.specs.declared.word.Relation.TheVariants.{Of, OfOwner}
use Rattle.draft.specs.declared.word.DraftField.{DraftField}

-- text and lists are added
module _ (v : View) (bs : List ℕ) (es : List Entry) (o g : List ℕ) where
  word-grow : (w : Word) → word_in v o g w ≡ true → (word_at (grown v [] bs es) o g w ≡ word_at v o g w) × (word_in (grown v [] bs es) o g w ≡ true) × (word_bytes (grown v [] bs es) w ≡ word_bytes v w)
  word-grow (Stored s) h = let a = span_grow v.bytes bs s h in (a.0, a.1, refl)
  word-grow Owner h = (refl, refl, refl)
  word-grow (Given s) h = (refl, h, refl)
  word-grow (Rendered e) h =
      let t = append-nil v.trees in
      (ap (λ ts. rendered v.functions (expr_in ts e.0)) t, ap (λ ts. ltb e.0 (length ts)) t ∙ h, ap (λ ts. width_of v.functions (expr_in ts e.0)) t)

  owner-grow : (q : Option Relation) → owner_in v q ≡ true → (owner_at (grown v [] bs es) o q ≡ owner_at v o q) × (owner_in (grown v [] bs es) q ≡ true)
  owner-grow None h = (refl, refl)
  owner-grow (Some (Of s)) h = let a = span_grow v.bytes bs s h in (ap qualified a.0, a.1)
  owner-grow (Some OfOwner) h = (refl, refl)

  draft-grow : (d : DraftField) → draft_in v o g d ≡ true
      → (draft_field (grown v [] bs es) o g d ≡ draft_field v o g d) × (draft_in (grown v [] bs es) o g d ≡ true) × (field_bytes (grown v [] bs es) d ≡ field_bytes v d)
  draft-grow d h =
      let p = and_parts (word_in v o g d.name) (owner_in v d.qualifier) h in
      let a = word-grow d.name p.0 in
      let b = owner-grow d.qualifier p.1 in
      (ap₂ (λ x y. record { qualifier = x; name = y }) b.0 a.0, and_from _ _ a.1 b.1, a.2)

  drafts-grow : (ds : List DraftField) → every (draft_in v o g) ds ≡ true
      → (map (draft_field (grown v [] bs es) o g) ds ≡ map (draft_field v o g) ds) × (every (draft_in (grown v [] bs es) o g) ds ≡ true) × (draft_bytes (grown v [] bs es) ds ≡ draft_bytes v ds)
  drafts-grow [] h = (refl, refl, refl)
  drafts-grow (d ∷ ds) h =
      let p = and_parts (draft_in v o g d) (every (draft_in v o g) ds) h in
      let a = draft-grow d p.0 in
      let b = drafts-grow ds p.1 in
      (ap₂ (λ x y. x ∷ y) a.0 b.0, and_from _ _ a.1 b.1, sum_by-cons (field_bytes (grown v [] bs es)) d ds ∙ ap₂ (λ x y. x + y) a.2 b.2 ∙ sym (sum_by-cons (field_bytes v) d ds))

-- by an equation, as an answer has it
pub drafts-grown : (v v' : View) (bs : List ℕ) (es : List Entry) (o g : List ℕ) (ds : List DraftField) → v' ≡ grown v [] bs es → every (draft_in v o g) ds ≡ true
    → (map (draft_field v' o g) ds ≡ map (draft_field v o g) ds) × (every (draft_in v' o g) ds ≡ true) × (draft_bytes v' ds ≡ draft_bytes v ds)
drafts-grown v v' bs es o g ds e h =
    subst (λ x. (map (draft_field x o g) ds ≡ map (draft_field v o g) ds) × (every (draft_in x o g) ds ≡ true) × (draft_bytes x ds ≡ draft_bytes v ds)) (sym e) (drafts-grow v bs es o g ds h)

draft-grown : (v v' : View) (bs : List ℕ) (o g : List ℕ) (d : DraftField) → v' ≡ grown v [] bs [] → draft_in v o g d ≡ true
    → (draft_field v' o g d ≡ draft_field v o g d) × (draft_in v' o g d ≡ true) × (field_bytes v' d ≡ field_bytes v d)
draft-grown v v' bs o g d e h =
    subst (λ x. (draft_field x o g d ≡ draft_field v o g d) × (draft_in x o g d ≡ true) × (field_bytes x d ≡ field_bytes v d)) (sym e) (draft-grow v bs [] o g d h)

span-grown : (v v' : View) (bs : List ℕ) (s : Span) → v' ≡ grown v [] bs [] → span_in v.bytes s ≡ true → (word v'.bytes s ≡ word v.bytes s) × (span_in v'.bytes s ≡ true)
span-grown v v' bs s e h = subst (λ x. (word x.bytes s ≡ word v.bytes s) × (span_in x.bytes s ≡ true)) (sym e) (span_grow v.bytes bs s h)

-- nothing is written
pub same-grown : (v : View) → v ≡ grown v [] [] []
same-grown v = sym (ap₂ (λ t b. record { functions = v.functions; trees = t; bytes = b; entries = v.entries ++ [] }) (append-nil v.trees) (append-nil v.bytes) ∙ ap (λ e. record { functions = v.functions; trees = v.trees; bytes = v.bytes; entries = e }) (append-nil v.entries))

pub word_none : (v : View) (l : Lent) (w : Word) (s : Span) → word_bytes v w ≡ 0 → word v.bytes s ≡ word_at v (word v.bytes l.owner) (word v.bytes l.given) w → span_in v.bytes s ≡ true → WordAs v l w v s
word_none v l w s z e h = record { bytes = []; view = same-grown v; used = sym z; is = e; inside = h }

-- a part of a part
pub part-part : {X : Type 0} (xs : List X) (a l s n : ℕ) → s + n ≤ l → part xs (a + s) n ≡ part (part xs a l) s n
part-part xs a l s n h =
    let m = l - s in
    let e : s + m ≡ l = omega arith in
    let le : n ≤ m = omega arith in
    ap (take n) (sym (drop-drop s a xs)) ∙ sym (take-take n m (drop s (drop a xs)) le) ∙ ap (take n) (sym (drop-take s m (drop a xs))) ∙ ap (λ k. take n (drop s (take k (drop a xs)))) e

-- a part of the lent names, which stand in the text as g
pub given-part : (bs : List ℕ) (g s : Span) → span_in bs g ≡ true → span_in (word bs g) s ≡ true
    → (word bs (record { start = g.start + s.start; len = s.len }) ≡ word (word bs g) s) × (g.start + s.start + s.len ≤ length bs)
given-part bs g s p q =
    let le = leb-true (g.start + g.len) (length bs) p in
    let in_g = leb-true (s.start + s.len) (length (word bs g)) q in
    let n = length_part bs g.start g.len le in
    (part-part bs g.start g.len s.start s.len (omega arith), omega arith)

pub stored-none : (v : View) (o g : List ℕ) (fs : List StoredField) → StoredAll v o g [] fs v fs
stored-none v o g fs = record { bytes = []; new = []; view = same-grown v; used = refl; grew = sym (append-nil fs); fields = refl; inside = refl }

-- one field more
pub stored-push : (v w u : View) (l : Lent) (ds : List DraftField) (d : DraftField) (fs fs' fs'' : List StoredField) (f : StoredField) → LentIn v.bytes l
    → draft_in v (word v.bytes l.owner) (word v.bytes l.given) d ≡ true → StoredAll v (word v.bytes l.owner) (word v.bytes l.given) ds fs w fs' → StoredAs w l d u f → fs'' ≡ fs' ++ f ∷ []
    → StoredAll v (word v.bytes l.owner) (word v.bytes l.given) (ds ++ d ∷ []) fs u fs''
stored-push v w u l ds d fs fs' fs'' f p h k one e =
    let o' = word v.bytes l.owner in
    let g' = word v.bytes l.given in
    let b : u.bytes ≡ w.bytes ++ one.bytes = ap (λ x. x.bytes) one.view in
    let a = draft-grown v w k.bytes o' g' d k.view h in
    let s = stored-grow w.bytes one.bytes k.new k.inside in
    let same : draft_field w (word w.bytes l.owner) (word w.bytes l.given) d ≡ draft_field w o' g' d = ap₂ (λ x y. draft_field w x y d) (span-grown v w k.bytes l.owner k.view p.owner).0 (span-grown v w k.bytes l.given k.view p.given).0 in
    record {
      bytes = k.bytes ++ one.bytes;
      new = k.new ++ f ∷ [];
      view = grown-twice v w u k.bytes one.bytes k.view one.view;
      used = omega (arith, length-append k.bytes one.bytes, k.used, one.used, a.2, sum_by_push (field_bytes v) ds d);
      grew = e ∙ ap (λ x. x ++ f ∷ []) k.grew ∙ append_assoc fs k.new (f ∷ []);
      fields = map_push (stored_field u.bytes) k.new f ∙ ap₂ (λ xs x. xs ++ x ∷ []) (ap (λ x. map (stored_field x) k.new) b ∙ s.0 ∙ k.fields) (one.field ∙ same ∙ a.0) ∙ sym (map_push (draft_field v o' g') ds d);
      inside = every_append (stored_in u.bytes) k.new (f ∷ []) (ap (λ x. every (stored_in x) k.new) b ∙ s.1) (and_from _ _ one.inside refl);
    }

-- a loop over a draft, after i fields
module _ (v w : View) (l : Lent) (ds : List DraftField) (i : ℕ) (fs fs' : List StoredField) where
  pub stored_more : (u : View) (x : DraftField) (fs'' : List StoredField) (f : StoredField) → i < length ds → LentIn v.bytes l
      → every (draft_in v (word v.bytes l.owner) (word v.bytes l.given)) ds ≡ true → StoredAll v (word v.bytes l.owner) (word v.bytes l.given) (take i ds) fs w fs' → StoredAs w l (get_or ds i x) u f
      → fs'' ≡ fs' ++ f ∷ [] → StoredAll v (word v.bytes l.owner) (word v.bytes l.given) (take (i + 1) ds) fs u fs''
  stored_more u x fs'' f lt p h k one e =
      let o' = word v.bytes l.owner in
      let g' = word v.bytes l.given in
      subst (λ x. StoredAll v o' g' x fs u fs'') (sym (take_more ds i x lt)) (stored-push v w u l (take i ds) (get_or ds i x) fs fs' fs'' f p (every-at (draft_in v o' g') ds i x lt h) k one e)

  -- the next field's rendered name has room
  pub stored-room : (x : DraftField) → i < length ds → every (draft_in v (word v.bytes l.owner) (word v.bytes l.given)) ds ≡ true
      → length v.bytes + draft_bytes v ds ≤ 16384 → StoredAll v (word v.bytes l.owner) (word v.bytes l.given) (take i ds) fs w fs' → length w.bytes + field_bytes w (get_or ds i x) ≤ 16384
  stored-room x lt h room k =
      let a = draft-grown v w k.bytes (word v.bytes l.owner) (word v.bytes l.given) (get_or ds i x) k.view (every-at (draft_in v (word v.bytes l.owner) (word v.bytes l.given)) ds i x lt h) in
      let n = ap (λ y. length y.bytes) k.view in
      omega (arith, room, n, length-append v.bytes k.bytes, k.used, a.2, sum_by_more (field_bytes v) ds i x lt, sum_by-take-le (field_bytes v) ds (i + 1))

-- a qualifier as it is stored
qualifier-stored : (v w : View) (bs : List ℕ) (o : Span) (q : Option Relation) → w ≡ grown v [] bs [] → span_in v.bytes o ≡ true → owner_in v q ≡ true
    → (qualifier_at w.bytes (stored_qualifier o q) ≡ owner_at v (word v.bytes o) q) × (qualifier_in w.bytes (stored_qualifier o q) ≡ true)
qualifier-stored v w bs o None e h k = (refl, refl)
qualifier-stored v w bs o (Some (Of s)) e h k = let a = span-grown v w bs s e k in (ap qualified a.0, a.1)
qualifier-stored v w bs o (Some OfOwner) e h k = let a = span-grown v w bs o e h in (ap qualified a.0, a.1)

pub field-stored : (v w : View) (l : Lent) (d : DraftField) (s : Span) (q : Option Span) → LentIn v.bytes l → draft_in v (word v.bytes l.owner) (word v.bytes l.given) d ≡ true → WordAs v l d.name w s → q ≡ stored_qualifier l.owner d.qualifier
    → StoredAs v l d w (record { qualifier = q; name = s })
field-stored v w l d s q p h k e =
    let i = and_parts (word_in v (word v.bytes l.owner) (word v.bytes l.given) d.name) (owner_in v d.qualifier) h in
    let a = qualifier-stored v w k.bytes l.owner d.qualifier k.view p.owner i.1 in
    record {
      bytes = k.bytes;
      view = k.view;
      used = k.used;
      field = ap₂ (λ x y. record { qualifier = x; name = y }) (ap (qualifier_at w.bytes) e ∙ a.0) k.is;
      inside = and_from _ _ k.inside (ap (qualifier_in w.bytes) e ∙ a.1);
    }

-- a loop over a draft, after i fields: the next field is inside, and how many fields there are
module _ (v w : View) (l : Lent) (ds : List DraftField) (i : ℕ) (fs fs' : List StoredField) (k : StoredAll v (word v.bytes l.owner) (word v.bytes l.given) (take i ds) fs w fs') where
  pub stored-next : (x : DraftField) → i < length ds → LentIn v.bytes l → every (draft_in v (word v.bytes l.owner) (word v.bytes l.given)) ds ≡ true → draft_in w (word w.bytes l.owner) (word w.bytes l.given) (get_or ds i x) ≡ true
  stored-next x lt p h =
      let d = get_or ds i x in
      ap₂ (λ a b. draft_in w a b d) (span-grown v w k.bytes l.owner k.view p.owner).0 (span-grown v w k.bytes l.given k.view p.given).0
      ∙ (draft-grown v w k.bytes (word v.bytes l.owner) (word v.bytes l.given) d k.view (every-at (draft_in v (word v.bytes l.owner) (word v.bytes l.given)) ds i x lt h)).1

  pub stored-count : i ≤ length ds → length fs' ≡ length fs + i
  stored-count le =
      omega (arith, ap length k.grew, length-append fs k.new, length-map k.new (stored_field w.bytes), ap length k.fields, length-map (take i ds) (draft_field v (word v.bytes l.owner) (word v.bytes l.given)), length-take i ds)

  pub stored-end : length ds ≤ i → StoredAll v (word v.bytes l.owner) (word v.bytes l.given) ds fs w fs'
  stored-end le = subst (λ x. StoredAll v (word v.bytes l.owner) (word v.bytes l.given) x fs w fs') (take_all i ds le) k
