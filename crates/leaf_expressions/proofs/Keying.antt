-- Sort keys by other expressions, one after the other.
--     Keyed ks es out ls bs      out has the first keys, and ls and bs are those that are left; keyed-start, keyed-turn, keyed-end: before, at each and behind
--     keyed-numbers, keyed-trees      what the new keys name, and what they stand for
--     with-trees      keys with other expressions are sorted by these
--     by-read, by-present      what keys of a list are sorted by
use Rattle.std.proofs.Common.{◌≡◌, ℕ, true, ◌+◌, List, [], ◌∷◌, ◌++◌, map, length, ◌⊎◌, inl, inr, sym, refl, ap, ap₂, ◌∙◌, arith, append-nil, append_assoc}
use Rattle.std.proofs.lemmas.List.{length_push}
use Rattle.entries.specs.declared.node.ExprId.{ExprId}
use Rattle.entries.specs.declared.node.Run.{Run}
use Rattle.extracting.specs.Walking.{with_by}
use Rattle.plan.specs.Calls.{all_below}
use Rattle.plan.specs.Model.{exprs_in}
use Rattle.plan.specs.Plans.{Key}
use Rattle.plan.specs.Terms.{Expr}
use Rattle.stored.specs.Keys.{key_of}
use Rattle.stored.specs.Making.{key_numbers, new_key}
use Rattle.stored.specs.Stored.{list_in, run_keys}
use Rattle.stored.specs.declared.node.SortKey.{SortKey}
use Rattle.swapping.proofs.Remade.{keys-copied, keys-present}
use Rattle.table.specs.Contents.{part}
use Rattle.terms.specs.Views.{View, numbers_of}
use Rattle.leaf_expressions.specs.Keys.{keys_with}

pub record Keyed (ks : List SortKey) (es : List ExprId) (out ls : List SortKey) (bs : List ExprId) : Type 0 where
  pub is : out ++ keys_with ls bs ≡ keys_with ks es
  pub counted : length out + length ls ≡ length ks

pub keyed-start : (ks : List SortKey) (es : List ExprId) (out ls : List SortKey) (bs : List ExprId) → out ≡ [] → ls ≡ ks → bs ≡ es → Keyed ks es out ls bs
keyed-start ks es out ls bs o a b = record {
  is = ap (λ l. l ++ keys_with ls bs) o ∙ ap₂ keys_with a b;
  counted = omega (arith, ap length o, ap length a);
}

pub keyed-turn : (ks : List SortKey) (es : List ExprId) (out ls : List SortKey) (bs : List ExprId) (k : SortKey) (e : ExprId) (out' ls' : List SortKey) (bs' : List ExprId)
    → Keyed ks es out ls bs → ls ≡ k ∷ ls' → bs ≡ e ∷ bs' → out' ≡ out ++ record { by = e; direction = k.direction } ∷ [] → Keyed ks es out' ls' bs'
keyed-turn ks es out ls bs k e out' ls' bs' h a b o =
    let d : SortKey = record { by = e; direction = k.direction } in
    record {
      is = ap (λ l. l ++ keys_with ls' bs') o ∙ append_assoc out (d ∷ []) (keys_with ls' bs') ∙ ap (λ l. out ++ l) (sym (ap₂ keys_with a b)) ∙ h.is;
      counted = omega (arith, h.counted, ap length o, length_push out d, ap length a);
    }

no-more : (ls : List SortKey) (bs : List ExprId) → (ls ≡ []) ⊎ (bs ≡ []) → keys_with ls bs ≡ []
no-more ls bs (inl a) = ap (λ l. keys_with l bs) a
no-more ls bs (inr b) = ap (keys_with ls) b ∙ none ls
  where
    none : (ls : List SortKey) → keys_with ls [] ≡ []
    none [] = refl
    none (k ∷ ks) = refl

pub keyed-end : (ks : List SortKey) (es : List ExprId) (out ls : List SortKey) (bs : List ExprId) → Keyed ks es out ls bs → (ls ≡ []) ⊎ (bs ≡ []) → out ≡ keys_with ks es
keyed-end ks es out ls bs h e = sym (append-nil out) ∙ ap (λ l. out ++ l) (sym (no-more ls bs e)) ∙ h.is

pub keyed-numbers : (ks : List SortKey) (es : List ExprId) → length es ≡ length ks → key_numbers (keys_with ks es) ≡ numbers_of es
keyed-numbers [] [] h = refl
keyed-numbers [] (e ∷ es) h = absurd (omega arith)
keyed-numbers (k ∷ ks) [] h = absurd (omega arith)
keyed-numbers (k ∷ ks) (e ∷ es) h = ap (λ (l : List ℕ). e.0 ∷ l) (keyed-numbers ks es (omega arith))

-- ts are the trees of the old keys, and us those of the new expressions
pub keyed-trees : (ts us : List Expr) (ks : List SortKey) (es : List ExprId) → map (new_key us) (keys_with ks es) ≡ with_by (map (new_key ts) ks) (exprs_in us (numbers_of es))
keyed-trees ts us [] es = refl
keyed-trees ts us (k ∷ ks) [] = refl
keyed-trees ts us (k ∷ ks) (e ∷ es) = ap (λ (l : List Key). new_key us (record { by = e; direction = k.direction }) ∷ l) (keyed-trees ts us ks es)

by-numbers : (ks : List SortKey) → numbers_of (map (λ k. k.by) ks) ≡ key_numbers ks
by-numbers [] = refl
by-numbers (k ∷ ks) = ap (λ (l : List ℕ). k.by.0 ∷ l) (by-numbers ks)

by-trees : (ts : List Expr) (ks : List SortKey) → exprs_in ts (numbers_of (map (λ k. k.by) ks)) ≡ map (λ k. k.by) (map (new_key ts) ks)
by-trees ts [] = refl
by-trees ts (k ∷ ks) = ap (λ (l : List Expr). (new_key ts k).by ∷ l) (by-trees ts ks)

pub with-trees : (ks : List Key) (es : List Expr) → length es ≡ length ks → map (λ k. k.by) (with_by ks es) ≡ es
with-trees [] [] h = refl
with-trees [] (e ∷ es) h = absurd (omega arith)
with-trees (k ∷ ks) [] h = absurd (omega arith)
with-trees (k ∷ ks) (e ∷ es) h = ap (λ (l : List Expr). e ∷ l) (with-trees ks es (omega arith))

-- the keys gs were read from the run l, and bs are what they are sorted by
module _ (v : View) (l : Run) (gs : List SortKey) (read : gs ≡ map key_of (part v.entries l.first l.count)) (bs : List ExprId) (by : bs ≡ map (λ k. k.by) gs) where
  pub by-read : exprs_in v.trees (numbers_of bs) ≡ map (λ k. k.by) (run_keys v l)
  by-read = ap (λ (es : List ExprId). exprs_in v.trees (numbers_of es)) by ∙ by-trees v.trees gs ∙ ap (λ (ks : List Key). map (λ k. k.by) ks) (keys-copied v l gs read)

  pub by-present : list_in v l ≡ true → all_below (length v.trees) (numbers_of bs) ≡ true
  by-present h = ap (all_below (length v.trees)) (ap numbers_of by ∙ by-numbers gs) ∙ keys-present v l gs read h
