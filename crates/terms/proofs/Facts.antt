-- The facts that a table of expressions keeps, as its parts grow.
use Rattle.std.proofs.Common.{◌≡◌, ℕ, ◌<◌, true, List, [], ◌∷◌, ◌++◌, map, length, get_or, sym, refl, ap, ◌∙◌, ap₂, arith}
use Rattle.std.proofs.lemmas.List.{map_push, append-nil, append_assoc, get_or-map}
use Rattle.std.proofs.lemmas.Bool.{and_from}
use Rattle.plan.specs.Terms.{Expr, size_of}
use Rattle.plan.specs.Functions.{Functions}
use Rattle.plan.specs.Fields.{every}
use Rattle.plan.specs.Model.{expr_in, no_expr}
use Rattle.terms.specs.Acceptance.{acceptable}
use Rattle.terms.specs.Build.{build, trees, inside, sound, width_of}
use Rattle.lexicon.specs.Lexicon.{functions_of, text_of}
use Rattle.terms.specs.Views.{View, view_of, grown}
use Rattle.entries.specs.declared.node.Entry.{Entry}
use Rattle.entries.specs.declared.node.ExprRecord.{ExprRecord}
use Rattle.terms.specs.declared.terms.Terms.{Terms}
use Rattle.lexicon.proofs.Frames.{every_append}
use Rattle.terms.proofs.Trees.{trees-grown, trees-push, sound-push, trees-length}

pub record Facts (fs : Functions) (bs : List ℕ) (es : List Entry) (rs : List ExprRecord) : Type 0 where
  pub is-sound : sound bs es rs ≡ true
  pub is-accepted : every (acceptable fs) (trees bs es rs) ≡ true
  pub has-sizes : map (λ r. r.size) rs ≡ map size_of (trees bs es rs)
  pub has-widths : map (λ r. r.width) rs ≡ map (width_of fs) (trees bs es rs)

pub facts-of : (t : Terms) → Facts (functions_of t.lexicon) (text_of t.lexicon) t.entries t.exprs
facts-of t = record { is-sound = t.sound; is-accepted = t.accepted; has-sizes = t.sizes; has-widths = t.widths }

-- the text and the lists grow
module _ (fs F : Functions) (bs bs' B : List ℕ) (es es' E : List Entry) (rs : List ExprRecord) where
  pub facts-grown : F ≡ fs → B ≡ bs ++ bs' → E ≡ es ++ es' → Facts fs bs es rs → Facts F B E rs
  facts-grown f b e k =
      let g = trees-grown bs bs' B es es' E rs b e k.is-sound in
      record {
        is-sound = g.0;
        is-accepted = ap₂ (λ h ts. every (acceptable h) ts) f g.1 ∙ k.is-accepted;
        has-sizes = k.has-sizes ∙ sym (ap (map size_of) g.1);
        has-widths = k.has-widths ∙ sym (ap₂ (λ h ts. map (width_of h) ts) f g.1);
      }

-- a record is added
module _ (fs : Functions) (bs : List ℕ) (es : List Entry) (rs R : List ExprRecord) (r : ExprRecord) (e : R ≡ rs ++ r ∷ []) (k : Facts fs bs es rs) where
  pub facts-pushed : inside bs es (length rs) r ≡ true → acceptable fs (build bs es (trees bs es rs) r) ≡ true
      → r.size ≡ size_of (build bs es (trees bs es rs) r) → r.width ≡ width_of fs (build bs es (trees bs es rs) r) → Facts fs bs es R
  facts-pushed i a s w =
      let t = build bs es (trees bs es rs) r in
      let ts = trees bs es rs in
      let g = trees-push bs es rs R r e in
      record {
        is-sound = sound-push bs es rs R r e k.is-sound i;
        is-accepted = ap (every (acceptable fs)) g ∙ every_append (acceptable fs) ts (t ∷ []) k.is-accepted (and_from _ _ a refl);
        has-sizes = ap (map (λ x. x.size)) e ∙ map_push (λ x. x.size) rs r ∙ ap₂ (λ xs y. xs ++ y ∷ []) k.has-sizes s ∙ sym (map_push size_of ts t) ∙ sym (ap (map size_of) g);
        has-widths = ap (map (λ x. x.width)) e ∙ map_push (λ x. x.width) rs r ∙ ap₂ (λ xs y. xs ++ y ∷ []) k.has-widths w ∙ sym (map_push (width_of fs) ts t) ∙ sym (ap (map (width_of fs)) g);
      }

pub same_view : (v : View) (f : Functions) (ts ts' : List Expr) (bs bs' : List ℕ) (es es' : List Entry) (F : Functions) (T : List Expr) (B : List ℕ) (E : List Entry)
    → v ≡ record { functions = f; trees = ts; bytes = bs; entries = es } → F ≡ f → T ≡ ts ++ ts' → B ≡ bs ++ bs' → E ≡ es ++ es'
    → ◌≡◌ {A = View} (record { functions = F; trees = T; bytes = B; entries = E }) (grown v ts' bs' es')
same_view v f ts ts' bs bs' es es' F T B E p a b c d = cc

pub counted : (t : Terms) → length (view_of t).trees ≡ length t.exprs
counted t = trees-length (text_of t.lexicon) t.entries t.exprs

-- what a record keeps of its tree
pub kept_at : (f : ExprRecord → ℕ) (g : Expr → ℕ) (rs : List ExprRecord) (ts : List Expr) (i : ℕ) (r : ExprRecord) → length ts ≡ length rs → i < length rs → map f rs ≡ map g ts → r ≡ get_or rs i r → f r ≡ g (expr_in ts i)
kept_at f g rs ts i r n l e h =
    ap f h ∙ sym (get_or-map f rs i r 0 l) ∙ ap (λ xs. get_or xs i 0) e ∙ get_or-map g ts i no_expr 0 (omega arith)

-- two texts written one after the other
pub grown-twice : (v w u : View) (n q : List ℕ) → w ≡ grown v [] n [] → u ≡ grown w [] q [] → u ≡ grown v [] (n ++ q) []
grown-twice v w u n q p r =
    let a : u ≡ grown (grown v [] n []) [] q [] = r ∙ ap (λ x. grown x [] q []) p in
    a ∙ same_view v v.functions v.trees [] v.bytes (n ++ q) v.entries [] v.functions ((v.trees ++ []) ++ []) ((v.bytes ++ n) ++ q) ((v.entries ++ []) ++ []) refl refl (append-nil (v.trees ++ [])) (append_assoc v.bytes n q) (append-nil (v.entries ++ []))

-- a text that is written adds no tree
pub same_count : (v v' : View) (bs : List ℕ) (es : List Entry) → v' ≡ grown v [] bs es → length v'.trees ≡ length v.trees
same_count v v' bs es e = ap (λ x. length x.trees) e ∙ ap length (append-nil v.trees)
