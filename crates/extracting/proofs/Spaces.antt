-- Places, table by table: what fits where less is used, and the places of an expression by its parts.
use Rattle.std.proofs.Common.{◌≡◌, ℕ, ◌+◌, ◌≤◌, Bool, true, false, ◌&&◌, leb, List, [], ◌∷◌, ◌++◌, length, sum_by, refl, ap, append_assoc, arith}
use Rattle.std.proofs.lemmas.Bool.{and_from, and_parts, leb-true, le-leb}
use Rattle.std.proofs.lemmas.List.Sums.{sum_by-append}
use Rattle.plan.specs.Model.{Space, Within, fits, plus, space}
use Rattle.plan.specs.Terms.{Expr, Field, arguments, size_of, sizes_of}
use Rattle.plan.specs.Terms.Expr.{alias, call}
use Rattle.rewriting.specs.Generated.{expr_names, exprs_names, field_names}
use Rattle.tables.proofs.Answers.{space-same}
use Rattle.rewriting.specs.Outlay.{entries_of, entries_of_all, list_space, nothing, tree_space}

-- no table has more of p than of q
pub record AtMost (p q : Space) : Type 0 where
  pub exprs : p.exprs ≤ q.exprs
  pub plans : p.plans ≤ q.plans
  pub entries : p.entries ≤ q.entries
  pub fields : p.fields ≤ q.fields
  pub bytes : p.bytes ≤ q.bytes

pub within-same : (a p : Space) → Within a p a
within-same a p = record { exprs = omega arith; plans = omega arith; entries = omega arith; fields = omega arith; bytes = omega arith }

pub within_more : (a p q b : Space) → Within a p b → AtMost p q → Within a q b
within_more a p q b w m = record { exprs = omega (arith, w.exprs, m.exprs); plans = omega (arith, w.plans, m.plans); entries = omega (arith, w.entries, m.entries); fields = omega (arith, w.fields, m.fields); bytes = omega (arith, w.bytes, m.bytes) }

pub within-then : (a p b q c : Space) → Within a p b → Within b q c → Within a (plus p q) c
within-then a p b q c w u = record { exprs = omega (arith, w.exprs, u.exprs); plans = omega (arith, w.plans, u.plans); entries = omega (arith, w.entries, u.entries); fields = omega (arith, w.fields, u.fields); bytes = omega (arith, w.bytes, u.bytes) }

pub within-plus : (a p b : Space) → b ≡ plus a p → Within a p b
within-plus a p b e = record { exprs = omega (arith, ap (λ s. s.exprs) e); plans = omega (arith, ap (λ s. s.plans) e); entries = omega (arith, ap (λ s. s.entries) e); fields = omega (arith, ap (λ s. s.fields) e); bytes = omega (arith, ap (λ s. s.bytes) e) }

fits-less : (a p b q r : Space) → Within a p b → AtMost (plus p q) r → fits a r ≡ true → fits b q ≡ true
fits-less a p b q r w m h =
    let x = and_parts (leb (a.exprs + r.exprs) 1024 && leb (a.plans + r.plans) 128) (leb (a.entries + r.entries) 2048 && (leb (a.fields + r.fields) 2048 && leb (a.bytes + r.bytes) 16384)) h in
    let y = and_parts (leb (a.exprs + r.exprs) 1024) (leb (a.plans + r.plans) 128) x.0 in
    let z = and_parts (leb (a.entries + r.entries) 2048) (leb (a.fields + r.fields) 2048 && leb (a.bytes + r.bytes) 16384) x.1 in
    let u = and_parts (leb (a.fields + r.fields) 2048) (leb (a.bytes + r.bytes) 16384) z.1 in
    and_from _ _
    (and_from _ _ (le-leb (b.exprs + q.exprs) 1024 (omega (arith, leb-true _ _ y.0, w.exprs, m.exprs))) (le-leb (b.plans + q.plans) 128 (omega (arith, leb-true _ _ y.1, w.plans, m.plans))))
    (and_from _ _ (le-leb (b.entries + q.entries) 2048 (omega (arith, leb-true _ _ z.0, w.entries, m.entries)))
    (and_from _ _ (le-leb (b.fields + q.fields) 2048 (omega (arith, leb-true _ _ u.0, w.fields, m.fields))) (le-leb (b.bytes + q.bytes) 16384 (omega (arith, leb-true _ _ u.1, w.bytes, m.bytes)))))

-- what does not fit where p was used before does not fit together with it
pub no-room : (a p b q r : Space) → Within a p b → AtMost (plus p q) r → fits b q ≡ false → fits a r ≡ false
no-room a p b q r w m h = go (fits a r) refl
  where
    go : (k : Bool) → fits a r ≡ k → k ≡ false
    go true e = absurd (let f = fits-less a p b q r w m e in let z : ◌≡◌ {A = ℕ} 0 1 = cc in omega arith)
    go false e = refl

-- an alias takes one node and its name beside what is inside
pub alias-space : (e : Expr) (f : Field) → AtMost (plus (tree_space e) (space 1 0 0 0 0)) (tree_space (alias e f))
unfolding tree_space entries_of expr_names
alias-space e f = record { exprs = omega arith; plans = omega arith; entries = omega arith; fields = omega arith; bytes = omega (arith, sum_by-append length (field_names f) (expr_names e)) }

-- the places of some expressions, table by table
pub record Listed (us : List Expr) : Type 0 where
  pub exprs : (list_space us).exprs ≡ sizes_of (arguments us)
  pub plans : (list_space us).plans ≡ 0
  pub entries : (list_space us).entries + length us ≡ entries_of_all (arguments us)
  pub fields : (list_space us).fields ≡ 0
  pub bytes : (list_space us).bytes ≡ sum_by length (exprs_names (arguments us))

pub listed-space : (us : List Expr) → Listed us
unfolding list_space tree_space entries_of expr_names
listed-space [] = record { exprs = refl; plans = refl; entries = refl; fields = refl; bytes = refl }
listed-space (u ∷ us) =
    let l = listed-space us in
    record {
      exprs = ap (λ n. size_of u + n) l.exprs;
      plans = omega (arith, l.plans);
      entries = omega (arith, l.entries);
      fields = omega (arith, l.fields);
      bytes = omega (arith, l.bytes, sum_by-append length (expr_names u) (exprs_names (arguments us)));
    }

pub call-space : (n : ℕ) (us : List Expr) → AtMost (plus (list_space us) (space 1 0 (length us) 0 0)) (tree_space (call n (arguments us)))
unfolding tree_space entries_of expr_names
call-space n us =
    let l = listed-space us in
    record { exprs = omega (arith, l.exprs); plans = omega (arith, l.plans); entries = omega (arith, l.entries); fields = omega (arith, l.fields); bytes = omega (arith, l.bytes) }

pub listed-push : (us : List Expr) (u : Expr) → list_space (us ++ u ∷ []) ≡ plus (list_space us) (tree_space u)
unfolding list_space
listed-push [] u = space-same _ _ _ _ _ _ _ _ _ _ (omega arith) (omega arith) (omega arith) (omega arith) (omega arith)
listed-push (v ∷ us) u =
    let h = listed-push us u in
    space-same _ _ _ _ _ _ _ _ _ _ (omega (arith, ap (λ s. s.exprs) h)) (omega (arith, ap (λ s. s.plans) h)) (omega (arith, ap (λ s. s.entries) h)) (omega (arith, ap (λ s. s.fields) h)) (omega (arith, ap (λ s. s.bytes) h))

-- the first expressions of a list take no more than all
pub first-space : (us vs : List Expr) → AtMost (list_space us) (list_space (us ++ vs))
unfolding list_space
first-space [] vs = record { exprs = omega arith; plans = omega arith; entries = omega arith; fields = omega arith; bytes = omega arith }
first-space (u ∷ us) vs =
    let h = first-space us vs in
    record { exprs = omega (arith, h.exprs); plans = omega (arith, h.plans); entries = omega (arith, h.entries); fields = omega (arith, h.fields); bytes = omega (arith, h.bytes) }

-- those that were made, and one more, of the arguments of a call
pub part_space : (n : ℕ) (us vs : List Expr) (u : Expr) → AtMost (plus (list_space us) (tree_space u)) (tree_space (call n (arguments (us ++ u ∷ vs))))
part_space n us vs u =
    let p = listed-push us u in
    let f = first-space (us ++ u ∷ []) vs in
    let a = ap list_space (append_assoc us (u ∷ []) vs) in
    let c = call-space n (us ++ u ∷ vs) in
    record {
      exprs = omega (arith, ap (λ s. s.exprs) p, ap (λ s. s.exprs) a, f.exprs, c.exprs);
      plans = omega (arith, ap (λ s. s.plans) p, ap (λ s. s.plans) a, f.plans, c.plans);
      entries = omega (arith, ap (λ s. s.entries) p, ap (λ s. s.entries) a, f.entries, c.entries);
      fields = omega (arith, ap (λ s. s.fields) p, ap (λ s. s.fields) a, f.fields, c.fields);
      bytes = omega (arith, ap (λ s. s.bytes) p, ap (λ s. s.bytes) a, f.bytes, c.bytes);
    }

pub at-most-nothing : (p : Space) → AtMost (plus nothing p) p
at-most-nothing p = record { exprs = omega arith; plans = omega arith; entries = omega arith; fields = omega arith; bytes = omega arith }

pub at-most-then : (p q r : Space) → AtMost p q → AtMost q r → AtMost p r
at-most-then p q r a b = record { exprs = omega (arith, a.exprs, b.exprs); plans = omega (arith, a.plans, b.plans); entries = omega (arith, a.entries, b.entries); fields = omega (arith, a.fields, b.fields); bytes = omega (arith, a.bytes, b.bytes) }
