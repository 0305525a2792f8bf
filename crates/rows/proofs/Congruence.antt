-- A plan over inputs that are the same.
use Rattle.std.proofs.Common.{ℕ, List, sym, refl, ◌∙◌}
use Rattle.plan.specs.Functions.{Functions}
use Rattle.plan.specs.Names.{Name}
use Rattle.plan.specs.Plans.{Key, Plan}
use Rattle.plan.specs.Plans.Plan.{aggregate, filter, join, limit, projection, sort, subquery_alias}
use Rattle.plan.specs.Terms.{Expr}
use Rattle.plan.specs.declared.code.JoinKind.{JoinKind}
use Rattle.rows.specs.Rows.{rows_of}
use Rattle.rows.specs.Standing.{Same}

module _ {F : Functions} where
  module _ {A B : Plan} (s : Same F A B) where
    pub same-project : (es : List Expr) → Same F (projection es A) (projection es B)
    unfolding rows_of
    same-project es = record { fields_same = refl; rows_same = λ W. rw (s.fields_same, s.rows_same W) }

    pub same-filter : (e : Expr) → Same F (filter e A) (filter e B)
    unfolding rows_of
    same-filter e = record { fields_same = s.fields_same; rows_same = λ W. rw (s.fields_same, s.rows_same W) }

    pub same-sort : (ks : List Key) → Same F (sort ks A) (sort ks B)
    unfolding rows_of
    same-sort ks = record { fields_same = s.fields_same; rows_same = λ W. rw (s.fields_same, s.rows_same W) }

    pub same-limit : (n c : ℕ) → Same F (limit n c A) (limit n c B)
    unfolding rows_of
    same-limit n c = record { fields_same = s.fields_same; rows_same = λ W. rw (s.rows_same W) }

    pub same-subquery : (n : Name) → Same F (subquery_alias n A) (subquery_alias n B)
    unfolding rows_of
    same-subquery n = record { fields_same = rw s.fields_same; rows_same = s.rows_same }

    pub same-aggregate : (gs ts : List Expr) → Same F (aggregate gs ts A) (aggregate gs ts B)
    unfolding rows_of
    same-aggregate gs ts = record { fields_same = refl; rows_same = λ W. rw (s.fields_same, s.rows_same W) }

    pub same-join : {C D : Plan} → Same F C D → (k : JoinKind) (cs : List Expr) → Same F (join k cs A C) (join k cs B D)
    unfolding rows_of
    same-join t k cs = record {
      fields_same = rw (s.fields_same, t.fields_same);
      rows_same = λ W. rw (s.fields_same, t.fields_same, s.rows_same W, t.rows_same W);
    }

module _ {F : Functions} where
  pub same_refl : (A : Plan) → Same F A A
  same_refl A = record { fields_same = refl; rows_same = λ W. refl }

  pub same-sym : {A B : Plan} → Same F A B → Same F B A
  same-sym s = record { fields_same = sym s.fields_same; rows_same = λ W. sym (s.rows_same W) }

  pub same-trans : {A B C : Plan} → Same F A B → Same F B C → Same F A C
  same-trans s t = record { fields_same = s.fields_same ∙ t.fields_same; rows_same = λ W. s.rows_same W ∙ t.rows_same W }
