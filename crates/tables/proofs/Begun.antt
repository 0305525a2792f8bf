-- Tables that begin with others: what a call leaves that adds to them still begins with what there was when the marks were taken.
use Rattle.std.proofs.Common.{◌≡◌, ℕ, ◌≤◌, true, List, map, length, take, sym, ap₂, ◌∙◌, subst}
use Rattle.std.proofs.Math.Seq.{take-append_seam}
use Rattle.entries.specs.Spans.{stored_in}
use Rattle.entries.specs.declared.node.StoredField.{StoredField}
use Rattle.lexicon.proofs.Begun.{begins-then}
use Rattle.lexicon.specs.Begun.{Begins}
use Rattle.plan.specs.Fields.{every}
use Rattle.plan.specs.Plans.{plan_size_of}
use Rattle.tables.specs.Holding.{view_in}
use Rattle.stored.specs.Stored.{fielded, plan_trees, sound_plans, well_formed}
use Rattle.stored.specs.declared.node.PlanRecord.{PlanRecord}
use Rattle.terms.specs.Views.{View}
use Rattle.terms.proofs.Begun.{terms-then}
use Rattle.tables.specs.Begun.{TablesBegin, Begun}
use Rattle.tables.specs.declared.marks.Marks.{Marks}
use Rattle.tables.specs.declared.tables.Tables.{Tables}

pub tables-then : (s t u : Tables) → TablesBegin s t → TablesBegin t u → TablesBegin s u
tables-then s t u a b = record {
  terms = terms-then s.terms t.terms u.terms a.terms b.terms;
  fields = begins-then s.fields t.fields u.fields a.fields b.fields;
  plans = begins-then s.plans t.plans u.plans a.plans b.plans;
}

pub begun-then : (s t u : Tables) (m : Marks) → Begun s m t → TablesBegin t u → Begun s m u
begun-then s t u m a b = record {
  terms = record { exprs = a.terms.exprs; entries = a.terms.entries; bytes = a.terms.bytes; begins = terms-then s.terms t.terms u.terms a.terms.begins b.terms };
  fields = a.fields;
  plans = a.plans;
  begins = tables-then s t u a.begins b;
}

-- a list that was cut to the length that it had before
pub put-back : {X : Type 0} (xs ys : List X) (n : ℕ) → n ≡ length xs → Begins xs ys → take n ys ≡ xs
put-back xs ys n e b = ap₂ take e b.is ∙ take-append_seam xs b.more

-- what the tables keep
abbrev Held : View → List StoredField → List PlanRecord → Type 0
Held v fields plans = record {
  few_fields : length fields ≤ 2048;
  few_plans : length plans ≤ 128;
  stored : every (stored_in v.bytes) fields ≡ true;
  sound : sound_plans v fields plans ≡ true;
  fielded : fielded v fields plans ≡ true;
  sizes : map (λ r. r.size) plans ≡ map plan_size_of (plan_trees v fields plans);
  formed : every (well_formed v.functions) (plan_trees v fields plans) ≡ true;
}

pub held-same : (s : Tables) (v : View) (fields : List StoredField) (plans : List PlanRecord) → v ≡ view_in s → fields ≡ s.fields → plans ≡ s.plans → Held v fields plans
held-same s v fields plans a b c =
    subst (λ w. Held w fields plans) (sym a)
    (subst (λ f. Held (view_in s) f plans) (sym b)
    (subst (λ p. Held (view_in s) s.fields p) (sym c)
    (record { few_fields = s.few_fields; few_plans = s.few_plans; stored = s.stored; sound = s.sound; fielded = s.fielded; sizes = s.sizes; formed = s.formed })))
