use Rattle.std.proofs.Common.{◌≡◌, ◌+◌, ◌≤◌, true, ◌&&◌, leb, map, length, refl, ap, ◌∙◌, subst, ap₂, arith, length-append}
use Rattle.std.proofs.lemmas.List.{length-map}
use Rattle.std.proofs.lemmas.Bool.{and_parts, and_from}
use Rattle.plan.specs.Plans.Plan.{projection, sort, aggregate, join}
use Rattle.plan.specs.Model.{plan_in, plans_in}
use Rattle.plan.specs.Names.{good_name}
use Rattle.plan.specs.Calls.{below, all_below, between, union_of}
use Rattle.terms.specs.Views.{view_of, numbers_of}
use Rattle.entries.specs.declared.node.Entry.TheVariants.{Expression, Input}
use Rattle.stored.specs.Making.{present_in, bounded, bytes_for, entries_for, key_numbers}
use Rattle.stored.specs.Keys.{key_entry}
use Rattle.stored.specs.declared.node.NewNode.TheVariants.{Table, Projection, Sort, Aggregate, Join, SubqueryAlias, Union}
use Rattle.stored.specs.declared.node.PlanNode.TheVariants.{Projection as ProjectionNode, Sort as SortNode, Aggregate as AggregateNode, Join as JoinNode, Union as UnionNode}
use Rattle.stored.proofs.Placings.{few-listed, for-node, exprs-listed, sort-listed, inputs-listed, nameless-placed, table-placed, alias-placed, twice-listed, first-kept}
use Rattle.stored.proofs.placing.place.Goals as goal

pub write-given-requires : goal.write-given-requires
write-given-requires c =
    let v = view_of c.args.terms.now in
    let h = subst (λ n. length v.bytes + bytes_for n ≤ 16384) c.in-Table.is c.requires.text in
    omega (arith, h, ap (λ x. length x.bytes) c.write-owner.ensures.view, length-append v.bytes c.in-Table.qualifier.now)

pub put-totals-requires : goal.put-totals-requires
put-totals-requires c =
    let v = view_of c.args.terms.now in
    let h = subst (λ n. length v.entries + entries_for n ≤ 2048) c.in-Aggregate.is c.requires.lists in
    omega (arith, h, ap (λ x. length x.entries) c.put-groups.ensures.listed.view, length-append v.entries (map Expression c.in-Aggregate.groups.now), length-map c.in-Aggregate.groups.now Expression)

pub returns-in-Table-clause-placed : goal.returns-in-Table-clause-placed
returns-in-Table-clause-placed c =
    let v = view_of c.args.terms.now in
    let q = c.in-Table.qualifier in
    let ns = c.in-Table.names in
    for-node v _ c.args.number.0 _ _ _ c.in-Table.is
    (table-placed v (view_of c.write-owner.new.self) (view_of c.write-given.new.self) c.args.number (Table q ns) q.now ns.now c.write-owner.result c.write-given.result refl refl refl refl (λ ts. refl) refl (λ h. (and_parts (good_name q.now) _ h).0)
    c.write-owner.ensures.view c.write-owner.ensures.inside c.write-owner.ensures.word c.write-given.ensures.view c.write-given.ensures.inside c.write-given.ensures.word)

pub returns-in-Projection-clause-placed : goal.returns-in-Projection-clause-placed
returns-in-Projection-clause-placed c =
    let v = view_of c.args.terms.now in
    let i = c.in-Projection.input in
    let l = c.in-Projection.list in
    let k = c.args.number.0 in
    let p = and_parts (below k i.0) (all_below (length v.trees) (numbers_of l.now)) (subst (λ n. present_in v k n ≡ true) c.in-Projection.is c.requires.present) in
    let x = exprs-listed v (view_of c.put-list.new.terms) c.put-list.result l.now c.put-list.ensures.listed p.1 in
    for-node v _ k _ _ _ c.in-Projection.is
    (nameless-placed v _ k (Projection i l) (ProjectionNode i c.put-list.result) _ c.into.ensures refl refl c.put-list.ensures.listed.view (and_from _ _ p.0 x.0) (few-listed v _ _ Expression l.now 64 c.put-list.ensures.listed (subst (λ n. bounded n ≡ true) c.in-Projection.is c.requires.bounded)) refl (λ fs ts. ap (λ es. projection es (plan_in ts i.0)) x.1))

pub returns-in-Sort-clause-placed : goal.returns-in-Sort-clause-placed
returns-in-Sort-clause-placed c =
    let v = view_of c.args.terms.now in
    let i = c.in-Sort.input in
    let ks = c.in-Sort.keys in
    let k = c.args.number.0 in
    let p = and_parts (below k i.0) (all_below (length v.trees) (key_numbers ks.now)) (subst (λ n. present_in v k n ≡ true) c.in-Sort.is c.requires.present) in
    let x = sort-listed v (view_of c.put-keys.new.terms) c.put-keys.result ks.now c.put-keys.ensures.listed p.1 in
    for-node v _ k _ _ _ c.in-Sort.is
    (nameless-placed v _ k (Sort i ks) (SortNode i c.put-keys.result) _ c.into-in-Sort.ensures refl refl c.put-keys.ensures.listed.view (and_from _ _ p.0 x.0) (few-listed v _ _ key_entry ks.now 16 c.put-keys.ensures.listed (subst (λ n. bounded n ≡ true) c.in-Sort.is c.requires.bounded)) refl (λ fs ts. ap (λ es. sort es (plan_in ts i.0)) x.1))

pub returns-in-Aggregate-clause-placed : goal.returns-in-Aggregate-clause-placed
returns-in-Aggregate-clause-placed c =
    let v = view_of c.args.terms.now in
    let w = view_of c.put-groups.new.terms in
    let u = view_of c.put-totals.new.terms in
    let i = c.in-Aggregate.input in
    let gs = c.in-Aggregate.groups in
    let us = c.in-Aggregate.totals in
    let k = c.args.number.0 in
    let p = and_parts (below k i.0) (all_below (length v.trees) (numbers_of gs.now) && all_below (length v.trees) (numbers_of us.now)) (subst (λ n. present_in v k n ≡ true) c.in-Aggregate.is c.requires.present) in
    let q = and_parts (all_below (length v.trees) (numbers_of gs.now)) (all_below (length v.trees) (numbers_of us.now)) p.1 in
    let b = and_parts (leb (length gs.now) 16) (leb (length us.now) 16) (subst (λ n. bounded n ≡ true) c.in-Aggregate.is c.requires.bounded) in
    let x = first-kept v w u gs.now us.now c.put-groups.result c.put-totals.result c.put-groups.ensures.listed c.put-totals.ensures.listed q.0 q.1 in
    for-node v _ k _ _ _ c.in-Aggregate.is
    (nameless-placed v u k (Aggregate i gs us) (AggregateNode i c.put-groups.result c.put-totals.result) _ c.into-in-Aggregate.ensures refl refl
    (twice-listed v w u _ _ _ _ c.put-groups.ensures.listed c.put-totals.ensures.listed) (and_from _ _ p.0 (and_from _ _ x.0 x.2)) (and_from _ _ (few-listed v _ _ Expression gs.now 16 c.put-groups.ensures.listed b.0) (few-listed w _ _ Expression us.now 16 c.put-totals.ensures.listed b.1)) refl (λ fs ts. ap₂ (λ a b. aggregate a b (plan_in ts i.0)) x.1 x.3))

pub returns-in-Join-clause-placed : goal.returns-in-Join-clause-placed
returns-in-Join-clause-placed c =
    let v = view_of c.args.terms.now in
    let l = c.in-Join.left in
    let r = c.in-Join.right in
    let cs = c.in-Join.on in
    let k = c.args.number.0 in
    let p = and_parts (below k l.0 && below k r.0) (all_below (length v.trees) (numbers_of cs.now)) (subst (λ n. present_in v k n ≡ true) c.in-Join.is c.requires.present) in
    let q = and_parts (below k l.0) (below k r.0) p.0 in
    let x = exprs-listed v (view_of c.put-on.new.terms) c.put-on.result cs.now c.put-on.ensures.listed p.1 in
    for-node v _ k _ _ _ c.in-Join.is
    (nameless-placed v _ k (Join c.in-Join.kind l r cs) (JoinNode c.in-Join.kind l r c.put-on.result) _ c.into-in-Join.ensures refl refl c.put-on.ensures.listed.view (and_from _ _ q.0 (and_from _ _ q.1 x.0)) (few-listed v _ _ Expression cs.now 16 c.put-on.ensures.listed (subst (λ n. bounded n ≡ true) c.in-Join.is c.requires.bounded)) refl
    (λ fs ts. ap (λ es. join c.in-Join.kind es (plan_in ts l.0) (plan_in ts r.0)) x.1))

pub returns-in-Union-clause-placed : goal.returns-in-Union-clause-placed
returns-in-Union-clause-placed c =
    let v = view_of c.args.terms.now in
    let is = c.in-Union.inputs in
    let k = c.args.number.0 in
    let p = subst (λ n. present_in v k n ≡ true) c.in-Union.is c.requires.present in
    let x = inputs-listed v (view_of c.put-inputs.new.terms) c.put-inputs.result is.now c.put-inputs.ensures.listed in
    for-node v _ k _ _ _ c.in-Union.is
    (nameless-placed v _ k (Union is) (UnionNode c.put-inputs.result) _ c.into-in-Union.ensures refl refl c.put-inputs.ensures.listed.view (and_from _ _ c.put-inputs.ensures.listed.run (ap (all_below k) x ∙ p)) (ap (between 1 8) (c.put-inputs.ensures.listed.count ∙ length-map is.now Input) ∙ subst (λ n. bounded n ≡ true) c.in-Union.is c.requires.bounded) x
    (λ fs ts. ap (λ ns. union_of (plans_in ts ns)) x))

pub returns-in-SubqueryAlias-clause-placed : goal.returns-in-SubqueryAlias-clause-placed
returns-in-SubqueryAlias-clause-placed c =
    let v = view_of c.args.terms.now in
    let k = c.args.number.0 in
    let i = c.in-SubqueryAlias.input in
    let n = c.in-SubqueryAlias.name in
    let w = c.write-owner-in-SubqueryAlias in
    for-node v _ k _ _ _ c.in-SubqueryAlias.is
    (alias-placed v (view_of w.new.self) k i (SubqueryAlias i n) n.now w.result refl refl refl refl (λ ts. refl) refl
    (λ h. h) (subst (λ x. present_in v k x ≡ true) c.in-SubqueryAlias.is c.requires.present) w.ensures.view w.ensures.inside w.ensures.word)
