use Rattle.std.proofs.Common.{◌≡◌, Err, sym, subst, rules}
use Rattle.std.proofs.lemmas.Bool.{and_from, lt-ltb}
use Rattle.tables.specs.Holding.{model_of, plan_count}
use Rattle.stepping.specs.Steps.{Steps}
use Rattle.leaf_expressions.proofs.Beside.{BothKnown, Given, RightKnown, all-made, both-known, last-later, left-refused, no-fewer, right-known, right-refused, whole}
use Rattle.leaf_expressions.proofs.join.rebuilt_over_two.Goals as goal

pub returns-in_err-over-clause-steps : goal.returns-in_err-over-clause-steps
returns-in_err-over-clause-steps c =
    let t = c.args.tables.now in
    let x = c.args.extractor.now in
    let m = model_of c.build_extraction_projection.new.tables in
    let e = c.in_err-over.field-0.0 in
    let is-err : c.from_residual.result ≡ Err e = search rules in
    subst (λ r. Steps (model_of t) x.next (whole t x c.args.left.0 c.args.right.0 c.args.p.0 c.args.kind c.args.on.now) r m) (sym is-err)
    (left-refused t x c.args.left.0 c.args.right.0 c.args.p.0 c.args.kind c.args.on.now e m m c.in_err-over.ensures.steps)

-- the right input
given-right : (c : goal.After-build_extraction_projection-arg-2-1) → Given c.args.tables.now c.args.extractor.now c.args.left.0 c.args.right.0 c.args.p.0 c.args.kind c.args.on.now
given-right c = record {
  node = c.requires.node;
  left = c.requires.left;
  right = c.requires.right;
  inside = c.requires.inside;
  good = c.requires.good;
  found_left = c.requires.found_left;
  found_right = c.requires.found_right;
  there = c.requires.there;
  renamed = c.requires.renamed;
}

right : (c : goal.After-build_extraction_projection-arg-2-1) → RightKnown c.args.extractor.now c.args.right.0 c.build_extraction_projection.new.tables
right c = right-known _ _ _ _ _ _ _ (given-right c) c.build_extraction_projection.new.tables c.in_ok-over.over c.in_ok-over.ensures.steps

pub build_extraction_projection-requires-2-clause-input : goal.build_extraction_projection-requires-2-clause-input
build_extraction_projection-requires-2-clause-input c = (right c).there

pub build_extraction_projection-requires-2-clause-inside : goal.build_extraction_projection-requires-2-clause-inside
build_extraction_projection-requires-2-clause-inside c = (right c).inside

pub build_extraction_projection-requires-2-clause-good : goal.build_extraction_projection-requires-2-clause-good
build_extraction_projection-requires-2-clause-good c = (right c).good

pub build_extraction_projection-requires-2-clause-found : goal.build_extraction_projection-requires-2-clause-found
build_extraction_projection-requires-2-clause-found c = (right c).found

given-refused : (c : goal.After-from_residual-in_err-beside) → Given c.args.tables.now c.args.extractor.now c.args.left.0 c.args.right.0 c.args.p.0 c.args.kind c.args.on.now
given-refused c = record {
  node = c.requires.node;
  left = c.requires.left;
  right = c.requires.right;
  inside = c.requires.inside;
  good = c.requires.good;
  found_left = c.requires.found_left;
  found_right = c.requires.found_right;
  there = c.requires.there;
  renamed = c.requires.renamed;
}

pub returns-in_err-beside-clause-steps : goal.returns-in_err-beside-clause-steps
returns-in_err-beside-clause-steps c =
    let t = c.args.tables.now in
    let x = c.args.extractor.now in
    let w = c.build_extraction_projection-2.new.tables in
    let e = c.in_err-beside.field-0.0 in
    let is-err : c.from_residual-in_err-beside.result ≡ Err e = search rules in
    subst (λ r. Steps (model_of t) x.next (whole t x c.args.left.0 c.args.right.0 c.args.p.0 c.args.kind c.args.on.now) r (model_of w)) (sym is-err)
    (right-refused _ _ _ _ _ _ _ (given-refused c) c.build_extraction_projection.new.tables c.in_ok-over.over c.in_ok-over.ensures.steps w e (model_of w) c.in_err-beside.ensures.steps)

-- the new Join
given-both : (c : goal.After-rebuilt-arg-1) → Given c.args.tables.now c.args.extractor.now c.args.left.0 c.args.right.0 c.args.p.0 c.args.kind c.args.on.now
given-both c = record {
  node = c.requires.node;
  left = c.requires.left;
  right = c.requires.right;
  inside = c.requires.inside;
  good = c.requires.good;
  found_left = c.requires.found_left;
  found_right = c.requires.found_right;
  there = c.requires.there;
  renamed = c.requires.renamed;
}

both : (c : goal.After-rebuilt-arg-1) → BothKnown c.args.p.0 c.args.kind c.args.on.now c.in_ok-over.over.0 c.in_ok-beside.beside.0 c.build_extraction_projection-2.new.tables
both c =
    both-known _ _ _ _ _ _ _ (given-both c) c.build_extraction_projection.new.tables c.in_ok-over.over c.in_ok-over.ensures.steps c.build_extraction_projection-2.new.tables c.in_ok-beside.beside c.in_ok-beside.ensures.steps

pub rebuilt-requires-clause-present : goal.rebuilt-requires-clause-present
rebuilt-requires-clause-present c = let k = both c in and_from _ _ (and_from _ _ (lt-ltb _ _ k.left) (lt-ltb _ _ k.right)) k.there

pub rebuilt-requires-clause-old : goal.rebuilt-requires-clause-old
rebuilt-requires-clause-old c = (both c).node

pub rebuilt-requires-clause-good : goal.rebuilt-requires-clause-good
rebuilt-requires-clause-good c = (both c).good

pub rebuilt-requires-clause-fits : goal.rebuilt-requires-clause-fits
rebuilt-requires-clause-fits c = (both c).renamed

given-end : (c : goal.After-rebuilt) → Given c.args.tables.now c.args.extractor.now c.args.left.0 c.args.right.0 c.args.p.0 c.args.kind c.args.on.now
given-end c = record {
  node = c.requires.node;
  left = c.requires.left;
  right = c.requires.right;
  inside = c.requires.inside;
  good = c.requires.good;
  found_left = c.requires.found_left;
  found_right = c.requires.found_right;
  there = c.requires.there;
  renamed = c.requires.renamed;
}

pub returns-clause-steps : goal.returns-clause-steps
returns-clause-steps c =
    let w = c.build_extraction_projection-2.new.tables in
    all-made _ _ _ _ _ _ _ (given-end c) c.build_extraction_projection.new.tables c.in_ok-over.over c.in_ok-over.ensures.steps w c.in_ok-beside.beside c.in_ok-beside.ensures.steps c.rebuilt.result (model_of c.rebuilt.new.tables) c.rebuilt.ensures.steps

pub returns-clause-last : goal.returns-clause-last
returns-clause-last c =
    let t = c.args.tables.now in
    let w = c.build_extraction_projection-2.new.tables in
    let more = no-fewer _ _ _ _ _ _ _ (given-end c) c.build_extraction_projection.new.tables c.in_ok-over.over c.in_ok-over.ensures.steps w c.in_ok-beside.beside c.in_ok-beside.ensures.steps in
    last-later c.rebuilt.result (plan_count t) (plan_count w) (plan_count c.rebuilt.new.tables) more c.rebuilt.ensures.last
