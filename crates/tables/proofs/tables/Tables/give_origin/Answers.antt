use Rattle.std.proofs.Common.{length, set, ap, ◌∙◌, arith, lit<, length-set}
use Rattle.tables.specs.Holding.{view_in}
use Rattle.tables.proofs.Held.{counted, facts-in}
use Rattle.tables.proofs.Origins.{given-facts, origin-given}
use Rattle.tables.proofs.tables.Tables.give_origin.Goals as goal

pub get-held-requires : goal.get-held-requires
get-held-requires c = (lit< tt, omega (arith, counted c.args.self.now, c.requires.node))

pub set-requires : goal.set-requires
set-requires c = (lit< tt, omega (arith, counted c.args.self.now, c.requires.node))

pub invariant_of-self : goal.invariant_of-self
invariant_of-self c =
    let t = c.args.self.now in
    let rs = t.plans in
    let k = given-facts (view_in t) t.fields rs c.set.new.self c.args.p.0 c.get-held.result c.args.origin (omega (arith, counted t, c.requires.node)) (c.get-held.ensures c.get-held.result) (c.set.ensures ∙ ap (set rs c.args.p.0) c.set_origin.ensures) c.requires.older (facts-in t) in
    record { few_fields = t.few_fields; few_plans = omega (arith, ap length c.set.ensures ∙ length-set rs c.args.p.0 _, t.few_plans); stored = k.are-stored; sound = k.are-sound; fielded = k.are-fielded; sizes = k.have-sizes; formed = k.are-formed }

pub returns : goal.returns
returns c =
    let t = c.args.self.now in
    let rs = t.plans in
    origin-given (view_in t) t.fields rs c.set.new.self c.args.p.0 c.get-held.result c.args.origin (omega (arith, counted t, c.requires.node)) (c.get-held.ensures c.get-held.result) (c.set.ensures ∙ ap (set rs c.args.p.0) c.set_origin.ensures)
