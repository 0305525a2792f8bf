use Rattle.std.proofs.Common.{◌+◌, ◌≤◌, length, ◌∙◌, ap, arith, rules, sym}
use Rattle.std.proofs.lemmas.Bool.{leb-true}
use Rattle.terms.specs.Views.{view_of}
use Rattle.tables.specs.Holding.{view_in, model_of, plan_count}
use Rattle.stored.specs.Making.{entries_for}
use Rattle.tables.specs.Making.{outlay_for}
use Rattle.asking.proofs.Fitting.{exprs-fit, rest-fits}
use Rattle.asking.proofs.asked.Asked.has_room.Goals as goal
use Rattle.asking.proofs.asked.Asked.has_room.Goals.{then-len-lt128, else-len-lt128, then-list_len-list_room, else-list_len-list_room}

pub returns-then-width-field_room : goal.returns-then-width-field_room
returns-then-width-field_room c =
    let t = c.args.self.tables.now in
    let n = c.args.self.node in
    elim c.if-list_len-list_room.branch [
      | then-list_len-list_room w ↦
          elim c.if-len-lt128.branch [
            | then-len-lt128 u ↦
                let plans : plan_count t + 1 ≤ 128 = omega arith in
                let lists : length (view_in t).entries + entries_for n ≤ 2048 = omega (arith, leb-true _ _ (sym u.value-is ∙ w.if-list_len-list_room.true), ap (λ x. length (view_of x).entries) u.terms.ensures) in
                let fields : length t.fields + (outlay_for t n).fields ≤ 2048 = omega (arith, leb-true _ _ (sym w.value-is ∙ c.if-width-field_room.true)) in
                c.has_text_room.ensures ∙ rest-fits (model_of t).used (outlay_for t n) (exprs-fit t) plans lists fields
            | else-len-lt128 u ↦ search rules
          ]
      | else-list_len-list_room w ↦ search rules
    ]
