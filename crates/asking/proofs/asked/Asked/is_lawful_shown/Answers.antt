use Rattle.std.proofs.Common.{map, length, ap, ◌∙◌, ap₂, arith}
use Rattle.plan.specs.Fields.{every, lawful}
use Rattle.draft.specs.Drafts.{draft_field, draft_in}
use Rattle.terms.specs.Views.{view_of}
use Rattle.tables.specs.Holding.{view_in}
use Rattle.stored.specs.Placing.{lent_owner, lent_given}
use Rattle.asking.proofs.Draftings.{lent-short}
use Rattle.asking.proofs.asked.Asked.is_lawful_shown.Goals as goal

pub is_lawful-requires : goal.is_lawful-requires
is_lawful-requires c =
    let v = view_in c.args.self.tables.now in
    ap (λ x. every (draft_in (view_of x) c.lent_owner.result.now c.lent_given.result.now) c.as_slice.result.now) c.terms.ensures ∙ ap₂ (λ o g. every (draft_in v o g) c.as_slice.result.now) c.lent_owner.ensures c.lent_given.ensures ∙ ap (every (draft_in v (lent_owner c.args.self.node) (lent_given c.args.self.node))) c.as_slice.ensures ∙ c.draft_shown.ensures.inside

pub invariant_of-source : goal.invariant_of-source
invariant_of-source c =
    let s = lent-short c.args.self.node c.args.self.named c.args.self.bounded in
    record {
      owner_fits = omega (arith, ap length c.lent_owner.ensures, s.0);
      given_fits = omega (arith, ap length c.lent_given.ensures, s.1);
    }

pub returns : goal.returns
returns c =
    let v = view_in c.args.self.tables.now in
    c.is_lawful.ensures ∙ ap (λ x. lawful (map (draft_field (view_of x) c.lent_owner.result.now c.lent_given.result.now) c.as_slice.result.now)) c.terms.ensures ∙ ap₂ (λ o g. lawful (map (draft_field v o g) c.as_slice.result.now)) c.lent_owner.ensures c.lent_given.ensures ∙ ap (λ l. lawful (map (draft_field v (lent_owner c.args.self.node) (lent_given c.args.self.node)) l)) c.as_slice.ensures ∙ ap lawful c.draft_shown.ensures.fields
