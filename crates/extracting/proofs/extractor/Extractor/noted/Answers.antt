use Rattle.std.proofs.Common.{length, sym, ap, ◌∙◌, arith}
use Rattle.routing.specs.Sides.{side_of}
use Rattle.entries.specs.Spans.{stored_field}
use Rattle.terms.specs.Views.{view_of}
use Rattle.extracting.specs.Extractors.{extractor_of, needs_of}
use Rattle.extracting.proofs.Needs.{needs-one, noted_none, noted_some}
use Rattle.extracting.proofs.extractor.Extractor.noted.Goals as goal

pub need-requires-clause-room : goal.need-requires-clause-room
need-requires-clause-room c =
    let v = view_of c.args.terms.now in
    let f = stored_field v.bytes c.args.field in
    let g = extractor_of v c.args.self.now in
    omega (arith, c.requires.room, ap (λ h. length h.needed) (noted_some c.args.owner c.in-Some.side f g c.in-Some.is), ap length (needs-one (side_of c.in-Some.side) f (needs_of v c.args.self.now)))

pub returns-in-Some-clause-value : goal.returns-in-Some-clause-value
returns-in-Some-clause-value c =
    let v = view_of c.args.terms.now in
    c.need.ensures.value ∙ sym (noted_some c.args.owner c.in-Some.side (stored_field v.bytes c.args.field) (extractor_of v c.args.self.now) c.in-Some.is)

pub returns-in_default-clause-value : goal.returns-in_default-clause-value
returns-in_default-clause-value c =
    let v = view_of c.args.terms.now in
    sym (noted_none c.args.owner (stored_field v.bytes c.args.field) (extractor_of v c.args.self.now) c.in_default.is)
