use Rattle.std.proofs.Common.{◌≡◌, ◌++◌, ap, ◌∙◌, rules}
use Rattle.hex.specs.Hex.{encode_lower}
use Rattle.names.proofs.Numbers.{encode-bytes}
use Rattle.names.proofs.write_hexadecimal.Goals as goal

pub returns : goal.returns
returns g c =
    let w : c.encode_to_slice.new.output ≡ encode_lower c.to_be_bytes.result = search rules in
    c.extend.ensures ∙ ap (λ ds. c.args.out.now ++ ds) (w ∙ ap encode_lower c.to_be_bytes.ensures ∙ encode-bytes 8 c.args.bits)
