-- The library's digits are the definition's, and stand from `at` on.
use Rattle.text.proofs.Written.{hex_by}
use Rattle.text.proofs.put_hex.Goals as goal

pub returns : goal.returns
returns c =
    hex_by c.encode_to_slice.result c.unwrap.result c.args.bytes.now c.encode_to_slice.new.output c.args.buf.now c.args.at
    c.encode_to_slice.ensures.written c.unwrap.ensures (λ k i. (c.type_inv.bytes k).fits) c.requires
