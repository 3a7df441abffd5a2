use Rattle.std.proofs.Common.{ap, ◌∙◌, arith}
use Rattle.dm_fields.specs.Numbers.{big_endian}
use Rattle.dm_fields.proofs.Bytes.{number_back}
use Rattle.dm_fields.proofs.numbers.be64_of.Goals as goal

pub returns : goal.returns
returns c = ap (big_endian 8) c.read_u64.ensures ∙ number_back 8 c.args.bytes.now c.requires (λ i. omega (arith, c.type_inv.bytes i))
