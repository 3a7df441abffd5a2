use Rattle.std.proofs.Common.{inl, inr, arith}
use Rattle.dm_ckpt.proofs.Headers.{isn't_open, is_open_holds}
use Rattle.dm_ckpt.proofs.survey.is_of.Goals as goal

pub returns-then-header-ne-OPEN : goal.returns-then-header-ne-OPEN
returns-then-header-ne-OPEN c = λ rows file says may.
    isn't_open c.args.generation rows file _ _ _ c.requires (omega arith) (omega arith) says (inl c.if-header-ne-OPEN.true) may

pub returns-then-header-generation : goal.returns-then-header-generation
returns-then-header-generation c = λ rows file says may.
    isn't_open c.args.generation rows file _ _ _ c.requires (omega arith) (omega arith) says (inr c.if-header-generation.true) may

pub returns : goal.returns
returns c = λ rows file says may.
    is_open_holds c.args.generation rows file _ _ _ c.requires (omega arith) (omega arith) says c.if-header-ne-OPEN.false c.if-header-generation.false may
