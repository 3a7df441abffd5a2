use Rattle.std.proofs.Common.{inl, inr, arith}
use Rattle.dm_ckpt.proofs.Headers.{row_wrong, row_right}
use Rattle.dm_ckpt.proofs.survey.row_len.Goals as goal

pub returns-then-n-gt-MAX_PAYLOAD-clause-found : goal.returns-then-n-gt-MAX_PAYLOAD-clause-found
returns-then-n-gt-MAX_PAYLOAD-clause-found g c = λ told within.
    row_wrong ((g.B.Bay.disk c.args.bay.now).seen c.args.file) c.args.place c.args.end c.read.new.into c.length_of-n.result c.requires.within within c.length_of-n.ensures.range (c.in_ok-read.ensures.bytes told) c.length_of-n.ensures.back (inl (omega arith))

pub returns-then-n-end-clause-found : goal.returns-then-n-end-clause-found
returns-then-n-end-clause-found g c = λ told within.
    row_wrong ((g.B.Bay.disk c.args.bay.now).seen c.args.file) c.args.place c.args.end c.read.new.into c.length_of-n.result c.requires.within within c.length_of-n.ensures.range (c.in_ok-read.ensures.bytes told) c.length_of-n.ensures.back (inr (omega arith))

pub returns-clause-found : goal.returns-clause-found
returns-clause-found g c = λ told within.
    row_right ((g.B.Bay.disk c.args.bay.now).seen c.args.file) c.args.place c.args.end c.read.new.into c.length_of-n.result within
    (c.in_ok-read.ensures.bytes told) c.length_of-n.ensures.back (omega arith) (omega arith)
