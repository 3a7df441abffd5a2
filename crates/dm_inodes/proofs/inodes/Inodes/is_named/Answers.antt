use Rattle.std.proofs.Common.{ap, ◌∙◌, nat_lt}
use Rattle.dm_inodes.specs.Counts.{count_at}
use Rattle.dm_inodes.proofs.Namings.{named_is}
use Rattle.dm_inodes.proofs.inodes.Inodes.is_named.Goals as goal

pub returns-in-Some : goal.returns-in-Some
returns-in-Some c =
    ap (λ r. nat_lt 0 (count_at r)) c.in-Some.ensures
    ∙ named_is c.args.self.now.counts.rows c.args.self.now.rows.rows c.args.bfid.0 c.args.self.now.counted

pub returns-in-None : goal.returns-in-None
returns-in-None c =
    ap (λ r. nat_lt 0 (count_at r)) c.in-None.ensures
    ∙ named_is c.args.self.now.counts.rows c.args.self.now.rows.rows c.args.bfid.0 c.args.self.now.counted
