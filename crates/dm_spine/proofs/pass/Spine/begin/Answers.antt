use Rattle.dm_spine.proofs.Shares.{kept_first}
use Rattle.dm_spine.proofs.pass.Spine.begin.Goals as goal

pub of_words-requires : goal.of_words-requires
of_words-requires g c = kept_first g.P.Parts.meaning g.P.Parts.lawful c.args.parts
