use Rattle.std.proofs.Common.{option_map, sym, subst}
use Rattle.std.proofs.lemmas.Result.{on_ok_weaker}
use Rattle.dm_durable_steps.specs.Bitfiles.{HasMore}
use Rattle.dm_durable_steps.proofs.Sets.{has_more}
use Rattle.dm_durable_steps.proofs.restart.add.Goals as goal

pub returns-in-Some : goal.returns-in-Some
returns-in-Some c =
    on_ok_weaker c.insert.result (λ put.
    subst (λ o. HasMore c.args.set.now (option_map (λ b. b.0) o) c.insert.new.self) (sym c.in-Some.is)
    (has_more c.args.set.now c.insert.new.self c.in-Some.bfid.0 put))
    c.insert.ensures.ok
