use Rattle.std.proofs.Common.{◌⊎◌, inl}
use Rattle.dm_host.proofs.Moments.{weaker}
use Rattle.dm_ckpt.specs.Files.{Mine}
use Rattle.dm_ckpt.specs.Meaning.{StandsForState, KeepsState}
use Rattle.dm_ckpt.proofs.Meaning.{called_moments}
use Rattle.dm_ckpt.proofs.tests.checkpoint_and_append.Goals as goal

pub returns-in_err-checkpoint-clause-any_moment : goal.returns-in_err-checkpoint-clause-any_moment
returns-in_err-checkpoint-clause-any_moment g c = λ is so k.
    let means = g.T.Rows.means c.args.state.now in
    let after = g.U.Rows.means c.args._after.now in
    let s = c.args.store.now in
    let n = s.component in
    weaker (Mine n) (g.B.Bay.disk c.args.bay.now) (g.B.Bay.disk c.checkpoint.new.bay) (StandsForState n means) (λ x. StandsForState n means x ⊎ StandsForState n after x)
    (c.checkpoint.ensures.settled is k) (λ x stands. inl stands)

pub returns-clause-any_moment : goal.returns-clause-any_moment
returns-clause-any_moment g c = λ is so k.
    let means = g.T.Rows.means c.args.state.now in
    let after = g.U.Rows.means c.args._after.now in
    let b = g.B.Bay.disk c.checkpoint.new.bay in
    let kept : KeepsState b c.checkpoint.new.self means = c.in_ok-checkpoint.ensures.settled_ok is k in
    called_moments (g.B.Bay.disk c.args.bay.now) b (g.B.Bay.disk c.append.new.bay) c.args.store.now c.checkpoint.new.self means after c.args.payload.now
    c.checkpoint.ensures.component (c.checkpoint.ensures.settled is k) kept (so kept.payloads kept.is) (c.append.ensures.any_moment kept.payloads kept.keeps)
