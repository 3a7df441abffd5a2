use Rattle.std.proofs.Common.{ℕ, sym, subst}
use Rattle.dm_host.specs.Works.{Works, Here}
use Rattle.dm_journal.specs.State.{with_landed}
use Rattle.dm_ckpt.specs.declared.doubt.Doubt.{Doubt}
use Rattle.dm_ckpt.specs.declared.doubt.Doubt.TheVariants.{Sure, Payload}
use Rattle.dm_ckpt.specs.Files.{Mine, log_file, Unchanged}
use Rattle.dm_ckpt.specs.State.{At, at, Keeps, Doubts, Stands, LogAt, LogDoubtful, LogsAt}
use Rattle.dm_ckpt.proofs.Four.{log_mine}
use Rattle.dm_ckpt.proofs.Settling.{quiet_one, stands_still}
use Rattle.dm_ckpt.proofs.store.Store.heal.Goals as goal

pub returns-in_err-landed-in-Payload-clause-any_moment : goal.returns-in_err-landed-in-Payload-clause-any_moment
returns-in_err-landed-in-Payload-clause-any_moment g c =
    let a = g.B.Bay.disk c.args.bay.now in
    let b = g.B.Bay.disk c.landed_in.new.bay in
    subst (λ (s : At). Works (Mine s.component) a b (Here (Mine s.component) a)) c.self.view_is
    (quiet_one c.self.inside.component (log_file c.self.inside.component c.self.inside.index) (log_mine c.self.inside.component c.self.inside.index) a b c.landed_in.ensures.works)

pub returns-in_ok-landed-in-Payload-clause-any_moment : goal.returns-in_ok-landed-in-Payload-clause-any_moment
returns-in_ok-landed-in-Payload-clause-any_moment g c =
    let a = g.B.Bay.disk c.args.bay.now in
    let b = g.B.Bay.disk c.landed_in.new.bay in
    subst (λ (s : At). Works (Mine s.component) a b (Here (Mine s.component) a)) c.self.view_is
    (quiet_one c.self.inside.component (log_file c.self.inside.component c.self.inside.index) (log_mine c.self.inside.component c.self.inside.index) a b c.landed_in.ensures.works)

pub returns-in_err-settle_closing-in-Closing-clause-stands : goal.returns-in_err-settle_closing-in-Closing-clause-stands
returns-in_err-settle_closing-in-Closing-clause-stands g c =
    let a = g.B.Bay.disk c.args.bay.now in
    let b = g.B.Bay.disk c.settle_closing.new.bay in
    let u = subst (λ (s : At). Unchanged s.component a b) c.self.view_is c.settle_closing.ensures.unchanged in
    stands_still c.args.self.now a b u

pub returns-in_err-settle_turning-in-Turning-clause-stands : goal.returns-in_err-settle_turning-in-Turning-clause-stands
returns-in_err-settle_turning-in-Turning-clause-stands g c =
    let a = g.B.Bay.disk c.args.bay.now in
    let b = g.B.Bay.disk c.settle_turning.new.bay in
    let u = subst (λ (s : At). Unchanged s.component a b) c.self.view_is c.settle_turning.ensures.unchanged in
    stands_still c.args.self.now a b u

pub returns-in_ok-landed-in-Payload-clause-payload : goal.returns-in_ok-landed-in-Payload-clause-payload
returns-in_ok-landed-in-Payload-clause-payload g c = λ ps payload k.
    let a = g.B.Bay.disk c.args.bay.now in
    let b = g.B.Bay.disk c.landed_in.new.bay in
    let i = c.self.inside in
    let landed = c.in_ok-landed-in-Payload.landed in
    let here : Doubts a (at i.component i.index i.generation i.place (Payload c.in-Payload.n)) ps payload =
    subst (λ (x : Doubt). Doubts a (at i.component i.index i.generation i.place x) ps payload) c.in-Payload.is (subst (λ (s : At). Doubts a s ps payload) (sym c.self.view_is) k) in
    subst (λ (p : ℕ). Keeps b (at i.component i.index i.generation p Sure) (with_landed landed ps payload)) (sym c.behind-self-inside.ensures)
    (c.in_ok-landed-in-Payload.ensures.ok i.generation ps payload here)

pub returns-in_ok-landed-in-Payload-clause-stands : goal.returns-in_ok-landed-in-Payload-clause-stands
returns-in_ok-landed-in-Payload-clause-stands g c = λ stands.
    let a = g.B.Bay.disk c.args.bay.now in
    let b = g.B.Bay.disk c.landed_in.new.bay in
    let i = c.self.inside in
    let here : LogDoubtful a i.component i.index i.place c.in-Payload.n =
    subst (λ (x : Doubt). LogsAt a i.component i.index i.place x) c.in-Payload.is (subst (λ (s : At). Stands a s) (sym c.self.view_is) stands) in
    subst (λ (p : ℕ). LogAt b i.component i.index p) (sym c.behind-self-inside.ensures) (c.in_ok-landed-in-Payload.ensures.stands here)
