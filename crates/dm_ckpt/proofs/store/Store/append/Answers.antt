use Rattle.std.proofs.Common.{[], ◌∷◌, ◌++◌, sym, ◌∙◌, subst}
use Rattle.std.specs.Prelude.{⊤}
use Rattle.dm_host.specs.Works.{Works}
use Rattle.dm_ckpt.specs.Files.{Mine, log_file}
use Rattle.dm_ckpt.specs.State.{At, Keeps, Either}
use Rattle.dm_ckpt.proofs.Four.{log_mine}
use Rattle.dm_ckpt.proofs.Settling.{resettled, mine_alone}
use Rattle.dm_ckpt.proofs.store.Store.append.Goals as goal

pub returns-in_err-append_to-clause-any_moment : goal.returns-in_err-append_to-clause-any_moment
returns-in_err-append_to-clause-any_moment g c = λ ps.
    let a = g.B.Bay.disk c.args.bay.now in
    let b = g.B.Bay.disk c.append_to.new.bay in
    let payload = c.args.payload.now in
    subst (λ (s : At). Keeps a s ps → Works (Mine s.component) a b (Either s.component ps (ps ++ payload ∷ []))) c.self.view_is
    (λ k. c.append_to.ensures.any_moment c.self.inside.generation ps payload (resettled a _ ps k) c.requires.size (c.deref.ensures.value ∙ c.put_frame.ensures.bytes))

pub returns-in_err-append_to-clause-others : goal.returns-in_err-append_to-clause-others
returns-in_err-append_to-clause-others g c =
    let a = g.B.Bay.disk c.args.bay.now in
    let b = g.B.Bay.disk c.append_to.new.bay in
    let payload = c.args.payload.now in
    subst (λ (s : At). Works (Mine s.component) a b (λ x. ⊤)) c.self.view_is
    (mine_alone c.self.inside.component (log_file c.self.inside.component c.self.inside.index) (log_mine c.self.inside.component c.self.inside.index) a b _ c.append_to.ensures.others)

pub returns-clause-any_moment : goal.returns-clause-any_moment
returns-clause-any_moment g c = λ ps.
    let a = g.B.Bay.disk c.args.bay.now in
    let b = g.B.Bay.disk c.append_to.new.bay in
    let payload = c.args.payload.now in
    subst (λ (s : At). Keeps a s ps → Works (Mine s.component) a b (Either s.component ps (ps ++ payload ∷ []))) c.self.view_is
    (λ k. c.append_to.ensures.any_moment c.self.inside.generation ps payload (resettled a _ ps k) c.requires.size (c.deref.ensures.value ∙ c.put_frame.ensures.bytes))

pub returns-clause-others : goal.returns-clause-others
returns-clause-others g c =
    let a = g.B.Bay.disk c.args.bay.now in
    let b = g.B.Bay.disk c.append_to.new.bay in
    let payload = c.args.payload.now in
    subst (λ (s : At). Works (Mine s.component) a b (λ x. ⊤)) c.self.view_is
    (mine_alone c.self.inside.component (log_file c.self.inside.component c.self.inside.index) (log_mine c.self.inside.component c.self.inside.index) a b _ c.append_to.ensures.others)

pub returns-clause-ok : goal.returns-clause-ok
returns-clause-ok g c = λ ps k.
    let a = g.B.Bay.disk c.args.bay.now in
    let b = g.B.Bay.disk c.append_to.new.bay in
    let payload = c.args.payload.now in
    let before = resettled a _ ps (subst (λ (s : At). Keeps a s ps) (sym c.self.view_is) k) in
    let done = c.in_ok-append_to.ensures.ok c.self.inside.generation ps payload before c.requires.size (c.deref.ensures.value ∙ c.put_frame.ensures.bytes) in
    done
