use Rattle.std.proofs.Common.{inl, inr, sym, subst}
use Rattle.std.specs.Prelude.{⊤}
use Rattle.dm_host.specs.Works.{Works}
use Rattle.dm_host.proofs.Moments.{and_then}
use Rattle.dm_ckpt.specs.Files.{Mine}
use Rattle.dm_ckpt.specs.State.{At, Keeps, Either}
use Rattle.dm_ckpt.proofs.Meaning.{state_moments}
use Rattle.dm_ckpt.proofs.Outcome.{at_err}
use Rattle.dm_ckpt.proofs.Settling.{resettled, idle_moments, first_of_either, others_alone, area_alone}
use Rattle.dm_ckpt.proofs.store.Store.checkpoint.Goals as goal

pub returns-then-self-clause-any_moment : goal.returns-then-self-clause-any_moment
returns-then-self-clause-any_moment g c = λ ps k. idle_moments (g.B.Bay.disk c.args.bay.now) c.args.self.now ps (g.T.Rows.rows c.args.state.now) k

pub returns-in_err-empty_other-clause-any_moment : goal.returns-in_err-empty_other-clause-any_moment
returns-in_err-empty_other-clause-any_moment g c = λ ps.
    let i = c.self.inside in
    let a = g.B.Bay.disk c.args.bay.now in
    let b = g.B.Bay.disk c.empty_other.new.bay in
    let rows = g.T.Rows.rows c.args.state.now in
    subst (λ (s : At). Keeps a s ps → Works (Mine s.component) a b (Either s.component ps rows)) c.self.view_is
    (λ k. first_of_either i.component ps rows a b (c.empty_other.ensures.any_moment i.generation i.place ps (resettled a _ ps k)))

pub returns-in_err-empty_other-clause-others : goal.returns-in_err-empty_other-clause-others
returns-in_err-empty_other-clause-others g c =
    let i = c.self.inside in
    let a = g.B.Bay.disk c.args.bay.now in
    let b = g.B.Bay.disk c.empty_other.new.bay in
    let rows = g.T.Rows.rows c.args.state.now in
    subst (λ (s : At). Works (Mine s.component) a b (λ x. ⊤)) c.self.view_is (others_alone i.component i.index a b c.empty_other.ensures.others)

pub returns-in_err-fill_other-clause-any_moment : goal.returns-in_err-fill_other-clause-any_moment
returns-in_err-fill_other-clause-any_moment g c = λ ps.
    let i = c.self.inside in
    let a = g.B.Bay.disk c.args.bay.now in
    let b = g.B.Bay.disk c.empty_other.new.bay in
    let rows = g.T.Rows.rows c.args.state.now in
    let d = g.B.Bay.disk c.fill_other.new.bay in
    subst (λ (s : At). Keeps a s ps → Works (Mine s.component) a d (Either s.component ps rows)) c.self.view_is (λ k.
    let before = resettled a _ ps k in
    and_then (Mine i.component) a b d (Either i.component ps rows)
    (first_of_either i.component ps rows a b (c.empty_other.ensures.any_moment i.generation i.place ps before))
    (c.fill_other.ensures.any_moment i.place ps (c.in_ok-empty_other.ensures.ok i.generation i.place ps before)))

pub returns-in_err-fill_other-clause-others : goal.returns-in_err-fill_other-clause-others
returns-in_err-fill_other-clause-others g c =
    let i = c.self.inside in
    let a = g.B.Bay.disk c.args.bay.now in
    let b = g.B.Bay.disk c.empty_other.new.bay in
    let rows = g.T.Rows.rows c.args.state.now in
    let d = g.B.Bay.disk c.fill_other.new.bay in
    subst (λ (s : At). Works (Mine s.component) a d (λ x. ⊤)) c.self.view_is (area_alone i.component i.index a b d c.empty_other.ensures.others c.fill_other.ensures.others)

pub returns-clause-any_moment : goal.returns-clause-any_moment
returns-clause-any_moment g c = λ ps.
    let i = c.self.inside in
    let a = g.B.Bay.disk c.args.bay.now in
    let b = g.B.Bay.disk c.empty_other.new.bay in
    let rows = g.T.Rows.rows c.args.state.now in
    let d = g.B.Bay.disk c.fill_other.new.bay in
    subst (λ (s : At). Keeps a s ps → Works (Mine s.component) a d (Either s.component ps rows)) c.self.view_is (λ k.
    let before = resettled a _ ps k in
    and_then (Mine i.component) a b d (Either i.component ps rows)
    (first_of_either i.component ps rows a b (c.empty_other.ensures.any_moment i.generation i.place ps before))
    (c.fill_other.ensures.any_moment i.place ps (c.in_ok-empty_other.ensures.ok i.generation i.place ps before)))

pub returns-clause-others : goal.returns-clause-others
returns-clause-others g c =
    let i = c.self.inside in
    let a = g.B.Bay.disk c.args.bay.now in
    let b = g.B.Bay.disk c.empty_other.new.bay in
    let rows = g.T.Rows.rows c.args.state.now in
    let d = g.B.Bay.disk c.fill_other.new.bay in
    subst (λ (s : At). Works (Mine s.component) a d (λ x. ⊤)) c.self.view_is (area_alone i.component i.index a b d c.empty_other.ensures.others c.fill_other.ensures.others)

pub returns-clause-ok : goal.returns-clause-ok
returns-clause-ok g c = λ ps k less.
    let i = c.self.inside in
    let a = g.B.Bay.disk c.args.bay.now in
    let b = g.B.Bay.disk c.empty_other.new.bay in
    let rows = g.T.Rows.rows c.args.state.now in
    let d = g.B.Bay.disk c.fill_other.new.bay in
    let before = resettled a _ ps (subst (λ (s : At). Keeps a s ps) (sym c.self.view_is) k) in
    subst (λ (s : At). Keeps d s rows) (sym c.go_over.ensures)
    (c.in_ok-fill_other.ensures.ok i.place ps (c.in_ok-empty_other.ensures.ok i.generation i.place ps before))

pub returns-then-self-clause-settled : goal.returns-then-self-clause-settled
returns-then-self-clause-settled g c = λ is k.
    let a = g.B.Bay.disk c.args.bay.now in
    let state = c.args.state.now in
    state_moments a a c.args.self.now (g.T.Rows.means state) (g.T.Rows.rows state) is k (returns-then-self-clause-any_moment g c)

pub returns-in_err-empty_other-clause-settled : goal.returns-in_err-empty_other-clause-settled
returns-in_err-empty_other-clause-settled g c = λ is k.
    let a = g.B.Bay.disk c.args.bay.now in
    let b = g.B.Bay.disk c.empty_other.new.bay in
    let state = c.args.state.now in
    state_moments a b c.args.self.now (g.T.Rows.means state) (g.T.Rows.rows state) is k (returns-in_err-empty_other-clause-any_moment g c)

pub returns-in_err-empty_other-clause-settled_err : goal.returns-in_err-empty_other-clause-settled_err
returns-in_err-empty_other-clause-settled_err g c = λ is k.
    let i = c.self.inside in
    let a = g.B.Bay.disk c.args.bay.now in
    let before = resettled a _ k.payloads (subst (λ (s : At). Keeps a s k.payloads) (sym c.self.view_is) k.keeps) in
    at_err c.from_residual.result (record {
      old = k.payloads;
      new = g.T.Rows.rows c.args.state.now;
      turns = inl (c.in_err-empty_other.ensures.err i.generation i.place k.payloads before);
      old_is = k.is;
      new_is = is;
    })

pub returns-in_err-fill_other-clause-settled : goal.returns-in_err-fill_other-clause-settled
returns-in_err-fill_other-clause-settled g c = λ is k.
    let a = g.B.Bay.disk c.args.bay.now in
    let d = g.B.Bay.disk c.fill_other.new.bay in
    let state = c.args.state.now in
    state_moments a d c.args.self.now (g.T.Rows.means state) (g.T.Rows.rows state) is k (returns-in_err-fill_other-clause-any_moment g c)

pub returns-in_err-fill_other-clause-settled_err : goal.returns-in_err-fill_other-clause-settled_err
returns-in_err-fill_other-clause-settled_err g c = λ is k.
    let i = c.self.inside in
    let a = g.B.Bay.disk c.args.bay.now in
    let before = resettled a _ k.payloads (subst (λ (s : At). Keeps a s k.payloads) (sym c.self.view_is) k.keeps) in
    at_err c.from_residual-in_err-fill_other.result (record {
      old = k.payloads;
      new = g.T.Rows.rows c.args.state.now;
      turns = inr (c.in_err-fill_other.ensures.err i.place k.payloads (c.in_ok-empty_other.ensures.ok i.generation i.place k.payloads before));
      old_is = k.is;
      new_is = is;
    })

pub returns-clause-settled : goal.returns-clause-settled
returns-clause-settled g c = λ is k.
    let a = g.B.Bay.disk c.args.bay.now in
    let d = g.B.Bay.disk c.fill_other.new.bay in
    let state = c.args.state.now in
    state_moments a d c.args.self.now (g.T.Rows.means state) (g.T.Rows.rows state) is k (returns-clause-any_moment g c)

pub returns-clause-settled_ok : goal.returns-clause-settled_ok
returns-clause-settled_ok g c = λ is k.
    let i = c.self.inside in
    let a = g.B.Bay.disk c.args.bay.now in
    let d = g.B.Bay.disk c.fill_other.new.bay in
    let rows = g.T.Rows.rows c.args.state.now in
    let before = resettled a _ k.payloads (subst (λ (s : At). Keeps a s k.payloads) (sym c.self.view_is) k.keeps) in
    record {
      payloads = rows;
      keeps = subst (λ (s : At). Keeps d s rows) (sym c.go_over.ensures) (c.in_ok-fill_other.ensures.ok i.place k.payloads (c.in_ok-empty_other.ensures.ok i.generation i.place k.payloads before));
      is = is;
    }
