use Rattle.std.proofs.Common.{ℕ, sym, ◌∙◌, subst}
use Rattle.dm_ckpt.specs.Meaning.{KeepsState}
use Rattle.dm_ckpt.specs.State.{At, StandsFor, Stands}
use Rattle.dm_ckpt.proofs.Lending.{same_component, next_stands, end_stands, stands_before, loaded_state}
use Rattle.dm_ckpt.proofs.Rowing.{loaded_more}
use Rattle.dm_ckpt.proofs.tests.reloaded.Goals as goal

pub returns-in-None-clause-state : goal.returns-in-None-clause-state
returns-in-None-clause-state g c = λ told s.
    let b = g.B.Bay.disk c.loop.bay in
    let d = g.B.Bay.disk c.next.new.bay in
    let means = g.T.Rows.means c.args._state.now in
    let before = c.loop.invariant.reading told in
    let here = subst (λ (k : ℕ). StandsFor k s.payloads b.seen) (sym c.loop.invariant.component) (c.loop.invariant.means told s.payloads s.stands) in
    subst (λ (j : At). KeepsState d j means) (sym c.ready.ensures)
    (loaded_state d c.loop.loading c.next.follows.lender-at-none means before.0 s.payloads c.next.result c.in_ok-next.field-0 c.in_ok-next.was c.in-None.is
    (c.in_ok-next.ensures.found before.0 before.1) c.next.follows.holds-at-none (c.in_ok-next.ensures.all before.0 s.payloads before.1 here) s.is)

pub returns-in-None-clause-stands : goal.returns-in-None-clause-stands
returns-in-None-clause-stands g c =
    let d = g.B.Bay.disk c.next.new.bay in
    subst (λ (j : At). Stands d j) (sym c.ready.ensures)
    (end_stands d c.loop.loading c.next.follows.lender-at-none c.next.result c.in_ok-next.field-0 c.in_ok-next.was c.in-None.is (c.in_ok-next.ensures.stands c.loop.invariant.stands)
    c.next.follows.holds-at-none)

pub loop-init : goal.loop-init
loop-init g c = record {
  reading = λ told. (_, c.in_ok-loading.ensures.reading told);
  means = λ told ps stands. c.in_ok-loading.ensures.means told ps stands;
  component = c.in_ok-loading.ensures.component;
  stands = c.in_ok-loading.ensures.stands;
}

pub loop-preserved : goal.loop-preserved
loop-preserved g c =
    let b = g.B.Bay.disk c.loop.bay in
    let d = g.B.Bay.disk c.next.new.bay in
    let new = c.next.follows.lender-at-none in
    record {
      reading = λ told.
          let before = c.loop.invariant.reading told in (
            _,
            loaded_more d c.loop.loading new before.0 c.next.result c.in_ok-next.field-0 c.in-Some.field-0 c.in_ok-next.was c.in-Some.is (c.in_ok-next.ensures.found before.0 before.1)
                c.next.follows.holds-at-none,
          );
      means = λ told ps stands. stands_before b d c.loop.loading c.args.component ps c.loop.invariant.component c.next.ensures.unchanged (c.loop.invariant.means told ps stands);
      component = same_component c.loop.loading new c.next.result c.next.follows.holds-at-none ∙ c.loop.invariant.component;
      stands = next_stands d c.loop.loading new c.next.result c.in_ok-next.field-0 c.in-Some.field-0 c.in_ok-next.was c.in-Some.is (c.in_ok-next.ensures.stands c.loop.invariant.stands)
          c.next.follows.holds-at-none;
    }
