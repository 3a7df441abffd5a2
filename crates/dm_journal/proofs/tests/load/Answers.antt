use Rattle.std.proofs.Common.{List, ℕ, sym, subst}
use Rattle.dm_journal.specs.Grammar.{AtRest}
use Rattle.dm_journal.specs.State.{At, Keeps}
use Rattle.dm_journal.proofs.Lending.{loaded_more, loaded_all, same_file, same_kept}
use Rattle.dm_journal.proofs.Unique.{opened_rests}
use Rattle.dm_journal.proofs.tests.load.Goals as goal

pub returns-in-None-clause-kept : goal.returns-in-None-clause-kept
returns-in-None-clause-kept g c = λ told.
    let before = c.loop.invariant.reading told in (
      before.0,
      subst (λ (j : At). Keeps (g.B.Bay.disk c.next.new.bay) j before.0) (sym c.ready.ensures)
          (loaded_all (g.B.Bay.disk c.next.new.bay) c.loop.loading _ before.0 c.next.result c.in_ok-next.field-0 c.in_ok-next.was c.in-None.is (c.in_ok-next.ensures.found before.0 before.1) c.next.follows.holds-at-none),
    )

pub returns-in-None-clause-same : goal.returns-in-None-clause-same
returns-in-None-clause-same g c = λ told ps stands.
    let d = g.B.Bay.disk c.next.new.bay in
    let before = c.loop.invariant.reading told in
    let rest : AtRest ps (d.seen c.loop.loading.file) = subst (λ (l : List ℕ). AtRest ps l) (sym c.next.ensures.same) (c.loop.invariant.stands told ps stands) in
    let here : AtRest ps (d.seen c.next.follows.lender-at-none.file) =
    subst (λ (f : ℕ). AtRest ps (d.seen f)) (sym (same_file c.loop.loading c.next.follows.lender-at-none c.next.result c.next.follows.holds-at-none)) rest in
    subst (λ (j : At). Keeps d j ps) (sym c.ready.ensures)
    (same_kept d _ ps before.0
    (loaded_all d c.loop.loading c.next.follows.lender-at-none before.0 c.next.result c.in_ok-next.field-0 c.in_ok-next.was c.in-None.is (c.in_ok-next.ensures.found before.0 before.1) c.next.follows.holds-at-none)
    stands.0 here)

pub loop-init : goal.loop-init
loop-init g c = record {
  reading = λ told. (_, c.in_ok-loading.ensures.reading told);
  stands = λ told ps stands.
      subst (λ (f : ℕ). AtRest ps ((g.B.Bay.disk c.begin.new.bay).seen f)) (sym c.in_ok-loading.ensures.start.0)
      (subst (λ (l : List ℕ). AtRest ps l) (sym (c.in_ok-loading.ensures.content told)) (opened_rests ps ((g.B.Bay.disk c.args.bay.now).seen c.args.file) stands));
}

pub loop-preserved : goal.loop-preserved
loop-preserved g c = record {
  reading = λ told.
      let before = c.loop.invariant.reading told in (
        _,
        loaded_more (g.B.Bay.disk c.next.new.bay) c.loop.loading c.next.follows.lender-at-none before.0 c.next.result c.in_ok-next.field-0 c.in-Some.field-0 c.in_ok-next.was c.in-Some.is
            (c.in_ok-next.ensures.found before.0 before.1) c.next.follows.holds-at-none,
      );
  stands = λ told ps stands.
      subst (λ (f : ℕ). AtRest ps ((g.B.Bay.disk c.next.new.bay).seen f)) (sym (same_file c.loop.loading c.next.follows.lender-at-none c.next.result c.next.follows.holds-at-none))
      (subst (λ (l : List ℕ). AtRest ps l) (sym c.next.ensures.same) (c.loop.invariant.stands told ps stands));
}
