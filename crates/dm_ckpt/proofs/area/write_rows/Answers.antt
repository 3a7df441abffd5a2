use Rattle.std.proofs.Common.{OnOk, rules, ℕ, List, [], ◌++◌, take, refl, sym, ◌∙◌, subst, arith}
use Rattle.std.proofs.lemmas.List.{append-nil}
use Rattle.dm_host.specs.Disk.{Only}
use Rattle.dm_ckpt.specs.Area.{body, header, content, Begins}
use Rattle.dm_ckpt.specs.Writing.{Gathers}
use Rattle.dm_ckpt.proofs.Bodies.{front_more, front_all}
use Rattle.dm_ckpt.proofs.Outcome.{at_ok}
use Rattle.dm_ckpt.proofs.Told.{cause_after}
use Rattle.dm_ckpt.proofs.Writing.{writes_none, writes_then, writes_same, writes_told, writes_was_told, gathers_start, gathers_reach, gathers_end, begins_of}
use Rattle.dm_ckpt.proofs.area.write_rows.Goals as goal

pub loop-k-init : goal.loop-k-init
loop-k-init g c = record {
  room = omega arith;
  forward = omega arith;
  count = refl;
  behind = writes_none c.args.file (g.B.Bay.disk c.args.bay.now);
  gathers = λ gate told begins.
      subst (λ (l : List ℕ). Gathers (g.B.Bay.disk c.args.bay.now) c.args.file 1 c.put_header.new.buffer.items gate l)
      (c.put_header.ensures.bytes ∙ sym (append-nil (header c.args.generation c.args.size)))
      (gathers_start (g.B.Bay.disk c.args.bay.now) c.args.file gate c.put_header.new.buffer.items begins);
}

pub gather-requires-clause-reach : goal.gather-requires-clause-reach
gather-requires-clause-reach g c = λ told.
    let before = writes_was_told c.args.file _ _ c.loop-k.invariant.behind told in
    gathers_reach (g.B.Bay.disk c.loop-k.bay) c.args.file c.loop-k.place c.loop-k.buffer.items _ _
    (c.loop-k.invariant.gathers _ before (begins_of _ (c.requires.gate before)))

pub returns-in_err-gather-clause-behind : goal.returns-in_err-gather-clause-behind
returns-in_err-gather-clause-behind g c = writes_then c.args.file _ _ _ c.loop-k.invariant.behind c.gather.ensures.behind

pub returns-in_err-gather-clause-cause : goal.returns-in_err-gather-clause-cause
returns-in_err-gather-clause-cause g c = search (rules, c.loop-k.invariant.count)

pub loop-k-preserved : goal.loop-k-preserved
loop-k-preserved g c = record {
  room = c.gather.ensures.room;
  forward = c.in_ok-gather.ensures.forward;
  count = c.in_ok-gather.ensures.cause.none ∙ c.loop-k.invariant.count;
  behind = writes_then c.args.file _ _ _ c.loop-k.invariant.behind c.gather.ensures.behind;
  gathers = λ gate told begins.
      let rows = g.T.Rows.rows c.args.state.now in
      subst (λ (l : List ℕ). Gathers (g.B.Bay.disk c.gather.new.bay) c.args.file c.gather.new.place c.gather.new.buffer.items gate l)
      (front_more (header c.args.generation c.args.size) rows c.loop-k.k (omega arith))
      (c.in_ok-gather.ensures.ok gate _ (writes_told c.args.file _ _ c.loop-k.invariant.behind told) (c.loop-k.invariant.gathers gate told begins));
}

pub flush-requires-clause-reach : goal.flush-requires-clause-reach
flush-requires-clause-reach g c = λ told.
    let before = writes_was_told c.args.file _ _ c.loop-k.invariant.behind told in
    gathers_reach (g.B.Bay.disk c.loop-k.bay) c.args.file c.loop-k.place c.loop-k.buffer.items _ _
    (c.loop-k.invariant.gathers _ before (begins_of _ (c.requires.gate before)))

pub returns-in_err-flush-clause-behind : goal.returns-in_err-flush-clause-behind
returns-in_err-flush-clause-behind g c = writes_then c.args.file _ _ _ c.loop-k.invariant.behind c.flush.ensures.behind

pub returns-in_err-flush-clause-cause : goal.returns-in_err-flush-clause-cause
returns-in_err-flush-clause-cause g c = search (rules, c.loop-k.invariant.count)

pub returns-clause-ok : goal.returns-clause-ok
returns-clause-ok g c = λ gate told begins.
    let rows = g.T.Rows.rows c.args.state.now in
    let d = g.B.Bay.disk c.flush.new.bay in
    let all : Gathers d c.args.file c.flush.new.place [] gate (header c.args.generation c.args.size ++ body (take c.loop-k.k rows)) =
    c.in_ok-flush.ensures.ok gate _ (writes_told c.args.file _ _ c.loop-k.invariant.behind told) (c.loop-k.invariant.gathers gate told begins) in
    let there : Begins gate (content c.args.generation rows) (d.seen c.args.file) =
    subst (λ (l : List ℕ). Begins gate l (d.seen c.args.file)) (front_all c.args.generation c.args.size rows c.loop-k.k (omega arith) c.requires.size)
    (gathers_end d c.args.file c.flush.new.place gate _ all) in
    at_ok c.sync.result (subst (λ (l : List ℕ). Begins gate (content c.args.generation rows) l) (sym c.sync.ensures.same) there)

pub returns-clause-durable : goal.returns-clause-durable
returns-clause-durable g c = λ told.
    subst (λ (l : List ℕ). OnOk c.sync.result (Only l ((g.B.Bay.disk c.sync.new.self).may_leave c.args.file))) (sym c.sync.ensures.same)
    (c.sync.ensures.durable (writes_told c.args.file _ _ c.flush.ensures.behind (writes_told c.args.file _ _ c.loop-k.invariant.behind told)))

pub returns-clause-behind : goal.returns-clause-behind
returns-clause-behind g c =
    writes_then c.args.file _ _ _ (writes_then c.args.file _ _ _ c.loop-k.invariant.behind c.flush.ensures.behind)
    (writes_same c.args.file _ _ c.sync.ensures.works c.sync.ensures.same)

pub returns-clause-cause : goal.returns-clause-cause
returns-clause-cause g c = cause_after _ _ _ c.sync.result (c.in_ok-flush.ensures.cause.none ∙ c.loop-k.invariant.count) c.sync.ensures.cause
