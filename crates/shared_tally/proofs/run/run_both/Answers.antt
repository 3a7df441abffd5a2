use Rattle.std.proofs.Common.{◌∙◌, length, sym, rules}
use Rattle.dm_spine.specs.Passes.{past_of, seen_by}
use Rattle.shared_tally.proofs.Runs.{only_these, total_is_sum, never_full, works_few, works_full, works_all}
use Rattle.shared_tally.proofs.run.run_both.Goals as goal

pub returns-clause-first : goal.returns-clause-first
returns-clause-first g c =
    let b = c.in_ok-counter in
    let w = c.work_both-one in
    works_all b.counter.table.shared.key 1 c.args.first.now b.one w.result.0.0 w.result.0.1 (past_of c.finish_all-finished.result.0) b.ensures.number b.ensures.seen.0 (sym c.is_err.ensures.value ∙ c.if-is_err.false) w.ensures.first c.finish_all-finished.ensures.one

pub returns-clause-second : goal.returns-clause-second
returns-clause-second g c =
    let b = c.in_ok-counter in
    let w = c.work_both-one in
    works_all b.counter.table.shared.key 2 c.args.second.now b.two w.result.1.0 w.result.1.1 (past_of c.finish_all-finished.result.0) b.ensures.number b.ensures.seen.1 (sym c.is_err-2.ensures.value ∙ c.if-is_err-2.false) w.ensures.second c.finish_all-finished.ensures.two

pub returns-clause-only : goal.returns-clause-only
returns-clause-only g c = only_these (past_of c.finish_all-finished.result.0) c.finish_all-finished.ensures.legal

pub returns-clause-total : goal.returns-clause-total
returns-clause-total g c = search rules

pub returns-clause-sum : goal.returns-clause-sum
returns-clause-sum g c =
    returns-clause-total g c ∙ total_is_sum (past_of c.finish_all-finished.result.0) c.args.first.now c.args.second.now c.finish_all-finished.ensures.legal (returns-clause-first g c) (returns-clause-second g c)

pub unreachable-requires : goal.unreachable-requires
unreachable-requires g c =
    let b = c.in_ok-counter in
    let w = c.work_both-one in
    let key = b.counter.table.shared.key in
    let f = c.finish_all-finished in
    never_full (past_of f.result.0) (seen_by w.result.0.0) (seen_by w.result.1.0) (length c.args.first.now) (length c.args.second.now) f.ensures.legal f.ensures.one f.ensures.two
    (works_few key 1 c.args.first.now b.one w.result.0.0 w.result.0.1 b.ensures.seen.0 w.ensures.first)
    (works_few key 2 c.args.second.now b.two w.result.1.0 w.result.1.1 b.ensures.seen.1 w.ensures.second)
    c.requires
    (f.ensures.first_full (works_full key 1 c.args.first.now b.one w.result.0.0 w.result.0.1 b.ensures.number (sym c.is_err.ensures.value ∙ c.if-is_err.true) w.ensures.first))

pub unreachable-requires-then-is_err-2 : goal.unreachable-requires-then-is_err-2
unreachable-requires-then-is_err-2 g c =
    let b = c.in_ok-counter in
    let w = c.work_both-one in
    let key = b.counter.table.shared.key in
    let f = c.finish_all-finished in
    never_full (past_of f.result.0) (seen_by w.result.0.0) (seen_by w.result.1.0) (length c.args.first.now) (length c.args.second.now) f.ensures.legal f.ensures.one f.ensures.two
    (works_few key 1 c.args.first.now b.one w.result.0.0 w.result.0.1 b.ensures.seen.0 w.ensures.first)
    (works_few key 2 c.args.second.now b.two w.result.1.0 w.result.1.1 b.ensures.seen.1 w.ensures.second)
    c.requires
    (f.ensures.second_full (works_full key 2 c.args.second.now b.two w.result.1.0 w.result.1.1 b.ensures.number (sym c.is_err-2.ensures.value ∙ c.if-is_err-2.true) w.ensures.second))
