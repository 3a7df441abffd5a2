use Rattle.std.proofs.Common.{◌≡◌, ◌++◌, take}
use Rattle.dm_spine.specs.Passes.{seen_by}
use Rattle.shared_tally.specs.Runs.{entries_by, entries_of}
use Rattle.shared_tally.proofs.session.Session.add_all.Given as goal

abbrev pub invariant-loop-amount : goal.invariant-loop-amount
invariant-loop-amount g l =
    (l.self.worker ≡ l.fn.self.worker)
    × (l.self.lock.now ≡ l.fn.self.lock.now)
    × (entries_by l.fn.self.worker (seen_by l.self.pass) ≡ entries_by l.fn.self.worker (seen_by l.fn.self.pass) ++ entries_of l.fn.self.worker l.fn.self.lock.now.table.shared.key.number (take l.amount-index l.amounts))
