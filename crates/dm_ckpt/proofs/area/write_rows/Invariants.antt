use Rattle.std.proofs.Common.{◌≡◌, ℕ, [], ◌++◌, ◌≤◌, take, vec_capacity}
use Rattle.dm_journal.specs.Grammar.{buffer_room}
use Rattle.dm_host.specs.Disk.{Tells}
use Rattle.dm_ckpt.specs.Area.{body, header, Begins}
use Rattle.dm_ckpt.specs.Writing.{WritesBehind, Gathers}
use Rattle.dm_ckpt.proofs.area.write_rows.Given as goal

abbrev pub invariant-loop-k : goal.invariant-loop-k
invariant-loop-k g l = record {
  room : buffer_room ≤ vec_capacity l.buffer;
  forward : 1 ≤ l.place;
  count : g.B.Bay.count l.bay ≡ g.B.Bay.count l.fn.bay;
  behind : WritesBehind l.file (g.B.Bay.disk l.fn.bay) (g.B.Bay.disk l.bay);
  gathers : (gate : ℕ) → Tells (g.B.Bay.disk l.fn.bay) l.file → Begins gate [] ((g.B.Bay.disk l.fn.bay).seen l.file)
      → Gathers (g.B.Bay.disk l.bay) l.file l.place l.buffer.items gate (header l.generation l.size ++ body (take l.k (g.T.Rows.rows l.state)));
}
