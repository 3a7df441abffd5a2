use Rattle.std.proofs.Common.{◌≡◌, ◌-◌, ◌≤◌, length, drop}
use Rattle.dm_host.specs.Disk.{Same}
use Rattle.dm_host.specs.Works.{Works, File, Follows}
use Rattle.dm_host.specs.Disk.{Tells}
use Rattle.dm_ckpt.specs.Area.{BeginsWithRows}
use Rattle.dm_ckpt.proofs.survey.are_rows.Given as goal

abbrev pub invariant-loop-next : goal.invariant-loop-next
invariant-loop-next g l = record {
  above : l.place ≤ l.next;
  within : l.next ≤ l.end;
  count : g.B.Bay.count l.bay ≡ g.B.Bay.count l.fn.bay;
  same : (g.B.Bay.disk l.bay).seen l.file ≡ (g.B.Bay.disk l.fn.bay).seen l.file;
  works : Works (File l.file) (g.B.Bay.disk l.fn.bay) (g.B.Bay.disk l.bay) (Follows Same l.file (g.B.Bay.disk l.fn.bay));
  onward : Tells (g.B.Bay.disk l.fn.bay) l.file → l.end ≤ length ((g.B.Bay.disk l.fn.bay).seen l.file)
      → BeginsWithRows (l.end - l.next) (drop l.next ((g.B.Bay.disk l.fn.bay).seen l.file)) → BeginsWithRows (l.end - l.place) (drop l.place ((g.B.Bay.disk l.fn.bay).seen l.file));
  back : Tells (g.B.Bay.disk l.fn.bay) l.file → l.end ≤ length ((g.B.Bay.disk l.fn.bay).seen l.file)
      → BeginsWithRows (l.end - l.place) (drop l.place ((g.B.Bay.disk l.fn.bay).seen l.file)) → BeginsWithRows (l.end - l.next) (drop l.next ((g.B.Bay.disk l.fn.bay).seen l.file));
}

abbrev pub decreases-loop-next : goal.decreases-loop-next
decreases-loop-next g l = l.end - l.next
