-- How a run ended, as a number.
use Rattle.std.specs.Prelude.{◌≡◌, ℕ, List, []}
use Rattle.dm_proto.specs.Stream.{Ends, AtEnd, Inside}
use Rattle.dm_site.specs.declared.session.Stop.{Stop}
use Rattle.dm_site.specs.declared.session.Stop.TheVariants as stop
use Rattle.dm_site.specs.declared.status.Status.{Status}
use Rattle.dm_site.specs.declared.status.Status.TheVariants as status

abbrev pub number_of : Status → ℕ
number_of status.Done = 0
number_of status.NoRun = 1
number_of status.SourceFailed = 4
number_of status.ReplyCut = 5
number_of status.DeviceFailed = 6
number_of status.OutOfMemory = 7
number_of status.InputCut = 8
number_of status.BytesUsedUp = 9

-- why a session ended before its input did
abbrev pub status_of : Stop → Status
status_of stop.ReplyCut = status.ReplyCut
status_of stop.OutOfMemory = status.OutOfMemory
status_of stop.LineTooLong = status.InputCut

-- at the end of the input nothing is begun, or it ends inside of what is
abbrev pub EndsReader : List ℕ → Status → Type 0
EndsReader begun status.Done = Ends begun AtEnd
EndsReader begun status.InputCut = Ends begun Inside
EndsReader begun other = ⊥
