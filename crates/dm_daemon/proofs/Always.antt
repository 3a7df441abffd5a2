-- Calls that may always be made are ready in every state.
use Rattle.std.proofs.Common.{ℕ, List, Option, None, Some}
use Rattle.dm_daemon.specs.Always.{NeedsNothing}
use Rattle.dm_daemon_acts.specs.Acts.{Ready, Usable}
use Rattle.dm_durable.specs.declared.daemon.Contents.{Contents}
use Rattle.dm_durable.specs.declared.daemon.Contents.TheVariants as contents
use Rattle.dm_model.specs.declared.call.DaemonCall.{DaemonCall}
use Rattle.dm_model.specs.declared.call.DaemonCall.TheVariants as call
use Rattle.dm_model.specs.declared.state.Daemon.{Daemon}
use Rattle.dm_model.specs.DaemonCalls.{attributes, begin_recall, begin_recall_of, daemon_plan, release, remove}
use Rattle.dm_model.specs.DaemonShare.{daemon_after_heal}
use Rattle.dm_model.specs.Files.{File, file_at}
use Rattle.dm_model.specs.Guards.{AllHold}

release_own : (d : Daemon) (path : List ℕ) (now : ℕ) (o : Option File) → AllHold (release d path now o).own
release_own d path now None = tt
release_own d path now (Some f) = tt

remove_own : (d : Daemon) (path : List ℕ) (now : ℕ) (o : Option File) → AllHold (remove d path now o).own
remove_own d path now None = tt
remove_own d path now (Some f) = tt

attributes_own : (d : Daemon) (path : List ℕ) (o : Option File) → AllHold (attributes d path o).own
attributes_own d path None = tt
attributes_own d path (Some f) = tt

recall_own : (d : Daemon) (k : ℕ) (f : File) (c : Contents) → AllHold (begin_recall_of d k f c).own
recall_own d k f (contents.Regular bytes) = tt
recall_own d k f (contents.Making bytes b) = tt
recall_own d k f (contents.Dual bytes b) = tt
recall_own d k f (contents.Offline len b) = tt

begin_recall_own : (d : Daemon) (k : ℕ) (o : Option File) → AllHold (begin_recall d k o).own
begin_recall_own d k None = tt
begin_recall_own d k (Some f) = recall_own d k f f.inode.contents

always_own : (d : Daemon) (c : DaemonCall) → NeedsNothing c → AllHold (daemon_plan d c).own
always_own d (call.BeginPut path asked now k) needs = absurd needs
always_own d (call.CopyStored k group now) needs = absurd needs
always_own d (call.EndPut k now) needs = absurd needs
always_own d (call.Release path now) needs = release_own d path now.0 (file_at d path)
always_own d (call.BeginRecall path k) needs = begin_recall_own d k (file_at d path)
always_own d (call.EndRecall k bytes now) needs = absurd needs
always_own d (call.DropRecall k) needs = absurd needs
always_own d (call.Write path bytes now) needs = absurd needs
always_own d (call.Patch path offset bytes now) needs = absurd needs
always_own d (call.Remove path now) needs = remove_own d path now.0 (file_at d path)
always_own d (call.MakeDump name now) needs = absurd needs
always_own d (call.Undump name now) needs = tt
always_own d (call.Restore name path target now) needs = absurd needs
always_own d (call.SetAge age now) needs = tt
always_own d (call.HardDelete now) needs = absurd needs
always_own d (call.NextDropping after) needs = tt
always_own d (call.Dropped b now) needs = absurd needs
always_own d (call.Attributes path) needs = attributes_own d path (file_at d path)
always_own d call.List needs = tt

always_usable : (d : Daemon) (c : DaemonCall) → NeedsNothing c → Usable d c
always_usable d (call.BeginPut path asked now k) needs = absurd needs
always_usable d (call.CopyStored k group now) needs = absurd needs
always_usable d (call.EndPut k now) needs = absurd needs
always_usable d (call.Release path now) needs = tt
always_usable d (call.BeginRecall path k) needs = tt
always_usable d (call.EndRecall k bytes now) needs = absurd needs
always_usable d (call.DropRecall k) needs = absurd needs
always_usable d (call.Write path bytes now) needs = absurd needs
always_usable d (call.Patch path offset bytes now) needs = absurd needs
always_usable d (call.Remove path now) needs = tt
always_usable d (call.MakeDump name now) needs = absurd needs
always_usable d (call.Undump name now) needs = tt
always_usable d (call.Restore name path target now) needs = absurd needs
always_usable d (call.SetAge age now) needs = tt
always_usable d (call.HardDelete now) needs = absurd needs
always_usable d (call.NextDropping after) needs = tt
always_usable d (call.Dropped b now) needs = absurd needs
always_usable d (call.Attributes path) needs = tt
always_usable d call.List needs = tt

pub always_ready : (d : Daemon) (c : DaemonCall) → NeedsNothing c → Ready d c
always_ready d c needs = record {
  may = λ landed. always_own (daemon_after_heal landed d) c needs;
  usable = λ landed. always_usable (daemon_after_heal landed d) c needs;
}
