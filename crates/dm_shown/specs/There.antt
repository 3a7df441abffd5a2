-- What is there as long as something asks for it, and what is dead.
use Rattle.std.specs.Prelude.{◌≡◌, ◌≢◌, ℕ, true, false, None, Some, List}
use Rattle.std.specs.FinMap as map
use Rattle.dm_base.specs.declared.identifier.GroupId.{GroupId}
use Rattle.dm_base.specs.declared.identifier.Secs.{Secs}
use Rattle.dm_base.specs.declared.serial.Vsn.{Vsn}
use Rattle.dm_base.specs.declared.volume.Chunk.{Chunk}
use Rattle.dm_base.specs.declared.volume.Piece.{Piece}
use Rattle.dm_rules.specs.Numbers.{greater}
use Rattle.dm_tables.specs.Rows.{EachRow}
use Rattle.dm_durable.specs.declared.daemon.DumpInode.{DumpInode}
use Rattle.dm_durable.specs.declared.daemon.DumpInode.TheVariants.{Kept as KeptFile, Named as NamedFile}
use Rattle.dm_durable.specs.declared.daemon.Entry.{Entry}
use Rattle.dm_durable.specs.declared.group.GroupRecord.{GroupRecord}
use Rattle.dm_durable.specs.declared.group.GroupStep.TheVariants as group_step
use Rattle.dm_durable.specs.declared.group.VolumeRow.{VolumeRow}
use Rattle.dm_durable.specs.Dumps.{is_young}
use Rattle.dm_durable.specs.Entries.{groups_asked, is_stored}
use Rattle.dm_durable.specs.Volumes.{tip_in}
use Rattle.dm_model.specs.declared.answer.Answer.{Answer}
use Rattle.dm_model.specs.declared.answer.Answer.TheVariants as answer
use Rattle.dm_model.specs.declared.call.Call.TheVariants as call
use Rattle.dm_model.specs.declared.call.Component.TheVariants as component
use Rattle.dm_model.specs.declared.call.Event.TheVariants as event
use Rattle.dm_model.specs.declared.call.GroupCall.TheVariants as group_call
use Rattle.dm_model.specs.declared.state.Joint.{Joint}
use Rattle.dm_model.specs.declared.state.OpenRequest.{OpenRequest}
use Rattle.dm_model.specs.declared.state.Reusing.{Reusing}
use Rattle.dm_model.specs.declared.state.Side.{Side}
use Rattle.dm_model.specs.Files.{is_recall}
use Rattle.dm_model.specs.Step.{Stepped, step}
use Rattle.dm_invariant.specs.Among.{IsAmong}
use Rattle.dm_invariant.specs.Doubts.{InGroup}
use Rattle.dm_invariant.specs.Moves.{IsReadyAt}

-- ---- requests

-- the entry of an open request is there and isn't being dropped; each group that a recall's entry asks has the bitfile
pub record RequestThere (j : Joint) (r : OpenRequest) : Type 0 where
  pub entry : Entry
  pub is : map.get j.daemon.tables.entries r.bfid.0 ≡ Some entry
  pub lasting : entry.dropping ≡ false
  pub copies : is_recall r.kind ≡ true → (g : GroupId) → IsAmong g (groups_asked entry) → InGroup j.sides g.0 r.bfid.0

-- ---- young dumps

-- a bitfile has its entry, of this length, with every copy stored and in its group; and no hard delete took it
pub record BitfileThere (j : Joint) (b len : ℕ) : Type 0 where
  pub entry : Entry
  pub is : map.get j.daemon.tables.entries b ≡ Some entry
  pub sized : entry.len ≡ len
  pub whole : is_stored entry ≡ true
  pub lasting : entry.dropping ≡ false
  pub copies : (g : GroupId) → IsAmong g (groups_asked entry) → InGroup j.sides g.0 b
  pub untaken : map.get j.history.taken b ≡ None

-- a file of a dump is there
abbrev pub FileThere : Joint → DumpInode → Type 0
FileThere j (KeptFile bytes) = Unit {0}
FileThere j (NamedFile len b) = BitfileThere j b.0 len

-- each file of each young dump is there
abbrev pub YoungThere : Joint → Type 0
YoungThere j =
    EachRow j.daemon.tables.dumps (λ name d. is_young j.daemon.tables.time.0 d ≡ true → EachRow d.files (λ path f. FileThere j f))

-- ---- volumes that are used again

-- a volume that is used again, at this time under this mount: it was held since the hold before, or it is empty; no chunk is on
-- it, no reservation has a zone there, and no other mount of it is open
pub record VolumeDead (s : Side) (vsn : List ℕ) (m now : ℕ) : Type 0 where
  pub volume : VolumeRow
  pub is : map.get s.group.tables.volumes vsn ≡ Some volume
  pub ready : IsReadyAt now s.group.conf.hold (tip_in s.group.tips vsn volume) volume.held
  pub dead : EachRow s.group.tables.bitfiles (λ b row. (c : Chunk) → IsAmong c row.chunks → c.vsn.0 ≢ vsn)
  pub unreserved : EachRow s.group.reservations (λ n r. (p : Piece) → IsAmong p r.pieces → p.vsn.0 ≢ vsn)
  pub unmounted : EachRow s.mounts (λ n x. x.vsn.0 ≡ vsn → n ≡ m)

-- so is each volume that a reuse is accepted of, in the state before it
abbrev pub ReusedDead : Joint → Type 0
ReusedDead j =
    (w m : ℕ) (g : GroupId) (now : Secs) (s : Side) (x : Reusing) (after : Joint)
    → map.get j.sides g.0 ≡ Some s → map.get s.group.reuses m ≡ Some x
    → step j w (event.Call (call.Group g (group_call.Reuse m now))) ≡ Stepped after answer.Reused
    → VolumeDead s x.vsn.0 m (greater now.0 s.group.tables.time.0)

-- and of which a reuse in doubt is found to have landed: no mount of it is open
abbrev pub LandedDead : Joint → Type 0
LandedDead j =
    (w m : ℕ) (g : GroupId) (s : Side) (r : GroupRecord) (vsn : Vsn) (epoch version : ℕ) (after : Joint) (a : Answer)
    → map.get j.sides g.0 ≡ Some s → s.group.doubt ≡ Some r → r.step ≡ group_step.Reuse vsn epoch version
    → step j w (event.Landed (component.Group g)) ≡ Stepped after a
    → VolumeDead s vsn.0 m r.time.0
