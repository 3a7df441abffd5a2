-- What a command is answered, and what it leaves.
use Rattle.std.specs.Prelude.{◌≡◌, ◌⊎◌, ℕ, ◌+◌, ◌<◌, ◌≤◌, if◌then◌else◌, ◌==◌, List, [], ◌∷◌, length, Option, Some, None}
use Rattle.dm_base.specs.declared.command.Command.{Command}
use Rattle.dm_base.specs.declared.command.Command.TheVariants as command
use Rattle.dm_base.specs.declared.reply.Reply.{Reply}
use Rattle.dm_base.specs.declared.reply.Reply.TheVariants as reply
use Rattle.dm_base.specs.declared.reply.FileState.{FileState}
use Rattle.dm_base.specs.declared.reply.FileState.TheVariants as found
use Rattle.dm_base.specs.declared.identifier.Bfid.{Bfid}
use Rattle.dm_base.specs.declared.identifier.GroupId.{GroupId}
use Rattle.dm_base.specs.declared.error.CopyFault.{CopyFault}
use Rattle.dm_base.specs.Limits.{file_limit, number_limit}
use Rattle.dm_rules.specs.Numbers.{bfid_of}
use Rattle.dm_rules.specs.Room.{room}
use Rattle.dm_rules.specs.Version.{first_version}
use Rattle.dm_proto.specs.declared.heard.Heard.{Heard}
use Rattle.dm_proto.specs.declared.heard.Heard.TheVariants as heard
use Rattle.dm_site.specs.declared.file.File.{File}
use Rattle.dm_site.specs.declared.file.Form.{Form}
use Rattle.dm_site.specs.declared.file.Form.TheVariants as form
use Rattle.dm_site.specs.Files.{Sets}
use Rattle.dm_site.specs.Zones.{IsZone}
use Rattle.dm_site.specs.State.{State}

-- The one volume: its size, and the most bytes of one chunk on it. A zone of one chunk has 80 bytes before
-- the chunk's bytes.
abbrev pub volume_size : ℕ
volume_size = 424

abbrev pub chunk_size : ℕ
chunk_size = 1000

abbrev pub zone_front : ℕ
zone_front = 80

-- the identifier of the site's bitfile with this counter; the site is number 1
abbrev pub own_bfid : ℕ → Bfid
own_bfid counter = record { 0 = bfid_of 1 counter }

abbrev pub group_of : GroupId
group_of = record { 0 = 1 }

-- where a volume's next zone stands after one of so many bytes of a file; a file without bytes gets none
abbrev pub tip_after : ℕ → ℕ → ℕ
tip_after tip len = if len == 0 then tip else tip + (zone_front + len)

-- no fault, and nothing has changed
pub record Unchanged (old : State) (faults : ℕ) (new : State) : Type 0 where
  pub no_fault : faults ≡ 0
  pub same : new ≡ old

-- a write is done: the file is new, or has the bytes in place of its own
pub record IsWritten (old : State) (path bytes : List ℕ) (change : ℕ) (new : State) : Type 0 where
  pub unused : old.last_change < number_limit
  pub next : change ≡ old.last_change + 1
  pub sets : Sets old.file_at new.file_at path (record { change = change; form = form.Regular bytes })
  pub last_change : new.last_change ≡ change
  pub next_counter : new.next_counter ≡ old.next_counter
  pub tip : new.tip ≡ old.tip

-- the change number before was the last
pub record ChangesUsedUp (old : State) (limit : ℕ) : Type 0 where
  pub used_up : old.last_change ≡ number_limit
  pub limit_is : limit ≡ number_limit

-- the answer to a write
abbrev pub Writes : State → List ℕ → List ℕ → ℕ → Reply → State → Type 0
Writes old path bytes faults (reply.Changed change) new = (faults ≡ 0) × IsWritten old path bytes change new
Writes old path bytes faults (reply.Limit limit) new = ChangesUsedUp old limit × Unchanged old faults new
Writes old path bytes faults reply.NoMemory new = Unchanged old faults new
Writes old path bytes faults other new = ⊥

-- the file is online and not stored, with these bytes, and a counter is left for its bitfile
pub record MayBePut (old : State) (path bytes : List ℕ) (change : ℕ) : Type 0 where
  pub regular : old.file_at path ≡ Some (record { change = change; form = form.Regular bytes })
  pub unused : old.next_counter ≤ number_limit

-- the put has taken its counter, and the tip stands here
pub record Took (old : State) (after : ℕ) (new : State) : Type 0 where
  pub next_counter : new.next_counter ≡ old.next_counter + 1
  pub last_change : new.last_change ≡ old.last_change
  pub tip : new.tip ≡ after

-- a put is done: the file is offline, its bytes on the volume
pub record IsStored (old : State) (path : List ℕ) (faults : ℕ) (bfid : Bfid) (new : State) : Type 0 where
  pub bytes : List ℕ
  pub change : ℕ
  pub may : MayBePut old path bytes change
  pub fits : length bytes ≤ room first_version volume_size old.tip chunk_size
  pub no_fault : faults ≡ 0
  pub bfid_is : bfid ≡ own_bfid old.next_counter
  pub sets : Sets old.file_at new.file_at path (record { change = change; form = form.Offline (length bytes) (own_bfid old.next_counter) (old.tip + zone_front) })
  pub took : Took old (tip_after old.tip (length bytes)) new

-- the volume's device reported faults: the file stays, and the zone's range is left unused
pub record StoreFailed (old : State) (path : List ℕ) (faults : ℕ) (group : GroupId) (new : State) : Type 0 where
  pub bytes : List ℕ
  pub change : ℕ
  pub may : MayBePut old path bytes change
  pub some : 0 < length bytes
  pub fits : length bytes ≤ room first_version volume_size old.tip chunk_size
  pub fault : 0 < faults
  pub group_is : group ≡ group_of
  pub files : new.file_at ≡ old.file_at
  pub took : Took old (tip_after old.tip (length bytes)) new

-- the volume has less room than the file needs
pub record LacksRoom (old : State) (path : List ℕ) (faults have need : ℕ) (new : State) : Type 0 where
  pub bytes : List ℕ
  pub change : ℕ
  pub may : MayBePut old path bytes change
  pub have_is : have ≡ room first_version volume_size old.tip chunk_size
  pub need_is : need ≡ length bytes
  pub lacks : have < need
  pub no_fault : faults ≡ 0
  pub files : new.file_at ≡ old.file_at
  pub took : Took old old.tip new

-- the file is in a state in which it is not put
abbrev pub IsFound : FileState → Form → Type 0
IsFound found.Dual (form.Dual bytes bfid place) = Unit {0}
IsFound found.Offline (form.Offline len bfid place) = Unit {0}
IsFound other form = ⊥

pub record IsStoredAlready (old : State) (path : List ℕ) (found : FileState) : Type 0 where
  pub file : File
  pub at : old.file_at path ≡ Some file
  pub state : IsFound found file.form

-- a file that could be put, but the counter before was the last
pub record CountersUsedUp (old : State) (path : List ℕ) (limit : ℕ) : Type 0 where
  pub bytes : List ℕ
  pub change : ℕ
  pub regular : old.file_at path ≡ Some (record { change = change; form = form.Regular bytes })
  pub used_up : old.next_counter ≡ number_limit + 1
  pub limit_is : limit ≡ number_limit

-- the answer to a put with release
abbrev pub Puts : State → List ℕ → ℕ → Reply → State → Type 0
Puts old path faults (reply.Stored bfid) new = IsStored old path faults bfid new
Puts old path faults reply.NoFile new = (old.file_at path ≡ None) × Unchanged old faults new
Puts old path faults (reply.WrongState found) new = IsStoredAlready old path found × Unchanged old faults new
Puts old path faults (reply.Limit limit) new = CountersUsedUp old path limit × Unchanged old faults new
Puts old path faults (reply.NoRoom have need) new = LacksRoom old path faults have need new
Puts old path faults (reply.GroupFault group) new = StoreFailed old path faults group new
Puts old path faults reply.NoMemory new = Unchanged old faults new
Puts old path faults other new = ⊥

-- the bytes of an online file
abbrev pub OnlineBytes : Form → List ℕ → Type 0
OnlineBytes (form.Regular bytes) found = found ≡ bytes
OnlineBytes (form.Dual bytes bfid place) found = found ≡ bytes
OnlineBytes (form.Offline len bfid place) found = ⊥

-- the file is online, and has these bytes
pub record IsOnline (old : State) (path bytes : List ℕ) : Type 0 where
  pub file : File
  pub at : old.file_at path ≡ Some file
  pub has : OnlineBytes file.form bytes

-- an offline file, of so many bytes
pub record IsOffline (old : State) (path : List ℕ) (len change : ℕ) (bfid : Bfid) (place : ℕ) : Type 0 where
  pub at : old.file_at path ≡ Some (record { change = change; form = form.Offline len bfid place })

-- a recall is done: the bytes are online again, and stay on the volume
pub record IsRecalled (old : State) (path bytes : List ℕ) (new : State) : Type 0 where
  pub change : ℕ
  pub bfid : Bfid
  pub place : ℕ
  pub offline : IsOffline old path (length bytes) change bfid place
  pub sets : Sets old.file_at new.file_at path (record { change = change; form = form.Dual bytes bfid place })
  pub last_change : new.last_change ≡ old.last_change
  pub next_counter : new.next_counter ≡ old.next_counter
  pub tip : new.tip ≡ old.tip

-- the one copy couldn't be read, for so many faults of the volume's device
pub record RecallFailed (old : State) (path : List ℕ) (faults : ℕ) (copies : List (Option CopyFault)) (new : State) : Type 0 where
  pub len : ℕ
  pub change : ℕ
  pub bfid : Bfid
  pub place : ℕ
  pub offline : IsOffline old path len change bfid place
  pub some : 0 < len
  pub fault : 0 < faults
  pub copies_are : copies ≡ Some (record { group = group_of; faults = faults; damaged = None }) ∷ None ∷ []
  pub same : new ≡ old

-- the answer to a read
abbrev pub Reads : State → List ℕ → ℕ → Reply → State → Type 0
Reads old path faults (reply.Content bytes) new =
    (faults ≡ 0) × ((IsOnline old path bytes × (new ≡ old)) ⊎ IsRecalled old path bytes new)
Reads old path faults reply.NoFile new = (old.file_at path ≡ None) × Unchanged old faults new
Reads old path faults (reply.AllCopies copies) new = RecallFailed old path faults copies new
Reads old path faults reply.NoMemory new = Unchanged old faults new
Reads old path faults other new = ⊥

-- a reply with bytes has these
abbrev pub IsContent : Reply → Option (List ℕ) → Type 0
IsContent (reply.Content bytes) plain = plain ≡ Some bytes
IsContent other plain = Unit {0}

-- what is stored for a file: the zone of its bytes, which fits, under the bitfile's identifier
pub record CanStore (tip : ℕ) (bytes zone : List ℕ) (len : ℕ) (bfid : Bfid) (counter : ℕ) : Type 0 where
  pub is_zone : IsZone zone bytes
  pub len_is : len ≡ length bytes
  pub bfid_is : bfid ≡ own_bfid counter
  pub fits : length bytes ≤ room first_version volume_size tip chunk_size

-- A step: what is heard, the faults that the device reported meanwhile, the reply, and what it leaves. A command that
-- the program doesn't do yet is answered as a line that is none.
abbrev pub Step : State → Heard → ℕ → Reply → State → Type 0
Step old (heard.Command (command.Write path bytes)) faults answer new = Writes old path bytes faults answer new
Step old (heard.Command (command.LongWrite path len)) faults answer new = (answer ≡ reply.Limit file_limit) × Unchanged old faults new
Step old (heard.Command (command.PutRelease path)) faults answer new = Puts old path faults answer new
Step old (heard.Command (command.Read path)) faults answer new = Reads old path faults answer new
Step old other faults answer new = (answer ≡ reply.Syntax) × Unchanged old faults new
