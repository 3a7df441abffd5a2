-- A bay over memory: its disk, and what its calls do.
use Rattle.std.specs.Prelude.{◌≡◌, Bool, reverse}
use Rattle.dm_host.specs.declared.memory_bay.MemBay.{MemBay}
use Rattle.dm_host.specs.Disk.{Disk, Image}
use Rattle.dm_host.specs.Faults.{counted, is_failing}
use Rattle.dm_host.specs.Past.{contents, disk_from}
use Rattle.dm_host.specs.Rot.{rotted, is_unnamed}

-- the bytes of its files, told or not
abbrev pub held : MemBay → Image
held bay = contents bay.files.items

-- it tells the files that no entry of `rot` names
abbrev pub disk_of : MemBay → Disk
disk_of bay = disk_from (is_unnamed bay.rot.items) (reverse bay.log.items) (held bay)

-- its next call is one that fails
abbrev pub fails_next : MemBay → Bool
fails_next bay = is_failing bay.fail.items bay.fuse (counted bay.calls)

-- the bytes of a file when the work of its next call begins
abbrev pub next_held : MemBay → Image
next_held bay g = rotted bay.rot.items (counted bay.calls) g (held bay g)

-- a call leaves the choice of faults as it was, and is counted
pub record Goes (old new : MemBay) : Type 0 where
  pub fail : new.fail.items ≡ old.fail.items
  pub fuse : new.fuse ≡ old.fuse
  pub rot : new.rot.items ≡ old.rot.items
  pub calls : new.calls ≡ counted old.calls

-- nothing but what the files hold was changed
pub record Stands (old new : MemBay) : Type 0 where
  pub fail : new.fail.items ≡ old.fail.items
  pub fuse : new.fuse ≡ old.fuse
  pub rot : new.rot.items ≡ old.rot.items
  pub log : new.log.items ≡ old.log.items
  pub calls : new.calls ≡ old.calls
  pub count : new.count ≡ old.count

-- a call that changed no byte by its own work, and noted nothing
pub record Untouched (old new : MemBay) : Type 0 where
  pub files : held new ≡ next_held old
  pub log : new.log.items ≡ old.log.items
