-- A volume whose image is a file of a bay, and what a write makes of that file.
use Rattle.std.specs.Prelude.{◌≡◌, ◌⊎◌, ℕ, ◌+◌, ◌≤◌, List, length, Result, IsTrue, OnOk, OnErr}
use Rattle.dm_base.specs.declared.serial.Vsn.{Vsn}
use Rattle.dm_base.specs.declared.identifier.GroupId.{GroupId}
use Rattle.dm_host.specs.declared.Failed.{Failed}
use Rattle.dm_host.specs.Disk.{Disk, Only, Same, Settled, Tells, Torn, Written, part}
use Rattle.dm_host.specs.Works.{Works, File, Follows}
use Rattle.dm_rules.specs.Known.{Known, agrees_with_known, known_with_write, known_without_range, HasKnown}
use Rattle.dm_rules.specs.Label.{first_zone, label}

-- a volume: its serial number, its group, the file that is its image, and the size that its label gives
pub record Descriptor : Type 0 where
  pub vsn : Vsn
  pub group : GroupId
  pub file : ℕ
  pub size : ℕ

-- the label of a volume under an epoch, which gives its version
abbrev pub label_in : Descriptor → ℕ → ℕ → List ℕ
label_in v version epoch = label v.vsn.0 v.group.0 version epoch v.size

-- a range that zones may take
abbrev pub IsInZones : ℕ → ℕ → ℕ → Type 0
IsInZones size place n = (first_zone ≤ place) × (place + n ≤ size)

-- a range that may be read: one that zones may take, or the label
abbrev pub IsReadable : ℕ → ℕ → ℕ → Type 0
IsReadable size place n = IsInZones size place n ⊎ ((place ≡ 0) × (n ≡ first_zone))

-- What a write of these bytes at a place of a file makes of a disk. Other files stay, by `works`. What is said of content
-- is said where the device tells of this very file.
pub record Replaces {T : Type 0} (file place : ℕ) (bytes : List ℕ) (old new : Disk) (result : Result T Failed) : Type 0 where
  -- done, the bytes stand there and every other byte stays
  pub stands : Tells old file → OnOk result (Written place bytes (old.seen file) (new.seen file))
  -- failed, any bytes may stand there, and every other byte stays
  pub torn : Tells old file → Torn place (length bytes) (old.seen file) (new.seen file)
  -- done, the bytes are known
  pub done : Tells old file → (known : Known) → HasKnown known (old.seen file) → OnOk result (HasKnown (known_with_write place bytes known) (new.seen file))
  -- failed, nothing is known of the range
  pub failed : Tells old file → (known : Known) → HasKnown known (old.seen file) → OnErr result (HasKnown (known_without_range place (length bytes) known) (new.seen file))
  -- done, a crash leaves what is read
  pub durable : Tells old file → OnOk result (Only (new.seen file) (new.may_leave file))
  -- done, the bytes are known of each content that a crash leaves
  pub kept : Tells old file → (known : Known) → HasKnown known (old.seen file) → OnOk result (Settled new file (HasKnown (known_with_write place bytes known)))
  -- a crash at any moment since may leave any bytes in the range, and what was known elsewhere
  pub any_moment : (known : Known) → Settled old file (HasKnown known) → Works (File file) old new (λ x. HasKnown (known_without_range place (length bytes) known) (x file))
  pub works : Works (File file) old new (Follows (Torn place (length bytes)) file old)

-- The known bytes stand in a file: in what a read gives of it, and in each content that a crash leaves of it.
pub record Keeps (d : Disk) (file : ℕ) (known : Known) : Type 0 where
  pub seen : HasKnown known (d.seen file)
  pub left : Settled d file (HasKnown known)

-- What a read of n bytes at a place of a file gives, and makes of a disk.
pub record Reads {T : Type 0} (file place n : ℕ) (given : List ℕ) (old new : Disk) (result : Result T Failed) : Type 0 where
  -- done, it gave what stands there, and zeros past the end
  pub bytes : Tells old file → OnOk result (given ≡ part (old.seen file) place n)
  -- so bytes that agree with all that is known
  pub agrees : Tells old file → (known : Known) → HasKnown known (old.seen file) → OnOk result (IsTrue (agrees_with_known known place given))
  -- it changed no content, also where it failed
  pub same : new.seen file ≡ old.seen file
  pub works : Works (File file) old new (Follows Same file old)
