-- The files of a session, and the numbers that it has given.
use Rattle.std.specs.Prelude.{◌≡◌, ℕ, ◌+◌, ◌≤◌, ◌<◌, List, [], length, Option, Some, None}
use Rattle.dm_host.specs.Disk.{part}
use Rattle.dm_plain.specs.Namespace.{Namespace, bytes_of}
use Rattle.dm_site.specs.Files.{file_in}
use Rattle.dm_site.specs.declared.archive.Archive.{Archive}
use Rattle.dm_site.specs.declared.file.File.{File}
use Rattle.dm_site.specs.declared.file.Form.{Form}
use Rattle.dm_site.specs.declared.file.Form.TheVariants as form

pub record State : Type 0 where
  pub file_at : List ℕ → Option File  -- the file of a path
  pub last_change : ℕ  -- the number of the last change, 0 before the first
  pub next_counter : ℕ  -- the counter of the next bitfile
  pub tip : ℕ  -- where the next zone is written on the volume

-- what the code keeps
abbrev pub state_of : Archive → State
state_of a = record { file_at = file_in a.files; last_change = a.last_change; next_counter = a.next_counter; tip = a.tip }

-- a session begins with no file, and with a volume that has its label alone
abbrev pub beginning : State
beginning = record { file_at = λ path. None; last_change = 0; next_counter = 1; tip = 64 }

-- The bytes that the form stands for, on the image of the volume where they are offline, are these.
abbrev pub Holds : Form → Option (List ℕ) → List ℕ → ℕ → Type 0
Holds (form.Regular bytes) plain image tip = plain ≡ Some bytes
Holds (form.Dual bytes bfid place) plain image tip = plain ≡ Some bytes
Holds (form.Offline len bfid place) plain image tip =
    (plain ≡ Some (part image place len)) × (0 < len → (place + len ≤ tip) × (place + len ≤ length image))

abbrev pub HoldsIf : Option File → Option (List ℕ) → List ℕ → ℕ → Type 0
HoldsIf None plain image tip = plain ≡ None
HoldsIf (Some file) plain image tip = Holds file.form plain image tip

-- The files are those of the plain namespace. The bytes of an offline one stand at its place on the image.
abbrev pub Agrees : Namespace → State → List ℕ → Type 0
Agrees plain state image = (path : List ℕ) → HoldsIf (state.file_at path) (bytes_of path plain) image state.tip
