-- Where the bytes of files are.
use Rattle.std.specs.Prelude.{◌≡◌, ◌≢◌, ℕ, ◌+◌, List, Option, Some, None}
use Rattle.std.specs.BTreeMap.{BTreeMap, get}
use Rattle.std.specs.Ordering.{nat_cmp}
use Rattle.std.specs.Cmp.Lexicographic.{slice_cmp}
use Rattle.dm_site.specs.declared.file.File.{File}
use Rattle.dm_site.specs.declared.file.Form.{Form}
use Rattle.dm_site.specs.declared.file.Form.TheVariants as form

-- where the bytes of an offline file end on the image, 0 of another file
abbrev pub end_of_form : Form → ℕ
end_of_form (form.Regular bytes) = 0
end_of_form (form.Dual bytes bfid place) = 0
end_of_form (form.Offline len bfid place) = place + len

abbrev pub end_of : Option File → ℕ
end_of None = 0
end_of (Some file) = end_of_form file.form

-- what a table has at a path
abbrev pub file_in : BTreeMap (List ℕ) File → List ℕ → Option File
file_in files path = get (slice_cmp nat_cmp) files path

-- the path has this file now; the other paths have what they had
pub record Sets (old new : List ℕ → Option File) (path : List ℕ) (file : File) : Type 0 where
  pub at : new path ≡ Some file
  pub others : (other : List ℕ) → other ≢ path → new other ≡ old other

-- a file is there, and its bytes are so
abbrev pub HasForm : Option File → Form → Type 0
HasForm None form = ⊥
HasForm (Some file) form = file.form ≡ form
