-- The files that tables show, by the contents of bitfiles, and what a change of names and inodes does to them.
use Rattle.std.proofs.Common.{◌≡◌, ℕ, Some, None, Option, option_map, List, [], refl, sym, ap, ◌∙◌, inl, inr}
use Rattle.std.specs.FinMap as map
use Rattle.dm_base.specs.declared.identifier.Ino.{Ino}
use Rattle.dm_tables.specs.Rows.{map_values, adjust}
use Rattle.dm_tables.proofs.Orders.{numbers, paths, same_or}
use Rattle.dm_tables.proofs.Rows.{same_rows, get-here, get-beside, removed-here, removed-beside}
use Rattle.dm_tables.proofs.Adjusted.{adjusted-here, adjusted-beside, get-mapped}
use Rattle.dm_durable.specs.declared.daemon.Contents.{Contents}
use Rattle.dm_durable.specs.declared.daemon.Contents.TheVariants.{Regular, Making, Dual, Offline}
use Rattle.dm_durable.specs.declared.daemon.Inode.{Inode}
use Rattle.dm_durable.specs.Inodes.{with_contents}
use Rattle.dm_durable.specs.Tables.{ByNumber, ByName}
use Rattle.dm_plain.specs.Namespace.{Files}
use Rattle.dm_invariant.specs.StandsFor.{copy_or}

-- ---- the bytes of a file, by the contents

-- the bytes of a file: its own, or the content of its bitfile
abbrev pub content_bytes : ByNumber (List ℕ) → Contents → List ℕ
content_bytes contents (Regular bytes) = bytes
content_bytes contents (Making bytes b) = bytes
content_bytes contents (Dual bytes b) = bytes
content_bytes contents (Offline len b) = copy_or (map.get contents b.0)

-- those of an inode, if it is there
abbrev pub bytes_in : ByNumber (List ℕ) → Option Inode → List ℕ
bytes_in contents None = []
bytes_in contents (Some i) = content_bytes contents i.contents

-- those of the file that a name leads to
abbrev pub bytes_named : ByNumber (List ℕ) → ByNumber Inode → Option Ino → Option (List ℕ)
bytes_named contents inodes None = None
bytes_named contents inodes (Some n) = Some (bytes_in contents (map.get inodes n.0))

-- the files that names and inodes show with these contents
abbrev pub files_shown : ByName Ino → ByNumber Inode → ByNumber (List ℕ) → Files
files_shown names inodes contents = map_values (λ path n. bytes_in contents (map.get inodes n.0)) names

named_at : (contents : ByNumber (List ℕ)) (inodes : ByNumber Inode) (name : Option Ino)
    → option_map (λ n. bytes_in contents (map.get inodes n.0)) name ≡ bytes_named contents inodes name
named_at contents inodes None = refl
named_at contents inodes (Some n) = refl

-- the bytes of a file that is shown are those that its name leads to
pub get-shown : (names : ByName Ino) (inodes : ByNumber Inode) (contents : ByNumber (List ℕ)) (path : List ℕ)
    → map.get (files_shown names inodes contents) path ≡ bytes_named contents inodes (map.get names path)
get-shown names inodes contents path =
    get-mapped paths (λ q n. bytes_in contents (map.get inodes n.0)) names path ∙ named_at contents inodes (map.get names path)

-- ---- files after a change of names and inodes

-- a file has the same bytes where its inode has
named_same : (contents after : ByNumber (List ℕ)) (inodes later : ByNumber Inode) (name : Option Ino)
    → ((n : Ino) → name ≡ Some n → bytes_in after (map.get later n.0) ≡ bytes_in contents (map.get inodes n.0))
    → bytes_named after later name ≡ bytes_named contents inodes name
named_same contents after inodes later None same = refl
named_same contents after inodes later (Some n) same = ap (λ bytes. Some bytes) (same n refl)

-- the same files where each inode has the same bytes
pub same_files : (names : ByName Ino) (inodes later : ByNumber Inode) (contents after : ByNumber (List ℕ))
    → ((n : ℕ) → bytes_in after (map.get later n) ≡ bytes_in contents (map.get inodes n))
    → files_shown names later after ≡ files_shown names inodes contents
same_files names inodes later contents after same =
    same_rows paths _ _ (λ q.
    get-shown names later after q ∙ named_same contents after inodes later (map.get names q) (λ n is. same n.0)
    ∙ sym (get-shown names inodes contents q))

-- a file is put at a path, whose number no other path has
pub files_put : (names : ByName Ino) (inodes : ByNumber Inode) (contents : ByNumber (List ℕ)) (path : List ℕ) (n : Ino) (i : Inode)
    → ((q : List ℕ) (m : Ino) → map.get names q ≡ Some m → m.0 ≡ n.0 → q ≡ path)
    → files_shown (map.insert names path n) (map.insert inodes n.0 i) contents
    ≡ map.insert (files_shown names inodes contents) path (content_bytes contents i.contents)
files_put names inodes contents path n i alone =
    let later = map.insert inodes n.0 i in
    let new = map.insert names path n in
    let old = files_shown names inodes contents in
    same_rows paths _ _ (λ q. get-shown new later contents q ∙ elim (same_or paths path q) [
      | inl same ↦
          ap (λ p. bytes_named contents later (map.get new p)) same ∙ ap (bytes_named contents later) (get-here paths names path n)
          ∙ ap (λ o. Some (bytes_in contents o)) (get-here numbers inodes n.0 i)
          ∙ sym (ap (map.get (map.insert old path (content_bytes contents i.contents))) same
          ∙ get-here paths old path (content_bytes contents i.contents))
      | inr differ ↦
          ap (bytes_named contents later) (get-beside paths names path n q differ)
          ∙ named_same contents contents inodes later (map.get names q)
          (λ m is. ap (bytes_in contents) (get-beside numbers inodes n.0 i m.0 (λ same. differ (alone q m is same))))
          ∙ sym (get-beside paths old path (content_bytes contents i.contents) q differ ∙ get-shown names inodes contents q)
    ])

-- and one is taken away
pub files_cut : (names : ByName Ino) (inodes : ByNumber Inode) (contents : ByNumber (List ℕ)) (path : List ℕ) (n : Ino)
    → ((q : List ℕ) (m : Ino) → map.get names q ≡ Some m → m.0 ≡ n.0 → q ≡ path)
    → files_shown (map.remove names path) (map.remove inodes n.0) contents ≡ map.remove (files_shown names inodes contents) path
files_cut names inodes contents path n alone =
    let later = map.remove inodes n.0 in
    let left = map.remove names path in
    let old = files_shown names inodes contents in
    same_rows paths _ _ (λ q. get-shown left later contents q ∙ elim (same_or paths path q) [
      | inl same ↦
          ap (λ p. bytes_named contents later (map.get left p)) same ∙ ap (bytes_named contents later) (removed-here paths names path)
          ∙ sym (ap (map.get (map.remove old path)) same ∙ removed-here paths old path)
      | inr differ ↦
          ap (bytes_named contents later) (removed-beside paths names path q differ)
          ∙ named_same contents contents inodes later (map.get names q)
          (λ m is. ap (bytes_in contents) (removed-beside numbers inodes n.0 m.0 (λ same. differ (alone q m is same))))
          ∙ sym (removed-beside paths old path q differ ∙ get-shown names inodes contents q)
    ])

-- an inode takes another form
reformed_in : (contents : ByNumber (List ℕ)) (f : Contents → Contents) (o : Option Inode)
    → ((i : Inode) → o ≡ Some i → content_bytes contents (f i.contents) ≡ content_bytes contents i.contents)
    → bytes_in contents (option_map (with_contents f) o) ≡ bytes_in contents o
reformed_in contents f None same = refl
reformed_in contents f (Some i) same = same i refl

pub files_reformed : (names : ByName Ino) (inodes : ByNumber Inode) (contents : ByNumber (List ℕ)) (n : ℕ) (f : Contents → Contents)
    → ((i : Inode) → map.get inodes n ≡ Some i → content_bytes contents (f i.contents) ≡ content_bytes contents i.contents)
    → files_shown names (adjust inodes n (with_contents f)) contents ≡ files_shown names inodes contents
files_reformed names inodes contents n f same =
    let later = adjust inodes n (with_contents f) in
    same_files names inodes later contents contents (λ m. elim (same_or numbers n m) [
      | inl is ↦
          ap (λ k. bytes_in contents (map.get later k)) is ∙ ap (bytes_in contents) (adjusted-here numbers inodes n (with_contents f))
          ∙ reformed_in contents f (map.get inodes n) same ∙ sym (ap (λ k. bytes_in contents (map.get inodes k)) is)
      | inr differ ↦ ap (bytes_in contents) (adjusted-beside numbers inodes n (with_contents f) m differ)
    ])

-- and so does each of them
pub all_reformed : (names : ByName Ino) (inodes : ByNumber Inode) (contents : ByNumber (List ℕ)) (f : Contents → Contents)
    → ((n : ℕ) (i : Inode) → map.get inodes n ≡ Some i → content_bytes contents (f i.contents) ≡ content_bytes contents i.contents)
    → files_shown names (map_values (λ n i. with_contents f i) inodes) contents ≡ files_shown names inodes contents
all_reformed names inodes contents f same =
    same_files names inodes (map_values (λ n i. with_contents f i) inodes) contents contents (λ m.
    ap (bytes_in contents) (get-mapped numbers (λ n i. with_contents f i) inodes m)
    ∙ reformed_in contents f (map.get inodes m) (λ i is. same m i is))
