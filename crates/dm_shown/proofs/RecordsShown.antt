-- What each record of the daemon does to the namespace that its tables show.
use Rattle.std.proofs.Common.{◌≡◌, ℕ, ◌+◌, ◌≤◌, Bool, true, false, Some, None, Option, IsSome, option_map, List, refl, sym, ap, subst, ◌∙◌, inl, inr, arith}
use Rattle.std.specs.Option.{option_and_then, option_map_or}
use Rattle.std.specs.FinMap as map
use Rattle.dm_base.specs.declared.identifier.Bfid.{Bfid}
use Rattle.dm_base.specs.declared.identifier.GroupId.{GroupId}
use Rattle.dm_base.specs.declared.identifier.Ino.{Ino}
use Rattle.dm_base.specs.declared.identifier.Secs.{Secs}
use Rattle.dm_tables.specs.Rows.{EachRow, map_values}
use Rattle.dm_tables.proofs.Orders.{numbers, paths, same_or}
use Rattle.dm_tables.proofs.Rows.{same_rows, get-here, get-beside, removed-here, removed-beside}
use Rattle.dm_tables.proofs.Adjusted.{get-mapped}
use Rattle.dm_durable.specs.declared.daemon.Contents.{Contents}
use Rattle.dm_durable.specs.declared.daemon.Contents.TheVariants.{Regular, Making, Dual, Offline}
use Rattle.dm_durable.specs.declared.daemon.DaemonRecord.{DaemonRecord}
use Rattle.dm_durable.specs.declared.daemon.DaemonStep.{DaemonStep}
use Rattle.dm_durable.specs.declared.daemon.DaemonStep.TheVariants.{Write, Remove, BeginPut, Stored, EndPut, Release, Taken, Dump, Undump, Restore, HardDelete, Dropped, Restart, Age}
use Rattle.dm_durable.specs.declared.daemon.DaemonTables.{DaemonTables}
use Rattle.dm_durable.specs.declared.daemon.Dump.{Dump as DumpRow}
use Rattle.dm_durable.specs.declared.daemon.DumpInode.{DumpInode}
use Rattle.dm_durable.specs.declared.daemon.DumpInode.TheVariants.{Kept as KeptFile, Named as NamedFile}
use Rattle.dm_durable.specs.declared.daemon.Entry.{Entry}
use Rattle.dm_durable.specs.declared.daemon.Inode.{Inode}
use Rattle.dm_durable.specs.Daemon.{after_begin_put, after_begin_put_at, after_record, after_release, after_remove, after_restore, after_step, bfid_of, number_or}
use Rattle.dm_durable.specs.DaemonConditions.{MayBeMade, MayBeginPut, MayFollow, MayRestore, MayStep, MayWrite}
use Rattle.dm_durable.specs.DaemonJournal.{IsGiven, MayBeDumpFile, MayBeNamed}
use Rattle.dm_durable.specs.Dumps.{as_restored, file_dumped, file_dumped_if, file_in, files_dumped, is_young, new_dump, with_least}
use Rattle.dm_durable.specs.Inodes.{as_ended, as_making, as_offline, as_recalled, bitfile_of, bytes_online, length_of, with_contents}
use Rattle.dm_durable.specs.Tables.{ByNumber, ByName}
use Rattle.dm_model.specs.Effects.{contents_with}
use Rattle.dm_model.specs.Files.{file_named, file_of}
use Rattle.dm_model.specs.Project.{plain_run, steps_of_record, steps_of_step}
use Rattle.dm_plain.specs.Namespace.{Namespace, PlainDump, Files, bytes_in as in_dump, dump_of, with_file}
use Rattle.dm_plain.specs.Steps.{bytes_dumped, copy_of, with_lower_least, with_restored_file, with_age, with_dump, without_dump, without_file}
use Rattle.dm_invariant.specs.Doubts.{TakenRight}
use Rattle.dm_invariant.specs.Files.{FilesKept, HeldRightly}
use Rattle.dm_invariant.specs.StandsFor.{copy_or}
use Rattle.dm_invariant.proofs.Options.{value_of}
use Rattle.dm_landing.proofs.NamedRows.{next_not_given}
use Rattle.dm_shown.proofs.DumpsShown.{SameYoung, dump_shown, dumped_bytes, same_later, same_lowered, young_in, young_there}
use Rattle.dm_shown.proofs.FilesShown.{all_reformed, bytes_in, bytes_named, content_bytes, files_cut, files_put, files_reformed, files_shown, get-shown, same_files}
use Rattle.dm_shown.proofs.NamespaceShown.{Agrees}

-- the contents after a step, of these tables
abbrev pub contents_after : DaemonTables → ByNumber (List ℕ) → DaemonStep → ByNumber (List ℕ)
contents_after t contents (BeginPut path b groups) = contents_with b.0 (file_named t.inodes (map.get t.names path)) contents
contents_after t contents (Write path change bytes) = contents
contents_after t contents (Remove path change) = contents
contents_after t contents (Stored b group) = contents
contents_after t contents (EndPut n b dual) = contents
contents_after t contents (Release path) = contents
contents_after t contents (Taken n bytes) = contents
contents_after t contents (Dump name) = contents
contents_after t contents (Undump name) = contents
contents_after t contents (Restore name path target change) = contents
contents_after t contents (HardDelete bfids) = contents
contents_after t contents (Dropped b) = contents
contents_after t contents Restart = contents
contents_after t contents (Age age) = contents

-- what is taken is the content
abbrev pub TakesRight : ByNumber Inode → ByNumber (List ℕ) → DaemonStep → Type 0
TakesRight inodes contents (Taken n bytes) = TakenRight inodes contents n.0 bytes
TakesRight inodes contents (Write path change bytes) = Unit {0}
TakesRight inodes contents (Remove path change) = Unit {0}
TakesRight inodes contents (BeginPut path b groups) = Unit {0}
TakesRight inodes contents (Stored b group) = Unit {0}
TakesRight inodes contents (EndPut n b dual) = Unit {0}
TakesRight inodes contents (Release path) = Unit {0}
TakesRight inodes contents (Dump name) = Unit {0}
TakesRight inodes contents (Undump name) = Unit {0}
TakesRight inodes contents (Restore name path target change) = Unit {0}
TakesRight inodes contents (HardDelete bfids) = Unit {0}
TakesRight inodes contents (Dropped b) = Unit {0}
TakesRight inodes contents Restart = Unit {0}
TakesRight inodes contents (Age age) = Unit {0}

-- ---- tables that show the same

-- files that are the same, and the rest as it was
pub same_shown : (t u : DaemonTables) (contents : ByNumber (List ℕ)) (ns : Namespace) → u.time ≡ t.time → u.dumps ≡ t.dumps → u.age ≡ t.age
    → files_shown u.names u.inodes contents ≡ files_shown t.names t.inodes contents → Agrees t contents ns → Agrees u contents ns
same_shown t u contents ns time dumps age files a = record {
  files = a.files ∙ sym files;
  dumps = λ name.
      subst (λ (s : Secs). SameYoung s.0 (map.get ns.dumps name) (option_map (dump_shown contents) (map.get u.dumps name))) (sym time)
      (subst (λ (d : ByName DumpRow). SameYoung t.time.0 (map.get ns.dumps name) (option_map (dump_shown contents) (map.get d name))) (sym dumps) (a.dumps name));
  now = a.now ∙ sym (ap (λ (s : Secs). s.0) time);
  age = a.age ∙ sym age;
}

-- a later time
pub time_shown : (t : DaemonTables) (contents : ByNumber (List ℕ)) (ns : Namespace) (time : Secs) → t.time.0 ≤ time.0 → Agrees t contents ns
    → Agrees (record t { time = time }) contents (record ns { now = time.0 })
time_shown t contents ns time on a = record {
  files = a.files;
  dumps = λ name.
      same_later t.time.0 time.0 (map.get ns.dumps name) (option_map (dump_shown contents) (map.get t.dumps name)) on (a.dumps name);
  now = refl;
  age = a.age;
}

-- ---- the forms of a file

ended_bytes : (contents : ByNumber (List ℕ)) (dual : Bool) (c : Contents) → content_bytes contents (as_ended dual c) ≡ content_bytes contents c
ended_bytes contents true (Making bytes b) = refl
ended_bytes contents false (Making bytes b) = refl
ended_bytes contents dual (Regular bytes) = refl
ended_bytes contents dual (Dual bytes b) = refl
ended_bytes contents dual (Offline len b) = refl

released_bytes : (entries : ByNumber Entry) (contents : ByNumber (List ℕ)) (c : Contents) → HeldRightly entries contents c
    → content_bytes contents (as_offline c) ≡ content_bytes contents c
released_bytes entries contents (Regular bytes) held = refl
released_bytes entries contents (Making bytes b) held = refl
released_bytes entries contents (Dual bytes b) held = ap copy_or held.1
released_bytes entries contents (Offline len b) held = refl

recalled_bytes : (contents : ByNumber (List ℕ)) (bytes : List ℕ) (c : Contents)
    → ((b : Bfid) (len : ℕ) → c ≡ Offline len b → map.get contents b.0 ≡ Some bytes)
    → content_bytes contents (as_recalled bytes c) ≡ content_bytes contents c
recalled_bytes contents bytes (Regular own) right = refl
recalled_bytes contents bytes (Making own b) right = refl
recalled_bytes contents bytes (Dual own b) right = refl
recalled_bytes contents bytes (Offline len b) right = sym (ap copy_or (right b len refl))

begun_bytes : (contents : ByNumber (List ℕ)) (b : Bfid) (c : Contents) → MayBeMade c
    → content_bytes (map.insert contents b.0 (bytes_online c)) (as_making b c) ≡ content_bytes contents c
begun_bytes contents b (Regular bytes) may = refl
begun_bytes contents b (Making bytes d) may = refl
begun_bytes contents b (Dual bytes d) may = absurd may
begun_bytes contents b (Offline len d) may = absurd may

restored_bytes : (contents : ByNumber (List ℕ)) (f : DumpInode) → content_bytes contents (as_restored f) ≡ dumped_bytes contents f
restored_bytes contents (KeptFile bytes) = refl
restored_bytes contents (NamedFile len b) = refl

-- ---- a dump of all files

dumped_same : (entries : ByNumber Entry) (contents : ByNumber (List ℕ)) (c : Contents) → HeldRightly entries contents c
    → dumped_bytes contents (file_dumped c) ≡ content_bytes contents c
dumped_same entries contents (Regular bytes) held = refl
dumped_same entries contents (Making bytes b) held = refl
dumped_same entries contents (Dual bytes b) held = ap copy_or held.1
dumped_same entries contents (Offline len b) held = refl

copy_same : (entries : ByNumber Entry) (contents : ByNumber (List ℕ)) (o : Option Inode)
    → ((i : Inode) → o ≡ Some i → HeldRightly entries contents i.contents) → dumped_bytes contents (file_dumped_if o) ≡ bytes_in contents o
copy_same entries contents None held = refl
copy_same entries contents (Some i) held = dumped_same entries contents i.contents (held i refl)

copy_named : (entries : ByNumber Entry) (inodes : ByNumber Inode) (contents : ByNumber (List ℕ)) (o : Option Ino)
    → EachRow inodes (λ n i. HeldRightly entries contents i.contents)
    → option_map (dumped_bytes contents) (option_map (λ n. file_dumped_if (map.get inodes n.0)) o) ≡ bytes_named contents inodes o
copy_named entries inodes contents None held = refl
copy_named entries inodes contents (Some n) held =
    ap (λ x. Some x) (copy_same entries contents (map.get inodes n.0) (λ i is. held n.0 i is))

-- the files of a dump that is made are those that are shown
files_copied : (names : ByName Ino) (entries : ByNumber Entry) (inodes : ByNumber Inode) (contents : ByNumber (List ℕ))
    → EachRow inodes (λ n i. HeldRightly entries contents i.contents)
    → map_values (λ path f. dumped_bytes contents f) (files_dumped names inodes) ≡ files_shown names inodes contents
files_copied names entries inodes contents held =
    same_rows paths _ _ (λ q.
    get-mapped paths (λ path f. dumped_bytes contents f) (files_dumped names inodes) q
    ∙ ap (option_map (dumped_bytes contents)) (get-mapped paths (λ path n. file_dumped_if (map.get inodes n.0)) names q)
    ∙ copy_named entries inodes contents (map.get names q) held
    ∙ sym (get-shown names inodes contents q))

abbrev dumped : ℕ → ℕ → Files → PlainDump
dumped made least files = record { made = made; least = least; files = files }

copy_is : (t : DaemonTables) (contents : ByNumber (List ℕ)) (ns : Namespace)
    → EachRow t.inodes (λ n i. HeldRightly t.entries contents i.contents) → Agrees t contents ns
    → copy_of ns ≡ dump_shown contents (new_dump t.time.0 t.age t.names t.inodes)
unfolding copy_of
copy_is t contents ns held a =
    ap (λ now. dumped now ns.age ns.files) a.now ∙ ap (λ age. dumped t.time.0 age ns.files) a.age
    ∙ ap (dumped t.time.0 t.age) (a.files ∙ sym (files_copied t.names t.entries t.inodes contents held))

-- ---- a stop

-- puts that are over leave the bytes of their files
pub restart_shown : (t : DaemonTables) (contents : ByNumber (List ℕ)) (time : Secs) (ns : Namespace)
    → Agrees (record t { time = time }) contents ns → Agrees (after_step (record t { time = time }) Restart) contents ns
restart_shown t contents time ns a =
    same_shown (record t { time = time }) (after_step (record t { time = time }) Restart) contents ns refl refl refl
    (all_reformed t.names t.inodes contents (as_ended false) (λ n i is. ended_bytes contents false i.contents)) a

-- ---- a step of each kind

module _ (t : DaemonTables) (contents : ByNumber (List ℕ)) (cap : ℕ) (kept : FilesKept t contents cap) (time : Secs) (ns : Namespace) where
  abbrev Later : DaemonTables
  Later = record t { time = time }

  -- a new number is no file's
  fresh_apart : (path : List ℕ) (change : ℕ) → change ≡ t.change + 1 → (q : List ℕ) (m : Ino) → map.get t.names q ≡ Some m → m.0 ≡ change
      → q ≡ path
  fresh_apart path change next q m is same =
      let i = value_of (map.get t.inodes m.0) (kept.state.names q m is) in
      let most = (kept.state.inodes m.0 i.0 i.1).number.most in
      absurd (omega (arith, most, next, same))

  number_apart : (path : List ℕ) (change : ℕ) → change ≡ t.change + 1 → (o : Option Ino) → map.get t.names path ≡ o
      → (q : List ℕ) (m : Ino) → map.get t.names q ≡ Some m → m.0 ≡ number_or o change → q ≡ path
  number_apart path change next None at q m is same = fresh_apart path change next q m is same
  number_apart path change next (Some n) at q m is same = kept.state.names_apart q path m n is at same

  write_shown : (path : List ℕ) (change : ℕ) (bytes : List ℕ) → MayWrite t path change bytes → Agrees Later contents ns
      → Agrees (after_step Later (Write path change bytes)) contents (with_file path bytes ns)
  unfolding with_file
  write_shown path change bytes may a =
      let n : Ino = record { 0 = number_or (map.get t.names path) change } in
      let i : Inode = record { change = change; contents = Regular bytes } in
      record {
        files =
            ap (λ files. map.insert files path bytes) a.files
            ∙ sym (files_put t.names t.inodes contents path n i (number_apart path change may.next.next (map.get t.names path) refl));
        dumps = a.dumps;
        now = a.now;
        age = a.age;
      }

  cut_shown : (path : List ℕ) (change : ℕ) (o : Option Ino) → map.get t.names path ≡ o → IsSome o → Agrees Later contents ns
      → Agrees (after_remove Later path change o) contents (without_file path ns)
  unfolding without_file
  cut_shown path change None is there a = absurd (cc)
  cut_shown path change (Some n) is there a = record {
    files =
        ap (λ files. map.remove files path) a.files
        ∙ sym (files_cut t.names t.inodes contents path n (λ q m at same. kept.state.names_apart q path m n at is same));
    dumps = a.dumps;
    now = a.now;
    age = a.age;
  }

  -- ---- a put that begins

  -- the content of a new bitfile is of no file that is away, nor of a dump's
  beside : (b d : ℕ) (bytes : List ℕ) → b ≡ bfid_of t.site t.counter → IsGiven t.site t.counter d
      → map.get (map.insert contents b bytes) d ≡ map.get contents d
  beside b d bytes next given =
      get-beside numbers contents b bytes d (λ same. next_not_given t.site t.counter d (same ∙ next) given)

  file_beside : (n : ℕ) (i : Inode) (b : ℕ) (bytes : List ℕ) (c : Contents) → b ≡ bfid_of t.site t.counter → map.get t.inodes n ≡ Some i
      → i.contents ≡ c → content_bytes (map.insert contents b bytes) c ≡ content_bytes contents c
  file_beside n i b bytes (Regular own) next is form = refl
  file_beside n i b bytes (Making own d) next is form = refl
  file_beside n i b bytes (Dual own d) next is form = refl
  file_beside n i b bytes (Offline len d) next is form =
      let named = subst (λ c. MayBeNamed t.site t.counter t.entries (length_of c) (bitfile_of c)) form (kept.state.inodes n i is).names in
      ap copy_or (beside b d.0 bytes next named.0)

  inode_beside : (n b : ℕ) (bytes : List ℕ) (o : Option Inode) → b ≡ bfid_of t.site t.counter → map.get t.inodes n ≡ o
      → bytes_in (map.insert contents b bytes) o ≡ bytes_in contents o
  inode_beside n b bytes None next is = refl
  inode_beside n b bytes (Some i) next is = file_beside n i b bytes i.contents next is refl

  dumped_beside : (b : ℕ) (bytes : List ℕ) (f : DumpInode) → b ≡ bfid_of t.site t.counter → MayBeDumpFile t.site t.counter t.entries f
      → dumped_bytes (map.insert contents b bytes) f ≡ dumped_bytes contents f
  dumped_beside b bytes (KeptFile own) next may = refl
  dumped_beside b bytes (NamedFile len d) next may = ap copy_or (beside b d.0 bytes next may.names.0)

  dump_file_beside : (b : ℕ) (bytes : List ℕ) (o : Option DumpInode) → b ≡ bfid_of t.site t.counter
      → ((f : DumpInode) → o ≡ Some f → MayBeDumpFile t.site t.counter t.entries f)
      → option_map (dumped_bytes (map.insert contents b bytes)) o ≡ option_map (dumped_bytes contents) o
  dump_file_beside b bytes None next may = refl
  dump_file_beside b bytes (Some f) next may = ap (λ x. Some x) (dumped_beside b bytes f next (may f refl))

  dump_beside : (b : ℕ) (bytes : List ℕ) (name : List ℕ) (o : Option DumpRow) → b ≡ bfid_of t.site t.counter → map.get t.dumps name ≡ o
      → option_map (dump_shown (map.insert contents b bytes)) o ≡ option_map (dump_shown contents) o
  dump_beside b bytes name None next is = refl
  dump_beside b bytes name (Some d) next is =
      let after = map.insert contents b bytes in
      let may = (kept.state.dumps name d is).files in
      ap (λ files. Some (dumped d.made.0 d.least files)) (same_rows paths _ _ (λ q.
      get-mapped paths (λ path f. dumped_bytes after f) d.files q ∙ dump_file_beside b bytes (map.get d.files q) next (λ f at. may q f at)
      ∙ sym (get-mapped paths (λ path f. dumped_bytes contents f) d.files q)))

  files_begun : (n : ℕ) (b : Bfid) (i : Inode) → map.get t.inodes n ≡ Some i → MayBeMade i.contents → b.0 ≡ bfid_of t.site t.counter
      → files_shown t.names (map.insert t.inodes n (with_contents (as_making b) i)) (map.insert contents b.0 (bytes_online i.contents))
      ≡ files_shown t.names t.inodes contents
  files_begun n b i is form next =
      let new = with_contents (as_making b) i in
      let later = map.insert t.inodes n new in
      let after = map.insert contents b.0 (bytes_online i.contents) in
      same_files t.names t.inodes later contents after (λ m. elim (same_or numbers n m) [
        | inl same ↦
            ap (λ k. bytes_in after (map.get later k)) same ∙ ap (bytes_in after) (get-here numbers t.inodes n new)
            ∙ begun_bytes contents b i.contents form
            ∙ sym (ap (λ k. bytes_in contents (map.get t.inodes k)) same ∙ ap (bytes_in contents) is)
        | inr differ ↦
            ap (bytes_in after) (get-beside numbers t.inodes n new m differ)
            ∙ inode_beside m b.0 (bytes_online i.contents) (map.get t.inodes m) next refl
      ])

  begun : (n : ℕ) (b : Bfid) (groups : List GroupId) (i : Inode) → map.get t.inodes n ≡ Some i → MayBeMade i.contents
      → b.0 ≡ bfid_of t.site t.counter → Agrees Later contents ns
      → Agrees (after_begin_put Later b groups n (Some i)) (map.insert contents b.0 (bytes_online i.contents)) ns
  begun n b groups i is form next a = record {
    files = a.files ∙ sym (files_begun n b i is form next);
    dumps = λ name.
        a.dumps name ∙ ap (young_in time.0) (sym (dump_beside b.0 (bytes_online i.contents) name (map.get t.dumps name) next refl));
    now = a.now;
    age = a.age;
  }

  begin_shown : (path : List ℕ) (b : Bfid) (groups : List GroupId) → MayBeginPut t path b groups → Agrees Later contents ns
      → Agrees (after_begin_put_at Later b groups (map.get t.names path)) (contents_with b.0 (file_named t.inodes (map.get t.names path)) contents) ns
  begin_shown path b groups may a =
      let put : after_begin_put_at Later b groups (map.get t.names path) ≡ after_begin_put Later b groups may.n.0 (Some may.inode) =
      ap (after_begin_put_at Later b groups) may.name ∙ ap (after_begin_put Later b groups may.n.0) may.is in
      let file : contents_with b.0 (file_named t.inodes (map.get t.names path)) contents ≡ map.insert contents b.0 (bytes_online may.inode.contents) =
      ap (λ o. contents_with b.0 (file_named t.inodes o) contents) may.name ∙ ap (λ o. contents_with b.0 (file_of may.n.0 o) contents) may.is in
      subst (λ u. Agrees u (contents_with b.0 (file_named t.inodes (map.get t.names path)) contents) ns) (sym put)
      (subst (λ c. Agrees (after_begin_put Later b groups may.n.0 (Some may.inode)) c ns) (sym file)
      (begun may.n.0 b groups may.inode may.is may.form may.next a))

  -- ---- a put that ends, and bytes that leave the disk or come back

  end_shown : (n : Ino) (b : Bfid) (dual : Bool) → Agrees Later contents ns → Agrees (after_step Later (EndPut n b dual)) contents ns
  end_shown n b dual a =
      same_shown Later (after_step Later (EndPut n b dual)) contents ns refl refl refl
      (files_reformed t.names t.inodes contents n.0 (as_ended dual) (λ i is. ended_bytes contents dual i.contents)) a

  release_shown : (o : Option Ino) → Agrees Later contents ns → Agrees (after_release Later o) contents ns
  release_shown None a = a
  release_shown (Some n) a =
      same_shown Later (after_release Later (Some n)) contents ns refl refl refl
      (files_reformed t.names t.inodes contents n.0 as_offline (λ i is. released_bytes t.entries contents i.contents (kept.held n.0 i is))) a

  take_shown : (n : Ino) (bytes : List ℕ) → TakenRight t.inodes contents n.0 bytes → Agrees Later contents ns
      → Agrees (after_step Later (Taken n bytes)) contents ns
  take_shown n bytes right a =
      same_shown Later (after_step Later (Taken n bytes)) contents ns refl refl refl
      (files_reformed t.names t.inodes contents n.0 (as_recalled bytes)
      (λ i is. recalled_bytes contents bytes i.contents (λ b len form. right i b len is form))) a

  -- ---- dumps

  dump_put : (name : List ℕ) → Agrees Later contents ns → Agrees (after_step Later (Dump name)) contents (with_dump name ns)
  unfolding with_dump
  dump_put name a =
      let row = new_dump time.0 t.age t.names t.inodes in
      record {
        files = a.files;
        dumps = λ q. elim (same_or paths name q) [
          | inl same ↦
              ap (λ p. young_in time.0 (map.get (map.insert ns.dumps name (copy_of ns)) p)) same
              ∙ ap (young_in time.0) (get-here paths ns.dumps name (copy_of ns)) ∙ ap (λ d. young_in time.0 (Some d)) (copy_is Later contents ns kept.held a)
              ∙ sym (ap (λ o. young_in time.0 (option_map (dump_shown contents) o)) (get-here paths t.dumps name row))
              ∙ sym (ap (λ p. young_in time.0 (option_map (dump_shown contents) (map.get (map.insert t.dumps name row) p))) same)
          | inr differ ↦
              ap (young_in time.0) (get-beside paths ns.dumps name (copy_of ns) q differ) ∙ a.dumps q
              ∙ sym (ap (λ o. young_in time.0 (option_map (dump_shown contents) o)) (get-beside paths t.dumps name row q differ))
        ];
        now = a.now;
        age = a.age;
      }

  dump_cut : (name : List ℕ) → Agrees Later contents ns → Agrees (after_step Later (Undump name)) contents (without_dump name ns)
  unfolding without_dump
  dump_cut name a = record {
    files = a.files;
    dumps = λ q. elim (same_or paths name q) [
      | inl same ↦
          ap (λ p. young_in time.0 (map.get (map.remove ns.dumps name) p)) same ∙ ap (young_in time.0) (removed-here paths ns.dumps name)
          ∙ sym (ap (λ o. young_in time.0 (option_map (dump_shown contents) o)) (removed-here paths t.dumps name))
          ∙ sym (ap (λ p. young_in time.0 (option_map (dump_shown contents) (map.get (map.remove t.dumps name) p))) same)
      | inr differ ↦
          ap (young_in time.0) (removed-beside paths ns.dumps name q differ) ∙ a.dumps q
          ∙ sym (ap (λ o. young_in time.0 (option_map (dump_shown contents) o)) (removed-beside paths t.dumps name q differ))
    ];
    now = a.now;
    age = a.age;
  }

  -- a file of a dump comes back
  dump_there : (name : List ℕ) (dump : DumpRow) → map.get t.dumps name ≡ Some dump → is_young time.0 dump ≡ true → Agrees Later contents ns
      → map.get ns.dumps name ≡ Some (dump_shown contents dump)
  dump_there name dump known young a =
      young_there time.0 (map.get ns.dumps name) (dump_shown contents dump) young
      (a.dumps name ∙ ap (λ o. young_in time.0 (option_map (dump_shown contents) o)) known)

  bytes_there : (name path : List ℕ) (dump : DumpRow) (file : DumpInode) → map.get t.dumps name ≡ Some dump → is_young time.0 dump ≡ true
      → map.get dump.files path ≡ Some file → Agrees Later contents ns → bytes_dumped name path ns ≡ Some (dumped_bytes contents file)
  unfolding bytes_dumped dump_of in_dump
  bytes_there name path dump file known young has a =
      ap (option_and_then (λ d. map.get d.files path)) (dump_there name dump known young a)
      ∙ get-mapped paths (λ path f. dumped_bytes contents f) dump.files path ∙ ap (option_map (dumped_bytes contents)) has

  file_put : (target : List ℕ) (change : ℕ) (file : DumpInode) → change ≡ t.change + 1 → Agrees Later contents ns
      → Agrees (after_restore Later target change (Some file)) contents (with_file target (dumped_bytes contents file) ns)
  unfolding with_file
  file_put target change file next a =
      let n : Ino = record { 0 = change } in
      let i : Inode = record { change = change; contents = as_restored file } in
      record {
        files =
            ap (λ files. map.insert files target (dumped_bytes contents file)) a.files
            ∙ ap (map.insert (files_shown t.names t.inodes contents) target) (sym (restored_bytes contents file))
            ∙ sym (files_put t.names t.inodes contents target n i (fresh_apart target change next));
        dumps = a.dumps;
        now = a.now;
        age = a.age;
      }

  restore_shown : (name path target : List ℕ) (change : ℕ) → MayRestore t time.0 name path target change → Agrees Later contents ns
      → Agrees (after_step Later (Restore name path target change)) contents (with_restored_file name path target ns)
  unfolding with_restored_file
  restore_shown name path target change may a =
      let found : file_in (map.get t.dumps name) path ≡ Some may.file = ap (λ o. file_in o path) may.known ∙ may.has in
      subst (λ o. Agrees (after_restore Later target change o) contents (with_restored_file name path target ns)) (sym found)
      (subst (λ o. Agrees (after_restore Later target change (Some may.file)) contents (option_map_or (λ bytes. with_file target bytes ns) o ns))
      (sym (bytes_there name path may.dump may.file may.known may.young may.has a)) (file_put target change may.file may.next.next a))

  -- ---- ages

  aged_row : (age : ℕ) (o : Option DumpRow)
      → option_map (with_lower_least age) (option_map (dump_shown contents) o) ≡ option_map (dump_shown contents) (option_map (with_least age) o)
  unfolding with_lower_least
  aged_row age None = refl
  aged_row age (Some d) = refl

  age_shown : (age : ℕ) → Agrees Later contents ns → Agrees (after_step Later (Age age)) contents (with_age age ns)
  unfolding with_age
  age_shown age a = record {
    files = a.files;
    dumps = λ q.
        ap (young_in time.0) (get-mapped paths (λ name. with_lower_least age) ns.dumps q)
        ∙ same_lowered time.0 age (map.get ns.dumps q) (option_map (dump_shown contents) (map.get t.dumps q)) (a.dumps q)
        ∙ ap (young_in time.0) (aged_row age (map.get t.dumps q))
        ∙ sym (ap (λ o. young_in time.0 (option_map (dump_shown contents) o)) (get-mapped paths (λ name d. with_least age d) t.dumps q));
    now = a.now;
    age = refl;
  }

  -- ---- any step

  -- each step of the daemon does its plain step to the namespace that the tables show
  pub step_shown : (s : DaemonStep) → MayStep t time.0 s → TakesRight t.inodes contents s → Agrees Later contents ns
      → Agrees (after_step Later s) (contents_after t contents s) (plain_run (steps_of_step s) ns)
  step_shown (Write path change bytes) may right a = write_shown path change bytes may a
  step_shown (Remove path change) may right a = cut_shown path change (map.get t.names path) refl may.there a
  step_shown (BeginPut path b groups) may right a = begin_shown path b groups may a
  step_shown (Stored b group) may right a = same_shown Later (after_step Later (Stored b group)) contents ns refl refl refl refl a
  step_shown (EndPut n b dual) may right a = end_shown n b dual a
  step_shown (Release path) may right a = release_shown (map.get t.names path) a
  step_shown (Taken n bytes) may right a = take_shown n bytes right a
  step_shown (Dump name) may right a = dump_put name a
  step_shown (Undump name) may right a = dump_cut name a
  step_shown (Restore name path target change) may right a = restore_shown name path target change may a
  step_shown (HardDelete bfids) may right a = same_shown Later (after_step Later (HardDelete bfids)) contents ns refl refl refl refl a
  step_shown (Dropped b) may right a = same_shown Later (after_step Later (Dropped b)) contents ns refl refl refl refl a
  step_shown Restart may right a = restart_shown t contents time ns a
  step_shown (Age age) may right a = age_shown age a

-- ---- any record

-- a record that may follow does its plain steps
pub record_shown : (t : DaemonTables) (contents : ByNumber (List ℕ)) (cap : ℕ) (ns : Namespace) (r : DaemonRecord) → FilesKept t contents cap
    → MayFollow t r → TakesRight t.inodes contents r.step → Agrees t contents ns
    → Agrees (after_record t r) (contents_after t contents r.step) (plain_run (steps_of_record r) ns)
record_shown t contents cap ns r kept may right a =
    step_shown t contents cap kept r.time (record ns { now = r.time.0 }) r.step may.step right (time_shown t contents ns r.time may.time a)
