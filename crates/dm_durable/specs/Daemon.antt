-- What a record does to the daemon's tables.
use Rattle.std.specs.Prelude.{ℕ, ◌+◌, Bool, false, cond, not, ◌&&◌, Option, None, Some, List, length, nat_eq}
use Rattle.std.specs.List.{list_any}
use Rattle.std.specs.FinMap as map
use Rattle.dm_base.specs.declared.identifier.Bfid.{Bfid}
use Rattle.dm_base.specs.declared.identifier.GroupId.{GroupId}
use Rattle.dm_base.specs.declared.identifier.Ino.{Ino}
use Rattle.dm_durable.specs.declared.daemon.Contents.TheVariants.{Regular}
use Rattle.dm_durable.specs.declared.daemon.Inode.{Inode}
use Rattle.dm_durable.specs.declared.daemon.Dump.{Dump as DumpRow}
use Rattle.dm_durable.specs.declared.daemon.DumpInode.{DumpInode}
use Rattle.dm_durable.specs.declared.daemon.Entry.{Entry}
use Rattle.dm_durable.specs.declared.daemon.DaemonTables.{DaemonTables}
use Rattle.dm_durable.specs.declared.daemon.DaemonStep.{DaemonStep}
use Rattle.dm_durable.specs.declared.daemon.DaemonStep.TheVariants.{Write, Remove, BeginPut, Stored, EndPut, Release, Taken, Dump, Undump, Restore, HardDelete, Dropped, Restart, Age}
use Rattle.dm_durable.specs.declared.daemon.DaemonRecord.{DaemonRecord}
use Rattle.dm_tables.specs.Rows.{adjust, map_values}
use Rattle.dm_tables.specs.Totals.{total}
use Rattle.dm_rules.specs.Numbers.{as_word}
pub use Rattle.dm_rules.specs.Numbers.{bfid_of}
use Rattle.dm_durable.specs.Tables.{ByNumber, ByName}
use Rattle.dm_durable.specs.Inodes.{bitfile_in, bytes_online, length_of, has_making, is_made, is_named, as_making, as_ended, as_offline, as_recalled, with_contents}
use Rattle.dm_durable.specs.Entries.{after_letting_go, after_letting_go_if, new_entry, with_copy_of, with_deletion_time, without_deletion_time, as_dropping}
use Rattle.dm_durable.specs.Dumps.{new_dump, with_least, file_in, bitfile_dumped, as_restored, dump_size}

-- the bytes of all files, online or not, and those that are kept in dumps
abbrev pub size_of_files : ByNumber Inode → ℕ
size_of_files inodes = total (λ i. length_of i.contents) inodes

abbrev pub size_of_dumps : ByName DumpRow → ℕ
size_of_dumps dumps = total dump_size dumps

abbrev pub size_of : DaemonTables → ℕ
size_of t = size_of_files t.inodes + size_of_dumps t.dumps

-- ---- files

-- the number of the inode of a path, or that of a new one
abbrev pub number_or : Option Ino → ℕ → ℕ
number_or None fresh = fresh
number_or (Some n) fresh = n.0

-- the inode's row is this; what it named is let go
abbrev pub with_inode : DaemonTables → ℕ → Inode → DaemonTables
with_inode t n i =
    let inodes = map.insert t.inodes n i in
    record t { inodes = inodes; entries = after_letting_go_if t.entries inodes t.time.0 (bitfile_in (map.get t.inodes n)) }

-- a file is written: its inode, a new one where the path had none, is regular
abbrev pub after_write : DaemonTables → List ℕ → ℕ → List ℕ → DaemonTables
after_write t path change bytes =
    let n = number_or (map.get t.names path) change in
    with_inode (record t { change = change; names = map.insert t.names path (record { 0 = n }) }) n
    (record { change = change; contents = Regular bytes })

-- a file is removed, if it is there
abbrev pub after_remove : DaemonTables → List ℕ → ℕ → Option Ino → DaemonTables
after_remove t path change None = record t { change = change }
after_remove t path change (Some n) =
    let inodes = map.remove t.inodes n.0 in
    record t {
      change = change;
      names = map.remove t.names path;
      inodes = inodes;
      entries = after_letting_go_if t.entries inodes t.time.0 (bitfile_in (map.get t.inodes n.0));
    }

-- ---- puts and recalls

-- a put of an inode's bytes begins: it names the new bitfile, which has an entry
abbrev pub after_begin_put : DaemonTables → Bfid → List GroupId → ℕ → Option Inode → DaemonTables
after_begin_put t b groups n None = t
after_begin_put t b groups n (Some i) =
    let inodes = map.insert t.inodes n (with_contents (as_making b) i) in
    record t {
      counter = as_word (t.counter + 1);
      inodes = inodes;
      entries = map.insert (after_letting_go_if t.entries inodes t.time.0 (bitfile_in (Some i))) b.0 (new_entry (length (bytes_online i.contents)) groups);
    }

-- the same where it is known by its path
abbrev pub after_begin_put_at : DaemonTables → Bfid → List GroupId → Option Ino → DaemonTables
after_begin_put_at t b groups None = t
after_begin_put_at t b groups (Some n) = after_begin_put t b groups n.0 (map.get t.inodes n.0)

-- a put ends: the inode is dual-state, or it is regular and lets the bitfile go
abbrev pub after_end_put : DaemonTables → ℕ → ℕ → Bool → DaemonTables
after_end_put t n b dual =
    let inodes = adjust t.inodes n (with_contents (as_ended dual)) in
    record t { inodes = inodes; entries = cond dual t.entries (after_letting_go t.entries inodes t.time.0 b) }

-- the bytes of a file leave the disk
abbrev pub after_release : DaemonTables → Option Ino → DaemonTables
after_release t None = t
after_release t (Some n) = record t { inodes = adjust t.inodes n.0 (with_contents as_offline) }

-- ---- dumps

-- an inode names the bitfile: its entry has no deletion time
abbrev pub with_named : ByNumber Entry → Option ℕ → ByNumber Entry
with_named entries None = entries
with_named entries (Some b) = adjust entries b without_deletion_time

-- a file of a dump is a new file, if it is there
abbrev pub after_restore : DaemonTables → List ℕ → ℕ → Option DumpInode → DaemonTables
after_restore t target change None = record t { change = change }
after_restore t target change (Some file) = record t {
  change = change;
  names = map.insert t.names target (record { 0 = change });
  inodes = map.insert t.inodes change (record { change = change; contents = as_restored file });
  entries = with_named t.entries (bitfile_dumped file);
}

-- ---- deletes

-- the copies of these bitfiles are being deleted
abbrev pub with_dropping : List Bfid → ByNumber Entry → ByNumber Entry
with_dropping bfids entries = map_values (λ b e. cond (list_any (λ c. nat_eq c.0 b) bfids) (as_dropping e) e) entries

-- ---- beginning anew

-- each entry of a put that has not ended, and whose bitfile no inode names after that, is deleted at that time
abbrev pub after_ending_puts : ByNumber Entry → ByNumber Inode → ByNumber Inode → ℕ → ByNumber Entry
after_ending_puts entries before inodes time =
    map_values (λ b e. cond (is_made before b && not (is_named inodes b)) (with_deletion_time time e) e) entries

-- each put that has not ended is over: its inode is regular, and its bitfile is let go
abbrev pub after_restart : DaemonTables → DaemonTables
after_restart t =
    let inodes = map_values (λ n i. with_contents (as_ended false) i) t.inodes in
    record t { inodes = inodes; entries = after_ending_puts t.entries t.inodes inodes t.time.0 }

-- ---- all steps

abbrev pub after_step : DaemonTables → DaemonStep → DaemonTables
after_step t (Write path change bytes) = after_write t path change bytes
after_step t (Remove path change) = after_remove t path change (map.get t.names path)
after_step t (BeginPut path b groups) = after_begin_put_at t b groups (map.get t.names path)
after_step t (Stored b group) = record t { entries = adjust t.entries b.0 (with_copy_of group.0) }
after_step t (EndPut n b dual) = after_end_put t n.0 b.0 dual
after_step t (Release path) = after_release t (map.get t.names path)
after_step t (Taken n bytes) = record t { inodes = adjust t.inodes n.0 (with_contents (as_recalled bytes)) }
after_step t (Dump name) = record t { dumps = map.insert t.dumps name (new_dump t.time.0 t.age t.names t.inodes) }
after_step t (Undump name) = record t { dumps = map.remove t.dumps name }
after_step t (Restore name path target change) = after_restore t target change (file_in (map.get t.dumps name) path)
after_step t (HardDelete bfids) = record t { entries = with_dropping bfids t.entries }
after_step t (Dropped b) = record t { entries = map.remove t.entries b.0 }
after_step t Restart = after_restart t
after_step t (Age age) = record t { age = age; dumps = map_values (λ name d. with_least age d) t.dumps }

-- the tables after a record: its time, and then its step
abbrev pub after_record : DaemonTables → DaemonRecord → DaemonTables
after_record t r = after_step (record t { time = r.time }) r.step

-- what a stop and a start leave of the tables: where some put has not ended, a load journals that all are over, at the
-- time that the tables have
abbrev pub after_stop : DaemonTables → DaemonTables
after_stop t = cond (has_making t.inodes) (after_record t (record { time = t.time; step = Restart })) t

-- the tables of a site before the first record: no file, and puts count from `first`
abbrev pub empty_tables : ℕ → ℕ → ℕ → DaemonTables
empty_tables site first age = record {
  site = site;
  first = first;
  begun_age = age;
  time = record { 0 = 0 };
  change = 0;
  counter = first;
  age = age;
  names = map.empty;
  inodes = map.empty;
  entries = map.empty;
  dumps = map.empty;
}
