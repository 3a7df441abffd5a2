-- What the daemon knows of a bitfile: its copies, and when it may be deleted.
use Rattle.std.specs.Prelude.{ℕ, ◌-◌, Bool, true, false, cond, not, ◌&&◌, Option, None, Some, List, map, nat_eq, nat_le}
use Rattle.std.specs.List.{list_any, list_all}
use Rattle.dm_base.specs.declared.identifier.GroupId.{GroupId}
use Rattle.dm_base.specs.declared.identifier.Secs.{Secs}
use Rattle.dm_durable.specs.declared.daemon.AskedCopy.{AskedCopy}
use Rattle.dm_durable.specs.declared.daemon.Entry.{Entry}
use Rattle.dm_durable.specs.declared.daemon.Inode.{Inode}
use Rattle.dm_tables.specs.Rows.{adjust}
use Rattle.dm_durable.specs.Tables.{ByNumber}
use Rattle.dm_durable.specs.Inodes.{is_named}

-- whether the group was asked for a copy
abbrev pub asks : Entry → ℕ → Bool
asks e g = list_any (λ c. nat_eq c.group.0 g) e.copies

-- whether the group has stored its copy
abbrev pub has_stored : Entry → ℕ → Bool
has_stored e g = list_any (λ c. nat_eq c.group.0 g && c.stored) e.copies

-- whether each group that was asked has stored its copy
abbrev pub is_stored : Entry → Bool
is_stored e = list_all (λ c. c.stored) e.copies

-- whether the copies are all there and none is being deleted
abbrev pub is_complete : Entry → Bool
is_complete e = is_stored e && not e.dropping

-- the groups that it asks, in order
abbrev pub groups_asked : Entry → List GroupId
groups_asked e = map (λ c. c.group) e.copies

-- ---- copies

-- the entry of a put that begins
abbrev pub new_entry : ℕ → List GroupId → Entry
new_entry len groups =
    record { len = len; copies = map (λ g. record { group = g; stored = false }) groups; gone = None; dropping = false }

-- a copy, stored where it is the group's
abbrev pub copy_stored_by : ℕ → AskedCopy → AskedCopy
copy_stored_by g c = record { group = c.group; stored = cond (nat_eq c.group.0 g) true c.stored }

-- the group has stored its copy
abbrev pub with_copy_of : ℕ → Entry → Entry
with_copy_of g e = record e { copies = map (copy_stored_by g) e.copies }

-- ---- deletion times

-- the last inode that named the bitfile let it go at this time
abbrev pub with_deletion_time : ℕ → Entry → Entry
with_deletion_time time e = record e { gone = Some (record { 0 = time }) }

-- an inode names the bitfile again
abbrev pub without_deletion_time : Entry → Entry
without_deletion_time e = record e { gone = None }

-- the bitfile is let go: where none of these inodes names it any more, its entry is deleted at that time
abbrev pub after_letting_go : ByNumber Entry → ByNumber Inode → ℕ → ℕ → ByNumber Entry
after_letting_go entries inodes time b = cond (is_named inodes b) entries (adjust entries b (with_deletion_time time))

abbrev pub after_letting_go_if : ByNumber Entry → ByNumber Inode → ℕ → Option ℕ → ByNumber Entry
after_letting_go_if entries inodes time None = entries
after_letting_go_if entries inodes time (Some b) = after_letting_go entries inodes time b

-- ---- hard deletes

-- whether a deletion time is an age old, or older
abbrev pub is_old_at : ℕ → ℕ → Option Secs → Bool
is_old_at now age None = false
is_old_at now age (Some since) = nat_le age (now - since.0)

-- whether the entry may be taken by a hard delete: it has a deletion time that is the age in force old, and its copies
-- aren't being deleted yet. That no request is open on it is for the component to see
abbrev pub is_due : ℕ → ℕ → Entry → Bool
is_due now age e = not e.dropping && is_old_at now age e.gone

-- its copies are being deleted
abbrev pub as_dropping : Entry → Entry
as_dropping e = record e { dropping = true }
