-- What a file holds, and how it goes from one form to another.
use Rattle.std.specs.Prelude.{ℕ, Bool, false, true, cond, Option, None, Some, List, [], length, nat_eq}
use Rattle.dm_base.specs.declared.identifier.Bfid.{Bfid}
use Rattle.dm_durable.specs.declared.daemon.Contents.{Contents}
use Rattle.dm_durable.specs.declared.daemon.Contents.TheVariants.{Regular, Making, Dual, Offline}
use Rattle.dm_durable.specs.declared.daemon.Inode.{Inode}
use Rattle.dm_tables.specs.Rows.{any}
use Rattle.dm_durable.specs.Tables.{ByNumber}

-- the bitfile that it names
abbrev pub bitfile_of : Contents → Option ℕ
bitfile_of (Regular bytes) = None
bitfile_of (Making bytes b) = Some b.0
bitfile_of (Dual bytes b) = Some b.0
bitfile_of (Offline len b) = Some b.0

-- the length of the file
abbrev pub length_of : Contents → ℕ
length_of (Regular bytes) = length bytes
length_of (Making bytes b) = length bytes
length_of (Dual bytes b) = length bytes
length_of (Offline len b) = len

-- the bytes, where they are on the disk
abbrev pub bytes_of : Contents → Option (List ℕ)
bytes_of (Regular bytes) = Some bytes
bytes_of (Making bytes b) = Some bytes
bytes_of (Dual bytes b) = Some bytes
bytes_of (Offline len b) = None

-- the bytes, or none of them where they aren't on the disk
abbrev pub bytes_online : Contents → List ℕ
bytes_online (Regular bytes) = bytes
bytes_online (Making bytes b) = bytes
bytes_online (Dual bytes b) = bytes
bytes_online (Offline len b) = []

-- ---- the changes of form

-- a put of this bitfile begins
abbrev pub as_making : Bfid → Contents → Contents
as_making b c = Making (bytes_online c) b

-- the put ends: with every copy stored, or not
abbrev pub as_ended : Bool → Contents → Contents
as_ended dual (Making bytes b) = cond dual (Dual bytes b) (Regular bytes)
as_ended dual (Regular bytes) = Regular bytes
as_ended dual (Dual bytes b) = Dual bytes b
as_ended dual (Offline len b) = Offline len b

-- the bytes leave the disk
abbrev pub as_offline : Contents → Contents
as_offline (Dual bytes b) = Offline (length bytes) b
as_offline (Regular bytes) = Regular bytes
as_offline (Making bytes b) = Making bytes b
as_offline (Offline len b) = Offline len b

-- the bytes were recalled
abbrev pub as_recalled : List ℕ → Contents → Contents
as_recalled bytes (Offline len b) = Dual bytes b
as_recalled bytes (Regular old) = Regular old
as_recalled bytes (Making old b) = Making old b
as_recalled bytes (Dual old b) = Dual old b

-- the file with other contents; its last change stays
abbrev pub with_contents : (Contents → Contents) → Inode → Inode
with_contents f i = record i { contents = f i.contents }

-- ---- who names a bitfile

abbrev pub is_bitfile : ℕ → Option ℕ → Bool
is_bitfile b None = false
is_bitfile b (Some c) = nat_eq c b

-- whether an inode names the bitfile
abbrev pub is_named : ByNumber Inode → ℕ → Bool
is_named inodes b = any (λ n i. is_bitfile b (bitfile_of i.contents)) inodes

-- the bitfile that the inode of a number names
abbrev pub bitfile_in : Option Inode → Option ℕ
bitfile_in None = None
bitfile_in (Some i) = bitfile_of i.contents

-- ---- puts that have not ended

abbrev pub is_making : Contents → Bool
is_making (Regular bytes) = false
is_making (Making bytes b) = true
is_making (Dual bytes b) = false
is_making (Offline len b) = false

-- the bitfile of a put that has not ended
abbrev pub bitfile_made : Contents → Option ℕ
bitfile_made (Regular bytes) = None
bitfile_made (Making bytes b) = Some b.0
bitfile_made (Dual bytes b) = None
bitfile_made (Offline len b) = None

-- whether some put has not ended
abbrev pub has_making : ByNumber Inode → Bool
has_making inodes = any (λ n i. is_making i.contents) inodes

-- whether a put of this bitfile has not ended
abbrev pub is_made : ByNumber Inode → ℕ → Bool
is_made inodes b = any (λ n i. is_bitfile b (bitfile_made i.contents)) inodes
