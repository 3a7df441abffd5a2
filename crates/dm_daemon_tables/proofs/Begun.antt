-- A put begins.
use Rattle.std.proofs.Common.{◌≡◌, ℕ, ◌+◌, List, Option, Some, length, sym, ap, ◌∙◌, arith, min}
use Rattle.std.specs.FinMap.{get, insert}
use Rattle.dm_base.specs.declared.identifier.Bfid.{Bfid}
use Rattle.dm_base.specs.declared.identifier.GroupId.{GroupId}
use Rattle.dm_durable.specs.declared.daemon.DaemonTables.{DaemonTables}
use Rattle.dm_durable.specs.declared.daemon.Entry.{Entry}
use Rattle.dm_durable.specs.declared.daemon.Inode.{Inode}
use Rattle.dm_durable.specs.Tables.{ByNumber}
use Rattle.dm_durable.specs.Inodes.{as_making, bytes_online, bitfile_of, bitfile_in, with_contents}
use Rattle.dm_durable.specs.Entries.{new_entry, after_letting_go_if}
use Rattle.dm_durable.specs.Daemon.{after_begin_put}
use Rattle.dm_rules.specs.Numbers.{as_word}
use Rattle.dm_tables.specs.Rows.{adjust}
use Rattle.dm_tables.proofs.Adjusted.{adjust-there}

pub begun : (t : DaemonTables) (b : Bfid) (groups : List GroupId) (n : ℕ) (i : Inode) (counter key : ℕ) (inodes : ByNumber Inode) (left entries : ByNumber Entry) (named : Option ℕ) (entry : Entry)
    → Some i ≡ get t.inodes n
    → counter ≡ as_word (t.counter + 1)
    → inodes ≡ adjust t.inodes n (with_contents (as_making b))
    → named ≡ bitfile_of i.contents
    → left ≡ after_letting_go_if t.entries inodes t.time.0 named
    → key ≡ b.0
    → entry ≡ new_entry (length (bytes_online i.contents)) groups
    → entries ≡ insert left key entry
    → record t { counter = counter; inodes = inodes; entries = entries } ≡ after_begin_put t b groups n (get t.inodes n)
begun t b groups n i counter key inodes left entries named entry there counts formed names gone same is put =
    let made : inodes ≡ insert t.inodes n (with_contents (as_making b) i) = formed ∙ adjust-there t.inodes n (with_contents (as_making b)) i (sym there) in
    let goes : left ≡ after_letting_go_if t.entries (insert t.inodes n (with_contents (as_making b) i)) t.time.0 (bitfile_in (Some i)) =
    gone ∙ ap (λ m. after_letting_go_if t.entries m t.time.0 named) made ∙ ap (after_letting_go_if t.entries (insert t.inodes n (with_contents (as_making b) i)) t.time.0) names in
    let all : entries ≡ insert (after_letting_go_if t.entries (insert t.inodes n (with_contents (as_making b) i)) t.time.0 (bitfile_in (Some i))) b.0 (new_entry (length (bytes_online i.contents)) groups) =
    put ∙ ap (λ m. insert m key entry) goes ∙ ap (λ k. insert (after_letting_go_if t.entries (insert t.inodes n (with_contents (as_making b) i)) t.time.0 (bitfile_in (Some i))) k entry) same
    ∙ ap (insert (after_letting_go_if t.entries (insert t.inodes n (with_contents (as_making b) i)) t.time.0 (bitfile_in (Some i))) b.0) is in
    (λ j. record t { counter = counts j; inodes = made j; entries = all j })
    ∙ ap (after_begin_put t b groups n) there

pub narrow_min : (n : ℕ) → min n 18446744073709551615 ≡ as_word n
narrow_min n = omega arith

abbrev pub with_length : ℕ → Entry → Entry
with_length len e = record e { len = len }
