-- A put begins.
use Rattle.std.proofs.Common.{◌≡◌, ℕ, ◌+◌, List, Option, Some, length, sym, ap, ◌∙◌}
use Rattle.std.specs.FinMap.{get, insert}
use Rattle.dm_base.specs.declared.identifier.Bfid.{Bfid}
use Rattle.dm_base.specs.declared.identifier.GroupId.{GroupId}
use Rattle.dm_durable.specs.declared.daemon.DaemonTables.{DaemonTables}
use Rattle.dm_durable.specs.declared.daemon.Entry.{Entry}
use Rattle.dm_durable.specs.declared.daemon.Inode.{Inode}
use Rattle.dm_durable.specs.Tables.{ByNumber}
use Rattle.dm_durable.specs.Inodes.{as_making, bytes_online, bitfile_of, bitfile_in, with_contents}
use Rattle.dm_durable.specs.Entries.{new_entry, after_letting_go_if}
use Rattle.dm_durable.specs.Daemon.{after_begin_put}
use Rattle.dm_rules.specs.Numbers.{as_word}
use Rattle.dm_tables.specs.Rows.{adjust}
use Rattle.dm_tables.proofs.Adjusted.{adjust-there}

pub begun : (t : DaemonTables) (b : Bfid) (groups : List GroupId) (n key : ℕ) (i : Inode) (counter : ℕ) (inodes : ByNumber Inode) (left entries : ByNumber Entry) (named : Option ℕ) (entry : Entry)
    → Some i ≡ get t.inodes n
    → counter ≡ as_word (t.counter + 1)
    → key ≡ n
    → inodes ≡ adjust t.inodes key (with_contents (as_making b))
    → named ≡ bitfile_of i.contents
    → left ≡ after_letting_go_if t.entries inodes t.time.0 named
    → entry ≡ new_entry (length (bytes_online i.contents)) groups
    → entries ≡ insert left b.0 entry
    → record t { counter = counter; inodes = inodes; entries = entries } ≡ after_begin_put t b groups n (get t.inodes n)
begun t b groups n key i counter inodes left entries named entry there counts same formed names gone is put =
    let made : inodes ≡ insert t.inodes n (with_contents (as_making b) i) =
    formed ∙ ap (λ k. adjust t.inodes k (with_contents (as_making b))) same ∙ adjust-there t.inodes n (with_contents (as_making b)) i (sym there) in
    let goes : left ≡ after_letting_go_if t.entries (insert t.inodes n (with_contents (as_making b) i)) t.time.0 (bitfile_in (Some i)) =
    gone ∙ ap (λ m. after_letting_go_if t.entries m t.time.0 named) made ∙ ap (after_letting_go_if t.entries (insert t.inodes n (with_contents (as_making b) i)) t.time.0) names in
    let all : entries ≡ insert (after_letting_go_if t.entries (insert t.inodes n (with_contents (as_making b) i)) t.time.0 (bitfile_in (Some i))) b.0 (new_entry (length (bytes_online i.contents)) groups) =
    put ∙ ap (λ m. insert m b.0 entry) goes
    ∙ ap (insert (after_letting_go_if t.entries (insert t.inodes n (with_contents (as_making b) i)) t.time.0 (bitfile_in (Some i))) b.0) is in
    (λ j. record t { counter = counts j; inodes = made j; entries = all j })
    ∙ ap (after_begin_put t b groups n) there
