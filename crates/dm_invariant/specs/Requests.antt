-- The invariant, of open requests and of the workers' recalls.
use Rattle.std.specs.Prelude.{◌≡◌, ◌<◌, ◌≤◌, ◌+◌, ℕ, true, false, None, Some, List, length}
use Rattle.std.specs.FinMap as map
use Rattle.dm_base.specs.declared.identifier.Bfid.{Bfid}
use Rattle.dm_tables.specs.Rows.{EachRow}
use Rattle.dm_durable.specs.declared.daemon.Contents.{Contents}
use Rattle.dm_durable.specs.declared.daemon.Contents.TheVariants.{Regular, Making, Dual, Offline}
use Rattle.dm_durable.specs.declared.daemon.Entry.{Entry}
use Rattle.dm_durable.specs.declared.daemon.Inode.{Inode}
use Rattle.dm_durable.specs.Tables.{ByNumber}
use Rattle.dm_durable.specs.Entries.{is_stored}
use Rattle.dm_model.specs.declared.state.OpenRequest.{OpenRequest}
use Rattle.dm_model.specs.declared.state.Recall.{Recall}
use Rattle.dm_model.specs.declared.state.Worker.{Worker}
use Rattle.dm_model.specs.Files.{is_put, is_recall, asked_by}
use Rattle.dm_model.specs.GroupCalls.{part_of}

-- ---- requests

-- the entry of an open request is there and is not being dropped; that of a recall has every copy stored
pub record RequestEntry (entries : ByNumber Entry) (r : OpenRequest) : Type 0 where
  pub entry : Entry
  pub is : map.get entries r.bfid.0 ≡ Some entry
  pub lasting : entry.dropping ≡ false
  pub whole : is_recall r.kind ≡ true → is_stored entry ≡ true

-- a put of the bitfile is open
pub record PutOpen (requests : ByNumber OpenRequest) (b : ℕ) : Type 0 where
  pub number : ℕ
  pub request : OpenRequest
  pub is : map.get requests number ≡ Some request
  pub put : is_put request.kind ≡ true
  pub same : request.bfid.0 ≡ b

-- the put of a file that was not changed since: its inode is still being made into this bitfile
pub record LivePut (inodes : ByNumber Inode) (n was : ℕ) (b : Bfid) : Type 0 where
  pub bytes : List ℕ
  pub is : map.get inodes n ≡ Some (record { change = was; contents = Making bytes b })

-- the contents are those of a dual-state or offline file with this bitfile
abbrev pub IsStoredAs : Contents → Bfid → Type 0
IsStoredAs (Regular bytes) b = ⊥
IsStoredAs (Making bytes c) b = ⊥
IsStoredAs (Dual bytes c) b = c ≡ b
IsStoredAs (Offline len c) b = c ≡ b

-- the recall of a file that was not changed since
pub record LiveRecall (inodes : ByNumber Inode) (n was : ℕ) (b : Bfid) : Type 0 where
  pub inode : Inode
  pub is : map.get inodes n ≡ Some inode
  pub change : inode.change ≡ was
  pub form : IsStoredAs inode.contents b

-- the content of a request's bitfile has the entry's length
pub record RequestContent (entries : ByNumber Entry) (contents : ByNumber (List ℕ)) (b : ℕ) : Type 0 where
  pub bytes : List ℕ
  pub is : map.get contents b ≡ Some bytes
  pub len : (e : Entry) → map.get entries b ≡ Some e → e.len ≡ length bytes

-- what is kept of requests
pub record RequestsKept (requests : ByNumber OpenRequest) (next : ℕ) (inodes : ByNumber Inode) (entries : ByNumber Entry)
    (contents : ByNumber (List ℕ)) : Type 0 where
  pub numbers : EachRow requests (λ k r. k < next)
  pub entry : EachRow requests (λ k r. RequestEntry entries r)
  pub content : EachRow requests (λ k r. RequestContent entries contents r.bfid.0)
  pub puts : EachRow requests (λ k r. is_put r.kind ≡ true → r.found ≡ None → LivePut inodes r.ino.0 r.was r.bfid)
  pub recalls : EachRow requests (λ k r. is_recall r.kind ≡ true → r.found ≡ None → LiveRecall inodes r.ino.0 r.was r.bfid)
  -- a bitfile has one put
  pub puts_apart : (k l : ℕ) (r s : OpenRequest) → map.get requests k ≡ Some r → map.get requests l ≡ Some s → is_put r.kind ≡ true
      → is_put s.kind ≡ true → r.bfid.0 ≡ s.bfid.0 → k ≡ l

-- ---- recalls

-- these bytes are the part of the whole that begins at the offset
pub record PartAt (whole : List ℕ) (offset : ℕ) (bytes : List ℕ) : Type 0 where
  pub within : offset + length bytes ≤ length whole
  pub part : part_of whole offset (length bytes) ≡ bytes

-- the recall of a worker is an open request; it asks the groups that the entry asks, and each of its reads is a part of
-- the content
pub record RecallKept (requests : ByNumber OpenRequest) (entries : ByNumber Entry) (contents : ByNumber (List ℕ)) (k : ℕ)
    (recall : Recall) : Type 0 where
  pub request : OpenRequest
  pub is : map.get requests k ≡ Some request
  pub kind : is_recall request.kind ≡ true
  pub same : request.bfid ≡ recall.bfid
  pub bytes : List ℕ
  pub content : map.get contents recall.bfid.0 ≡ Some bytes
  pub len : recall.len ≡ length bytes
  pub asked : recall.asked ≡ asked_by (map.get entries recall.bfid.0)
  pub reads : EachRow recall.reads (λ g parts. EachRow parts (λ offset part. PartAt bytes offset part))

-- what is kept of recalls
pub record RecallsKept (workers : ByNumber Worker) (requests : ByNumber OpenRequest) (entries : ByNumber Entry)
    (contents : ByNumber (List ℕ)) : Type 0 where
  pub kept : EachRow workers (λ w x. EachRow x.recalls (λ k recall. RecallKept requests entries contents k recall))
  -- a recall is of one worker
  pub apart : (v w k : ℕ) (x y : Worker) (r s : Recall) → map.get workers v ≡ Some x → map.get workers w ≡ Some y → map.get x.recalls k ≡ Some r
      → map.get y.recalls k ≡ Some s → v ≡ w
