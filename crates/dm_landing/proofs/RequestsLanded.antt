-- Open requests after a record of the daemon.
use Rattle.std.proofs.Common.{◌≡◌, ◌+◌, ◌≤◌, ℕ, Bool, true, false, cond, nat_eq, Some, None, Option, option_map, List}
use Rattle.std.proofs.Common.{refl, sym, ap, subst, ◌∙◌, inl, inr, arith}
use Rattle.std.proofs.lemmas.Bool.{eqb-false}
use Rattle.std.specs.FinMap as map
use Rattle.dm_base.specs.declared.identifier.Bfid.{Bfid}
use Rattle.dm_base.specs.declared.identifier.GroupId.{GroupId}
use Rattle.dm_base.specs.declared.identifier.Ino.{Ino}
use Rattle.dm_base.specs.declared.identifier.Secs.{Secs}
use Rattle.dm_tables.specs.Rows.{EachRow, adjust}
use Rattle.dm_tables.proofs.Orders.{numbers, same_or}
use Rattle.dm_tables.proofs.Rows.{get-beside, removed-beside, one_row}
use Rattle.dm_tables.proofs.Adjusted.{adjusted_row, adjusted-beside, get-mapped, each-map}
use Rattle.dm_durable.specs.Tables.{ByNumber}
use Rattle.dm_durable.specs.Daemon.{number_or, after_remove, after_begin_put, after_begin_put_at, after_release, after_restore, after_step}
use Rattle.dm_durable.specs.DaemonConditions.{MayBeMade, MayBeginPut, MayRelease, MayTake, MayRestore, MayStep}
use Rattle.dm_durable.specs.Dumps.{file_in}
use Rattle.dm_durable.specs.Inodes.{as_making, as_ended, as_offline, as_recalled, with_contents}
use Rattle.dm_durable.specs.declared.daemon.Contents.{Contents}
use Rattle.dm_durable.specs.declared.daemon.Contents.TheVariants.{Regular, Making, Dual, Offline}
use Rattle.dm_durable.specs.declared.daemon.DaemonStep.{DaemonStep}
use Rattle.dm_durable.specs.declared.daemon.DaemonStep.TheVariants.{Write, Remove, BeginPut, Stored, EndPut, Release, Taken, Dump, Undump, Restore, HardDelete, Dropped, Restart, Age}
use Rattle.dm_durable.specs.declared.daemon.DaemonTables.{DaemonTables}
use Rattle.dm_durable.specs.declared.daemon.DumpInode.{DumpInode}
use Rattle.dm_durable.specs.declared.daemon.Inode.{Inode}
use Rattle.dm_model.specs.declared.state.Daemon.{Daemon}
use Rattle.dm_model.specs.declared.state.OpenRequest.{OpenRequest}
use Rattle.dm_model.specs.declared.state.Side.{Side}
use Rattle.dm_model.specs.DaemonShare.{with_change, with_change_on, requests_after_step}
use Rattle.dm_model.specs.Files.{is_put, is_recall}
use Rattle.dm_invariant.specs.Doubts.{NoPutOf, NotBeingMade, StepNeeds}
use Rattle.dm_invariant.specs.Requests.{PutOpen, LivePut, IsStoredAs, LiveRecall}
use Rattle.dm_invariant.specs.Reservations.{PutOf}

-- ---- what is noted

-- a request after a step was there before it, but for the change that it found; none comes to be as if none was found
pub record WasRequest (requests : ByNumber OpenRequest) (k : ℕ) (r : OpenRequest) : Type 0 where
  pub found : Option ℕ
  pub is : map.get requests k ≡ Some (record r { found = found })
  pub unfound : r.found ≡ None → found ≡ None

unfound_of : (b : Bool) (change : ℕ) (found : Option ℕ) → cond b (Some change) found ≡ None → (b ≡ false) × (found ≡ None)
unfound_of true change found e = absurd (cc)
unfound_of false change found e = (refl, e)

same_requests : (requests : ByNumber OpenRequest) → EachRow requests (WasRequest requests)
same_requests requests = λ k r e. record { found = r.found; is = e; unfound = λ u. u }

noted_was : (requests : ByNumber OpenRequest) (change : ℕ) (name : Option Ino) → EachRow (with_change_on requests change name) (WasRequest requests)
noted_was requests change None = same_requests requests
noted_was requests change (Some n) =
    each-map numbers (WasRequest requests) (λ k. with_change n.0 change) requests
    (λ k r e. record { found = r.found; is = e; unfound = λ u. (unfound_of (nat_eq r.ino.0 n.0) change r.found u).1 })

-- each request after a step was there before it
pub was_request : (d : Daemon) (s : DaemonStep) → EachRow (requests_after_step d s) (WasRequest d.requests)
was_request d (Write path change bytes) = noted_was d.requests change (map.get d.tables.names path)
was_request d (Remove path change) = noted_was d.requests change (map.get d.tables.names path)
was_request d (BeginPut path b groups) = same_requests d.requests
was_request d (Stored b group) = same_requests d.requests
was_request d (EndPut n b dual) = same_requests d.requests
was_request d (Release path) = same_requests d.requests
was_request d (Taken n bytes) = same_requests d.requests
was_request d (Dump name) = same_requests d.requests
was_request d (Undump name) = same_requests d.requests
was_request d (Restore name path target change) = same_requests d.requests
was_request d (HardDelete bfids) = same_requests d.requests
was_request d (Dropped b) = same_requests d.requests
was_request d Restart = same_requests d.requests
was_request d (Age age) = same_requests d.requests

-- a request is there after a step, but for the change that it finds
pub record IsRequest (requests : ByNumber OpenRequest) (k : ℕ) (r : OpenRequest) : Type 0 where
  pub found : Option ℕ
  pub is : map.get requests k ≡ Some (record r { found = found })

noted_is : (requests : ByNumber OpenRequest) (change : ℕ) (name : Option Ino) → EachRow requests (IsRequest (with_change_on requests change name))
noted_is requests change None = λ k r e. record { found = r.found; is = e }
noted_is requests change (Some n) = λ k r e. record {
  found = cond (nat_eq r.ino.0 n.0) (Some change) r.found;
  is = get-mapped numbers (λ k. with_change n.0 change) requests k ∙ ap (option_map (with_change n.0 change)) e;
}

-- each request is still open after a step, perhaps with a change noted
pub is_request : (d : Daemon) (s : DaemonStep) → EachRow d.requests (IsRequest (requests_after_step d s))
is_request d (Write path change bytes) = noted_is d.requests change (map.get d.tables.names path)
is_request d (Remove path change) = noted_is d.requests change (map.get d.tables.names path)
is_request d (BeginPut path b groups) = noted_is d.requests 0 None
is_request d (Stored b group) = noted_is d.requests 0 None
is_request d (EndPut n b dual) = noted_is d.requests 0 None
is_request d (Release path) = noted_is d.requests 0 None
is_request d (Taken n bytes) = noted_is d.requests 0 None
is_request d (Dump name) = noted_is d.requests 0 None
is_request d (Undump name) = noted_is d.requests 0 None
is_request d (Restore name path target change) = noted_is d.requests 0 None
is_request d (HardDelete bfids) = noted_is d.requests 0 None
is_request d (Dropped b) = noted_is d.requests 0 None
is_request d Restart = noted_is d.requests 0 None
is_request d (Age age) = noted_is d.requests 0 None

-- the put of a request is still open
pub put_of_request : (d : Daemon) (s : DaemonStep) (k b : ℕ) → PutOf d.requests k b → PutOf (requests_after_step d s) k b
put_of_request d s k b put =
    let now = is_request d s k put.request put.is in
    record { request = record put.request { found = now.found }; is = now.is; put = put.put; same = put.same }

-- and a put that is open was open before
pub put_was_open : (d : Daemon) (s : DaemonStep) (b : ℕ) → PutOpen (requests_after_step d s) b → PutOpen d.requests b
put_was_open d s b put =
    let was = was_request d s put.number put.request put.is in
    record { number = put.number; request = record put.request { found = was.found }; is = was.is; put = put.put; same = put.same }

-- a request that found no change is not on the inode that was changed
noted_apart : (requests : ByNumber OpenRequest) (change : ℕ) (n : Ino)
    → EachRow (with_change_on requests change (Some n)) (λ k r. r.found ≡ None → r.ino.0 ≡ n.0 → ⊥)
noted_apart requests change n =
    each-map numbers (λ k r. r.found ≡ None → r.ino.0 ≡ n.0 → ⊥) (λ k. with_change n.0 change) requests
    (λ k r e u same. eqb-false r.ino.0 n.0 (unfound_of (nat_eq r.ino.0 n.0) change r.found u).0 same)

-- ---- files that were not changed

-- a request that found no change has its file as it was
pub record StillLive (requests : ByNumber OpenRequest) (inodes : ByNumber Inode) : Type 0 where
  pub puts : EachRow requests (λ k r. is_put r.kind ≡ true → r.found ≡ None → LivePut inodes r.ino.0 r.was r.bfid)
  pub recalls : EachRow requests (λ k r. is_recall r.kind ≡ true → r.found ≡ None → LiveRecall inodes r.ino.0 r.was r.bfid)

-- only the inode of one number may change
abbrev OthersStay : ℕ → ByNumber Inode → ByNumber Inode → Type 0
OthersStay n old new = (q : ℕ) → (q ≡ n → ⊥) → map.get new q ≡ map.get old q

live_put_on : (old new : ByNumber Inode) (q was : ℕ) (b : Bfid) → map.get new q ≡ map.get old q → LivePut old q was b → LivePut new q was b
live_put_on old new q was b same live = record { bytes = live.bytes; is = same ∙ live.is }

live_recall_on : (old new : ByNumber Inode) (q was : ℕ) (b : Bfid) → map.get new q ≡ map.get old q → LiveRecall old q was b → LiveRecall new q was b
live_recall_on old new q was b same live = record { inode = live.inode; is = same ∙ live.is; change = live.change; form = live.form }

-- a request on the inode that changes keeps its file, or there is none
still_live : (requests later : ByNumber OpenRequest) (old new : ByNumber Inode) (n : ℕ) → StillLive requests old → EachRow later (WasRequest requests)
    → OthersStay n old new
    → EachRow later (λ k r. is_put r.kind ≡ true → r.found ≡ None → r.ino.0 ≡ n → LivePut new r.ino.0 r.was r.bfid)
    → EachRow later (λ k r. is_recall r.kind ≡ true → r.found ≡ None → r.ino.0 ≡ n → LiveRecall new r.ino.0 r.was r.bfid) → StillLive later new
still_live requests later old new n live was others puts recalls = record {
  puts = λ k r e kind u.
      elim (same_or numbers n r.ino.0) [
        | inl same ↦ puts k r e kind u same
        | inr differ ↦
            let w = was k r e in
            live_put_on old new r.ino.0 r.was r.bfid (others r.ino.0 differ) (live.puts k (record r { found = w.found }) w.is kind (w.unfound u))
      ];
  recalls = λ k r e kind u.
      elim (same_or numbers n r.ino.0) [
        | inl same ↦ recalls k r e kind u same
        | inr differ ↦
            let w = was k r e in
            live_recall_on old new r.ino.0 r.was r.bfid (others r.ino.0 differ)
            (live.recalls k (record r { found = w.found }) w.is kind (w.unfound u))
      ];
}

-- the inode of one number changes, and no request that found no change is on it
still_apart : (requests later : ByNumber OpenRequest) (old new : ByNumber Inode) (n : ℕ) → StillLive requests old
    → EachRow later (WasRequest requests) → OthersStay n old new
    → EachRow later (λ k r. r.found ≡ None → r.ino.0 ≡ n → ⊥) → StillLive later new
still_apart requests later old new n live was others none =
    still_live requests later old new n live was others (λ k r e kind u same. absurd (none k r e u same))
    (λ k r e kind u same. absurd (none k r e u same))

-- ---- a step of each kind

change_of : (old new : ByNumber Inode) (n : ℕ) (i : Inode) → new ≡ map.insert old n i → OthersStay n old new
change_of old new n i is = λ q differ. ap (λ m. map.get m q) is ∙ get-beside numbers old n i q differ

-- the number of a new inode is above each that is there
fresh_apart : (t : DaemonTables) (requests : ByNumber OpenRequest) (change : ℕ) → EachRow t.inodes (λ n i. n ≤ t.change)
    → change ≡ t.change + 1 → StillLive requests t.inodes
    → EachRow requests (λ k r. is_put r.kind ≡ true → r.found ≡ None → r.ino.0 ≡ change → ⊥)
    × EachRow requests (λ k r. is_recall r.kind ≡ true → r.found ≡ None → r.ino.0 ≡ change → ⊥)
fresh_apart t requests change limits next live = (
  λ k r e kind u same.
      let there = live.puts k r e kind u in
      let low : r.ino.0 ≤ t.change = limits r.ino.0 _ there.is in
      absurd (omega (arith, next, same, low)),
  λ k r e kind u same.
      let there = live.recalls k r e kind u in
      let low : r.ino.0 ≤ t.change = limits r.ino.0 _ there.is in
      absurd (omega (arith, next, same, low)),
)

-- the file of a path, or a new one, is written
live_written_at : (t : DaemonTables) (requests : ByNumber OpenRequest) (change : ℕ) (bytes : List ℕ) (name : Option Ino)
    → EachRow t.inodes (λ n i. n ≤ t.change) → change ≡ t.change + 1 → StillLive requests t.inodes
    → StillLive (with_change_on requests change name) (map.insert t.inodes (number_or name change) (record { change = change; contents = Regular bytes }))
live_written_at t requests change bytes None limits next live =
    let none = fresh_apart t requests change limits next live in
    still_live requests requests t.inodes _ change live (same_requests requests) (change_of t.inodes _ change _ refl)
    (λ k r e kind u same. absurd (none.0 k r e kind u same)) (λ k r e kind u same. absurd (none.1 k r e kind u same))
live_written_at t requests change bytes (Some n) limits next live =
    still_apart requests (with_change_on requests change (Some n)) t.inodes _ n.0 live (noted_was requests change (Some n))
    (change_of t.inodes _ n.0 _ refl)
    (noted_apart requests change n)

-- the file of a path is removed
live_removed_at : (t : DaemonTables) (requests : ByNumber OpenRequest) (path : List ℕ) (change : ℕ) (name : Option Ino) → StillLive requests t.inodes
    → StillLive (with_change_on requests change name) (after_remove t path change name).inodes
live_removed_at t requests path change None live = live
live_removed_at t requests path change (Some n) live =
    still_apart requests (with_change_on requests change (Some n)) t.inodes (map.remove t.inodes n.0) n.0 live (noted_was requests change (Some n))
    (λ q differ. removed-beside numbers t.inodes n.0 q differ) (noted_apart requests change n)

-- the inode of a put that found no change is being made into its bitfile
making_put : (inodes : ByNumber Inode) (n was : ℕ) (b : Bfid) (i : Inode) → map.get inodes n ≡ Some i → LivePut inodes n was b
    → (bytes : List ℕ) × (i.contents ≡ Making bytes b)
making_put inodes n was b i is live = (live.bytes, ap (λ (x : Inode). x.contents) (one_row inodes n n _ _ refl is live.is))

stored_recall : (inodes : ByNumber Inode) (n was : ℕ) (b : Bfid) (i : Inode) → map.get inodes n ≡ Some i → LiveRecall inodes n was b
    → IsStoredAs i.contents b
stored_recall inodes n was b i is live =
    subst (λ (x : Inode). IsStoredAs x.contents b) (one_row inodes n n _ _ refl live.is is) live.form

not_both : (c : Contents) (b : Bfid) → MayBeMade c → IsStoredAs c b → ⊥
not_both (Regular bytes) b may has = has
not_both (Making bytes c) b may has = has
not_both (Dual bytes c) b may has = may
not_both (Offline len c) b may has = may

-- a put begins on a file that no put is open of
begun_live : (t : DaemonTables) (requests : ByNumber OpenRequest) (time : Secs) (path : List ℕ) (b : Bfid) (groups : List GroupId)
    → MayBeginPut t path b groups → NotBeingMade t requests path → StillLive requests t.inodes
    → StillLive requests (after_begin_put_at (record t { time = time }) b groups (map.get t.names path)).inodes
begun_live t requests time path b groups may idle live =
    let n : ℕ = may.n.0 in
    let later : DaemonTables = record t { time = time } in
    let is : (after_begin_put_at later b groups (map.get t.names path)).inodes ≡ map.insert t.inodes n (with_contents (as_making b) may.inode) =
    ap (λ o. (after_begin_put_at later b groups o).inodes) may.name ∙ ap (λ o. (after_begin_put later b groups n o).inodes) may.is in
    still_live requests requests t.inodes _ n live (same_requests requests) (change_of t.inodes _ n _ is)
    (λ k r e kind u same.
    let at : LivePut t.inodes n r.was r.bfid = subst (λ q. LivePut t.inodes q r.was r.bfid) same (live.puts k r e kind u) in
    let made = making_put t.inodes n r.was r.bfid may.inode may.is at in
    absurd (idle may.n may.inode made.0 r.bfid may.name may.is made.1 (record { number = k; request = r; is = e; put = kind; same = refl })))
    (λ k r e kind u same.
    let at : LiveRecall t.inodes n r.was r.bfid = subst (λ q. LiveRecall t.inodes q r.was r.bfid) same (live.recalls k r e kind u) in
    absurd (not_both may.inode.contents r.bfid may.form (stored_recall t.inodes n r.was r.bfid may.inode may.is at)))

-- a put ends of which no request is open
ended_live : (inodes : ByNumber Inode) (requests : ByNumber OpenRequest) (n : ℕ) (b : Bfid) (dual : Bool) (i : Inode) (bytes : List ℕ)
    → map.get inodes n ≡ Some i → i.contents ≡ Making bytes b → NoPutOf requests b.0 → StillLive requests inodes
    → StillLive requests (adjust inodes n (with_contents (as_ended dual)))
ended_live inodes requests n b dual i bytes is form none live =
    still_live requests requests inodes _ n live (same_requests requests) (adjusted-beside numbers inodes n (with_contents (as_ended dual)))
    (λ k r e kind u same.
    let at : LivePut inodes n r.was r.bfid = subst (λ q. LivePut inodes q r.was r.bfid) same (live.puts k r e kind u) in
    let made = making_put inodes n r.was r.bfid i is at in
    let one : Making made.0 r.bfid ≡ Making bytes b = sym made.1 ∙ form in
    let equal : r.bfid ≡ b = cc in
    absurd (none (record { number = k; request = r; is = e; put = kind; same = ap (λ (c : Bfid). c.0) equal })))
    (λ k r e kind u same.
    let at : LiveRecall inodes n r.was r.bfid = subst (λ q. LiveRecall inodes q r.was r.bfid) same (live.recalls k r e kind u) in
    let stored : IsStoredAs (Making bytes b) r.bfid = subst (λ c. IsStoredAs c r.bfid) form (stored_recall inodes n r.was r.bfid i is at) in
    absurd stored)

-- ---- the bytes leave the disk, or come back

-- no put is of contents that were stored
not_making : (c : Contents) (bytes : List ℕ) (b d : Bfid) → IsStoredAs c d → c ≡ Making bytes b → ⊥
not_making (Regular old) bytes b d has is = has
not_making (Making old c) bytes b d has is = has
not_making (Dual old c) bytes b d has is = absurd (cc)
not_making (Offline len c) bytes b d has is = absurd (cc)

-- an inode that keeps its bitfile on the volumes takes another form
reformed_live : (inodes : ByNumber Inode) (requests : ByNumber OpenRequest) (n : ℕ) (f : Contents → Contents) (i : Inode) (d : Bfid)
    → map.get inodes n ≡ Some i → IsStoredAs i.contents d
    → ((b : Bfid) → IsStoredAs i.contents b → IsStoredAs (f i.contents) b) → StillLive requests inodes
    → StillLive requests (adjust inodes n (with_contents f))
reformed_live inodes requests n f i d is has go live =
    still_live requests requests inodes _ n live (same_requests requests) (adjusted-beside numbers inodes n (with_contents f))
    (λ k r e kind u same.
    let at : LivePut inodes n r.was r.bfid = subst (λ q. LivePut inodes q r.was r.bfid) same (live.puts k r e kind u) in
    let made = making_put inodes n r.was r.bfid i is at in
    absurd (not_making i.contents made.0 r.bfid d has made.1))
    (λ k r e kind u same.
    let at : LiveRecall inodes n r.was r.bfid = subst (λ q. LiveRecall inodes q r.was r.bfid) same (live.recalls k r e kind u) in
    let one : at.inode ≡ i = one_row inodes n n _ _ refl at.is is in
    let now : LiveRecall (adjust inodes n (with_contents f)) n r.was r.bfid = record {
      inode = with_contents f i;
      is = adjusted_row numbers inodes n (with_contents f) i is;
      change = sym (ap (λ (x : Inode). x.change) one) ∙ at.change;
      form = go r.bfid (stored_recall inodes n r.was r.bfid i is at);
    } in
    subst (λ q. LiveRecall (adjust inodes n (with_contents f)) q r.was r.bfid) (sym same) now)

release_keeps : (c : Contents) (b : Bfid) → IsStoredAs c b → IsStoredAs (as_offline c) b
release_keeps (Regular bytes) b has = has
release_keeps (Making bytes c) b has = has
release_keeps (Dual bytes c) b has = has
release_keeps (Offline len c) b has = has

recall_keeps : (bytes : List ℕ) (c : Contents) (b : Bfid) → IsStoredAs c b → IsStoredAs (as_recalled bytes c) b
recall_keeps bytes (Regular old) b has = has
recall_keeps bytes (Making old c) b has = has
recall_keeps bytes (Dual old c) b has = has
recall_keeps bytes (Offline len c) b has = has

released_live : (t : DaemonTables) (requests : ByNumber OpenRequest) (time : Secs) (path : List ℕ) → MayRelease t path → StillLive requests t.inodes
    → StillLive requests (after_release (record t { time = time }) (map.get t.names path)).inodes
released_live t requests time path may live =
    let n : ℕ = may.n.0 in
    let later : DaemonTables = record t { time = time } in
    let is : map.get t.names path ≡ Some may.n = may.name in
    let has : IsStoredAs may.inode.contents may.b = subst (λ c. IsStoredAs c may.b) (sym may.form) refl in
    subst (λ o. StillLive requests (after_release later o).inodes) (sym is)
    (reformed_live t.inodes requests n as_offline may.inode may.b may.is has (release_keeps may.inode.contents) live)

taken_live : (t : DaemonTables) (requests : ByNumber OpenRequest) (n : ℕ) (bytes : List ℕ) → MayTake t n bytes → StillLive requests t.inodes
    → StillLive requests (adjust t.inodes n (with_contents (as_recalled bytes)))
taken_live t requests n bytes may live =
    let has : IsStoredAs may.inode.contents may.b = subst (λ c. IsStoredAs c may.b) (sym may.form) refl in
    reformed_live t.inodes requests n (as_recalled bytes) may.inode may.b may.is has (recall_keeps bytes may.inode.contents) live

-- ---- a file is restored

-- the file that a restore finds
pub restored_found : (t : DaemonTables) (now : ℕ) (name path target : List ℕ) (change : ℕ) → (may : MayRestore t now name path target change)
    → file_in (map.get t.dumps name) path ≡ Some may.file
restored_found t now name path target change may = ap (λ o. file_in o path) may.known ∙ may.has

restored_live : (t : DaemonTables) (requests : ByNumber OpenRequest) (time : Secs) (target : List ℕ) (change : ℕ) (file : DumpInode)
    → EachRow t.inodes (λ n i. n ≤ t.change) → change ≡ t.change + 1 → StillLive requests t.inodes
    → StillLive requests (after_restore (record t { time = time }) target change (Some file)).inodes
restored_live t requests time target change file limits next live =
    let none = fresh_apart t requests change limits next live in
    still_live requests requests t.inodes _ change live (same_requests requests) (change_of t.inodes _ change _ refl)
    (λ k r e kind u same. absurd (none.0 k r e kind u same)) (λ k r e kind u same. absurd (none.1 k r e kind u same))

restored_live_at : (t : DaemonTables) (requests : ByNumber OpenRequest) (time : Secs) (name path target : List ℕ) (change : ℕ)
    → EachRow t.inodes (λ n i. n ≤ t.change) → MayRestore t time.0 name path target change → StillLive requests t.inodes
    → StillLive requests (after_restore (record t { time = time }) target change (file_in (map.get t.dumps name) path)).inodes
restored_live_at t requests time name path target change limits may live =
    subst (λ o. StillLive requests (after_restore (record t { time = time }) target change o).inodes)
    (sym (restored_found t time.0 name path target change may))
    (restored_live t requests time target change may.file limits may.next.next live)

-- ---- any step

-- a request that found no change has its file as it was, after a step that may land
pub after_step_live : (d : Daemon) (contents : ByNumber (List ℕ)) (sides : ByNumber Side) (time : Secs) (s : DaemonStep)
    → EachRow d.tables.inodes (λ n i. n ≤ d.tables.change) → MayStep d.tables time.0 s
    → StepNeeds d.tables d.requests contents d.cap sides s → StillLive d.requests d.tables.inodes
    → StillLive (requests_after_step d s) (after_step (record d.tables { time = time }) s).inodes
after_step_live d contents sides time (Write path change bytes) limits may needs live =
    live_written_at d.tables d.requests change bytes (map.get d.tables.names path) limits may.next.next live
after_step_live d contents sides time (Remove path change) limits may needs live =
    live_removed_at (record d.tables { time = time }) d.requests path change (map.get d.tables.names path) live
after_step_live d contents sides time (BeginPut path b groups) limits may needs live = begun_live d.tables d.requests time path b groups may needs.0 live
after_step_live d contents sides time (Stored b group) limits may needs live = live
after_step_live d contents sides time (EndPut n b dual) limits may needs live =
    ended_live d.tables.inodes d.requests n.0 b dual may.inode may.bytes may.is may.form needs live
after_step_live d contents sides time (Release path) limits may needs live = released_live d.tables d.requests time path may live
after_step_live d contents sides time (Taken n bytes) limits may needs live = taken_live d.tables d.requests n.0 bytes may live
after_step_live d contents sides time (Dump name) limits may needs live = live
after_step_live d contents sides time (Undump name) limits may needs live = live
after_step_live d contents sides time (Restore name path target change) limits may needs live =
    restored_live_at d.tables d.requests time name path target change limits may live
after_step_live d contents sides time (HardDelete bfids) limits may needs live = live
after_step_live d contents sides time (Dropped b) limits may needs live = live
after_step_live d contents sides time Restart limits may needs live = absurd needs
after_step_live d contents sides time (Age age) limits may needs live = live
