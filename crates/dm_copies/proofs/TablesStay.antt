-- What a record of the daemon leaves of the copies, and of which bitfiles were given.
use Rattle.std.proofs.Common.{◌≡◌, ◌≢◌, ◌≤◌, ◌+◌, ℕ, Option, None, Some, List, length, refl, sym, ap, subst, ◌∙◌, arith}
use Rattle.std.specs.FinMap as map
use Rattle.std.proofs.lemmas.Option.{same_Some}
use Rattle.dm_base.specs.Limits.{number_limit}
use Rattle.dm_base.specs.declared.identifier.Bfid.{Bfid}
use Rattle.dm_base.specs.declared.identifier.GroupId.{GroupId}
use Rattle.dm_base.specs.declared.identifier.Ino.{Ino}
use Rattle.dm_base.specs.declared.identifier.Secs.{Secs}
use Rattle.dm_rules.specs.Numbers.{as_word}
use Rattle.dm_tables.specs.Rows.{EachRow}
use Rattle.dm_tables.proofs.Orders.{numbers}
use Rattle.dm_tables.proofs.Rows.{each-insert, get-beside, get-here}
use Rattle.dm_durable.specs.declared.daemon.DaemonRecord.{DaemonRecord}
use Rattle.dm_durable.specs.declared.daemon.DaemonStep.{DaemonStep}
use Rattle.dm_durable.specs.declared.daemon.DaemonStep.TheVariants.{Write, Remove, BeginPut, Stored, EndPut, Release, Taken, Dump, Undump, Restore, HardDelete, Dropped, Restart, Age}
use Rattle.dm_durable.specs.declared.daemon.DaemonTables.{DaemonTables}
use Rattle.dm_durable.specs.declared.daemon.DumpInode.{DumpInode}
use Rattle.dm_durable.specs.declared.daemon.Inode.{Inode}
use Rattle.dm_durable.specs.Daemon.{after_begin_put, after_begin_put_at, after_record, after_release, after_remove, after_restore, after_step, bfid_of}
use Rattle.dm_durable.specs.DaemonJournal.{IsGiven}
use Rattle.dm_durable.specs.Dumps.{file_in}
use Rattle.dm_durable.specs.Inodes.{bytes_online}
use Rattle.dm_durable.specs.Entries.{new_entry}
use Rattle.dm_durable.specs.Tables.{ByNumber}
use Rattle.dm_model.specs.declared.state.CopyState.{CopyState}
use Rattle.dm_model.specs.declared.state.Daemon.{Daemon}
use Rattle.dm_model.specs.declared.state.History.{History}
use Rattle.dm_model.specs.declared.state.OpenRequest.{OpenRequest}
use Rattle.dm_model.specs.DaemonShare.{requests_after_step}
use Rattle.dm_model.specs.Effects.{contents_with, history_after_step}
use Rattle.dm_model.specs.Files.{File, file_at, file_named, file_of}
use Rattle.dm_landing.proofs.NamedRows.{given_longer, next_given, next_not_given}
use Rattle.dm_landing.proofs.RequestsLanded.{put_of_request}
use Rattle.dm_copies.specs.Asked.{CopyIsAsked, StepSpares}
use Rattle.dm_copies.proofs.EntriesStill.{Spared, entry_still}

-- ---- numbers of bitfiles

-- the counter isn't less, and the site is the same
pub record Onward (t u : DaemonTables) : Type 0 where
  pub site : u.site ≡ t.site
  pub more : t.counter ≤ u.counter

onward_same : (t u : DaemonTables) → u.site ≡ t.site → u.counter ≡ t.counter → Onward t u
onward_same t u site same = record { site = site; more = omega (arith, same) }

pub given_on : (t u : DaemonTables) (b : ℕ) → Onward t u → IsGiven t.site t.counter b → IsGiven u.site u.counter b
given_on t u b on given = subst (λ s. IsGiven s u.counter b) (sym on.site) (given_longer t.site t.counter u.counter b on.more given)

one_more : (n : ℕ) → n ≤ number_limit → as_word (n + 1) ≡ n + 1
one_more n le = omega (arith, le)

module _ (t : DaemonTables) where
  begun_on : (b : Bfid) (groups : List GroupId) (n : ℕ) (o : Option Inode) → t.counter ≤ number_limit → Onward t (after_begin_put t b groups n o)
  begun_on b groups n None left = onward_same t t refl refl
  begun_on b groups n (Some i) left = record { site = refl; more = let e = one_more t.counter left in omega (arith, e) }

  begun_at_on : (b : Bfid) (groups : List GroupId) (o : Option Ino) → t.counter ≤ number_limit → Onward t (after_begin_put_at t b groups o)
  begun_at_on b groups None left = onward_same t t refl refl
  begun_at_on b groups (Some n) left = begun_on b groups n.0 (map.get t.inodes n.0) left

  removed_on : (path : List ℕ) (change : ℕ) (o : Option Ino) → Onward t (after_remove t path change o)
  removed_on path change None = onward_same t (after_remove t path change None) refl refl
  removed_on path change (Some n) = onward_same t (after_remove t path change (Some n)) refl refl

  released_on : (o : Option Ino) → Onward t (after_release t o)
  released_on None = onward_same t t refl refl
  released_on (Some n) = onward_same t (after_release t (Some n)) refl refl

  restored_on : (target : List ℕ) (change : ℕ) (o : Option DumpInode) → Onward t (after_restore t target change o)
  restored_on target change None = onward_same t (after_restore t target change None) refl refl
  restored_on target change (Some file) = onward_same t (after_restore t target change (Some file)) refl refl

  pub step_on : (requests : ByNumber OpenRequest) (s : DaemonStep) → StepSpares t requests s → Onward t (after_step t s)
  step_on requests (Write path change bytes) spares = onward_same t _ refl refl
  step_on requests (Remove path change) spares = removed_on path change (map.get t.names path)
  step_on requests (BeginPut path b groups) spares = begun_at_on b groups (map.get t.names path) spares.1
  step_on requests (Stored b group) spares = onward_same t _ refl refl
  step_on requests (EndPut n b dual) spares = onward_same t _ refl refl
  step_on requests (Release path) spares = released_on (map.get t.names path)
  step_on requests (Taken n bytes) spares = onward_same t _ refl refl
  step_on requests (Dump name) spares = onward_same t _ refl refl
  step_on requests (Undump name) spares = onward_same t _ refl refl
  step_on requests (Restore name path target change) spares = restored_on target change (file_in (map.get t.dumps name) path)
  step_on requests (HardDelete bfids) spares = onward_same t _ refl refl
  step_on requests (Dropped b) spares = onward_same t _ refl refl
  step_on requests Restart spares = absurd spares
  step_on requests (Age age) spares = onward_same t _ refl refl

-- ---- copies

module _ (t : DaemonTables) (requests : ByNumber OpenRequest) (g b : ℕ) (c : CopyState) (kept : CopyIsAsked t requests g b c) where
  -- such a step spares the copy's entry
  spared : (s : DaemonStep) → StepSpares t requests s → Spared b s
  spared (Write path change bytes) spares = tt
  spared (Remove path change) spares = tt
  spared (BeginPut path d groups) spares = λ same. next_not_given t.site t.counter b (same ∙ spares.0) kept.given
  spared (Stored d group) spares = tt
  spared (EndPut n d dual) spares = tt
  spared (Release path) spares = tt
  spared (Taken n bytes) spares = tt
  spared (Dump name) spares = tt
  spared (Undump name) spares = tt
  spared (Restore name path target change) spares = tt
  spared (HardDelete bfids) spares = λ d among same. spares d among c.request kept.put.request kept.put.is (kept.put.same ∙ sym same)
  spared (Dropped d) spares = λ same.
      let gone = spares kept.entry (ap (map.get t.entries) (sym same) ∙ kept.is) in
      let lasting = kept.lasting in
      cc
  spared Restart spares = spares
  spared (Age age) spares = tt

-- the time of a record is no matter
later_spares : (t : DaemonTables) (time : Secs) (requests : ByNumber OpenRequest) (s : DaemonStep) → StepSpares t requests s
    → StepSpares (record t { time = time }) requests s
later_spares t time requests (Write path change bytes) spares = tt
later_spares t time requests (Remove path change) spares = tt
later_spares t time requests (BeginPut path d groups) spares = spares
later_spares t time requests (Stored d group) spares = tt
later_spares t time requests (EndPut n d dual) spares = tt
later_spares t time requests (Release path) spares = tt
later_spares t time requests (Taken n bytes) spares = tt
later_spares t time requests (Dump name) spares = tt
later_spares t time requests (Undump name) spares = tt
later_spares t time requests (Restore name path target change) spares = tt
later_spares t time requests (HardDelete bfids) spares = spares
later_spares t time requests (Dropped d) spares = spares
later_spares t time requests Restart spares = spares
later_spares t time requests (Age age) spares = tt

-- so the tables after a record are onward
abbrev Later : DaemonTables → Secs → DaemonTables
Later t time = record t { time = time }

pub record_on : (d : Daemon) (r : DaemonRecord) → StepSpares d.tables d.requests r.step → Onward d.tables (after_record d.tables r)
record_on d r spares =
    let on = step_on (Later d.tables r.time) d.requests r.step (later_spares d.tables r.time d.requests r.step spares) in
    record { site = on.site; more = on.more }

-- the copy is still asked for after a record
pub copy_paid : (d : Daemon) (r : DaemonRecord) (g b : ℕ) (c : CopyState) → StepSpares d.tables d.requests r.step
    → CopyIsAsked d.tables d.requests g b c → CopyIsAsked (after_record d.tables r) (requests_after_step d r.step) g b c
copy_paid d r g b c spares kept =
    let t : DaemonTables = record d.tables { time = r.time } in
    let still = entry_still t b kept.entry kept.is r.step (spared d.tables d.requests g b c kept r.step spares) in
    record {
      given = given_on d.tables (after_record d.tables r) b (record_on d r spares) kept.given;
      entry = still.later;
      is = still.is;
      asked = still.asked g ∙ kept.asked;
      lasting = still.lasting ∙ kept.lasting;
      put = put_of_request d r.step c.request b kept.put;
    }

-- ---- contents

-- a new content is of no bitfile that had one
content_beside : (contents : ByNumber (List ℕ)) (b q : ℕ) (o : Option File) (bytes : List ℕ) → q ≢ b → map.get contents q ≡ Some bytes
    → map.get (contents_with b o contents) q ≡ Some bytes
content_beside contents b q None bytes differ is = is
content_beside contents b q (Some f) bytes differ is = get-beside numbers contents b (bytes_online f.inode.contents) q differ ∙ is

module _ (d : Daemon) (h : History) (given : EachRow h.contents (λ b bytes. IsGiven d.tables.site d.tables.counter b)) where
  -- each content stays
  pub contents_stay : (s : DaemonStep) → StepSpares d.tables d.requests s
      → EachRow h.contents (λ q bytes. map.get (history_after_step d s h).contents q ≡ Some bytes)
  contents_stay (BeginPut path b groups) spares = λ q bytes is.
      content_beside h.contents b.0 q (file_at d path) bytes
      (λ same. next_not_given d.tables.site d.tables.counter q (same ∙ spares.0) (given q bytes is)) is
  contents_stay (Write path change own) spares = λ q bytes is. is
  contents_stay (Remove path change) spares = λ q bytes is. is
  contents_stay (Stored b group) spares = λ q bytes is. is
  contents_stay (EndPut n b dual) spares = λ q bytes is. is
  contents_stay (Release path) spares = λ q bytes is. is
  contents_stay (Taken n own) spares = λ q bytes is. is
  contents_stay (Dump name) spares = λ q bytes is. is
  contents_stay (Undump name) spares = λ q bytes is. is
  contents_stay (Restore name path target change) spares = λ q bytes is. is
  contents_stay (HardDelete bfids) spares = λ q bytes is. is
  contents_stay (Dropped b) spares = λ q bytes is. is
  contents_stay Restart spares = λ q bytes is. is
  contents_stay (Age age) spares = λ q bytes is. is

module _ (t : DaemonTables) (contents : ByNumber (List ℕ)) (given : EachRow contents (λ b bytes. IsGiven t.site t.counter b)) where
  abbrev Given : DaemonTables → ByNumber (List ℕ) → Type 0
  Given u c = EachRow c (λ b bytes. IsGiven u.site u.counter b)

  still_given : (u : DaemonTables) → Onward t u → Given u contents
  still_given u on = λ b bytes is. given_on t u b on (given b bytes is)

  begun_given : (b : Bfid) (groups : List GroupId) (n : ℕ) (o : Option Inode) → b.0 ≡ bfid_of t.site t.counter → t.counter ≤ number_limit
      → Given (after_begin_put t b groups n o) (contents_with b.0 (file_of n o) contents)
  begun_given b groups n None next left = given
  begun_given b groups n (Some i) next left =
      let u = after_begin_put t b groups n (Some i) in
      let e = one_more t.counter left in
      each-insert numbers (λ q bytes. IsGiven u.site u.counter q) contents b.0 (bytes_online i.contents)
      (subst (λ k. IsGiven t.site k b.0) (sym e) (next_given t.site t.counter b.0 next)) (still_given u (begun_on t b groups n (Some i) left))

  begun_at_given : (b : Bfid) (groups : List GroupId) (o : Option Ino) → b.0 ≡ bfid_of t.site t.counter → t.counter ≤ number_limit
      → Given (after_begin_put_at t b groups o) (contents_with b.0 (file_named t.inodes o) contents)
  begun_at_given b groups None next left = given
  begun_at_given b groups (Some n) next left = begun_given b groups n.0 (map.get t.inodes n.0) next left

-- the contents after a record are of bitfiles that were given
pub contents_given : (d : Daemon) (h : History) (r : DaemonRecord) → StepSpares d.tables d.requests r.step
    → EachRow h.contents (λ b bytes. IsGiven d.tables.site d.tables.counter b)
    → EachRow (history_after_step d r.step h).contents (λ b bytes. IsGiven (after_record d.tables r).site (after_record d.tables r).counter b)
contents_given d h r spares given = at r.step spares (record_on d r spares)
  where
    at : (s : DaemonStep) → StepSpares d.tables d.requests s → Onward d.tables (after_step (Later d.tables r.time) s)
        → EachRow (history_after_step d s h).contents
        (λ b bytes. IsGiven (after_step (Later d.tables r.time) s).site (after_step (Later d.tables r.time) s).counter b)
    at (BeginPut path b groups) spares on =
        begun_at_given (Later d.tables r.time) h.contents given b groups (map.get d.tables.names path) spares.0 spares.1
    at (Write path change own) spares on = still_given d.tables h.contents given _ on
    at (Remove path change) spares on = still_given d.tables h.contents given _ on
    at (Stored b group) spares on = still_given d.tables h.contents given _ on
    at (EndPut n b dual) spares on = still_given d.tables h.contents given _ on
    at (Release path) spares on = still_given d.tables h.contents given _ on
    at (Taken n own) spares on = still_given d.tables h.contents given _ on
    at (Dump name) spares on = still_given d.tables h.contents given _ on
    at (Undump name) spares on = still_given d.tables h.contents given _ on
    at (Restore name path target change) spares on = still_given d.tables h.contents given _ on
    at (HardDelete bfids) spares on = still_given d.tables h.contents given _ on
    at (Dropped b) spares on = still_given d.tables h.contents given _ on
    at Restart spares on = absurd spares
    at (Age age) spares on = still_given d.tables h.contents given _ on

-- the entry of the put that a record begins, and the number of its bitfile
module _ (t : DaemonTables) where
  abbrev Begun : Bfid → List GroupId → File → DaemonTables → Type 0
  Begun b groups f u = (map.get u.entries b.0 ≡ Some (new_entry (length (bytes_online f.inode.contents)) groups)) × IsGiven u.site u.counter b.0

  begun_entry_of : (b : Bfid) (groups : List GroupId) (n : ℕ) (o : Option Inode) (f : File) → file_of n o ≡ Some f
      → b.0 ≡ bfid_of t.site t.counter → t.counter ≤ number_limit → Begun b groups f (after_begin_put t b groups n o)
  begun_entry_of b groups n None f is next left = absurd (cc)
  begun_entry_of b groups n (Some i) f is next left =
      let e = one_more t.counter left in
      let file : record { number = n; inode = i } ≡ f = same_Some _ _ is in
      subst (λ (x : File). Begun b groups x (after_begin_put t b groups n (Some i))) file
      (get-here numbers _ b.0 _, subst (λ k. IsGiven t.site k b.0) (sym e) (next_given t.site t.counter b.0 next))

  pub begun_entry : (b : Bfid) (groups : List GroupId) (o : Option Ino) (f : File) → file_named t.inodes o ≡ Some f
      → b.0 ≡ bfid_of t.site t.counter → t.counter ≤ number_limit → Begun b groups f (after_begin_put_at t b groups o)
  begun_entry b groups None f is next left = absurd (cc)
  begun_entry b groups (Some n) f is next left = begun_entry_of b groups n.0 (map.get t.inodes n.0) f is next left
