-- What a record of the daemon makes of the entries and contents.
use Rattle.std.proofs.Common.{◌≡◌, ℕ, ◌≤◌, Bool, true, false, Option, Some, None, List, refl, sym, subst, inl, inr}
use Rattle.std.specs.FinMap as map
use Rattle.dm_base.specs.declared.identifier.Bfid.{Bfid}
use Rattle.dm_base.specs.declared.identifier.GroupId.{GroupId}
use Rattle.dm_base.specs.declared.identifier.Ino.{Ino}
use Rattle.dm_tables.specs.Rows.{EachRow}
use Rattle.dm_tables.proofs.Orders.{numbers}
use Rattle.dm_durable.specs.declared.daemon.DaemonRecord.{DaemonRecord}
use Rattle.dm_durable.specs.declared.daemon.DaemonStep.{DaemonStep}
use Rattle.dm_durable.specs.declared.daemon.DaemonStep.TheVariants.{Write, Remove, BeginPut, Stored, EndPut, Release, Taken, Dump, Undump, Restore, HardDelete, Dropped, Restart, Age}
use Rattle.dm_durable.specs.declared.daemon.DaemonTables.{DaemonTables}
use Rattle.dm_durable.specs.declared.daemon.DumpInode.{DumpInode}
use Rattle.dm_durable.specs.declared.daemon.Entry.{Entry}
use Rattle.dm_durable.specs.declared.daemon.Inode.{Inode}
use Rattle.dm_durable.specs.Tables.{ByNumber}
use Rattle.dm_durable.specs.Inodes.{is_named}
use Rattle.dm_durable.specs.Entries.{after_letting_go_if, groups_asked}
use Rattle.dm_durable.specs.Dumps.{file_in}
use Rattle.dm_durable.specs.Daemon.{after_begin_put, after_begin_put_at, after_end_put, after_release, after_remove, after_restore, after_step}
use Rattle.dm_durable.specs.DaemonConditions.{MayBeginPut, MayStep}
use Rattle.dm_model.specs.declared.state.Daemon.{Daemon}
use Rattle.dm_model.specs.declared.state.History.{History}
use Rattle.dm_model.specs.declared.state.OpenRequest.{OpenRequest}
use Rattle.dm_model.specs.declared.state.Side.{Side}
use Rattle.dm_model.specs.Effects.{contents_with, history_after_step}
use Rattle.dm_model.specs.Files.{File}
use Rattle.dm_invariant.specs.Doubts.{AllConfigured, MayLand, StepNeeds}
use Rattle.dm_invariant.specs.Files.{FilesKept}
use Rattle.dm_invariant.proofs.LookUps.{beside_free}
use Rattle.dm_landing.proofs.EntriesGone.{FreshEntry, go_itself, go_let_go, go_stored, go_named, go_taken, go_dropped}
use Rattle.dm_landing.proofs.Fates.{EntriesGo, fate_steady}
use Rattle.dm_landing.proofs.FilesBegun.{other_begun, content_free}
use Rattle.dm_landing.proofs.FilesWith.{NamedIn}

not_both : (b : ℕ) (inodes : ByNumber Inode) → is_named inodes b ≡ false → is_named inodes b ≡ true → ⊥
not_both b inodes none is = cc

module _ (t : DaemonTables) (contents : ByNumber (List ℕ)) (cap : ℕ) (sides : ByNumber Side) (requests : ByNumber OpenRequest) (time : ℕ)
    (k : FilesKept t contents cap) (on : t.time.0 ≤ time) where
  abbrev Later : DaemonTables
  Later = record t { time = record { 0 = time } }

  -- the entries of these tables are those of the tables before, each with its fate
  abbrev pub Goes : DaemonTables → Type 0
  Goes u = EntriesGo (NamedIn u.inodes) sides requests time t.age (FreshEntry t.site t.counter time contents sides) t.entries u.entries

  same : (inodes : ByNumber Inode) → EntriesGo (NamedIn inodes) sides requests time t.age (FreshEntry t.site t.counter time contents sides) t.entries t.entries
  same inodes = go_itself (NamedIn inodes) sides requests time t.age (FreshEntry t.site t.counter time contents sides) t.entries

  goes_let_go : (inodes : ByNumber Inode) (o : Option ℕ) → EntriesGo (NamedIn inodes) sides requests time t.age
      (FreshEntry t.site t.counter time contents sides) t.entries (after_letting_go_if t.entries inodes time o)
  goes_let_go inodes o = go_let_go (NamedIn inodes) sides requests time t.age (FreshEntry t.site t.counter time contents sides) t.entries inodes o
      (λ b none at. not_both b inodes none at)

  removed_goes : (path : List ℕ) (change : ℕ) (o : Option Ino) → Goes (after_remove Later path change o)
  removed_goes path change None = same t.inodes
  removed_goes path change (Some n) = goes_let_go _ _

  begun_goes : (path : List ℕ) (b : Bfid) (groups : List GroupId) → MayBeginPut t path b groups → AllConfigured sides groups
      → Goes (after_begin_put_at Later b groups (map.get t.names path))
  begun_goes path b groups may all =
      subst (λ o. Goes (after_begin_put_at Later b groups o)) (sym may.name)
      (subst (λ o. Goes (after_begin_put Later b groups may.n.0 o)) (sym may.is)
      (other_begun t contents cap sides requests time k on may.n.0 b groups may.inode may.is may.form may.next may.left may.asked may.numbers may.room all).go)

  ended_goes : (n b : ℕ) (dual : Bool) → Goes (after_end_put Later n b dual)
  ended_goes n b true = same _
  ended_goes n b false = goes_let_go _ (Some b)

  released_goes : (o : Option Ino) → Goes (after_release Later o)
  released_goes None = same _
  released_goes (Some n) = same _

  restored_goes : (target : List ℕ) (change : ℕ) (o : Option DumpInode) → Goes (after_restore Later target change o)
  restored_goes target change None = same _
  restored_goes target change (Some f) = go_named (NamedIn _) sides requests time t.age (FreshEntry t.site t.counter time contents sides) t.entries _

  -- each entry has its fate after a step
  pub step_goes : (s : DaemonStep) → MayStep t time s → StepNeeds t requests contents cap sides s → Goes (after_step Later s)
  step_goes (Write path change bytes) may needs = goes_let_go _ _
  step_goes (Remove path change) may needs = removed_goes path change (map.get t.names path)
  step_goes (BeginPut path b groups) may needs = begun_goes path b groups may needs.1
  step_goes (Stored b g) may needs =
      go_stored (NamedIn t.inodes) sides requests time t.age (FreshEntry t.site t.counter time contents sides) t.entries b.0 g.0 needs
  step_goes (EndPut n b dual) may needs = ended_goes n.0 b.0 dual
  step_goes (Release path) may needs = released_goes (map.get t.names path)
  step_goes (Taken n bytes) may needs = same _
  step_goes (Dump name) may needs = same _
  step_goes (Undump name) may needs = same _
  step_goes (Restore name path target change) may needs = restored_goes target change (file_in (map.get t.dumps name) path)
  step_goes (HardDelete bfids) may needs =
      go_taken (NamedIn t.inodes) sides requests time t.age (FreshEntry t.site t.counter time contents sides) t bfids refl may.each needs
  step_goes (Dropped b) may needs =
      go_dropped (NamedIn t.inodes) sides requests time t.age (FreshEntry t.site t.counter time contents sides) t.entries b.0 may.entry may.is may.dropping
      needs
  step_goes Restart may needs = absurd needs
  step_goes (Age age) may needs = same _

-- ---- contents

contents_more : (contents : ByNumber (List ℕ)) (b : ℕ) (f : Option File) → map.get contents b ≡ None
    → EachRow contents (λ q bytes. map.get (contents_with b f contents) q ≡ Some bytes)
contents_more contents b None free = λ q bytes at. at
contents_more contents b (Some f) free = λ q bytes at. beside_free numbers contents b q _ bytes free at

-- contents stay
pub contents_onward : (d : Daemon) (h : History) (sides : ByNumber Side) (r : DaemonRecord) → FilesKept d.tables h.contents d.cap
    → MayLand d.tables d.requests h.contents d.cap sides r
    → EachRow h.contents (λ q bytes. map.get (history_after_step d r.step h).contents q ≡ Some bytes)
contents_onward d h sides r k may = more r.step may.follow.step
  where
    more : (s : DaemonStep) → MayStep d.tables r.time.0 s → EachRow h.contents (λ q bytes. map.get (history_after_step d s h).contents q ≡ Some bytes)
    more (BeginPut path b groups) step =
        contents_more h.contents b.0 _
        (content_free d.tables h.contents d.cap sides d.requests r.time.0 k may.follow.time b.0 step.next)
    more (Write path change bytes) step = λ q x at. at
    more (Remove path change) step = λ q x at. at
    more (Stored b g) step = λ q x at. at
    more (EndPut n b dual) step = λ q x at. at
    more (Release path) step = λ q x at. at
    more (Taken n bytes) step = λ q x at. at
    more (Dump name) step = λ q x at. at
    more (Undump name) step = λ q x at. at
    more (Restore name path target change) step = λ q x at. at
    more (HardDelete bfids) step = λ q x at. at
    more (Dropped b) step = λ q x at. at
    more Restart step = λ q x at. at
    more (Age age) step = λ q x at. at

-- ---- groups

-- each group that an entry asks is still configured
pub configured_go : (IsNamed : ℕ → Type 0) (sides : ByNumber Side) (requests : ByNumber OpenRequest) (now age site next : ℕ)
    (contents : ByNumber (List ℕ)) (old new : ByNumber Entry)
    → EntriesGo IsNamed sides requests now age (FreshEntry site next now contents sides) old new
    → EachRow old (λ b e. AllConfigured sides (groups_asked e)) → EachRow new (λ b e. AllConfigured sides (groups_asked e))
configured_go IsNamed sides requests now age site next contents old new go each = λ b f is.
    elim (go.comes b f is) [
      | inl was ↦
          subst (λ groups. AllConfigured sides groups) (sym (fate_steady (go.fates b was.0 was.1) f is).groups) (each b was.0 was.1)
      | inr fresh ↦ fresh.configured
    ]
