-- A record of the daemon that lands keeps files.
use Rattle.std.proofs.Common.{◌≡◌, ℕ, ◌≤◌, Bool, true, false, cond, Some, List, length, refl, sym, ap, ◌∙◌, subst}
use Rattle.std.specs.FinMap as map
use Rattle.dm_base.specs.declared.identifier.Bfid.{Bfid}
use Rattle.dm_base.specs.declared.identifier.GroupId.{GroupId}
use Rattle.dm_tables.specs.Rows.{adjust}
use Rattle.dm_tables.proofs.Rows.{one_row}
use Rattle.dm_tables.proofs.Adjusted.{adjust-there}
use Rattle.dm_durable.specs.declared.daemon.Contents.{Contents}
use Rattle.dm_durable.specs.declared.daemon.Contents.TheVariants.{Regular, Making, Dual, Offline}
use Rattle.dm_durable.specs.declared.daemon.DaemonRecord.{DaemonRecord}
use Rattle.dm_durable.specs.declared.daemon.DaemonStep.{DaemonStep}
use Rattle.dm_durable.specs.declared.daemon.DaemonStep.TheVariants.{Write, Remove, BeginPut, Stored, EndPut, Release, Taken, Dump, Undump, Restore, HardDelete, Dropped, Restart, Age}
use Rattle.dm_durable.specs.declared.daemon.DaemonTables.{DaemonTables}
use Rattle.dm_durable.specs.declared.daemon.Entry.{Entry}
use Rattle.dm_durable.specs.declared.daemon.Inode.{Inode}
use Rattle.dm_durable.specs.Tables.{ByNumber}
use Rattle.dm_durable.specs.Inodes.{bitfile_of, length_of, as_ended, as_offline, as_recalled, with_contents}
use Rattle.dm_durable.specs.Entries.{after_letting_go, is_stored}
use Rattle.dm_durable.specs.Dumps.{file_in}
use Rattle.dm_durable.specs.Daemon.{after_begin_put, after_begin_put_at, after_end_put, after_record, after_release, after_remove, after_restore, after_step, size_of}
use Rattle.dm_durable.specs.DaemonConditions.{MayBeginPut, MayEndPut, MayRelease, MayRemove, MayRestore, MayStep, MayTake}
use Rattle.dm_durable.proofs.Sizes.{length_ended, length_offline}
use Rattle.dm_model.specs.declared.state.Daemon.{Daemon}
use Rattle.dm_model.specs.declared.state.History.{History}
use Rattle.dm_model.specs.declared.state.OpenRequest.{OpenRequest}
use Rattle.dm_model.specs.declared.state.Side.{Side}
use Rattle.dm_model.specs.Effects.{contents_with, history_after_step}
use Rattle.dm_model.specs.Files.{file_of, file_named}
use Rattle.dm_invariant.specs.Doubts.{MayLand, StepNeeds, TakenRight}
use Rattle.dm_invariant.specs.Files.{HeldRightly, FilesKept}
use Rattle.dm_invariant.proofs.Options.{value_of}
use Rattle.dm_landing.proofs.EntriesGone.{FreshEntry}
use Rattle.dm_landing.proofs.FilesBegun.{other_begun, other_restored}
use Rattle.dm_landing.proofs.FilesChange.{other_written, other_removed}
use Rattle.dm_landing.proofs.FilesFormed.{other_formed, other_regular}
use Rattle.dm_landing.proofs.FilesStay.{same_stored, same_taken, same_dropped, same_dumped, same_undumped, same_aged}
use Rattle.dm_landing.proofs.FilesWith.{NoneComes, files_same, files_other}
use Rattle.dm_landing.proofs.RequestsLanded.{restored_found}

-- ---- forms of contents

dual_names : (c : Contents) → bitfile_of (as_ended true c) ≡ bitfile_of c
dual_names (Making bytes b) = refl
dual_names (Regular bytes) = refl
dual_names (Dual bytes b) = refl
dual_names (Offline len b) = refl

-- with every copy stored the file is dual-state
held_dual : (entries : ByNumber Entry) (contents : ByNumber (List ℕ)) (b : Bfid) (bytes : List ℕ) (e : Entry) (c : Contents)
    → map.get entries b.0 ≡ Some e → is_stored e ≡ true → c ≡ Making bytes b → HeldRightly entries contents c
    → HeldRightly entries contents (as_ended true c)
held_dual entries contents b bytes e c known whole form h =
    let made : HeldRightly entries contents (Making bytes b) = subst (λ x. HeldRightly entries contents x) form h in
    let same = one_row entries b.0 b.0 e made.0.entry refl known made.0.is in
    let dual : HeldRightly entries contents (Dual bytes b) = (record { named = made.0; whole = ap is_stored (sym same) ∙ whole }, made.1) in
    subst (λ x. HeldRightly entries contents (as_ended true x)) (sym form) dual

offline_names : (c : Contents) → bitfile_of (as_offline c) ≡ bitfile_of c
offline_names (Dual bytes b) = refl
offline_names (Regular bytes) = refl
offline_names (Making bytes b) = refl
offline_names (Offline len b) = refl

held_offline : (entries : ByNumber Entry) (contents : ByNumber (List ℕ)) (c : Contents) → HeldRightly entries contents c
    → HeldRightly entries contents (as_offline c)
held_offline entries contents (Dual bytes b) h = h.0
held_offline entries contents (Regular bytes) h = h
held_offline entries contents (Making bytes b) h = h
held_offline entries contents (Offline len b) h = h

recalled_names : (bytes : List ℕ) (c : Contents) → bitfile_of (as_recalled bytes c) ≡ bitfile_of c
recalled_names bytes (Offline len b) = refl
recalled_names bytes (Regular old) = refl
recalled_names bytes (Making old b) = refl
recalled_names bytes (Dual old b) = refl

recalled_length : (bytes : List ℕ) (b : Bfid) (c : Contents) → c ≡ Offline (length bytes) b → length_of (as_recalled bytes c) ≡ length_of c
recalled_length bytes b c form = ap (λ x. length_of (as_recalled bytes x)) form ∙ ap length_of (sym form)

held_recalled : (entries : ByNumber Entry) (contents : ByNumber (List ℕ)) (bytes : List ℕ) (b : Bfid) (c : Contents) → c ≡ Offline (length bytes) b
    → map.get contents b.0 ≡ Some bytes → HeldRightly entries contents c → HeldRightly entries contents (as_recalled bytes c)
held_recalled entries contents bytes b c form content h =
    let away : HeldRightly entries contents (Offline (length bytes) b) = subst (λ x. HeldRightly entries contents x) form h in
    let dual : HeldRightly entries contents (Dual bytes b) = (away, content) in
    subst (λ x. HeldRightly entries contents (as_recalled bytes x)) (sym form) dual

-- ---- the steps that change files

module _ (t : DaemonTables) (contents : ByNumber (List ℕ)) (cap : ℕ) (sides : ByNumber Side) (requests : ByNumber OpenRequest) (time : ℕ)
    (k : FilesKept t contents cap) (on : t.time.0 ≤ time) where
  abbrev Later : DaemonTables
  Later = record t { time = record { 0 = time } }

  removed_kept : (path : List ℕ) (change : ℕ) → MayRemove t path change → FilesKept (after_remove Later path change (map.get t.names path)) contents cap
  removed_kept path change may =
      let n = value_of (map.get t.names path) may.there in
      subst (λ o. FilesKept (after_remove Later path change o) contents cap) (sym n.1)
      (files_other NoneComes t contents contents cap sides requests time change t.counter (map.remove t.names path) (map.remove t.inodes n.0.0) _ k
      (other_removed t contents cap sides requests time k on path change n.0 may.next n.1))

  begun_kept : (path : List ℕ) (b : Bfid) (groups : List GroupId) → MayBeginPut t path b groups
      → StepNeeds t requests contents cap sides (BeginPut path b groups)
      → FilesKept (after_begin_put_at Later b groups (map.get t.names path)) (contents_with b.0 (file_named t.inodes (map.get t.names path)) contents) cap
  begun_kept path b groups may needs =
      subst (λ o. FilesKept (after_begin_put_at Later b groups o) (contents_with b.0 (file_named t.inodes o) contents) cap) (sym may.name)
      (subst (λ o. FilesKept (after_begin_put Later b groups may.n.0 o) (contents_with b.0 (file_of may.n.0 o) contents) cap) (sym may.is)
      (files_other (FreshEntry t.site t.counter time contents sides) t contents _ cap sides requests time t.change _ t.names _ _ k
      (other_begun t contents cap sides requests time k on may.n.0 b groups may.inode may.is may.form may.next may.left may.asked may.numbers may.room needs.1)))

  -- an inode that changes its form alone
  formed_kept : (n : ℕ) (f : Contents → Contents) (i : Inode) → map.get t.inodes n ≡ Some i → length_of (f i.contents) ≡ length_of i.contents
      → bitfile_of (f i.contents) ≡ bitfile_of i.contents → HeldRightly t.entries contents (f i.contents)
      → FilesKept (record Later { inodes = adjust t.inodes n (with_contents f) }) contents cap
  formed_kept n f i is len names held =
      subst (λ m. FilesKept (record Later { inodes = m }) contents cap) (sym (adjust-there t.inodes n (with_contents f) i is))
      (files_other NoneComes t contents contents cap sides requests time t.change t.counter t.names _ t.entries k
      (other_formed t contents cap sides requests time k on n i (with_contents f i) is refl len names held))

  ended_at : (n : ℕ) (b : Bfid) (dual : Bool) → (may : MayEndPut t n b dual)
      → FilesKept (record Later {
        inodes = map.insert t.inodes n (with_contents (as_ended dual) may.inode);
        entries = cond dual t.entries (after_letting_go t.entries (map.insert t.inodes n (with_contents (as_ended dual) may.inode)) time b.0);
      }) contents cap
  ended_at n b true may =
      files_other NoneComes t contents contents cap sides requests time t.change t.counter t.names _ t.entries k
      (other_formed t contents cap sides requests time k on n may.inode (with_contents (as_ended true) may.inode) may.is refl
      (length_ended true may.inode.contents) (dual_names may.inode.contents)
      (held_dual t.entries contents b may.bytes may.entry may.inode.contents may.known may.whole may.form (k.held n may.inode may.is)))
  ended_at n b false may =
      files_other NoneComes t contents contents cap sides requests time t.change t.counter t.names _ _ k
      (other_regular t contents cap sides requests time k on n b may.bytes may.inode (with_contents (as_ended false) may.inode) may.is may.form
      (ap (λ c. record may.inode { contents = as_ended false c }) may.form))

  ended_kept : (n : ℕ) (b : Bfid) (dual : Bool) → MayEndPut t n b dual → FilesKept (after_end_put Later n b.0 dual) contents cap
  ended_kept n b dual may =
      subst (λ m. FilesKept (record Later { inodes = m; entries = cond dual t.entries (after_letting_go t.entries m time b.0) }) contents cap)
      (sym (adjust-there t.inodes n (with_contents (as_ended dual)) may.inode may.is)) (ended_at n b dual may)

  released_kept : (path : List ℕ) → MayRelease t path → FilesKept (after_release Later (map.get t.names path)) contents cap
  released_kept path may =
      subst (λ o. FilesKept (after_release Later o) contents cap) (sym may.name)
      (formed_kept may.n.0 as_offline may.inode may.is (length_offline may.inode.contents) (offline_names may.inode.contents)
      (held_offline t.entries contents may.inode.contents (k.held may.n.0 may.inode may.is)))

  taken_kept : (n : ℕ) (bytes : List ℕ) → MayTake t n bytes → TakenRight t.inodes contents n bytes
      → FilesKept (record Later { inodes = adjust t.inodes n (with_contents (as_recalled bytes)) }) contents cap
  taken_kept n bytes may right =
      formed_kept n (as_recalled bytes) may.inode may.is (recalled_length bytes may.b may.inode.contents may.form) (recalled_names bytes may.inode.contents)
      (held_recalled t.entries contents bytes may.b may.inode.contents may.form (right may.inode may.b (length bytes) may.is may.form)
      (k.held n may.inode may.is))

  restored_kept : (name path target : List ℕ) (change : ℕ) → MayRestore t time name path target change
      → size_of (after_step t (Restore name path target change)) ≤ cap
      → FilesKept (after_restore Later target change (file_in (map.get t.dumps name) path)) contents cap
  restored_kept name path target change may fits =
      let found = restored_found t time name path target change may in
      let dump = k.state.dumps name may.dump may.known in
      subst (λ o. FilesKept (after_restore Later target change o) contents cap) (sym found)
      (files_other NoneComes t contents contents cap sides requests time change t.counter _ _ _ k
      (other_restored t contents cap sides requests time k on target change may.file may.next may.new may.room may.there (dump.files path may.file may.has)
      (subst (λ o. size_of (after_restore t target change o) ≤ cap) found fits)))

-- ---- every step

step_landed : (d : Daemon) (h : History) (sides : ByNumber Side) (time : ℕ) (s : DaemonStep) → FilesKept d.tables h.contents d.cap
    → d.tables.time.0 ≤ time → MayStep d.tables time s → StepNeeds d.tables d.requests h.contents d.cap sides s
    → FilesKept (after_step (record d.tables { time = record { 0 = time } }) s) (history_after_step d s h).contents d.cap
step_landed d h sides time (Write path change bytes) k on may needs =
    files_other NoneComes d.tables h.contents h.contents d.cap sides d.requests time change d.tables.counter _ _ _ k
    (other_written d.tables h.contents d.cap sides d.requests time k on path change bytes may needs)
step_landed d h sides time (Remove path change) k on may needs = removed_kept d.tables h.contents d.cap sides d.requests time k on path change may
step_landed d h sides time (BeginPut path b groups) k on may needs =
    begun_kept d.tables h.contents d.cap sides d.requests time k on path b groups may needs
step_landed d h sides time (Stored b g) k on may needs =
    files_same d.tables h.contents d.cap sides d.requests time d.tables.age _ d.tables.dumps k
    (same_stored d.tables h.contents d.cap sides d.requests time k on b.0 g.0 needs)
step_landed d h sides time (EndPut n b dual) k on may needs = ended_kept d.tables h.contents d.cap sides d.requests time k on n.0 b dual may
step_landed d h sides time (Release path) k on may needs = released_kept d.tables h.contents d.cap sides d.requests time k on path may
step_landed d h sides time (Taken n bytes) k on may needs = taken_kept d.tables h.contents d.cap sides d.requests time k on n.0 bytes may needs
step_landed d h sides time (Dump name) k on may needs =
    files_same d.tables h.contents d.cap sides d.requests time d.tables.age d.tables.entries _ k
    (same_dumped d.tables h.contents d.cap sides d.requests time k on name may needs)
step_landed d h sides time (Undump name) k on may needs =
    files_same d.tables h.contents d.cap sides d.requests time d.tables.age d.tables.entries _ k
    (same_undumped d.tables h.contents d.cap sides d.requests time k on name)
step_landed d h sides time (Restore name path target change) k on may needs =
    restored_kept d.tables h.contents d.cap sides d.requests time k on name path target change may needs
step_landed d h sides time (HardDelete bfids) k on may needs =
    files_same d.tables h.contents d.cap sides d.requests time d.tables.age _ d.tables.dumps k
    (same_taken d.tables h.contents d.cap sides d.requests time k on bfids may needs)
step_landed d h sides time (Dropped b) k on may needs =
    files_same d.tables h.contents d.cap sides d.requests time d.tables.age _ d.tables.dumps k
    (same_dropped d.tables h.contents d.cap sides d.requests time k on b.0 may needs)
step_landed d h sides time Restart k on may needs = absurd needs
step_landed d h sides time (Age age) k on may needs =
    files_same d.tables h.contents d.cap sides d.requests time age d.tables.entries _ k
    (same_aged d.tables h.contents d.cap sides d.requests time k on age may)

-- files are kept by a record that may land
pub files_landed : (d : Daemon) (h : History) (sides : ByNumber Side) (r : DaemonRecord) → FilesKept d.tables h.contents d.cap
    → MayLand d.tables d.requests h.contents d.cap sides r → FilesKept (after_record d.tables r) (history_after_step d r.step h).contents d.cap
files_landed d h sides r k may = step_landed d h sides r.time.0 r.step k may.follow.time may.follow.step may.needs
