-- The record that an accepted call journals may follow in the tables.
use Rattle.std.proofs.Common.{◌≡◌, inl, inr, ◌+◌, ◌≤◌, ◌<◌, ℕ, true, false, Option, None, Some, is_some, refl, sym, ap, ◌∙◌, subst, arith, List, [], ◌∷◌, length}
use Rattle.std.proofs.lemmas.Bool.{and_parts, not-true, not-false, leb-false, ltb-false}
use Rattle.std.specs.FinMap as map
use Rattle.std.specs.List.{AllByRecursion}
use Rattle.dm_base.specs.Limits.{file_limit}
use Rattle.dm_base.specs.declared.identifier.Bfid.{Bfid}
use Rattle.dm_base.specs.declared.identifier.GroupId.{GroupId}
use Rattle.dm_daemon_acts.proofs.Looked.{dual_form, file_there, may_be_made, no_value, none_hold, one_or_two, time_kept, unchanged}
use Rattle.dm_daemon_acts.proofs.Taken.{taken_ascend, taken_due}
use Rattle.dm_daemon_acts.specs.Acts.{FitsRecalled, Usable, UsableFile, UsableCopy, UsableDump, UsablePut, UsableRecall}
use Rattle.dm_durable.specs.declared.daemon.Contents.{Contents}
use Rattle.dm_durable.specs.declared.daemon.Contents.TheVariants.{Regular, Making, Dual, Offline}
use Rattle.dm_durable.specs.declared.daemon.DaemonRecord.{DaemonRecord}
use Rattle.dm_durable.specs.declared.daemon.DaemonTables.{DaemonTables}
use Rattle.dm_durable.specs.declared.daemon.Dump.{Dump}
use Rattle.dm_durable.specs.declared.daemon.DumpInode.{DumpInode}
use Rattle.dm_durable.specs.declared.daemon.Entry.{Entry}
use Rattle.dm_durable.specs.declared.daemon.Inode.{Inode}
use Rattle.dm_durable.specs.DaemonConditions.{AscendsFrom, MayBeTaken, MayFollow, MayStore}
use Rattle.dm_durable.specs.Dumps.{file_in}
use Rattle.dm_durable.specs.Inodes.{bytes_online}
use Rattle.dm_durable.specs.Limits.{AreGroups}
use Rattle.dm_model.specs.declared.call.DaemonCall.{DaemonCall}
use Rattle.dm_model.specs.declared.call.DaemonCall.TheVariants as call
use Rattle.dm_model.specs.declared.plan.Payload.{Payload}
use Rattle.dm_model.specs.declared.plan.Payload.TheVariants as payload
use Rattle.dm_model.specs.declared.state.Daemon.{Daemon}
use Rattle.dm_model.specs.declared.state.OpenRequest.{OpenRequest}
use Rattle.dm_model.specs.DaemonCalls.{attributes, begin_put, begin_recall, begin_recall_of, contents_of, copy_stored, daemon_plan, drop_recall, dropped, end_put, end_recall, hard_delete_of, is_awaited, is_stored_if, make_dump, patch, release, remove, restore, restore_file, set_age, step_taken, taken_at, time_at, undump, write}
use Rattle.dm_model.specs.Files.{File, file_at, groups_of}
use Rattle.dm_model.specs.Guards.{AllHold, NoneHold}
use Rattle.dm_model.specs.Plan.{Plan, if_accepted, prepared_plan, refusal_of}
use Rattle.dm_plain.proofs.Patching.{length-patched}
use Rattle.dm_rules.specs.Patching.{with_patch}

-- the record of a payload of the daemon may follow, if there is one
abbrev pub FollowsIf : DaemonTables → Option Payload → Type 0
FollowsIf t None = Unit {0}
FollowsIf t (Some (payload.Daemon r)) = MayFollow t r
FollowsIf t (Some (payload.Group g r)) = Unit {0}

abbrev pub Follows : Daemon → Plan → Type 0
Follows d p = FollowsIf d.tables (prepared_plan p).payload

-- it is enough where no refusal comes
accepted : (d : Daemon) (p : Plan) → (NoneHold p.refusals → FollowsIf d.tables p.payload) → Follows d p
accepted d p holds =
    elim (refusal_of p) as (λ o. refusal_of p ≡ o → FollowsIf d.tables (if_accepted o None p.payload)) [
      | None ↦ λ e. holds (none_hold p.refusals e)
      | Some a ↦ λ e. tt
    ] refl

-- ---- puts

begin_put_follows : (d : Daemon) (path : List ℕ) (asked : List (Option GroupId)) (now k : ℕ) (o : Option File) → file_at d path ≡ o
    → AllHold (begin_put d path asked now k o).own → AreGroups (groups_of asked) → Follows d (begin_put d path asked now k o)
begin_put_follows d path asked now k None at own numbers = tt
begin_put_follows d path asked now k (Some f) at own numbers = accepted d (begin_put d path asked now k (Some f)) (λ none.
    let there = file_there d.tables.names d.tables.inodes path f at in
    let groups = and_parts _ _ own.0 in
    record {
      time = time_kept now d.tables.time.0;
      step = record {
        n = there.n;
        name = there.name;
        inode = f.inode;
        is = there.is;
        form = may_be_made d.requests f.number f.inode.contents (not-false _ none.0);
        next = refl;
        left = ltb-false _ _ none.1.1.0;
        asked = one_or_two (groups_of asked) groups.1;
        numbers = numbers;
        room = leb-false _ _ none.1.0;
      };
    })

may_store : (t : DaemonTables) (b g : ℕ) (o : Option Entry) → map.get t.entries b ≡ o → is_awaited o g ≡ true
    → ((e : Entry) → map.get t.entries b ≡ Some e → e.dropping ≡ false) → MayStore t b g
may_store t b g None is awaited lasting = cc
may_store t b g (Some e) is awaited lasting =
    let both = and_parts _ _ awaited in
    record { entry = e; is = is; lasting = lasting e is; asked = both.0; open_yet = not-true _ both.1 }

copy_stored_follows : (d : Daemon) (g : GroupId) (now : ℕ) (o : Option OpenRequest) → AllHold (copy_stored d g now o).own
    → UsableCopy d.tables o → Follows d (copy_stored d g now o)
copy_stored_follows d g now None own usable = tt
copy_stored_follows d g now (Some r) own usable = accepted d (copy_stored d g now (Some r)) (λ none. record {
  time = time_kept now d.tables.time.0;
  step = may_store d.tables r.bfid.0 g.0 (map.get d.tables.entries r.bfid.0) refl own.1.0 usable;
})

end_put_follows : (d : Daemon) (k now : ℕ) (o : Option OpenRequest) → UsablePut d.tables o → Follows d (end_put d k now o)
end_put_follows d k now None usable = tt
end_put_follows d k now (Some r) usable = accepted d (end_put d k now (Some r)) (λ none.
    let live = usable (unchanged r none) in
    record {
      time = time_kept now d.tables.time.0;
      step = record {
        inode = live.inode;
        is = live.is;
        bytes = live.bytes;
        form = live.form;
        entry = live.entry;
        known = live.known;
        whole = ap is_stored_if (sym live.known);
      };
    })

release_follows : (d : Daemon) (path : List ℕ) (now : ℕ) (o : Option File) → file_at d path ≡ o → Follows d (release d path now o)
release_follows d path now None at = tt
release_follows d path now (Some f) at = accepted d (release d path now (Some f)) (λ none.
    let there = file_there d.tables.names d.tables.inodes path f at in
    let form = dual_form d.requests f.number f.inode.contents (not-false _ none.0) in
    record {
      time = time_kept now d.tables.time.0;
      step = record { n = there.n; name = there.name; inode = f.inode; is = there.is; bytes = form.0; b = form.1; form = form.2 };
    })

-- ---- recalls

begin_recall_follows : (d : Daemon) (k : ℕ) (f : File) (c : Contents) → Follows d (begin_recall_of d k f c)
begin_recall_follows d k f (Regular bytes) = tt
begin_recall_follows d k f (Making bytes b) = tt
begin_recall_follows d k f (Dual bytes b) = tt
begin_recall_follows d k f (Offline len b) = tt

begin_recall_if : (d : Daemon) (k : ℕ) (o : Option File) → Follows d (begin_recall d k o)
begin_recall_if d k None = tt
begin_recall_if d k (Some f) = begin_recall_follows d k f f.inode.contents

-- what is there where something is held
taken_follows : (d : Daemon) (now n : ℕ) (bytes : List ℕ) (i : Inode) → map.get d.tables.inodes n ≡ Some i → (c : Contents) → i.contents ≡ c
    → FitsRecalled bytes c → FollowsIf d.tables (step_taken d now n bytes c)
taken_follows d now n bytes i is (Regular old) form fits = tt
taken_follows d now n bytes i is (Making old b) form fits = tt
taken_follows d now n bytes i is (Dual old b) form fits = tt
taken_follows d now n bytes i is (Offline len b) form fits = record {
  time = time_kept now d.tables.time.0;
  step = record { inode = i; is = is; b = b; form = form ∙ ap (λ m. Offline m b) (sym fits.0) };
}

taken_if : (d : Daemon) (now n : ℕ) (bytes : List ℕ) (o : Option Inode) → map.get d.tables.inodes n ≡ o → FitsRecalled bytes (contents_of o)
    → FollowsIf d.tables (step_taken d now n bytes (contents_of o))
taken_if d now n bytes None is fits = tt
taken_if d now n bytes (Some i) is fits = taken_follows d now n bytes i is i.contents refl fits

end_recall_follows : (d : Daemon) (k : ℕ) (bytes : List ℕ) (now : ℕ) (o : Option OpenRequest) → UsableRecall d.tables bytes o
    → Follows d (end_recall d k bytes now o)
end_recall_follows d k bytes now None usable = tt
end_recall_follows d k bytes now (Some r) usable = accepted d (end_recall d k bytes now (Some r)) (λ none.
    taken_if d now r.ino.0 bytes (map.get d.tables.inodes r.ino.0) refl (usable (unchanged r none)))

drop_recall_follows : (d : Daemon) (k : ℕ) (o : Option OpenRequest) → Follows d (drop_recall d k o)
drop_recall_follows d k None = tt
drop_recall_follows d k (Some r) = tt

-- ---- files

write_follows : (d : Daemon) (path bytes : List ℕ) (now : ℕ) (o : Option File) → file_at d path ≡ o → Follows d (write d path bytes now o)
write_follows d path bytes now None at = accepted d (write d path bytes now None) (λ none. record {
  time = time_kept now d.tables.time.0;
  step = record { next = record { next = refl; left = leb-false _ _ none.1.1.0 }; short = ltb-false _ _ none.0; room = inr (leb-false _ _ none.1.0) };
})
write_follows d path bytes now (Some f) at = accepted d (write d path bytes now (Some f)) (λ none.
    let there = file_there d.tables.names d.tables.inodes path f at in
    record {
      time = time_kept now d.tables.time.0;
      step = record { next = record { next = refl; left = leb-false _ _ none.1.1.0 }; short = ltb-false _ _ none.0; room = inl (ap is_some there.name) };
    })

patched_short : (offset : ℕ) (bytes : List ℕ) (f : File) → UsableFile (Some f) → offset + length bytes ≤ file_limit
    → length (with_patch offset bytes (bytes_online f.inode.contents)) ≤ file_limit
patched_short offset bytes f old ends =
    let whole = length-patched offset bytes (bytes_online f.inode.contents) in
    omega (arith, old, whole, ends)

patch_follows : (d : Daemon) (path : List ℕ) (offset : ℕ) (bytes : List ℕ) (now : ℕ) (o : Option File) → file_at d path ≡ o
    → UsableFile o → Follows d (patch d path offset bytes now o)
patch_follows d path offset bytes now None at fits =
    accepted d (patch d path offset bytes now None) (λ none. let no = none.1.0 in cc)
patch_follows d path offset bytes now (Some f) at fits = accepted d (patch d path offset bytes now (Some f)) (λ none.
    let there = file_there d.tables.names d.tables.inodes path f at in
    record {
      time = time_kept now d.tables.time.0;
      step = record { next = record { next = refl; left = leb-false _ _ none.1.1.0 }; short = patched_short offset bytes f fits (ltb-false _ _ none.0); room = inl (ap is_some there.name) };
    })

remove_follows : (d : Daemon) (path : List ℕ) (now : ℕ) (o : Option File) → file_at d path ≡ o → Follows d (remove d path now o)
remove_follows d path now None at = tt
remove_follows d path now (Some f) at = accepted d (remove d path now (Some f)) (λ none.
    let there = file_there d.tables.names d.tables.inodes path f at in
    record {
      time = time_kept now d.tables.time.0;
      step = record { next = record { next = refl; left = leb-false _ _ none.0 }; there = ap is_some there.name };
    })

-- ---- dumps

make_dump_follows : (d : Daemon) (name : List ℕ) (now : ℕ) → Follows d (make_dump d name now)
make_dump_follows d name now = accepted d (make_dump d name now) (λ none. record {
  time = time_kept now d.tables.time.0;
  step = record { new = no_value _ none.0; room = leb-false _ _ none.1.0 };
})

undump_follows : (d : Daemon) (name : List ℕ) (now : ℕ) → Follows d (undump d name now)
undump_follows d name now =
    accepted d (undump d name now) (λ none. record { time = time_kept now d.tables.time.0; step = not-false _ none.0 })

restore_file_follows : (d : Daemon) (name path target : List ℕ) (now : ℕ) (dump : Dump) → map.get d.tables.dumps name ≡ Some dump
    → UsableDump d.tables (time_at d now) path (Some dump) → (o : Option DumpInode) → map.get dump.files path ≡ o
    → Follows d (restore_file d name path target now dump o)
restore_file_follows d name path target now dump known usable None has = tt
restore_file_follows d name path target now dump known usable (Some file) has =
    accepted d (restore_file d name path target now dump (Some file)) (λ none.
    let young = not-false _ none.0 in
    record {
      time = time_kept now d.tables.time.0;
      step = record {
        dump = dump;
        known = known;
        file = file;
        has = has;
        young = young;
        there = usable young file has;
        new = no_value _ none.1.0;
        room = leb-false _ _ none.1.1.0;
        next = record { next = refl; left = leb-false _ _ none.1.1.1.0 };
      };
    })

restore_follows : (d : Daemon) (name path target : List ℕ) (now : ℕ) (o : Option Dump) → map.get d.tables.dumps name ≡ o
    → UsableDump d.tables (time_at d now) path o → Follows d (restore d name path target now o)
restore_follows d name path target now None known usable = tt
restore_follows d name path target now (Some dump) known usable =
    restore_file_follows d name path target now dump known usable (file_in (Some dump) path) refl

-- ---- ages and deletes

set_age_follows : (d : Daemon) (age now : ℕ) → Follows d (set_age d age now)
set_age_follows d age now =
    accepted d (set_age d age now) (λ none. record { time = time_kept now d.tables.time.0; step = ltb-false _ _ none.0 })

some_taken : (b : Bfid) (bs : List Bfid) → 0 < length (b ∷ bs)
some_taken b bs = omega arith

hard_delete_follows : (d : Daemon) (now : ℕ) (bfids : List Bfid) → taken_at d (time_at d now) ≡ bfids → Follows d (hard_delete_of d now bfids)
hard_delete_follows d now [] is = tt
hard_delete_follows d now (b ∷ bs) is =
    let time = time_at d now in
    accepted d (hard_delete_of d now (b ∷ bs)) (λ none. record {
      time = time_kept now d.tables.time.0;
      step = record {
        some = some_taken b bs;
        ascend = subst (λ l. AscendsFrom 0 l) is (taken_ascend d time);
        each = subst (λ l. AllByRecursion (λ (x : Bfid). MayBeTaken d.tables time x.0) l) is (taken_due d time);
      };
    })

dropped_follows : (d : Daemon) (b : Bfid) (now : ℕ) (o : Option Entry) → map.get d.tables.entries b.0 ≡ o → AllHold (dropped d b now o).own
    → Follows d (dropped d b now o)
dropped_follows d b now None is own = tt
dropped_follows d b now (Some e) is own = accepted d (dropped d b now (Some e)) (λ none. record {
  time = time_kept now d.tables.time.0;
  step = record { entry = e; is = is; dropping = own.0 };
})

attributes_follow : (d : Daemon) (path : List ℕ) (o : Option File) → Follows d (attributes d path o)
attributes_follow d path None = tt
attributes_follow d path (Some f) = tt

-- ---- all calls

follows : (d : Daemon) (c : DaemonCall) → AllHold (daemon_plan d c).own → Usable d c → Follows d (daemon_plan d c)
follows d (call.BeginPut path asked now k) own usable = begin_put_follows d path asked now.0 k (file_at d path) refl own usable
follows d (call.CopyStored k group now) own usable = copy_stored_follows d group now.0 (map.get d.requests k) own usable
follows d (call.EndPut k now) own usable = end_put_follows d k now.0 (map.get d.requests k) usable
follows d (call.Release path now) own usable = release_follows d path now.0 (file_at d path) refl
follows d (call.BeginRecall path k) own usable = begin_recall_if d k (file_at d path)
follows d (call.EndRecall k bytes now) own usable = end_recall_follows d k bytes now.0 (map.get d.requests k) usable
follows d (call.DropRecall k) own usable = drop_recall_follows d k (map.get d.requests k)
follows d (call.Write path bytes now) own usable = write_follows d path bytes now.0 (file_at d path) refl
follows d (call.Patch path offset bytes now) own usable = patch_follows d path offset bytes now.0 (file_at d path) refl usable.1
follows d (call.Remove path now) own usable = remove_follows d path now.0 (file_at d path) refl
follows d (call.MakeDump name now) own usable = make_dump_follows d name now.0
follows d (call.Undump name now) own usable = undump_follows d name now.0
follows d (call.Restore name path target now) own usable = restore_follows d name path target now.0 (map.get d.tables.dumps name) refl usable.1
follows d (call.SetAge age now) own usable = set_age_follows d age now.0
follows d (call.HardDelete now) own usable = hard_delete_follows d now.0 (taken_at d (time_at d now.0)) refl
follows d (call.NextDropping after) own usable = tt
follows d (call.Dropped b now) own usable = dropped_follows d b now.0 (map.get d.tables.entries b.0) refl own
follows d (call.Attributes path) own usable = attributes_follow d path (file_at d path)
follows d call.List own usable = tt

pub accepted_may_follow : (d : Daemon) (c : DaemonCall) (r : DaemonRecord) → AllHold (daemon_plan d c).own → Usable d c
    → (prepared_plan (daemon_plan d c)).payload ≡ Some (payload.Daemon r) → MayFollow d.tables r
accepted_may_follow d c r own usable pays = subst (λ o. FollowsIf d.tables o) pays (follows d c own usable)
