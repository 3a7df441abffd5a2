-- What the calls of a put journal, where they are legal and aren't refused, may land.
use Rattle.std.proofs.Common.{◌≡◌, inl, inr, ℕ, true, false, Option, None, Some, IsSome, is_some, List, [], ◌∷◌, refl, sym, ap, ◌∙◌}
use Rattle.std.specs.Prelude.{nat_eq}
use Rattle.std.specs.FinMap as map
use Rattle.std.proofs.lemmas.Bool.{and_parts, not-true, not-false, leb-false, ltb-false}
use Rattle.dm_base.specs.declared.identifier.GroupId.{GroupId}
use Rattle.dm_tables.specs.Rows.{EachRow}
use Rattle.dm_tables.proofs.Orders.{numbers}
use Rattle.dm_tables.proofs.Rows.{one_row, removed}
use Rattle.dm_durable.specs.Tables.{ByNumber}
use Rattle.dm_durable.specs.Limits.{IsGroupNumber, AreGroups}
use Rattle.dm_durable.specs.Daemon.{bfid_of}
use Rattle.dm_durable.specs.DaemonConditions.{OneOrTwo, MayStore, MayEndPut, MayRelease}
use Rattle.dm_durable.specs.Entries.{asks}
use Rattle.dm_durable.specs.declared.daemon.Contents.TheVariants.{Making}
use Rattle.dm_durable.specs.declared.daemon.DaemonStep.TheVariants.{BeginPut, Stored, EndPut, Release}
use Rattle.dm_durable.specs.declared.daemon.DaemonTables.{DaemonTables}
use Rattle.dm_durable.specs.declared.daemon.Entry.{Entry}
use Rattle.dm_model.specs.declared.state.GroupHistory.{GroupHistory}
use Rattle.dm_model.specs.declared.state.Joint.{Joint}
use Rattle.dm_model.specs.declared.state.OpenRequest.{OpenRequest}
use Rattle.dm_model.specs.declared.state.Side.{Side}
use Rattle.dm_model.specs.DaemonCalls.{are_one_or_two, are_configured, begin_put, begin_put_needs, is_awaited, committed_in as is_committed_in}
use Rattle.dm_model.specs.DaemonCalls.{copy_stored, copy_stored_needs, is_stored_if, end_put, end_put_needs, release}
use Rattle.dm_model.specs.Files.{File, groups_of, is_put, is_dual, state_of}
use Rattle.dm_model.specs.Guards.{AllHold, NoneHold}
use Rattle.dm_model.specs.Plan.{guards_always}
use Rattle.dm_invariant.specs.Doubts.{NoPutOf, AllConfigured, InGroup}
use Rattle.dm_invariant.specs.Kept.{committed_in, InvariantHolds}
use Rattle.dm_invariant.specs.Requests.{RequestEntry, LivePut}
use Rattle.dm_invariant.proofs.AskedGroups.{asked_among}
use Rattle.dm_invariant.proofs.Options.{value_of}
use Rattle.dm_invariant.proofs.Times.{time_kept}
use Rattle.dm_landing.proofs.CallFiles.{unchanged, may_be_made, none_being_made, dual_form, Found, LandsBeside, Lands}

-- ---- the groups that a put asks

one_or_two : (groups : List GroupId) → are_one_or_two groups ≡ true → OneOrTwo groups
one_or_two [] e = cc
one_or_two (g ∷ []) e = tt
one_or_two (g ∷ h ∷ []) e = not-true (nat_eq g.0 h.0) e
one_or_two (g ∷ h ∷ i ∷ rest) e = cc

all_configured : (sides : ByNumber Side) (groups : List GroupId) → are_configured sides groups ≡ true → AllConfigured sides groups
all_configured sides [] e g among = absurd among
all_configured sides (h ∷ rest) e g among =
    let parts = and_parts (is_some (map.get sides h.0)) (are_configured sides rest) e in
    elim among [
      | inl same ↦ ap (λ x. is_some (map.get sides x.0)) same ∙ parts.0
      | inr later ↦ all_configured sides rest parts.1 g later
    ]

-- configured groups have numbers within their limits
all_numbered : (sides : ByNumber Side) → EachRow sides (λ g s. IsGroupNumber g) → (groups : List GroupId) → AllConfigured sides groups → AreGroups groups
all_numbered sides each [] all = tt
all_numbered sides each (g ∷ rest) all =
    let s = value_of (map.get sides g.0) (all g (inl refl)) in
    (each g.0 s.0 s.1, all_numbered sides each rest (λ h among. all h (inr among)))

-- ---- a put begins

pub begin_put_lands : (j : Joint) → InvariantHolds j → (path : List ℕ) (asked : List (Option GroupId)) (now k : ℕ) (f : File) → Found j path f
    → AllHold (guards_always (begin_put j.daemon path asked now k (Some f)) (begin_put_needs j.sides asked))
    → NoneHold (begin_put j.daemon path asked now k (Some f)).refusals
    → Lands j now (BeginPut path (record { 0 = bfid_of j.daemon.tables.site j.daemon.tables.counter }) (groups_of asked))
begin_put_lands j kept path asked now k f at legal none =
    let groups = and_parts _ _ legal.0 in
    let regular = not-false _ none.0 in
    let configured = all_configured j.sides (groups_of asked) legal.1.0 in
    record {
      follow = record {
        time = time_kept now j.daemon.tables.time.0;
        step = record {
          n = at.n;
          name = at.name;
          inode = f.inode;
          is = at.is;
          form = may_be_made j.daemon.requests f.number f.inode.contents regular;
          next = refl;
          left = ltb-false _ _ none.1.1.0;
          asked = one_or_two (groups_of asked) groups.1;
          numbers = all_numbered j.sides (λ g s is. (kept.sides g s is).number.fits) (groups_of asked) configured;
          room = leb-false _ _ none.1.0;
        };
      };
      needs = (
        λ n i bytes b name is form.
            let same = ap (λ x. x.0) (one_row j.daemon.tables.names path path n at.n refl name at.name) in
            let here = one_row j.daemon.tables.inodes n.0 at.n.0 i f.inode same is at.is in
            none_being_made j.daemon.requests f.number f.inode.contents bytes b regular (sym (ap (λ x. x.contents) here) ∙ form),
        configured,
      );
    }

-- ---- a copy is stored

-- what the daemon's call says of its entry and its group
may_store : (t : DaemonTables) (r : OpenRequest) (g : ℕ) → RequestEntry t.entries r → is_awaited (map.get t.entries r.bfid.0) g ≡ true
    → MayStore t r.bfid.0 g
may_store t r g entry awaited =
    let both = and_parts _ _ (ap (λ o. is_awaited o g) (sym entry.is) ∙ awaited) in
    record { entry = entry.entry; is = entry.is; lasting = entry.lasting; asked = both.0; open_yet = not-true _ both.1 }

committed_there : (o : Option GroupHistory) (b : ℕ) → is_committed_in o b ≡ true → IsSome (map.get (committed_in o) b)
committed_there None b e = cc
committed_there (Some h) b e = e

-- a group that was asked and committed the bitfile has it
in_group : (j : Joint) → InvariantHolds j → (b : ℕ) (e : Entry) (g : ℕ) → map.get j.daemon.tables.entries b ≡ Some e → e.dropping ≡ false → asks e g ≡ true
    → is_committed_in (map.get j.history.groups g) b ≡ true → InGroup j.sides g b
in_group j kept b e g is lasting asked commits =
    let group = asked_among e g asked in
    let side = value_of (map.get j.sides group.group.0) (kept.configured b e is group.group group.among) in
    let at : map.get j.sides g ≡ Some side.0 = ap (map.get j.sides) (sym group.same) ∙ side.1 in
    let o = map.get j.history.groups g in
    let u = value_of (map.get (committed_in o) b) (committed_there o b commits) in
    record { side = side.0; is = at; there = (kept.sides g side.0 at).catalogue.commits b u.0 u.1 e is lasting }

pub copy_stored_lands : (j : Joint) → InvariantHolds j → (g : GroupId) (now k : ℕ) (r : OpenRequest) → map.get j.daemon.requests k ≡ Some r
    → AllHold (guards_always (copy_stored j.daemon g now (Some r)) (copy_stored_needs j.history g (Some r))) → Lands j now (Stored r.bfid g)
copy_stored_lands j kept g now k r at legal =
    let entry = kept.requests.entry k r at in
    let may = may_store j.daemon.tables r g.0 entry legal.1.0 in
    record {
      follow = record { time = time_kept now j.daemon.tables.time.0; step = may };
      needs = in_group j kept r.bfid.0 may.entry g.0 may.is may.lasting may.asked legal.1.1.0;
    }

-- ---- a put ends

may_end : (t : DaemonTables) (r : OpenRequest) → RequestEntry t.entries r → LivePut t.inodes r.ino.0 r.was r.bfid
    → MayEndPut t r.ino.0 r.bfid (is_stored_if (map.get t.entries r.bfid.0))
may_end t r entry live = record {
  inode = record { change = r.was; contents = Making live.bytes r.bfid };
  is = live.is;
  bytes = live.bytes;
  form = refl;
  entry = entry.entry;
  known = entry.is;
  whole = ap is_stored_if (sym entry.is);
}

-- the put was the only one of its bitfile
no_other_put : (j : Joint) (k : ℕ) (r : OpenRequest) → InvariantHolds j → map.get j.daemon.requests k ≡ Some r → is_put r.kind ≡ true
    → NoPutOf (map.remove j.daemon.requests k) r.bfid.0
no_other_put j k r kept at is put =
    let left = removed numbers j.daemon.requests k put.number put.request put.is in
    left.0 (sym (kept.requests.puts_apart k put.number r put.request at left.1 is put.put (sym put.same)))

-- its request is spent first
pub end_put_lands : (j : Joint) → InvariantHolds j → (sides : ByNumber Side) (k now : ℕ) (r : OpenRequest) → map.get j.daemon.requests k ≡ Some r
    → AllHold (guards_always (end_put j.daemon k now (Some r)) (end_put_needs j.sides (Some r)))
    → NoneHold (end_put j.daemon k now (Some r)).refusals
    → LandsBeside (map.remove j.daemon.requests k) sides j now
    (EndPut r.ino r.bfid (is_stored_if (map.get j.daemon.tables.entries r.bfid.0)))
end_put_lands j kept sides k now r at legal none = record {
  follow = record {
    time = time_kept now j.daemon.tables.time.0;
    step = may_end j.daemon.tables r (kept.requests.entry k r at) (kept.requests.puts k r at legal.0 (unchanged r none));
  };
  needs = no_other_put j k r kept at legal.0;
}

-- ---- a file is released

may_release : (j : Joint) (path : List ℕ) (f : File) → Found j path f → is_dual (state_of j.daemon.requests f.number f.inode.contents) ≡ true
    → MayRelease j.daemon.tables path
may_release j path f at dual =
    let form = dual_form j.daemon.requests f.number f.inode.contents dual in
    record { n = at.n; name = at.name; inode = f.inode; is = at.is; bytes = form.0; b = form.1; form = form.2 }

pub release_lands : (j : Joint) (path : List ℕ) (now : ℕ) (f : File) → Found j path f → NoneHold (release j.daemon path now (Some f)).refusals
    → Lands j now (Release path)
release_lands j path now f at none = record {
  follow = record { time = time_kept now j.daemon.tables.time.0; step = may_release j path f at (not-false _ none.0) };
  needs = tt;
}
