-- Files, entries and dumps stay rightly through what a record makes of entries.
use Rattle.std.proofs.Common.{◌≡◌, ℕ, ◌-◌, ◌<◌, ◌≤◌, true, not, nat_le, nat_lt, Option, None, Some, List, length, refl, sym, ap, subst, arith, inl, inr}
use Rattle.std.specs.FinMap as map
use Rattle.std.proofs.lemmas.Bool.{and_parts, and_from, ltb-true, lt-ltb, leb-true}
use Rattle.dm_base.specs.declared.identifier.Secs.{Secs}
use Rattle.dm_tables.specs.Rows.{EachRow}
use Rattle.dm_durable.specs.declared.daemon.Contents.{Contents}
use Rattle.dm_durable.specs.declared.daemon.Contents.TheVariants.{Regular, Making, Dual, Offline}
use Rattle.dm_durable.specs.declared.daemon.Dump.{Dump}
use Rattle.dm_durable.specs.declared.daemon.DumpInode.{DumpInode}
use Rattle.dm_durable.specs.declared.daemon.DumpInode.TheVariants.{Kept, Named as NamedFile}
use Rattle.dm_durable.specs.declared.daemon.Entry.{Entry}
use Rattle.dm_durable.specs.Tables.{ByNumber, ByName}
use Rattle.dm_durable.specs.Limits.{AreGroups, IsPast}
use Rattle.dm_durable.specs.Inodes.{bitfile_of}
use Rattle.dm_durable.specs.Entries.{is_stored, is_complete, is_due, is_old_at, with_copy_of, with_deletion_time, without_deletion_time, as_dropping}
use Rattle.dm_durable.specs.Dumps.{is_young}
use Rattle.dm_durable.specs.DaemonConditions.{OneOrTwo}
use Rattle.dm_durable.specs.DaemonJournal.{IsGiven, MayBeEntry}
use Rattle.dm_model.specs.declared.state.OpenRequest.{OpenRequest}
use Rattle.dm_model.specs.declared.state.Side.{Side}
use Rattle.dm_invariant.specs.Files.{NamedEntry, NamedWhole, HeldRightly, NotBefore, DumpedEntry, DumpedRightly, DumpsKept}
use Rattle.dm_invariant.proofs.Options.{same_row, none_some}
use Rattle.dm_invariant.proofs.Times.{still_past}
use Rattle.dm_landing.proofs.CopiesStored.{still_stored}
use Rattle.dm_landing.proofs.Fates.{Fate, Stays, LetGo, Stored, Restored, Taken, Dropped, Steady, fate_steady, EntriesGo}
use Rattle.dm_landing.proofs.NamedRows.{LengthsFrom, given_longer}

-- ---- what is due

-- an entry without a deletion time isn't due
not_due : (now age : ℕ) (e : Entry) → e.gone ≡ None → is_due now age e ≡ true → ⊥
not_due now age e none due =
    let old : is_old_at now age e.gone ≡ true = (and_parts (not e.dropping) (is_old_at now age e.gone) due).1 in
    let never = ap (is_old_at now age) none in
    cc

-- one that is due has a deletion time that is old enough
due_since : (now age : ℕ) (o : Option Secs) → is_old_at now age o ≡ true → (since : Secs) × (o ≡ Some since) × (nat_le age (now - since.0) ≡ true)
due_since now age None e = cc
due_since now age (Some since) e = (since, refl, e)

-- what a young dump names isn't due
not_due_young : (now age made least : ℕ) (o : Option Secs) → NotBefore made o → least ≤ age → nat_lt (now - made) least ≡ true
    → is_old_at now age o ≡ true → ⊥
not_due_young now age made least None later le young old = cc
not_due_young now age made least (Some since) later le young old =
    let a : age ≤ now - since.0 = leb-true _ _ old in
    let y : now - made < least = ltb-true _ _ young in
    omega (arith, a, y, le, later)

-- ---- files

-- the entry that an inode names is named rightly afterwards
named_fate : (IsNamed : ℕ → Type 0) (sides : ByNumber Side) (requests : ByNumber OpenRequest) (now age b len : ℕ) (old new : ByNumber Entry)
    → IsNamed b → (h : NamedEntry old b len) → Fate IsNamed sides requests now age b h.entry (map.get new b)
    → (k : NamedEntry new b len) × (is_stored h.entry ≡ true → is_stored k.entry ≡ true)
named_fate IsNamed sides requests now age b len old new named h (Stays is) =
    (record { entry = h.entry; is = is; sized = h.sized; there = h.there; lasting = h.lasting }, λ w. w)
named_fate IsNamed sides requests now age b len old new named h (LetGo none is) = absurd (none named)
named_fate IsNamed sides requests now age b len old new named h (Stored g there is) = (
  record { entry = with_copy_of g h.entry; is = is; sized = h.sized; there = h.there; lasting = h.lasting },
  still_stored g h.entry,
)
named_fate IsNamed sides requests now age b len old new named h (Restored is) =
    (record { entry = without_deletion_time h.entry; is = is; sized = h.sized; there = refl; lasting = h.lasting }, λ w. w)
named_fate IsNamed sides requests now age b len old new named h (Taken due free is) = absurd (not_due now age h.entry h.there due)
named_fate IsNamed sides requests now age b len old new named h (Dropped dropping away is) = let l = h.lasting in cc

whole_fate : (IsNamed : ℕ → Type 0) (sides : ByNumber Side) (requests : ByNumber OpenRequest) (now age b len : ℕ) (old new : ByNumber Entry)
    → IsNamed b → (h : NamedWhole old b len) → Fate IsNamed sides requests now age b h.named.entry (map.get new b) → NamedWhole new b len
whole_fate IsNamed sides requests now age b len old new named h fate =
    let k = named_fate IsNamed sides requests now age b len old new named h.named fate in
    record { named = k.0; whole = k.1 h.whole }

-- what an inode holds agrees with entries and contents afterwards
pub held_go : (IsNamed : ℕ → Type 0) (sides : ByNumber Side) (requests : ByNumber OpenRequest) (now age : ℕ) (IsFresh : ℕ → Entry → Type 0)
    (old new : ByNumber Entry) (before after : ByNumber (List ℕ)) (c : Contents) → EntriesGo IsNamed sides requests now age IsFresh old new
    → EachRow before (λ b bytes. map.get after b ≡ Some bytes) → ((b : ℕ) → bitfile_of c ≡ Some b → IsNamed b) → HeldRightly old before c
    → HeldRightly new after c
held_go IsNamed sides requests now age IsFresh old new before after (Regular bytes) go more named h = tt
held_go IsNamed sides requests now age IsFresh old new before after (Making bytes b) go more named h = (
  (named_fate IsNamed sides requests now age b.0 (length bytes) old new (named b.0 refl) h.0 (go.fates b.0 h.0.entry h.0.is)).0,
  more b.0 bytes h.1,
)
held_go IsNamed sides requests now age IsFresh old new before after (Dual bytes b) go more named h = (
  whole_fate IsNamed sides requests now age b.0 (length bytes) old new (named b.0 refl) h.0 (go.fates b.0 h.0.named.entry h.0.named.is),
  more b.0 bytes h.1,
)
held_go IsNamed sides requests now age IsFresh old new before after (Offline len b) go more named h =
    whole_fate IsNamed sides requests now age b.0 len old new (named b.0 refl) h (go.fates b.0 h.named.entry h.named.is)

-- ---- rows of entries

module _ (IsNamed : ℕ → Type 0) (sides : ByNumber Side) (requests : ByNumber OpenRequest) (now age : ℕ) (IsFresh : ℕ → Entry → Type 0)
    (old new : ByNumber Entry) where
  -- entries keep their lengths
  pub lengths_go : (site next : ℕ) → EntriesGo IsNamed sides requests now age IsFresh old new
      → ((b : ℕ) (f : Entry) → IsFresh b f → IsGiven site next b → ⊥) → LengthsFrom site next old new
  lengths_go site next go fresh = λ b f is.
      elim (go.comes b f is) [
        | inl was ↦ inl (was.0, was.1, (fate_steady (go.fates b was.0 was.1) f is).len)
        | inr new ↦ inr (fresh b f new)
      ]

  deleted_by : (before b : ℕ) (e : Entry) → before ≤ now → IsPast before e.gone → Fate IsNamed sides requests now age b e (map.get new b)
      → (f : Entry) → map.get new b ≡ Some f → IsPast now f.gone
  deleted_by before b e le past (Stays is) f at =
      subst (λ x. IsPast now x.gone) (same_row (map.get new b) e f is at) (still_past before now e.gone le past)
  deleted_by before b e le past (LetGo none is) f at =
      subst (λ x. IsPast now x.gone) (same_row (map.get new b) (with_deletion_time now e) f is at) (omega arith)
  deleted_by before b e le past (Stored g there is) f at =
      subst (λ x. IsPast now x.gone) (same_row (map.get new b) (with_copy_of g e) f is at) (still_past before now e.gone le past)
  deleted_by before b e le past (Restored is) f at =
      subst (λ x. IsPast now x.gone) (same_row (map.get new b) (without_deletion_time e) f is at) tt
  deleted_by before b e le past (Taken due free is) f at =
      subst (λ x. IsPast now x.gone) (same_row (map.get new b) (as_dropping e) f is at) (still_past before now e.gone le past)
  deleted_by before b e le past (Dropped dropping away is) f at = absurd (none_some (map.get new b) f is at)

  entry_by : (site next more before b : ℕ) (e f : Entry) → next ≤ more → before ≤ now → Steady e f → IsPast now f.gone
      → MayBeEntry site next before b e → MayBeEntry site more now b f
  entry_by site next more before b e f le on same past k = record {
    given = given_longer site next more b le k.given;
    short = let len = same.len in let short = k.short in omega (arith, len, short);
    asked = subst OneOrTwo (sym same.groups) k.asked;
    numbers = subst AreGroups (sym same.groups) k.numbers;
    deleted = past;
  }

  -- and are ones that may be of a state
  pub entries_go : (site next more before : ℕ) → next ≤ more → before ≤ now → EntriesGo IsNamed sides requests now age IsFresh old new
      → ((b : ℕ) (f : Entry) → IsFresh b f → MayBeEntry site more now b f) → EachRow old (MayBeEntry site next before)
      → EachRow new (MayBeEntry site more now)
  entries_go site next more before le on go fresh each = λ b f is.
      elim (go.comes b f is) [
        | inl was ↦
            let fate = go.fates b was.0 was.1 in
            let k = each b was.0 was.1 in
            entry_by site next more before b was.0 f le on (fate_steady fate f is) (deleted_by before b was.0 on k.deleted fate f is) k
        | inr new ↦ fresh b f new
      ]

  -- ---- dumps

  complete_parts : (e : Entry) → is_complete e ≡ true → (is_stored e ≡ true) × (not e.dropping ≡ true)
  complete_parts e all = and_parts (is_stored e) (not e.dropping) all

  dumped_fate : (made least b len : ℕ) → made ≤ now → least ≤ age → nat_lt (now - made) least ≡ true → (h : DumpedEntry old made b len)
      → Fate IsNamed sides requests now age b h.entry (map.get new b) → DumpedEntry new made b len
  dumped_fate made least b len past le young h (Stays is) =
      record { entry = h.entry; is = is; complete = h.complete; sized = h.sized; later = h.later }
  dumped_fate made least b len past le young h (LetGo none is) =
      record { entry = with_deletion_time now h.entry; is = is; complete = h.complete; sized = h.sized; later = past }
  dumped_fate made least b len past le young h (Stored g there is) =
      let parts = complete_parts h.entry h.complete in
      record {
        entry = with_copy_of g h.entry;
        is = is;
        complete = and_from _ _ (still_stored g h.entry parts.0) parts.1;
        sized = h.sized;
        later = h.later;
      }
  dumped_fate made least b len past le young h (Restored is) =
      record { entry = without_deletion_time h.entry; is = is; complete = h.complete; sized = h.sized; later = tt }
  dumped_fate made least b len past le young h (Taken due free is) =
      absurd (not_due_young now age made least h.entry.gone h.later le young (and_parts (not h.entry.dropping) (is_old_at now age h.entry.gone) due).1)
  dumped_fate made least b len past le young h (Dropped dropping away is) =
      let lasting = (complete_parts h.entry h.complete).1 in
      let never = ap not dropping in
      cc

  dumped_go : (made least : ℕ) → made ≤ now → least ≤ age → nat_lt (now - made) least ≡ true → EntriesGo IsNamed sides requests now age IsFresh old new
      → (f : DumpInode) → DumpedRightly old made f → DumpedRightly new made f
  dumped_go made least past le young go (Kept bytes) h = tt
  dumped_go made least past le young go (NamedFile len b) h =
      dumped_fate made least b.0 len past le young h (go.fates b.0 h.entry h.is)

  earlier : (before made least : ℕ) → before ≤ now → nat_lt (now - made) least ≡ true → nat_lt (before - made) least ≡ true
  earlier before made least on young = let y : now - made < least = ltb-true _ _ young in lt-ltb _ _ (omega (arith, y, on))

  -- a dump that is young still was young before
  pub young_before : (before : ℕ) (d : Dump) → before ≤ now → is_young now d ≡ true → is_young before d ≡ true
  young_before before d on young = earlier before d.made.0 d.least on young

  -- what young dumps name is there afterwards
  pub dumps_go : (before : ℕ) (dumps : ByName Dump) → before ≤ now → EntriesGo IsNamed sides requests now age IsFresh old new
      → EachRow dumps (λ name d. d.made.0 ≤ before) → EachRow dumps (λ name d. d.least ≤ age) → DumpsKept before old dumps → DumpsKept now new dumps
  dumps_go before dumps on go made least k = record {
    young = λ name d is young path f at.
        let past : d.made.0 ≤ now = let m = made name d is in omega (arith, m, on) in
        dumped_go d.made.0 d.least past (least name d is) young go f (k.young name d is (young_before before d on young) path f at);
  }
