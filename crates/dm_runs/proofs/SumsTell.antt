-- Where the sums of what is hashed in a run, and of what stands in chunks as it begins, tell these byte lists apart, each read of
-- the run tells its bytes by their sum.
use Rattle.std.proofs.Common.{◌≡◌, ◌<◌, ℕ, zero, suc, Bool, true, false, cond, ◌&&◌, nat_eq, Option, None, Some, IsSome, is_some, List, [], ◌∷◌, ◌++◌, Contains, refl, sym, subst, ◌∙◌, inl, inr, arith}
use Rattle.std.proofs.Common.{nat_cmp, Ordering}
use Rattle.std.specs.Prelude as prelude
use Rattle.std.specs.List.{AllByRecursion, flat_map}
use Rattle.std.specs.FinMap as map
use Rattle.std.proofs.lemmas.Bool.{and_parts}
use Rattle.std.proofs.lemmas.List.Elements.{Contains-append_cases, Contains-append_left, Contains-append_right}
use Rattle.dm_base.specs.declared.volume.Chunk.{Chunk}
use Rattle.dm_tables.specs.Rows.{EachRow}
use Rattle.dm_tables.proofs.Entries.{each-entries}
use Rattle.dm_tables.proofs.Orders.{KeyOrder, numbers}
use Rattle.dm_durable.specs.declared.group.BitfileRow.{BitfileRow}
use Rattle.dm_durable.specs.Tables.{ByNumber}
use Rattle.dm_model.specs.declared.call.Call.TheVariants as call
use Rattle.dm_model.specs.declared.call.Event.{Event}
use Rattle.dm_model.specs.declared.call.Event.TheVariants as event
use Rattle.dm_model.specs.declared.call.VolumeCall.{VolumeCall}
use Rattle.dm_model.specs.declared.call.VolumeCall.TheVariants as volume_call
use Rattle.dm_model.specs.declared.state.Joint.{Joint}
use Rattle.dm_model.specs.declared.state.MountState.{MountState}
use Rattle.dm_model.specs.declared.state.Origin.{Origin}
use Rattle.dm_model.specs.declared.state.Origin.TheVariants as origin
use Rattle.dm_model.specs.declared.state.Side.{Side}
use Rattle.dm_model.specs.GroupCalls.{part_of}
use Rattle.dm_model.specs.Hashed.{NoCollision, SumsTellApart, hashed_in_run, hashed_by_event, hashed_by_volume, hashed_of_read, hashed_on_volume, hashed_under, parts_of_content, parts_on, parts_stored}
use Rattle.dm_model.specs.Step.{RunEntry, Run, state_after, step}
use Rattle.dm_group_effects.specs.OnVolume.{ReadTellsApart, ReadsTellApart, parts_by_volume, parts_of_origin, parts_on_volume, parts_under}
use Rattle.dm_invariant.specs.Among.{IsAmong}
use Rattle.dm_invariant.specs.Kept.{InvariantHolds}
use Rattle.dm_invariant.specs.Opened.{Opened}
use Rattle.dm_invariant.proofs.LookUps.{each_of_empty}
use Rattle.dm_stops.proofs.OpenedKept.{opened_kept}
use Rattle.dm_runs.proofs.Contained.{contains_mapped}
use Rattle.dm_runs.proofs.EventsKept.{event_keeps}
use Rattle.dm_runs.proofs.SummedEvents.{HashesIn, Summed, event_in}
use Rattle.dm_runs.proofs.SummedSides.{DoubtIn, OriginIn, PartIn, SideSummed, wider}

-- ---- lists

none_in : {X : Type 0} (x : X) → Contains [] x → ⊥
none_in x has = let below = has.1 in omega (arith, below)

pub one_is : {X : Type 0} (y x : X) → Contains (y ∷ []) x → y ≡ x
one_is y x has = at has.0 has.1 has.2
  where
    at : (k : ℕ) → k < 1 → prelude.slice_index_or (y ∷ []) k x ≡ x → y ≡ x
    at zero below same = same
    at (suc k) below same = absurd (omega (arith, below))

-- sums tell apart the elements of a part of a list
pub tell_fewer : (lists xs : List (List ℕ)) → ((x : List ℕ) → Contains xs x → Contains lists x) → SumsTellApart lists → SumsTellApart xs
tell_fewer lists xs within apart x y one two long same = apart x y (within x one) (within y two) long same

tell_none : SumsTellApart []
tell_none x y one two long same = absurd (none_in x one)

tell_one : (p : List ℕ) → SumsTellApart (p ∷ [])
tell_one p x y one two long same = sym (one_is p x one) ∙ one_is p y two

-- ---- one read

-- a read of the chunk that a mount was made for
tell_chunk : (lists : List (List ℕ)) (contents : ByNumber (List ℕ)) (b : ℕ) (c : Chunk) (bytes : List ℕ) (v : Bool)
    → SumsTellApart lists → PartIn lists contents b c → (v ≡ true → IsSome c.sum)
    → ((x : List ℕ) → Contains (cond v (bytes ∷ []) []) x → Contains lists x)
    → SumsTellApart (parts_of_content (map.get contents b) (c ∷ []) ++ cond v (bytes ∷ []) [])
tell_chunk lists contents b c bytes false apart part has hashes = unread (map.get contents b)
  where
    unread : (o : Option (List ℕ)) → SumsTellApart (parts_of_content o (c ∷ []) ++ [])
    unread None = tell_none
    unread (Some whole) = tell_one (part_of whole c.offset c.len)
tell_chunk lists contents b c bytes true apart part has hashes =
    let p = part (has refl) in
    subst (λ o. SumsTellApart (parts_of_content o (c ∷ []) ++ bytes ∷ [])) (sym p.content)
    (tell_fewer lists (part_of p.bytes c.offset c.len ∷ bytes ∷ []) (λ x among.
    elim (Contains-append_cases (part_of p.bytes c.offset c.len ∷ []) (bytes ∷ []) x among) [
      | inl here ↦ subst (λ y. Contains lists y) (one_is _ x here) p.among
      | inr read ↦ hashes x read
    ]) apart)

read_has : (c : Chunk) (place n : ℕ) → (nat_eq place c.place && nat_eq n c.len && is_some c.sum) ≡ true → IsSome c.sum
read_has c place n all = (and_parts (nat_eq place c.place && nat_eq n c.len) (is_some c.sum) all).1

module _ (lists : List (List ℕ)) (apart : SumsTellApart lists) (contents : ByNumber (List ℕ)) where
  -- what a read hashes is among the lists
  abbrev Within : List (List ℕ) → Type 0
  Within xs = (x : List ℕ) → Contains xs x → Contains lists x

  tell_origin : (o : Origin) (place n : ℕ) (bytes : List ℕ) → OriginIn lists contents o → Within (hashed_of_read o place n bytes)
      → SumsTellApart (parts_of_origin contents o ++ hashed_of_read o place n bytes)
  tell_origin (origin.New listed format) place n bytes part hashes = tell_none
  tell_origin (origin.Piece b index p chunk) place n bytes part hashes = tell_none
  tell_origin (origin.Chunk b c) place n bytes part hashes = tell_chunk lists contents b.0 c bytes _ apart part (read_has c place n) hashes
  tell_origin (origin.Source job b c) place n bytes part hashes = tell_chunk lists contents b.0 c bytes _ apart part (read_has c place n) hashes
  tell_origin (origin.Target job b total c version) place n bytes part hashes = tell_none
  tell_origin (origin.Reuse next_epoch version reading) place n bytes part hashes = tell_none

  tell_mount : (m : ℕ) (s : Side) (o : Option MountState) (place n : ℕ) (bytes : List ℕ) → SideSummed lists contents s → map.get s.mounts m ≡ o
      → Within (hashed_under o place n bytes) → SumsTellApart (parts_under contents o ++ hashed_under o place n bytes)
  tell_mount m s None place n bytes summed is hashes = tell_none
  tell_mount m s (Some x) place n bytes summed is hashes = tell_origin x.origin place n bytes (summed.mounts m x is) hashes

  tell_side : (s : Side) (c : VolumeCall) → SideSummed lists contents s → Within (hashed_on_volume s c)
      → SumsTellApart (parts_on_volume contents s c ++ hashed_on_volume s c)
  tell_side s (volume_call.WriteZone m place zone) summed hashes = tell_none
  tell_side s (volume_call.ReadChunk m place n bytes) summed hashes = tell_mount m s (map.get s.mounts m) place n bytes summed refl hashes
  tell_side s (volume_call.Relabel m epoch version) summed hashes = tell_none

  tell_volume : (g : ℕ) (sides : ByNumber Side) (c : VolumeCall) (o : Option Side) → EachRow sides (λ q s. SideSummed lists contents s)
      → map.get sides g ≡ o → Within (hashed_by_volume c o) → SumsTellApart (parts_by_volume contents c o ++ hashed_by_volume c o)
  tell_volume g sides c None summed is hashes = tell_none
  tell_volume g sides c (Some s) summed is hashes = tell_side s c (summed g s is) hashes

-- an event
pub event_tells : (lists : List (List ℕ)) → SumsTellApart lists → (j : Joint) → Summed lists j → (e : Event) → HashesIn lists j e → ReadTellsApart j e
event_tells lists apart j summed (event.Call (call.Daemon c)) hashes = tell_none
event_tells lists apart j summed (event.Call (call.Group g c)) hashes = tell_fewer lists (hashed_by_event j (event.Call (call.Group g c))) hashes apart
event_tells lists apart j summed (event.Call (call.Volume g vsn c)) hashes =
    tell_volume lists apart j.history.contents g.0 j.sides c (map.get j.sides g.0) summed refl hashes
event_tells lists apart j summed (event.Fault (call.Daemon c) healed checkpointed) hashes = tell_none
event_tells lists apart j summed (event.Fault (call.Group g c) healed checkpointed) hashes =
    tell_fewer lists (hashed_by_event j (event.Fault (call.Group g c) healed checkpointed)) hashes apart
event_tells lists apart j summed (event.Fault (call.Volume g vsn c) healed checkpointed) hashes = tell_none
event_tells lists apart j summed (event.Landed c) hashes = tell_none
event_tells lists apart j summed (event.Look c) hashes = tell_none
event_tells lists apart j summed event.Stop hashes = tell_none

-- ---- as the run begins

module _ {K X Y : Type 0} {R : K → K → Ordering} (o : KeyOrder R) (f : K × X → List Y) where
  within_all : (whole : List Y) (es : List (K × X)) → ((y : Y) → Contains (flat_map f es) y → Contains whole y)
      → AllByRecursion (λ e. (y : Y) → Contains (f e) y → Contains whole y) es
  within_all whole [] within = tt
  within_all whole (e ∷ es) within = (
    λ y has. within y (Contains-append_left (f e) (flat_map f es) y has),
    within_all whole es (λ y has. within y (Contains-append_right (f e) (flat_map f es) y has)),
  )

  -- what a row of a table gives is among what all rows give
  row_within : (m : map.FinMap R X) (k : K) (x : X) → map.get m k ≡ Some x → (y : Y) → Contains (f (k, x)) y → Contains (flat_map f (map.entries m)) y
  row_within m k x is =
      each-entries o (λ k x. (y : Y) → Contains (f (k, x)) y → Contains (flat_map f (map.entries m)) y) m
      (within_all (flat_map f (map.entries m)) (map.entries m) (λ y has. has)) k x is

opened_row : (j : Joint) → InvariantHolds j → (g : ℕ) (s : Side) → map.get j.sides g ≡ Some s → (b : ℕ) (row : BitfileRow) → map.get s.group.tables.bitfiles b ≡ Some row
    → (c : Chunk) → IsAmong c row.chunks → PartIn (parts_stored j) j.history.contents b c
opened_row j kept g s side b row is c among has =
    let k = (kept.sides g s side).catalogue.bitfile b row is in
    let part = part_of k.of.bytes c.offset c.len in
    record {
      bytes = k.of.bytes;
      content = k.of.content;
      among = row_within numbers (λ e. parts_on j.history.contents e.1) j.sides g s side part
          (row_within numbers (λ e. parts_of_content (map.get j.history.contents e.0) e.1.chunks) s.group.tables.bitfiles b row is part
          (subst (λ o. Contains (parts_of_content o row.chunks) part) (sym k.of.content)
          (contains_mapped (λ (d : Chunk). part_of k.of.bytes d.offset d.len) c row.chunks among)));
    }

pub opened_in : (j : Joint) → Opened j → Summed (parts_stored j) j
opened_in j opened = λ g s is.
    let o = opened.sides g s is in
    record {
      rows = λ b row at c among. opened_row j (opened_kept j opened) g s is b row at c among;
      mounts = each_of_empty nat_cmp _ s.mounts o.mounts;
      doubt = subst (λ d. DoubtIn (parts_stored j) j.history.contents d) (sym o.doubt) tt;
    }

-- ---- runs

pub more_lists : (lists more : List (List ℕ)) → ((x : List ℕ) → Contains lists x → Contains more x) → (j : Joint) → Summed lists j → Summed more j
more_lists lists more within j summed = λ g s is. wider lists more within j.history.contents s (summed g s is)

-- each read of a legal run tells its bytes
reads_along : (lists : List (List ℕ)) → SumsTellApart lists → (j : Joint) (entries : List RunEntry) (k : Joint) → InvariantHolds j → Summed lists j
    → ((x : List ℕ) → Contains (hashed_in_run j entries) x → Contains lists x) → Run j entries k → ReadsTellApart j entries
reads_along lists apart j [] k kept summed hashes run = tt
reads_along lists apart j (e ∷ es) k kept summed hashes run =
    let mid = run.0 in
    let now : HashesIn lists j e.event =
    λ x has. hashes x (Contains-append_left (hashed_by_event j e.event) (hashed_in_run (state_after j (step j e.worker e.event)) es) x has) in
    let later : (x : List ℕ) → Contains (hashed_in_run mid es) x → Contains lists x = λ x has.
    hashes x (Contains-append_right (hashed_by_event j e.event) (hashed_in_run (state_after j (step j e.worker e.event)) es) x
    (subst (λ o. Contains (hashed_in_run (state_after j o) es) x) (sym run.1) has)) in
    let tells = event_tells lists apart j summed e.event now in
    let next = event_keeps j mid e.worker e.event e.answer tells kept run.1 in
    let rest =
    reads_along lists apart mid es k next (event_in lists j kept summed e.worker e.event mid e.answer now run.1) later run.2 in
    (tells, subst (λ o. ReadsTellApart (state_after j o) es) (sym run.1) rest)

pub reads_tell : (j : Joint) (entries : List RunEntry) (k : Joint) → Opened j → NoCollision j entries → Run j entries k → ReadsTellApart j entries
reads_tell j entries k opened apart run =
    let lists = parts_stored j ++ hashed_in_run j entries in
    reads_along lists apart j entries k (opened_kept j opened)
    (more_lists (parts_stored j) lists (λ x has. Contains-append_left (parts_stored j) (hashed_in_run j entries) x has) j (opened_in j opened))
    (λ x has. Contains-append_right (parts_stored j) (hashed_in_run j entries) x has) run
