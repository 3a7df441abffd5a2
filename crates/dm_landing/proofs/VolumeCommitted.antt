-- A bitfile is committed: its chunks, which were of a zone in hand, are live.
use Rattle.std.proofs.Common.{◌≡◌, ◌⊎◌, ℕ, false, List, Option, Some, None, IsSome, is_some, refl, sym, ap, subst, ◌∙◌, inl, inr}
use Rattle.std.specs.FinMap as map
use Rattle.dm_base.specs.declared.identifier.Bfid.{Bfid}
use Rattle.dm_base.specs.declared.identifier.Secs.{Secs}
use Rattle.dm_base.specs.declared.volume.Chunk.{Chunk}
use Rattle.dm_tables.proofs.Orders.{numbers}
use Rattle.dm_tables.proofs.Rows.{get-here, get-beside, inserted, each-insert}
use Rattle.dm_durable.specs.declared.daemon.Entry.{Entry}
use Rattle.dm_durable.specs.declared.group.BitfileRow.{BitfileRow}
use Rattle.dm_durable.specs.declared.group.GroupRecord.{GroupRecord}
use Rattle.dm_durable.specs.declared.group.GroupStep.TheVariants.{Commit}
use Rattle.dm_durable.specs.Group.{group_after_record, with_ends_behind}
use Rattle.dm_durable.specs.GroupConditions.{Joins}
use Rattle.dm_durable.specs.Tables.{ByNumber}
use Rattle.dm_model.specs.declared.state.Moving.{Moving}
use Rattle.dm_model.specs.declared.state.OpenRequest.{OpenRequest}
use Rattle.dm_model.specs.declared.state.Reserved.{Reserved}
use Rattle.dm_model.specs.declared.state.Side.{Side}
use Rattle.dm_invariant.specs.Among.{IsAmong}
use Rattle.dm_invariant.specs.Catalogue.{BitfileKept, LiesBefore}
use Rattle.dm_invariant.specs.Doubts.{CommitNeeds, GroupMayLand}
use Rattle.dm_invariant.specs.Kept.{SideKept}
use Rattle.dm_invariant.specs.Places.{ChunkCovers, ChunksApart, HasPlace, Live, Reserving, Target, Doubted, Owner, PlacesKept, ZoneCovers}
use Rattle.dm_invariant.proofs.DoubtedZones.{ends_below, zone_covers}
use Rattle.dm_invariant.proofs.LookUps.{key_differs, still_there}
use Rattle.dm_invariant.proofs.Options.{has_value}
use Rattle.dm_landing.proofs.GroupLanding.{landed_as, side_as}
use Rattle.dm_landing.proofs.VolumeAdded.{all_origins_onward}
use Rattle.dm_landing.proofs.VolumeChunkLists.{one_lies}
use Rattle.dm_landing.proofs.VolumeEnds.{Below, lies_raised, stays_raised, volumes_raised}
use Rattle.dm_landing.proofs.VolumeEndsRaised.{epoch_raised}
use Rattle.dm_landing.proofs.VolumesOnward.{bitfile_onward}

-- ---- places

module _ (bitfiles : ByNumber BitfileRow) (reservations : ByNumber Reserved) (moves : ByNumber Moving) (time : Secs) (b : Bfid) (len : ℕ)
    (chunks : List Chunk) (inside : (c : Chunk) (vsn : List ℕ) (place : ℕ) → IsAmong c chunks → ChunkCovers c vsn place → ZoneCovers c vsn place)
    (apart : ChunksApart chunks) where
  abbrev committing : Option GroupRecord
  committing = Some (record { time = time; step = Commit b len chunks })

  abbrev more : ByNumber BitfileRow
  more = map.insert bitfiles b.0 (record { len = len; chunks = chunks })

  -- who has a place after a commit had it before: it is no other, or one of the commit's chunks, and was in the zone that this names
  record WasOther (o : Owner) (vsn : List ℕ) (place : ℕ) : Type 0 where
    has : HasPlace bitfiles reservations moves committing o vsn place
    sure : (n : ℕ) → o ≡ Doubted n → ⊥

  record WasNew (o : Owner) (vsn : List ℕ) (place : ℕ) : Type 0 where
    chunk : Chunk
    among : IsAmong chunk chunks
    is : o ≡ Live b.0 chunk.offset
    covers : ChunkCovers chunk vsn place
    has : HasPlace bitfiles reservations moves committing (Doubted chunk.zone) vsn place

  had : (o : Owner) (vsn : List ℕ) (place : ℕ) → HasPlace more reservations moves None o vsn place → WasOther o vsn place ⊎ WasNew o vsn place
  had (Live q offset) vsn place h =
      elim (inserted numbers bitfiles b.0 _ q h.row h.is) [
        | inl here ↦
            let among : IsAmong h.chunk chunks = subst (λ r. IsAmong h.chunk r.chunks) here.1 h.among in
            inr (record {
              chunk = h.chunk;
              among = among;
              is = ap (λ x. Live x offset) here.0 ∙ ap (λ n. Live b.0 n) (sym h.at);
              covers = h.covers;
              has = record { chunk = h.chunk; among = among; at = refl; covers = inside h.chunk vsn place among h.covers };
            })
        | inr beside ↦
            inl (record {
              has = record { row = h.row; is = beside.1; chunk = h.chunk; among = h.among; at = h.at; covers = h.covers };
              sure = λ n e. cc;
            })
      ]
  had (Reserving n offset) vsn place h = inl (record { has = h; sure = λ m e. cc })
  had (Target job) vsn place h = inl (record { has = h; sure = λ m e. cc })
  had (Doubted zone) vsn place h = absurd h.among

  pub places_committed : PlacesKept bitfiles reservations moves committing → PlacesKept more reservations moves None
  places_committed k = λ o p vsn place one two.
      elim (had o vsn place one) [
        | inl a ↦ elim (had p vsn place two) [
          | inl c ↦ k o p vsn place a.has c.has
          | inr c ↦ absurd (a.sure c.chunk.zone (k o (Doubted c.chunk.zone) vsn place a.has c.has))
        ]
        | inr a ↦ elim (had p vsn place two) [
          | inl c ↦ absurd (c.sure a.chunk.zone (k p (Doubted a.chunk.zone) vsn place c.has a.has))
          | inr c ↦ a.is ∙ ap (λ n. Live b.0 n) (apart a.chunk c.chunk vsn place a.among c.among a.covers c.covers) ∙ sym c.is
        ]
      ]

-- ---- the catalogue

bitfile_new : (g : ℕ) (entries : ByNumber Entry) (contents : ByNumber (List ℕ)) (s : Side) (deleted : ByNumber (Unit {0})) (b len : ℕ)
    (chunks : List Chunk) → Joins 0 chunks len
    → CommitNeeds g entries contents s.images s.group.tables.volumes s.group.tips deleted s.group.reservations b len chunks
    → ((c : Chunk) → IsAmong c chunks → LiesBefore (with_ends_behind chunks s.group.tables.volumes) c)
    → BitfileKept g entries contents (with_ends_behind chunks s.group.tables.volumes) s.images b (record { len = len; chunks = chunks })
bitfile_new g entries contents s deleted b len chunks joins n lies = record {
  of = n.puts.of;
  len = sym n.puts.of.sized ∙ n.whole;
  joins = joins;
  lies = lies;
  known = n.puts.known;
  sums = n.puts.sums;
}

-- the side keeps the invariant as a bitfile is committed, which is one more that was ever committed
pub bitfile_committed : (entries : ByNumber Entry) (contents : ByNumber (List ℕ)) (taken : ByNumber (Unit {0}))
    (requests : ByNumber OpenRequest) (g : ℕ) (committed deleted : ByNumber (Unit {0})) (s : Side) (time : Secs) (b : Bfid) (len : ℕ)
    (chunks : List Chunk)
    → GroupMayLand g entries contents taken deleted s (record { time = time; step = Commit b len chunks })
    → PlacesKept s.group.tables.bitfiles s.group.reservations s.group.moves (Some (record { time = time; step = Commit b len chunks }))
    → SideKept entries contents taken requests g committed deleted s
    → SideKept entries contents taken requests g (map.insert committed b.0 tt) deleted
    (landed_as (group_after_record s.group.tables (record { time = time; step = Commit b len chunks })) s.group.tips s.images s)
bitfile_committed entries contents taken requests g committed deleted s time b len chunks may places k =
    let t = s.group.tables in
    let n = may.needs in
    let step = may.follow.step in
    let below : Below t.volumes s.group.tips chunks = λ c v among is.
    ends_below t.volumes s.group.tips c v (n.puts.hand c among) is in
    let on = stays_raised s.group.conf t.time.0 t.volumes s.group.tips s.images chunks below k.volumes in
    let volumes = with_ends_behind chunks t.volumes in
    let row : BitfileRow = record { len = len; chunks = chunks } in
    let all = map.insert t.bitfiles b.0 row in
    let fresh = bitfile_new g entries contents s deleted b.0 len chunks step.stands.joins n
    (λ c among. lies_raised s.group.conf t.time.0 t.volumes s.group.tips s.images chunks below k.volumes c among
    (one_lies t.volumes chunks c step.stands.lies among)) in
    side_as entries contents taken requests g committed (map.insert committed b.0 tt) deleted s
    (group_after_record t (record { time = time; step = Commit b len chunks })) s.group.tips s.images
    (record {
      number = refl;
      later = may.follow.time;
      epochs = λ m x is. epoch_raised chunks t.volumes x.vsn.0;
      chunks = λ m x is. all_origins_onward t.volumes volumes s.group.tips s.group.tips s.images s.images on x.origin;
      pieces = λ i r is p among. on p.vsn.0;
      new = λ i r is. get-beside numbers t.bitfiles b.0 row r.bfid.0 (n.unreserved i r is) ∙ (k.reservations.reservation i r is).new;
      targets = λ job x is. on x.to.vsn.0;
      reused = λ m x is. on x.vsn.0;
    })
    k
    (record {
      bitfile = each-insert numbers (BitfileKept g entries contents volumes s.images) t.bitfiles b.0 row fresh
          (λ q old e. bitfile_onward t.volumes volumes s.group.tips s.group.tips s.images s.images g entries contents q old
          (λ c among. on c.vsn.0) (k.catalogue.bitfile q old e));
      stored = λ q e is lasting has. still_there numbers t.bitfiles b.0 row q (k.catalogue.stored q e is lasting has);
      commits =
          each-insert numbers (λ q u. (e : Entry) → map.get entries q ≡ Some e → e.dropping ≡ false → IsSome (map.get all q)) committed b.0 tt
          (λ e is lasting. ap is_some (get-here numbers t.bitfiles b.0 row))
          (λ q u is e there lasting. still_there numbers t.bitfiles b.0 row q (k.catalogue.commits q u is e there lasting));
      commits_made = each-insert numbers (λ q u. IsSome (map.get contents q)) committed b.0 tt
          (has_value (map.get contents b.0) n.puts.of.bytes n.puts.of.content) k.catalogue.commits_made;
      deletes = λ q u is.
          get-beside numbers t.bitfiles b.0 row q (key_differs deleted b.0 q u n.puts.undeleted is) ∙ k.catalogue.deletes q u is;
      deletes_taken = k.catalogue.deletes_taken;
    })
    (volumes_raised s.group.conf t.time.0 t.volumes s.group.tips s.images chunks below k.volumes time.0 may.follow.time)
    (places_committed t.bitfiles s.group.reservations s.group.moves time b len chunks
    (λ c vsn place among covers. zone_covers t.volumes s.group.tips c vsn place (n.puts.hand c among) covers) n.apart places)
