-- A chunk is moved: it stands where its zone was in hand.
use Rattle.std.proofs.Common.{◌≡◌, ◌≢◌, ◌⊎◌, ℕ, ◌+◌, ◌<◌, true, false, cond, nat_eq, List, [], ◌∷◌, Option, Some, None, IsSome, is_some, refl, sym, ap, subst, ◌∙◌, inl, inr, arith}
use Rattle.std.specs.Prelude as prelude
use Rattle.std.proofs.lemmas.Bool.{eq-eqb, eqb-true}
use Rattle.std.specs.FinMap as map
use Rattle.dm_base.specs.declared.identifier.Bfid.{Bfid}
use Rattle.dm_base.specs.declared.identifier.Secs.{Secs}
use Rattle.dm_base.specs.declared.volume.Chunk.{Chunk}
use Rattle.dm_tables.specs.Rows.{EachRow, adjust}
use Rattle.dm_tables.proofs.Adjusted.{adjust-none, adjusted, adjusted-beside, adjusted-here, each-adjust}
use Rattle.dm_tables.proofs.Orders.{numbers, same_or}
use Rattle.dm_durable.specs.declared.daemon.Entry.{Entry}
use Rattle.dm_durable.specs.declared.group.BitfileRow.{BitfileRow}
use Rattle.dm_durable.specs.declared.group.GroupRecord.{GroupRecord}
use Rattle.dm_durable.specs.declared.group.GroupStep.TheVariants.{Move}
use Rattle.dm_durable.specs.declared.group.VolumeRow.{VolumeRow}
use Rattle.dm_durable.specs.Group.{chunk_at, chunk_or_moved, group_after_record, with_chunk, with_end_behind, with_ends_behind}
use Rattle.dm_durable.specs.GroupConditions.{Joins}
use Rattle.dm_durable.specs.Tables.{ByNumber, ByName}
use Rattle.dm_durable.specs.Volumes.{epoch_or}
use Rattle.dm_model.specs.declared.state.Image.{Image}
use Rattle.dm_model.specs.declared.state.Moving.{Moving}
use Rattle.dm_model.specs.declared.state.OpenRequest.{OpenRequest}
use Rattle.dm_model.specs.declared.state.Reserved.{Reserved}
use Rattle.dm_model.specs.declared.state.Side.{Side}
use Rattle.dm_invariant.specs.Among.{IsAmong}
use Rattle.dm_invariant.specs.Assemble.{ChunkKnown, SumRight}
use Rattle.dm_invariant.specs.Catalogue.{BitfileKept, LiesBefore}
use Rattle.dm_invariant.specs.Doubts.{GroupMayLand, PutNeeds}
use Rattle.dm_invariant.specs.Kept.{SideKept}
use Rattle.dm_invariant.specs.Places.{ChunkCovers, HasPlace, Live, Reserving, Target, Doubted, Owner, PlacesKept, ZoneCovers}
use Rattle.dm_invariant.specs.Volumes.{VolumesKept}
use Rattle.dm_invariant.proofs.DoubtedZones.{ends_below, zone_covers}
use Rattle.dm_invariant.proofs.Lists.{mapped_among}
use Rattle.dm_invariant.proofs.Options.{mapped_value, same_row}
use Rattle.dm_landing.proofs.GroupLanding.{landed_as, side_as}
use Rattle.dm_landing.proofs.VolumeAdded.{all_origins_onward}
use Rattle.dm_landing.proofs.VolumeEnds.{Below, lies_raised, stays_raised, volumes_raised}
use Rattle.dm_landing.proofs.VolumeEndsRaised.{epoch_raised}
use Rattle.dm_landing.proofs.VolumesOnward.{OnwardAt, bitfile_onward}

-- ---- lists of chunks of which one is moved

-- a chunk is the moved one, where it begins there, or stays
moved_or_same : (to x : Chunk) → ((chunk_or_moved to x ≡ to) × (x.offset ≡ to.offset)) ⊎ ((chunk_or_moved to x ≡ x) × (x.offset ≢ to.offset))
moved_or_same to x =
    elim (nat_eq x.offset to.offset) as
    (λ b. nat_eq x.offset to.offset ≡ b
    → ((cond b to x ≡ to) × (x.offset ≡ to.offset)) ⊎ ((cond b to x ≡ x) × (x.offset ≢ to.offset))) [
      | true ↦ λ e. inl (refl, eqb-true x.offset to.offset e)
      | false ↦ λ e. inr (refl, λ same. let f = eq-eqb x.offset to.offset same in cc)
    ] refl

-- the first chunk is the one that begins where it does
found_first : (offset : ℕ) (c : Chunk) (cs : List Chunk) (x : Chunk) → c.offset ≡ offset → chunk_at offset (c ∷ cs) ≡ Some x → c ≡ x
found_first offset c cs x same is =
    elim (nat_eq c.offset offset) as
    (λ b. nat_eq c.offset offset ≡ b → cond b (Some c) (chunk_at offset cs) ≡ Some x → c ≡ x) [
      | true ↦ λ e found. cc
      | false ↦ λ e found. let f = eq-eqb c.offset offset same in absurd cc
    ] refl is

-- one that begins elsewhere is among the others
found_later : (offset : ℕ) (c : Chunk) (cs : List Chunk) (x : Chunk) → c.offset ≢ offset → chunk_at offset (c ∷ cs) ≡ Some x
    → chunk_at offset cs ≡ Some x
found_later offset c cs x differ is =
    elim (nat_eq c.offset offset) as
    (λ b. nat_eq c.offset offset ≡ b → cond b (Some c) (chunk_at offset cs) ≡ Some x → chunk_at offset cs ≡ Some x) [
      | true ↦ λ e found. absurd (differ (eqb-true c.offset offset e))
      | false ↦ λ e found. found
    ] refl is

-- chunks that lie behind the moved one stay
joins_behind : (to : Chunk) (start end : ℕ) (cs : List Chunk) → to.offset < start → Joins start cs end
    → prelude.map (chunk_or_moved to) cs ≡ cs
joins_behind to start end [] behind joins = refl
joins_behind to start end (c ∷ cs) behind joins =
    let at = joins.0 in
    let rest = joins_behind to (start + c.len) end cs (omega (arith, behind)) joins.2 in
    elim (moved_or_same to c) [
      | inl moved ↦ let same = moved.1 in absurd (omega (arith, same, at, behind))
      | inr stays ↦ ap (λ x. x ∷ prelude.map (chunk_or_moved to) cs) stays.0 ∙ ap (λ xs. c ∷ xs) rest
    ]

-- chunks that join still do as one is moved
joins_moved : (from to : Chunk) (start end : ℕ) (cs : List Chunk) → to.offset ≡ from.offset → to.len ≡ from.len
    → chunk_at from.offset cs ≡ Some from → Joins start cs end → Joins start (prelude.map (chunk_or_moved to) cs) end
joins_moved from to start end [] offset len is joins = joins
joins_moved from to start end (c ∷ cs) offset len is joins =
    let P : Chunk → Type 0 = λ x. Joins start (x ∷ prelude.map (chunk_or_moved to) cs) end in
    elim (moved_or_same to c) [
      | inl moved ↦
          let same = found_first from.offset c cs from (moved.1 ∙ offset) is in
          let at = joins.0 in
          let some = joins.1 in
          let here = moved.1 in
          let equal : c.len ≡ to.len = ap (λ x. x.len) same ∙ sym len in
          let rest = joins_behind to (start + c.len) end cs (omega (arith, at, some, here)) joins.2 in
          let tail = subst (λ xs. Joins (start + c.len) xs end) (sym rest) joins.2 in
          let after = subst (λ n. Joins (start + n) (prelude.map (chunk_or_moved to) cs) end) equal tail in
          subst P (sym moved.0) (sym here ∙ at, subst (λ n. 0 < n) equal some, after)
      | inr stays ↦
          let found = found_later from.offset c cs from (λ e. stays.1 (e ∙ sym offset)) is in
          subst P (sym stays.0) (joins.0, joins.1, joins_moved from to (start + c.len) end cs offset len found joins.2)
    ]

-- a chunk of the list is the moved one, or was there and begins elsewhere
moved_among : (to : Chunk) (cs : List Chunk) (c : Chunk) → IsAmong c (prelude.map (chunk_or_moved to) cs)
    → (c ≡ to) ⊎ (IsAmong c cs × (c.offset ≢ to.offset))
moved_among to cs c among =
    let x = mapped_among (chunk_or_moved to) c cs among in
    elim (moved_or_same to x.0) [
      | inl moved ↦ inl (sym x.2 ∙ moved.0)
      | inr stays ↦
          let same : x.0 ≡ c = sym stays.0 ∙ x.2 in
          inr (subst (λ z. IsAmong z cs × (z.offset ≢ to.offset)) same (x.1, stays.1))
    ]

-- ---- places

module _ (bitfiles : ByNumber BitfileRow) (reservations : ByNumber Reserved) (moves : ByNumber Moving) (time : Secs) (b : Bfid) (from to : Chunk)
    (inside : (vsn : List ℕ) (place : ℕ) → ChunkCovers to vsn place → ZoneCovers to vsn place) where
  abbrev moving : Option GroupRecord
  moving = Some (record { time = time; step = Move b from to })

  abbrev moved : ByNumber BitfileRow
  moved = adjust bitfiles b.0 (with_chunk to)

  -- who has a place after a move had it before: it is no other, or was in the move's own zone
  record WasOther (o : Owner) (vsn : List ℕ) (place : ℕ) : Type 0 where
    has : HasPlace bitfiles reservations moves moving o vsn place
    sure : (n : ℕ) → o ≡ Doubted n → ⊥

  record WasMoved (o : Owner) (vsn : List ℕ) (place : ℕ) : Type 0 where
    is : o ≡ Live b.0 to.offset
    has : HasPlace bitfiles reservations moves moving (Doubted to.zone) vsn place

  had : (o : Owner) (vsn : List ℕ) (place : ℕ) → HasPlace moved reservations moves None o vsn place → WasOther o vsn place ⊎ WasMoved o vsn place
  had (Live q offset) vsn place h =
      elim (adjusted numbers bitfiles b.0 (with_chunk to) q h.row h.is) [
        | inl here ↦
            let P : BitfileRow → Type 0 = λ r. IsAmong h.chunk r.chunks in
            elim (moved_among to here.1.0.chunks h.chunk (subst P here.1.2 h.among)) [
              | inl same ↦
                  inr (record {
                    is = ap (λ x. Live x offset) here.0 ∙ ap (λ n. Live b.0 n) (sym h.at ∙ ap (λ c. c.offset) same);
                    has = record {
                      chunk = to;
                      among = refl;
                      at = refl;
                      covers = inside vsn place (subst (λ (c : Chunk). ChunkCovers c vsn place) same h.covers);
                    };
                  })
              | inr was ↦
                  inl (record {
                    has = record {
                      row = here.1.0;
                      is = ap (map.get bitfiles) here.0 ∙ here.1.1;
                      chunk = h.chunk;
                      among = was.0;
                      at = h.at;
                      covers = h.covers;
                    };
                    sure = λ n e. cc;
                  })
            ]
        | inr beside ↦
            inl (record {
              has = record { row = h.row; is = beside.1; chunk = h.chunk; among = h.among; at = h.at; covers = h.covers };
              sure = λ n e. cc;
            })
      ]
  had (Reserving n offset) vsn place h = inl (record { has = h; sure = λ m e. cc })
  had (Target job) vsn place h = inl (record { has = h; sure = λ m e. cc })
  had (Doubted zone) vsn place h = absurd h.among

  pub places_moved : PlacesKept bitfiles reservations moves moving → PlacesKept moved reservations moves None
  places_moved k = λ o p vsn place one two.
      elim (had o vsn place one) [
        | inl a ↦ elim (had p vsn place two) [
          | inl c ↦ k o p vsn place a.has c.has
          | inr c ↦ absurd (a.sure to.zone (k o (Doubted to.zone) vsn place a.has c.has))
        ]
        | inr a ↦ elim (had p vsn place two) [
          | inl c ↦ absurd (c.sure to.zone (k p (Doubted to.zone) vsn place c.has a.has))
          | inr c ↦ a.is ∙ sym c.is
        ]
      ]

-- ---- the catalogue

-- what is there is there after one was changed, and what isn't there isn't
there_adjusted : (m : ByNumber BitfileRow) (k : ℕ) (f : BitfileRow → BitfileRow) (q : ℕ) → IsSome (map.get m q) → IsSome (map.get (adjust m k f) q)
there_adjusted m k f q there =
    elim (same_or numbers k q) [
      | inl same ↦
          let here : IsSome (map.get m k) = ap is_some (ap (map.get m) (sym same)) ∙ there in
          ap is_some (ap (map.get (adjust m k f)) same ∙ adjusted-here numbers m k f) ∙ mapped_value f (map.get m k) here
      | inr differ ↦ ap is_some (adjusted-beside numbers m k f q differ) ∙ there
    ]

away_adjusted : (m : ByNumber BitfileRow) (k : ℕ) (f : BitfileRow → BitfileRow) (q : ℕ) → map.get m q ≡ None → map.get (adjust m k f) q ≡ None
away_adjusted m k f q away =
    elim (same_or numbers k q) [
      | inl same ↦ ap (λ t. map.get t q) (adjust-none m k f (ap (map.get m) (sym same) ∙ away)) ∙ away
      | inr differ ↦ adjusted-beside numbers m k f q differ ∙ away
    ]

-- the moved chunk is the same part of the same bitfile
bitfile_moved : (g : ℕ) (entries : ByNumber Entry) (contents : ByNumber (List ℕ)) (images : ByName Image) (before volumes : ByName VolumeRow)
    (tips : ByName ℕ) (deleted : ByNumber (Unit {0})) (b : ℕ) (from to : Chunk) (row : BitfileRow)
    → chunk_at from.offset row.chunks ≡ Some from → to.offset ≡ from.offset → to.len ≡ from.len → LiesBefore volumes to
    → PutNeeds g entries contents images before tips deleted b (λ c. c ≡ to)
    → BitfileKept g entries contents volumes images b row → BitfileKept g entries contents volumes images b (with_chunk to row)
bitfile_moved g entries contents images before volumes tips deleted b from to row found offset len lies n k =
    let same : n.of.bytes ≡ k.of.bytes = same_row (map.get contents b) n.of.bytes k.of.bytes n.of.content k.of.content in
    record {
      of = k.of;
      len = k.len;
      joins = joins_moved from to 0 row.len row.chunks offset len found k.joins;
      lies = λ c among. elim (moved_among to row.chunks c among) [
        | inl at ↦ subst (λ x. LiesBefore volumes x) (sym at) lies
        | inr was ↦ k.lies c was.0
      ];
      known = λ c among. elim (moved_among to row.chunks c among) [
        | inl at ↦ subst (λ x. ChunkKnown images x c) same (n.known c at)
        | inr was ↦ k.known c was.0
      ];
      sums = λ c among. elim (moved_among to row.chunks c among) [
        | inl at ↦ subst (λ x. SumRight x c) same (n.sums c at)
        | inr was ↦ k.sums c was.0
      ];
    }

-- the end of one volume is raised as those of a list of one are
raised-one : (to : Chunk) (volumes : ByName VolumeRow) → with_ends_behind (to ∷ []) volumes ≡ adjust volumes to.vsn.0 (with_end_behind to)
unfolding with_ends_behind
raised-one to volumes = refl

-- the side keeps the invariant as a chunk is moved
pub chunk_moved : (entries : ByNumber Entry) (contents : ByNumber (List ℕ)) (taken : ByNumber (Unit {0})) (requests : ByNumber OpenRequest)
    (g : ℕ) (committed deleted : ByNumber (Unit {0})) (s : Side) (time : Secs) (b : Bfid) (from to : Chunk)
    → GroupMayLand g entries contents taken deleted s (record { time = time; step = Move b from to })
    → PlacesKept s.group.tables.bitfiles s.group.reservations s.group.moves (Some (record { time = time; step = Move b from to }))
    → SideKept entries contents taken requests g committed deleted s
    → SideKept entries contents taken requests g committed deleted
    (landed_as (group_after_record s.group.tables (record { time = time; step = Move b from to })) s.group.tips s.images s)
chunk_moved entries contents taken requests g committed deleted s time b from to may places k =
    let t = s.group.tables in
    let n = may.needs in
    let step = may.follow.step in
    let one : List Chunk = to ∷ [] in
    let below : Below t.volumes s.group.tips one = λ c v among is. elim among [ inl at ↦ ends_below t.volumes s.group.tips c v (n.hand c at) is | inr none ↦ absurd none ] in
    let e = raised-one to t.volumes in
    let volumes = adjust t.volumes to.vsn.0 (with_end_behind to) in
    let raised = stays_raised s.group.conf t.time.0 t.volumes s.group.tips s.images one below k.volumes in
    let On : ByName VolumeRow → Type 0 = λ x. (q : List ℕ) → OnwardAt t.volumes x s.group.tips s.group.tips s.images s.images q in
    let on = subst On e raised in
    let lies = subst (λ x. LiesBefore x to) e
    (lies_raised s.group.conf t.time.0 t.volumes s.group.tips s.images one below k.volumes to (inl refl) step.lies) in
    let onward : EachRow t.bitfiles (BitfileKept g entries contents volumes s.images) = λ q old e. bitfile_onward t.volumes volumes s.group.tips s.group.tips s.images s.images g entries contents q old
    (λ c among. on c.vsn.0) (k.catalogue.bitfile q old e) in
    side_as entries contents taken requests g committed committed deleted s
    (group_after_record t (record { time = time; step = Move b from to })) s.group.tips s.images
    (record {
      number = refl;
      later = may.follow.time;
      epochs = λ m x is.
          subst (λ y. epoch_or (map.get y x.vsn.0) ≡ epoch_or (map.get t.volumes x.vsn.0)) e (epoch_raised one t.volumes x.vsn.0);
      chunks = λ m x is. all_origins_onward t.volumes volumes s.group.tips s.group.tips s.images s.images on x.origin;
      pieces = λ i r is p among. on p.vsn.0;
      new = λ i r is. away_adjusted t.bitfiles b.0 (with_chunk to) r.bfid.0 (k.reservations.reservation i r is).new;
      targets = λ job x is. on x.to.vsn.0;
      reused = λ m x is. on x.vsn.0;
    })
    k
    (record {
      bitfile = each-adjust numbers (BitfileKept g entries contents volumes s.images) t.bitfiles b.0 (with_chunk to)
          (λ old is.
          let same : step.row ≡ old = same_row (map.get t.bitfiles b.0) step.row old step.is is in
          let found : chunk_at from.offset old.chunks ≡ Some from = subst (λ r. chunk_at from.offset r.chunks ≡ Some from) same step.has in
          bitfile_moved g entries contents s.images t.volumes volumes s.group.tips deleted b.0 from to old found step.offset step.len lies n
          (onward b.0 old is))
          onward;
      stored = λ q e is lasting has. there_adjusted t.bitfiles b.0 (with_chunk to) q (k.catalogue.stored q e is lasting has);
      commits = λ q u is e there lasting. there_adjusted t.bitfiles b.0 (with_chunk to) q (k.catalogue.commits q u is e there lasting);
      commits_made = k.catalogue.commits_made;
      deletes = λ q u is. away_adjusted t.bitfiles b.0 (with_chunk to) q (k.catalogue.deletes q u is);
      deletes_taken = k.catalogue.deletes_taken;
    })
    (subst (λ x. VolumesKept s.group.conf time.0 x s.group.tips) e
    (volumes_raised s.group.conf t.time.0 t.volumes s.group.tips s.images one below k.volumes time.0 may.follow.time))
    (places_moved t.bitfiles s.group.reservations s.group.moves time b from to
    (λ vsn place covers. zone_covers t.volumes s.group.tips to vsn place (n.hand to refl) covers) places)
