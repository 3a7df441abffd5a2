-- A chunk that was once live is still there, whatever is done to a group's side.
use Rattle.std.proofs.Common.{◌≡◌, ◌≢◌, ℕ, ◌+◌, ◌≤◌, Bool, true, false, Option, None, Some, List, [], ◌∷◌, length, nat_cmp, refl, sym, ap, subst, ◌∙◌, inl, inr, arith}
use Rattle.std.specs.FinMap as map
use Rattle.dm_base.specs.declared.identifier.GroupId.{GroupId}
use Rattle.dm_base.specs.declared.identifier.Secs.{Secs}
use Rattle.dm_base.specs.declared.volume.Chunk.{Chunk}
use Rattle.dm_base.specs.declared.volume.Piece.{Piece}
use Rattle.dm_rules.specs.Known.{known_without_range, known_bytes, known_with_write}
use Rattle.dm_rules.specs.Version.{has_sum}
use Rattle.dm_tables.specs.Rows.{adjust}
use Rattle.dm_tables.proofs.Orders.{numbers, paths, same_or}
use Rattle.dm_tables.proofs.Rows.{each-empty, get-beside, inserted, removed}
use Rattle.dm_tables.proofs.Adjusted.{adjusted-beside, adjusted_row}
use Rattle.dm_durable.specs.declared.group.GroupRecord.{GroupRecord}
use Rattle.dm_durable.specs.declared.group.GroupStep.{GroupStep}
use Rattle.dm_durable.specs.declared.group.GroupStep.TheVariants as step
use Rattle.dm_durable.specs.declared.group.GroupTables.{GroupTables}
use Rattle.dm_durable.specs.declared.group.VolumeRow.{VolumeRow}
use Rattle.dm_durable.specs.Group.{as_held, as_reused, group_after_step, new_volume, with_end_behind, with_ends_behind}
use Rattle.dm_durable.specs.Tables.{ByNumber, ByName}
use Rattle.dm_model.specs.declared.plan.Ending.{Ending}
use Rattle.dm_model.specs.declared.plan.Ending.TheVariants as ending
use Rattle.dm_model.specs.declared.plan.Mark.{Mark}
use Rattle.dm_model.specs.declared.plan.Mark.TheVariants as mark
use Rattle.dm_model.specs.declared.plan.Opening.{Opening}
use Rattle.dm_model.specs.declared.plan.Opening.TheVariants as opening
use Rattle.dm_model.specs.declared.plan.Payload.TheVariants as payload
use Rattle.dm_model.specs.declared.state.Image.{Image}
use Rattle.dm_model.specs.declared.state.Moving.{Moving}
use Rattle.dm_model.specs.declared.state.Reserved.{Reserved}
use Rattle.dm_model.specs.declared.state.Side.{Side}
use Rattle.dm_model.specs.SideShare.{images_after_step, images_labelled, images_relabelled, known_by}
use Rattle.dm_model.specs.SideShare.{side_after_ending, side_after_failed_mark, side_after_mark, side_after_opening, side_after_payload, side_after_stop}
use Rattle.dm_model.specs.SideShare.{side_doubting, side_without_doubt}
use Rattle.dm_invariant.specs.Among.{IsAmong}
use Rattle.dm_invariant.specs.Assemble.{known_on}
use Rattle.dm_invariant.specs.OnceLive.{StillThere}
use Rattle.dm_invariant.specs.Places.{ChunkCovers, HasReserving, HasTarget, PieceCovers, TargetCovers}
use Rattle.dm_landing.proofs.VolumeAdded.{labelled_beside}
use Rattle.dm_landing.proofs.VolumeEndsRaised.{raised_by}
use Rattle.dm_effects.proofs.ImagesChanged.{KnownBeside, Spares, image_forgotten, image_written, range_beside}
use Rattle.dm_once.specs.WasLive.{WasLive}

module _ (contents : ByNumber (List ℕ)) (g0 epoch b : ℕ) (c : Chunk) where
  -- ---- what changes around the chunk

  abbrev Was : ByName VolumeRow → ByName Image → ByNumber Reserved → ByNumber Moving → Type 0
  Was volumes images reservations moves = WasLive contents volumes images reservations moves epoch b c

  -- the volume's row, where it keeps its epoch and version and its end doesn't fall
  with_row : (volumes after : ByName VolumeRow) (images later : ByName Image) (reservations : ByNumber Reserved) (moves : ByNumber Moving) (w : VolumeRow)
      → map.get after c.vsn.0 ≡ Some w → (k : Was volumes images reservations moves) → w.epoch ≡ k.volume.epoch → w.version ≡ k.volume.version
      → k.volume.end ≤ w.end → known_on later c.vsn.0 ≡ known_on images c.vsn.0 → Was after later reservations moves
  with_row volumes after images later reservations moves w is k same version end known = record {
    volume = w;
    is = is;
    reached = let r = k.reached in subst (λ n. epoch ≤ n) (sym same) r;
    still = λ at. let s = k.still (sym same ∙ at) in record {
      behind = s.behind;
      within = let i = s.within in omega (arith, i, end);
      sum = s.sum ∙ ap has_sum (sym version);
      bytes = s.bytes;
      content = s.content;
      known = ap (λ k. known_bytes k c.place c.len) known ∙ s.known;
      right = s.right;
      beside_kept = s.beside_kept;
      beside_targets = s.beside_targets;
    };
  }

  -- what is in hand, where nothing new of it meets the chunk
  with_hands : (volumes : ByName VolumeRow) (images : ByName Image) (reservations more : ByNumber Reserved) (moves further : ByNumber Moving)
      → (k : Was volumes images reservations moves)
      → (k.volume.epoch ≡ epoch → (n offset place : ℕ) → ChunkCovers c c.vsn.0 place → HasReserving more n offset c.vsn.0 place
      → HasReserving reservations n offset c.vsn.0 place)
      → (k.volume.epoch ≡ epoch → (job place : ℕ) → ChunkCovers c c.vsn.0 place → HasTarget further job c.vsn.0 place
      → HasTarget moves job c.vsn.0 place) → Was volumes images more further
  with_hands volumes images reservations more moves further k kept targets = record {
    volume = k.volume;
    is = k.is;
    reached = k.reached;
    still = λ at. let s = k.still at in record {
      behind = s.behind;
      within = s.within;
      sum = s.sum;
      bytes = s.bytes;
      content = s.content;
      known = s.known;
      right = s.right;
      beside_kept = λ n offset place covers has. s.beside_kept n offset place covers (kept at n offset place covers has);
      beside_targets = λ job place covers has. s.beside_targets job place covers (targets at job place covers has);
    };
  }

  -- what is known, where the chunk has no place of what changed
  with_images : (volumes : ByName VolumeRow) (images later : ByName Image) (reservations : ByNumber Reserved) (moves : ByNumber Moving) (vsn : List ℕ)
      (place n : ℕ) → KnownBeside vsn place n images later → (k : Was volumes images reservations moves)
      → (k.volume.epoch ≡ epoch → Spares vsn place n c) → Was volumes later reservations moves
  with_images volumes images later reservations moves vsn place n beside k spares = record {
    volume = k.volume;
    is = k.is;
    reached = k.reached;
    still = λ at. let s = k.still at in record {
      behind = s.behind;
      within = s.within;
      sum = s.sum;
      bytes = s.bytes;
      content = s.content;
      known =
          range_beside vsn place n images later c.vsn.0 c.place c.len beside
          (λ q same from below low high. spares at q (record { same = same; low = from; high = below }) low high)
          ∙ s.known;
      right = s.right;
      beside_kept = s.beside_kept;
      beside_targets = s.beside_targets;
    };
  }

  -- ---- the parts of a plan

  abbrev pub SideWas : ℕ → Side → Type 0
  SideWas g s = g ≡ g0 → Was s.group.tables.volumes s.images s.group.reservations s.group.moves

  kept_fewer : (reservations : ByNumber Reserved) (gone n offset : ℕ) (vsn : List ℕ) (place : ℕ) → HasReserving (map.remove reservations gone) n offset vsn place
      → HasReserving reservations n offset vsn place
  kept_fewer reservations gone n offset vsn place h = record {
    reserved = h.reserved;
    is = (removed numbers reservations gone n h.reserved h.is).1;
    piece = h.piece;
    among = h.among;
    at = h.at;
    covers = h.covers;
  }

  target_fewer : (moves : ByNumber Moving) (gone job : ℕ) (vsn : List ℕ) (place : ℕ) → HasTarget (map.remove moves gone) job vsn place
      → HasTarget moves job vsn place
  target_fewer moves gone job vsn place h =
      record { moving = h.moving; is = (removed numbers moves gone job h.moving h.is).1; covers = h.covers }

  pub was_ended : (g : ℕ) (s : Side) (e : Ending) → SideWas g s → SideWas g (side_after_ending e s)
  was_ended g s ending.Nothing k = k
  was_ended g s (ending.Put l d groups) k = k
  was_ended g s (ending.Recall l) k = k
  was_ended g s (ending.Reservation h n d) k = λ same.
      with_hands s.group.tables.volumes s.images s.group.reservations (map.remove s.group.reservations n) s.group.moves s.group.moves (k same)
      (λ at i offset place covers has. kept_fewer s.group.reservations n i offset c.vsn.0 place has) (λ at job place covers has. has)
  was_ended g s (ending.Mount h m) k = k
  was_ended g s (ending.Move h job source target) k = λ same.
      with_hands s.group.tables.volumes s.images s.group.reservations s.group.reservations s.group.moves (map.remove s.group.moves job) (k same)
      (λ at i offset place covers has. has) (λ at i place covers has. target_fewer s.group.moves job i c.vsn.0 place has)

  pub was_settled : (g : ℕ) (s : Side) (heals : Bool) → SideWas g s → SideWas g (side_without_doubt heals s)
  was_settled g s true k = k
  was_settled g s false k = k

  pub was_doubted : (g : GroupId) (s : Side) (r : GroupRecord) → SideWas g.0 s → SideWas g.0 (side_doubting (Some (payload.Group g r)) s)
  was_doubted g s r k = k

  -- ---- records

  -- a volume that is added is new, and one that is used again gets a later epoch
  abbrev pub StepMay : GroupTables → GroupStep → Type 0
  StepMay t (step.Volume vsn slot version size) = map.get t.volumes vsn.0 ≡ None
  StepMay t (step.Commit d len chunks) = Unit {0}
  StepMay t (step.Delete d) = Unit {0}
  StepMay t (step.Move d from to) = Unit {0}
  StepMay t (step.Free vsn) = Unit {0}
  StepMay t (step.Reuse vsn later version) = (v : VolumeRow) → map.get t.volumes vsn.0 ≡ Some v → later ≡ v.epoch + 1

  abbrev pub PaysRight : ℕ → Side → GroupRecord → Type 0
  PaysRight g s r = StepMay s.group.tables r.step

  was_raised : (s : Side) (chunks : List Chunk) → (k : Was s.group.tables.volumes s.images s.group.reservations s.group.moves)
      → Was (with_ends_behind chunks s.group.tables.volumes) s.images s.group.reservations s.group.moves
  was_raised s chunks k =
      let r = raised_by chunks s.group.tables.volumes c.vsn.0 k.volume k.is in
      with_row s.group.tables.volumes (with_ends_behind chunks s.group.tables.volumes) s.images s.images s.group.reservations s.group.moves r.0 r.1 k
      r.2.epoch r.2.version r.2.low refl

  one_raised : (volumes : ByName VolumeRow) (to : Chunk) → with_ends_behind (to ∷ []) volumes ≡ adjust volumes to.vsn.0 (with_end_behind to)
  unfolding with_ends_behind
  one_raised volumes to = refl

  was_freed : (s : Side) (time : ℕ) (vsn : List ℕ) → (k : Was s.group.tables.volumes s.images s.group.reservations s.group.moves)
      → Was (adjust s.group.tables.volumes vsn (as_held time)) s.images s.group.reservations s.group.moves
  was_freed s time vsn k =
      let volumes = s.group.tables.volumes in
      let after = adjust volumes vsn (as_held time) in
      elim (same_or paths vsn c.vsn.0) [
        | inl same ↦
            with_row volumes after s.images s.images s.group.reservations s.group.moves (as_held time k.volume)
            (ap (map.get after) same ∙ adjusted_row paths volumes vsn (as_held time) k.volume (ap (map.get volumes) (sym same) ∙ k.is)) k refl refl
            (omega arith) refl
        | inr differ ↦
            with_row volumes after s.images s.images s.group.reservations s.group.moves k.volume
            (adjusted-beside paths volumes vsn (as_held time) c.vsn.0 differ ∙ k.is) k refl refl (omega arith) refl
      ]

  relabelled_beside : (faithful : List ℕ) (version : ℕ) (vsn q : List ℕ) (o : Option VolumeRow) (images : ByName Image) → q ≢ vsn
      → known_on (images_relabelled faithful version vsn o images) q ≡ known_on images q
  relabelled_beside faithful version vsn q None images differ = refl
  relabelled_beside faithful version vsn q (Some v) images differ = labelled_beside faithful version v.slot vsn q images differ

  was_reused : (s : Side) (vsn : List ℕ) (later version : ℕ)
      → ((v : VolumeRow) → map.get s.group.tables.volumes vsn ≡ Some v → later ≡ v.epoch + 1)
      → (k : Was s.group.tables.volumes s.images s.group.reservations s.group.moves)
      → Was (adjust s.group.tables.volumes vsn (as_reused later version))
      (images_relabelled s.faithful version vsn (map.get s.group.tables.volumes vsn) s.images) s.group.reservations s.group.moves
  was_reused s vsn later version may k =
      let volumes = s.group.tables.volumes in
      let after = adjust volumes vsn (as_reused later version) in
      elim (same_or paths vsn c.vsn.0) [
        | inl same ↦
            let row : map.get volumes vsn ≡ Some k.volume = ap (map.get volumes) (sym same) ∙ k.is in
            let next = may k.volume row in
            let reached = k.reached in
            record {
              volume = as_reused later version k.volume;
              is = ap (map.get after) same ∙ adjusted_row paths volumes vsn (as_reused later version) k.volume row;
              reached = omega (arith, next, reached);
              still = λ at. absurd (omega (arith, next, reached, at));
            }
        | inr differ ↦
            with_row volumes after s.images (images_relabelled s.faithful version vsn (map.get volumes vsn) s.images) s.group.reservations s.group.moves
            k.volume (adjusted-beside paths volumes vsn (as_reused later version) c.vsn.0 differ ∙ k.is) k refl refl (omega arith)
            (relabelled_beside s.faithful version vsn c.vsn.0 (map.get volumes vsn) s.images differ)
      ]

  was_added : (s : Side) (vsn : List ℕ) (slot version size : ℕ) → map.get s.group.tables.volumes vsn ≡ None
      → (k : Was s.group.tables.volumes s.images s.group.reservations s.group.moves)
      → Was (map.insert s.group.tables.volumes vsn (new_volume slot version size)) (images_labelled s.faithful version slot vsn s.images)
      s.group.reservations s.group.moves
  was_added s vsn slot version size none k =
      let volumes = s.group.tables.volumes in
      let differ : c.vsn.0 ≢ vsn = λ same. let e = ap (map.get volumes) same in let there = k.is in cc in
      with_row volumes (map.insert volumes vsn (new_volume slot version size)) s.images (images_labelled s.faithful version slot vsn s.images)
      s.group.reservations s.group.moves k.volume (get-beside paths volumes vsn (new_volume slot version size) c.vsn.0 differ ∙ k.is) k refl refl
      (omega arith) (labelled_beside s.faithful version slot vsn c.vsn.0 s.images differ)

  was_stepped : (s : Side) (time : Secs) (st : GroupStep) → StepMay s.group.tables st
      → Was s.group.tables.volumes s.images s.group.reservations s.group.moves
      → Was (group_after_step (record s.group.tables { time = time }) st).volumes (images_after_step s st) s.group.reservations s.group.moves
  was_stepped s time (step.Volume vsn slot version size) may k = was_added s vsn.0 slot version size may k
  was_stepped s time (step.Commit d len chunks) may k = was_raised s chunks k
  was_stepped s time (step.Delete d) may k = k
  was_stepped s time (step.Move d from to) may k =
      subst (λ volumes. Was volumes s.images s.group.reservations s.group.moves) (one_raised s.group.tables.volumes to) (was_raised s (to ∷ []) k)
  was_stepped s time (step.Free vsn) may k = was_freed s time.0 vsn.0 k
  was_stepped s time (step.Reuse vsn later version) may k = was_reused s vsn.0 later version may k

  pub was_paid : (g : GroupId) (s : Side) (r : GroupRecord) → PaysRight g.0 s r → SideWas g.0 s → SideWas g.0 (side_after_payload (Some (payload.Group g r)) s)
  was_paid g s r may k = λ same. was_stepped s r.time r.step may (k same)

  -- ---- marks

  -- what a mark changes is no place of the chunk
  abbrev pub MarksRight : ℕ → Side → Mark → Type 0
  MarksRight g s mark.Nothing = Unit {0}
  MarksRight g s (mark.Zone h vsn place zone d index e) =
      (v : VolumeRow) → StillThere contents s.images s.group.reservations s.group.moves v b c → Spares vsn.0 place (length zone) c
  MarksRight g s (mark.Target h vsn m place zone) =
      (v : VolumeRow) → StillThere contents s.images s.group.reservations s.group.moves v b c → Spares vsn.0 place (length zone) c
  MarksRight g s (mark.Label h vsn m e version text) =
      (v : VolumeRow) → StillThere contents s.images s.group.reservations s.group.moves v b c → Spares vsn.0 0 (length text) c
  MarksRight g s (mark.Read h d offset bytes) = Unit {0}
  MarksRight g s (mark.Source h m bytes) = Unit {0}
  MarksRight g s (mark.Deleted h d) = Unit {0}

  was_changed : (g : ℕ) (s : Side) (later : ByName Image) (vsn : List ℕ) (place n : ℕ) → KnownBeside vsn place n s.images later
      → ((v : VolumeRow) → StillThere contents s.images s.group.reservations s.group.moves v b c → Spares vsn place n c) → SideWas g s
      → g ≡ g0 → Was s.group.tables.volumes later s.group.reservations s.group.moves
  was_changed g s later vsn place n beside spares k = λ same.
      let was = k same in
      with_images s.group.tables.volumes s.images later s.group.reservations s.group.moves vsn place n beside was
      (λ at. spares was.volume (was.still at))

  pub was_marked : (g : ℕ) (s : Side) (x : Mark) → MarksRight g s x → SideWas g s → SideWas g (side_after_mark x s)
  was_marked g s mark.Nothing right k = k
  was_marked g s (mark.Zone h vsn place zone d index e) right k =
      was_changed g s (adjust s.images vsn.0 (known_by (known_with_write place zone))) vsn.0 place (length zone) (image_written vsn.0 place zone s.images) right k
  was_marked g s (mark.Target h vsn m place zone) right k =
      was_changed g s (adjust s.images vsn.0 (known_by (known_with_write place zone))) vsn.0 place (length zone) (image_written vsn.0 place zone s.images) right k
  was_marked g s (mark.Label h vsn m e version text) right k =
      was_changed g s (adjust s.images vsn.0 (known_by (known_with_write 0 text))) vsn.0 0 (length text) (image_written vsn.0 0 text s.images) right k
  was_marked g s (mark.Read h d offset bytes) right k = k
  was_marked g s (mark.Source h m bytes) right k = k
  was_marked g s (mark.Deleted h d) right k = k

  pub was_failed : (g : ℕ) (s : Side) (x : Mark) → MarksRight g s x → SideWas g s → SideWas g (side_after_failed_mark x s)
  was_failed g s mark.Nothing right k = k
  was_failed g s (mark.Zone h vsn place zone d index e) right k =
      was_changed g s (adjust s.images vsn.0 (known_by (known_without_range place (length zone)))) vsn.0 place (length zone)
      (image_forgotten vsn.0 place (length zone) s.images) right k
  was_failed g s (mark.Target h vsn m place zone) right k =
      was_changed g s (adjust s.images vsn.0 (known_by (known_without_range place (length zone)))) vsn.0 place (length zone)
      (image_forgotten vsn.0 place (length zone) s.images) right k
  was_failed g s (mark.Label h vsn m e version text) right k =
      was_changed g s (adjust s.images vsn.0 (known_by (known_without_range 0 (length text)))) vsn.0 0 (length text)
      (image_forgotten vsn.0 0 (length text) s.images) right k
  was_failed g s (mark.Read h d offset bytes) right k = k
  was_failed g s (mark.Source h m bytes) right k = k
  was_failed g s (mark.Deleted h d) right k = k

  -- ---- what is made

  -- no zone of what is made has a place of the chunk
  abbrev pub OpensRight : ℕ → Side → Opening → Type 0
  OpensRight g s opening.Nothing = Unit {0}
  OpensRight g s (opening.Put l r len groups) = Unit {0}
  OpensRight g s (opening.Recall l r recall) = Unit {0}
  OpensRight g s (opening.Reservation h n r) =
      (v : VolumeRow) → map.get s.group.tables.volumes c.vsn.0 ≡ Some v → c.place + c.len ≤ v.end
      → (p : Piece) → IsAmong p r.pieces → (q : ℕ) → PieceCovers r.chunk p c.vsn.0 q → ChunkCovers c c.vsn.0 q → ⊥
  OpensRight g s (opening.Mount h m vsn e made) = Unit {0}
  OpensRight g s (opening.Move h job x source_epoch target_epoch) =
      (v : VolumeRow) → map.get s.group.tables.volumes c.vsn.0 ≡ Some v → c.place + c.len ≤ v.end
      → (q : ℕ) → TargetCovers x.version x.to c.vsn.0 q → ChunkCovers c c.vsn.0 q → ⊥
  OpensRight g s (opening.Reuse h m e x reading) = Unit {0}

  was_reserved : (s : Side) (n : ℕ) (r : Reserved) → OpensRight g0 s (opening.Reservation (record { 0 = g0 }) n r)
      → Was s.group.tables.volumes s.images s.group.reservations s.group.moves
      → Was s.group.tables.volumes s.images (map.insert s.group.reservations n r) s.group.moves
  was_reserved s n r right k =
      with_hands s.group.tables.volumes s.images s.group.reservations (map.insert s.group.reservations n r) s.group.moves s.group.moves k
      (λ at i offset place covers has. elim (inserted numbers s.group.reservations n r i has.reserved has.is) [
        | inl new ↦
            let among = subst (λ (y : Reserved). IsAmong has.piece y.pieces) new.1 has.among in
            let over = subst (λ (y : Reserved). PieceCovers y.chunk has.piece c.vsn.0 place) new.1 has.covers in
            absurd (right k.volume k.is (k.still at).within has.piece among place over covers)
        | inr was ↦ record { reserved = has.reserved; is = was.1; piece = has.piece; among = has.among; at = has.at; covers = has.covers }
      ])
      (λ at job place covers has. has)

  was_moving : (s : Side) (job source_epoch target_epoch : ℕ) (x : Moving) → OpensRight g0 s (opening.Move (record { 0 = g0 }) job x source_epoch target_epoch)
      → Was s.group.tables.volumes s.images s.group.reservations s.group.moves
      → Was s.group.tables.volumes s.images s.group.reservations (map.insert s.group.moves job x)
  was_moving s job source_epoch target_epoch x right k =
      with_hands s.group.tables.volumes s.images s.group.reservations s.group.reservations s.group.moves (map.insert s.group.moves job x) k
      (λ at i offset place covers has. has)
      (λ at i place covers has. elim (inserted numbers s.group.moves job x i has.moving has.is) [
        | inl new ↦
            let over = subst (λ (y : Moving). TargetCovers y.version y.to c.vsn.0 place) new.1 has.covers in
            absurd (right k.volume k.is (k.still at).within place over covers)
        | inr was ↦ record { moving = has.moving; is = was.1; covers = has.covers }
      ])

  pub was_opened : (g : ℕ) (s : Side) (o : Opening) → OpensRight g s o → SideWas g s → SideWas g (side_after_opening o s)
  was_opened g s opening.Nothing right k = k
  was_opened g s (opening.Put l r len groups) right k = k
  was_opened g s (opening.Recall l r recall) right k = k
  was_opened g s (opening.Reservation h n r) right k = λ same. was_reserved s n r right (k same)
  was_opened g s (opening.Mount h m vsn e made) right k = k
  was_opened g s (opening.Move h job x source_epoch target_epoch) right k = λ same. was_moving s job source_epoch target_epoch x right (k same)
  was_opened g s (opening.Reuse h m e x reading) right k = k

  -- ---- a stop

  pub was_stopped : (g : ℕ) (s : Side) → SideWas g s → SideWas g (side_after_stop s)
  was_stopped g s k = λ same.
      with_hands s.group.tables.volumes s.images s.group.reservations map.empty s.group.moves map.empty (k same)
      (λ at i offset place covers has. absurd (each-empty nat_cmp (λ n r. ⊥) i has.reserved has.is))
      (λ at i place covers has. absurd (each-empty nat_cmp (λ n x. ⊥) i has.moving has.is))
