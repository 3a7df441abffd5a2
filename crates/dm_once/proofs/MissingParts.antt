-- Whether the tables have a mounted volume stays so, whatever is done to a group's side.
use Rattle.std.proofs.Common.{◌≡◌, ◌≢◌, ℕ, Option, None, Some, is_some, List, [], ◌∷◌, option_map, nat_cmp, refl, sym, ap, ◌∙◌, inl, inr, Bool, true, false}
use Rattle.std.specs.FinMap as map
use Rattle.dm_base.specs.declared.identifier.GroupId.{GroupId}
use Rattle.dm_base.specs.declared.volume.Chunk.{Chunk}
use Rattle.dm_tables.specs.Rows.{EachRow, adjust}
use Rattle.dm_tables.proofs.Orders.{numbers, paths, same_or}
use Rattle.dm_tables.proofs.Rows.{each-empty, each-insert, each-remove, get-beside}
use Rattle.dm_tables.proofs.Adjusted.{adjusted-beside, adjusted-here, each-adjust}
use Rattle.dm_durable.specs.declared.group.GroupRecord.{GroupRecord}
use Rattle.dm_durable.specs.declared.group.GroupStep.{GroupStep}
use Rattle.dm_durable.specs.declared.group.GroupStep.TheVariants as step
use Rattle.dm_durable.specs.declared.group.GroupTables.{GroupTables}
use Rattle.dm_durable.specs.declared.group.VolumeRow.{VolumeRow}
use Rattle.dm_durable.specs.Group.{as_held, as_reused, group_after_step, new_volume, with_end_behind, with_ends_behind}
use Rattle.dm_durable.specs.Tables.{ByName}
use Rattle.dm_model.specs.declared.plan.Ending.{Ending}
use Rattle.dm_model.specs.declared.plan.Ending.TheVariants as ending
use Rattle.dm_model.specs.declared.plan.Mark.{Mark}
use Rattle.dm_model.specs.declared.plan.Mark.TheVariants as mark
use Rattle.dm_model.specs.declared.plan.Opening.{Opening}
use Rattle.dm_model.specs.declared.plan.Opening.TheVariants as opening
use Rattle.dm_model.specs.declared.plan.Payload.TheVariants as payload
use Rattle.dm_model.specs.declared.state.MountState.{MountState}
use Rattle.dm_model.specs.declared.state.Origin.{Origin}
use Rattle.dm_model.specs.declared.state.Origin.TheVariants as origin
use Rattle.dm_model.specs.declared.state.Side.{Side}
use Rattle.dm_model.specs.SideShare.{new_mount, source_of, target_of}
use Rattle.dm_model.specs.SideShare.{side_after_ending, side_after_failed_mark, side_after_mark, side_after_opening, side_after_payload, side_after_stop}
use Rattle.dm_model.specs.SideShare.{side_doubting, side_without_doubt}
use Rattle.dm_once.specs.Missing.{ListedAs, MountsListed}

-- ---- rows that stay

there_mapped : (f : VolumeRow → VolumeRow) (o : Option VolumeRow) → is_some (option_map f o) ≡ is_some o
there_mapped f None = refl
there_mapped f (Some v) = refl

there_adjusted : (volumes : ByName VolumeRow) (k q : List ℕ) (f : VolumeRow → VolumeRow)
    → is_some (map.get (adjust volumes k f) q) ≡ is_some (map.get volumes q)
there_adjusted volumes k q f =
    elim (same_or paths k q) [
      | inl same ↦
          ap (λ p. is_some (map.get (adjust volumes k f) p)) same ∙ ap is_some (adjusted-here paths volumes k f) ∙ there_mapped f (map.get volumes k)
          ∙ sym (ap (λ p. is_some (map.get volumes p)) same)
      | inr differ ↦ ap is_some (adjusted-beside paths volumes k f q differ)
    ]

there_raised : (chunks : List Chunk) (volumes : ByName VolumeRow) (q : List ℕ)
    → is_some (map.get (with_ends_behind chunks volumes) q) ≡ is_some (map.get volumes q)
unfolding with_ends_behind
there_raised [] volumes q = refl
there_raised (c ∷ cs) volumes q =
    there_raised cs (adjust volumes c.vsn.0 (with_end_behind c)) q ∙ there_adjusted volumes c.vsn.0 q (with_end_behind c)

-- a step that adds a volume spares the others
abbrev pub Spares : GroupStep → List ℕ → Type 0
Spares (step.Volume vsn slot version size) q = q ≢ vsn.0
Spares (step.Commit b len chunks) q = Unit {0}
Spares (step.Delete b) q = Unit {0}
Spares (step.Move b from to) q = Unit {0}
Spares (step.Free vsn) q = Unit {0}
Spares (step.Reuse vsn epoch version) q = Unit {0}

there_stays : (t : GroupTables) (s : GroupStep) (q : List ℕ) → Spares s q
    → is_some (map.get (group_after_step t s).volumes q) ≡ is_some (map.get t.volumes q)
there_stays t (step.Volume vsn slot version size) q spares = ap is_some (get-beside paths t.volumes vsn.0 (new_volume slot version size) q spares)
there_stays t (step.Commit b len chunks) q spares = there_raised chunks t.volumes q
there_stays t (step.Delete b) q spares = refl
there_stays t (step.Move b from to) q spares = there_adjusted t.volumes to.vsn.0 q (with_end_behind to)
there_stays t (step.Free vsn) q spares = there_adjusted t.volumes vsn.0 q (as_held t.time.0)
there_stays t (step.Reuse vsn epoch version) q spares = there_adjusted t.volumes vsn.0 q (as_reused epoch version)

listed_stays : (volumes after : ByName VolumeRow) (q : List ℕ) (made : Origin) → is_some (map.get after q) ≡ is_some (map.get volumes q)
    → ListedAs volumes q made → ListedAs after q made
listed_stays volumes after q (origin.New listed format) same k = k ∙ sym same
listed_stays volumes after q (origin.Piece b index p chunk) same k = tt
listed_stays volumes after q (origin.Chunk b c) same k = tt
listed_stays volumes after q (origin.Source job b c) same k = tt
listed_stays volumes after q (origin.Target job b total c version) same k = tt
listed_stays volumes after q (origin.Reuse next_epoch version reading) same k = tt

-- ---- the parts of a plan

abbrev pub SideListed : ℕ → Side → Type 0
SideListed g s = MountsListed s.group.tables.volumes s.mounts

abbrev IsListedAs : ByName VolumeRow → ℕ → MountState → Type 0
IsListedAs volumes m x = ListedAs volumes x.vsn.0 x.origin

-- no mount is of the volume that a record adds
abbrev pub SparesMounts : ℕ → Side → GroupRecord → Type 0
SparesMounts g s r = EachRow s.mounts (λ m x. Spares r.step x.vsn.0)

abbrev pub AnyMark : ℕ → Side → Mark → Type 0
AnyMark g s x = Unit {0}

-- a mount of any volume is told whether the tables have it
abbrev pub OpensListed : ℕ → Side → Opening → Type 0
OpensListed g s opening.Nothing = Unit {0}
OpensListed g s (opening.Put k r len groups) = Unit {0}
OpensListed g s (opening.Recall k r recall) = Unit {0}
OpensListed g s (opening.Reservation h n r) = Unit {0}
OpensListed g s (opening.Mount h m vsn epoch made) = ListedAs s.group.tables.volumes vsn.0 made
OpensListed g s (opening.Move h job x source_epoch target_epoch) = Unit {0}
OpensListed g s (opening.Reuse h m epoch x reading) = Unit {0}

pub listed_ended : (g : ℕ) (s : Side) (e : Ending) → SideListed g s → SideListed g (side_after_ending e s)
listed_ended g s ending.Nothing k = k
listed_ended g s (ending.Put l b groups) k = k
listed_ended g s (ending.Recall l) k = k
listed_ended g s (ending.Reservation h n b) k = k
listed_ended g s (ending.Mount h m) k = each-remove numbers (IsListedAs s.group.tables.volumes) s.mounts m k
listed_ended g s (ending.Move h job source target) k =
    each-remove numbers (IsListedAs s.group.tables.volumes) (map.remove s.mounts source) target
    (each-remove numbers (IsListedAs s.group.tables.volumes) s.mounts source k)

pub listed_settled : (g : ℕ) (s : Side) (heals : Bool) → SideListed g s → SideListed g (side_without_doubt heals s)
listed_settled g s true k = k
listed_settled g s false k = k

pub listed_paid : (g : GroupId) (s : Side) (r : GroupRecord) → SparesMounts g.0 s r → SideListed g.0 s
    → SideListed g.0 (side_after_payload (Some (payload.Group g r)) s)
listed_paid g s r spares k = λ m x is.
    listed_stays s.group.tables.volumes (group_after_step (record s.group.tables { time = r.time }) r.step).volumes x.vsn.0 x.origin
    (there_stays (record s.group.tables { time = r.time }) r.step x.vsn.0 (spares m x is)) (k m x is)

pub listed_doubted : (g : GroupId) (s : Side) (r : GroupRecord) → SideListed g.0 s → SideListed g.0 (side_doubting (Some (payload.Group g r)) s)
listed_doubted g s r k = k

listed_noted : (s : Side) (m : ℕ) (f : MountState → MountState)
    → ((x : MountState) → ListedAs s.group.tables.volumes x.vsn.0 x.origin → ListedAs s.group.tables.volumes (f x).vsn.0 (f x).origin)
    → MountsListed s.group.tables.volumes s.mounts → MountsListed s.group.tables.volumes (adjust s.mounts m f)
listed_noted s m f same k = each-adjust numbers (IsListedAs s.group.tables.volumes) s.mounts m f (λ x is. same x (k m x is)) k

pub listed_marked : (g : ℕ) (s : Side) (x : Mark) → AnyMark g s x → SideListed g s → SideListed g (side_after_mark x s)
listed_marked g s mark.Nothing any k = k
listed_marked g s (mark.Zone h vsn place zone b index epoch) any k = k
listed_marked g s (mark.Target h vsn m place zone) any k = listed_noted s m (λ x. record x { written = Some zone }) (λ x l. l) k
listed_marked g s (mark.Label h vsn m epoch version text) any k =
    listed_noted s m (λ x. record x { labelled = Some (record { epoch = epoch; version = version }) }) (λ x l. l) k
listed_marked g s (mark.Read h b offset bytes) any k = k
listed_marked g s (mark.Source h m bytes) any k = listed_noted s m (λ x. record x { read = Some bytes }) (λ x l. l) k
listed_marked g s (mark.Deleted h b) any k = k

pub listed_failed : (g : ℕ) (s : Side) (x : Mark) → AnyMark g s x → SideListed g s → SideListed g (side_after_failed_mark x s)
listed_failed g s mark.Nothing any k = k
listed_failed g s (mark.Zone h vsn place zone b index epoch) any k = k
listed_failed g s (mark.Target h vsn m place zone) any k = listed_noted s m (λ x. record x { written = None }) (λ x l. l) k
listed_failed g s (mark.Label h vsn m epoch version text) any k = listed_noted s m (λ x. record x { labelled = None }) (λ x l. l) k
listed_failed g s (mark.Read h b offset bytes) any k = k
listed_failed g s (mark.Source h m bytes) any k = k
listed_failed g s (mark.Deleted h b) any k = k

pub listed_opened : (g : ℕ) (s : Side) (o : Opening) → OpensListed g s o → SideListed g s → SideListed g (side_after_opening o s)
listed_opened g s opening.Nothing right k = k
listed_opened g s (opening.Put l r len groups) right k = k
listed_opened g s (opening.Recall l r recall) right k = k
listed_opened g s (opening.Reservation h n r) right k = k
listed_opened g s (opening.Mount h m vsn epoch made) right k =
    each-insert numbers (IsListedAs s.group.tables.volumes) s.mounts m (new_mount s vsn epoch made) right k
listed_opened g s (opening.Move h job x source_epoch target_epoch) right k =
    let P = IsListedAs s.group.tables.volumes in
    let source = new_mount s x.from.vsn source_epoch (source_of job x) in
    each-insert numbers P (map.insert s.mounts x.source source) x.target (new_mount s x.to.vsn target_epoch (target_of job x)) tt
    (each-insert numbers P s.mounts x.source source tt k)
listed_opened g s (opening.Reuse h m epoch x reading) right k =
    each-insert numbers (IsListedAs s.group.tables.volumes) s.mounts m
    (new_mount s x.vsn epoch (origin.Reuse x.next_epoch x.version (record { 0 = reading }))) tt k

pub listed_stopped : (g : ℕ) (s : Side) → SideListed g s → SideListed g (side_after_stop s)
listed_stopped g s k = each-empty nat_cmp (IsListedAs s.group.tables.volumes)
