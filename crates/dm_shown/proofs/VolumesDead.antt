-- A volume that is used again is dead.
use Rattle.std.proofs.Common.{◌≡◌, ℕ, ◌+◌, ◌<◌, ◌≤◌, true, nat_le, Option, None, Some, List, [], ◌∷◌, sym, ap, subst, ◌∙◌, inl, inr, arith}
use Rattle.std.proofs.lemmas.Bool.{and_parts, leb-true}
use Rattle.std.specs.FinMap as map
use Rattle.dm_base.specs.declared.identifier.GroupId.{GroupId}
use Rattle.dm_base.specs.declared.identifier.Secs.{Secs}
use Rattle.dm_base.specs.declared.serial.Vsn.{Vsn}
use Rattle.dm_base.specs.declared.volume.Chunk.{Chunk}
use Rattle.dm_rules.specs.Label.{first_zone}
use Rattle.dm_rules.specs.Numbers.{greater}
use Rattle.dm_rules.specs.Plan.{zone_end}
use Rattle.dm_rules.specs.Zone.{zone_header}
use Rattle.dm_tables.specs.Rows.{EachRow}
use Rattle.dm_tables.proofs.Rows.{one_row}
use Rattle.dm_durable.specs.declared.group.GroupRecord.{GroupRecord}
use Rattle.dm_durable.specs.declared.group.GroupStep.{GroupStep}
use Rattle.dm_durable.specs.declared.group.GroupStep.TheVariants as group_step
use Rattle.dm_durable.specs.declared.group.VolumeRow.{VolumeRow}
use Rattle.dm_durable.specs.GroupConditions.{Joins, MayGroupStep}
use Rattle.dm_durable.specs.Volumes.{tip_in}
use Rattle.dm_model.specs.declared.answer.Answer.TheVariants as answer
use Rattle.dm_model.specs.declared.call.GroupCall.TheVariants as group_call
use Rattle.dm_model.specs.declared.state.Joint.{Joint}
use Rattle.dm_model.specs.declared.state.Label.{Label}
use Rattle.dm_model.specs.declared.state.MountState.{MountState}
use Rattle.dm_model.specs.declared.state.Origin.{Origin}
use Rattle.dm_model.specs.declared.state.Origin.TheVariants as origin
use Rattle.dm_model.specs.declared.state.Reusing.{Reusing}
use Rattle.dm_model.specs.declared.state.Side.{Side}
use Rattle.dm_model.specs.GroupCalls.{is_label, is_reuse_label, reuse, reuse_needs, was_relabelled}
use Rattle.dm_model.specs.Guards.{AllHold}
use Rattle.dm_model.specs.Plan.{guards_always, guards_of, illegal_call, prepared_plan, refusal_of}
use Rattle.dm_model.specs.Step.{after_call, side_needs, side_plan}
use Rattle.dm_invariant.specs.Among.{IsAmong}
use Rattle.std.proofs.lemmas.Option.{same_Some}
use Rattle.dm_invariant.specs.Doubts.{GroupMayLand, GroupMayLandIf, GroupStepNeeds}
use Rattle.dm_invariant.specs.Kept.{InvariantHolds, SideKept, committed_in, deleted_in}
use Rattle.dm_invariant.specs.Moves.{IsReadyAt}
use Rattle.dm_landing.proofs.VolumesOnward.{ready_later}
use Rattle.dm_effects.proofs.BeginningCalls.{always_hold}
use Rattle.dm_shown.specs.There.{LandedDead, ReusedDead, VolumeDead}
use Rattle.dm_shown.proofs.EventsShown.{all_hold, outcome_is}

-- ---- an empty volume, and one that is held, has nothing

-- a chunk of those that join has bytes
chunk_some : (from to : ℕ) (cs : List Chunk) (c : Chunk) → Joins from cs to → IsAmong c cs → 0 < c.len
chunk_some from to [] c joins among = absurd among
chunk_some from to (d ∷ ds) c joins among =
    elim among [
      | inl same ↦ subst (λ (x : Chunk). 0 < x.len) (sym same) joins.1
      | inr rest ↦ chunk_some (from + d.len) to ds c joins.2 rest
    ]

-- a zone has a header
zone_more : (zone rest n : ℕ) → zone < zone + (zone_header + rest + n)
zone_more zone rest n = omega arith

no_chunk : (now hold tip : ℕ) (held : Option Secs) (place len end : ℕ) → IsReadyAt now hold tip held → held ≡ None → first_zone ≤ place → 0 < len
    → place + len ≤ end → end ≤ tip → ⊥
no_chunk now hold tip None place len end ready usable behind some within below = omega (arith, ready, behind, some, within, below)
no_chunk now hold tip (Some since) place len end ready usable behind some within below = absurd (cc)

no_zone : (now hold tip : ℕ) (held : Option Secs) (zone end : ℕ) → IsReadyAt now hold tip held → held ≡ None → first_zone ≤ zone → zone < end
    → end ≤ tip → ⊥
no_zone now hold tip None zone end ready usable behind some within = omega (arith, ready, behind, some, within)
no_zone now hold tip (Some since) zone end ready usable behind some within = absurd (cc)

module _ (j : Joint) (kept : InvariantHolds j) (g : ℕ) (s : Side) (side : map.get j.sides g ≡ Some s) where
  abbrev K : SideKept j.daemon.tables.entries j.history.contents j.history.taken j.daemon.requests g (committed_in (map.get j.history.groups g))
      (deleted_in (map.get j.history.groups g)) s
  K = kept.sides g s side

  -- of a volume that is ready to be used again
  dead_of : (vsn : List ℕ) (m now : ℕ) (volume : VolumeRow) → map.get s.group.tables.volumes vsn ≡ Some volume
      → IsReadyAt now s.group.conf.hold (tip_in s.group.tips vsn volume) volume.held → EachRow s.mounts (λ n x. x.vsn.0 ≡ vsn → n ≡ m)
      → VolumeDead s vsn m now
  dead_of vsn m now volume is ready unmounted =
      let bounds = K.volumes.volume vsn volume is in
      record {
        volume = volume;
        is = is;
        ready = ready;
        dead = λ b row at c among same.
            let bitfile = K.catalogue.bitfile b row at in
            let lies = bitfile.lies c among in
            let one = one_row s.group.tables.volumes c.vsn.0 vsn lies.volume volume same lies.is is in
            no_chunk now s.group.conf.hold (tip_in s.group.tips vsn volume) volume.held c.place c.len volume.end ready
            (ap (λ (v : VolumeRow). v.held) (sym one) ∙ lies.usable) lies.behind (chunk_some 0 row.len row.chunks c bitfile.joins among)
            (subst (λ (v : VolumeRow). c.place + c.len ≤ v.end) one lies.within) bounds.end;
        unreserved = λ n r at p among same.
            let zone = (K.reservations.reservation n r at).zones p among in
            let one = one_row s.group.tables.volumes p.vsn.0 vsn zone.volume volume same zone.is is in
            let within : zone_end r.chunk p ≤ tip_in s.group.tips vsn volume =
            subst (λ q. zone_end r.chunk p ≤ tip_in s.group.tips q volume) same
            (subst (λ v. zone_end r.chunk p ≤ tip_in s.group.tips p.vsn.0 v) one zone.within) in
            no_zone now s.group.conf.hold (tip_in s.group.tips vsn volume) volume.held p.zone (zone_end r.chunk p) ready
            (ap (λ (v : VolumeRow). v.held) (sym one) ∙ zone.usable) zone.behind (zone_more p.zone _ p.len) within;
        unmounted = unmounted;
      }

  -- ---- a reuse that is accepted

  -- its clock reads no less than as it began
  reading_past : (now : ℕ) (made : Origin) (l : Option Label) (next version : ℕ) (reading : Secs) → made ≡ origin.Reuse next version reading
      → is_reuse_label now made l ≡ true → reading.0 ≤ now
  reading_past now made l next version reading is passes =
      let test = ap (λ o. is_reuse_label now o l) (sym is) ∙ passes in
      leb-true reading.0 now (and_parts (is_label next version l) (nat_le reading.0 now) test).1

  relabelled : (m now : ℕ) (x : MountState) (next version : ℕ) (reading : Secs) → map.get s.mounts m ≡ Some x
      → x.origin ≡ origin.Reuse next version reading → was_relabelled now (map.get s.mounts m) ≡ true → reading.0 ≤ now
  relabelled m now x next version reading is made passes =
      reading_past now x.origin x.labelled next version reading made (ap (was_relabelled now) (sym is) ∙ passes)

  greater_low : (reading now time : ℕ) → reading ≤ now → greater reading time ≤ greater now time
  greater_low reading now time low = omega (arith, low)

  reuse_dead : (m now : ℕ) (x : Reusing) → map.get s.group.reuses m ≡ Some x → was_relabelled now (map.get s.mounts m) ≡ true
      → VolumeDead s x.vsn.0 m (greater now s.group.tables.time.0)
  reuse_dead m now x is passes =
      let job = K.reuses m x is in
      let low = relabelled m now job.mount x.next_epoch x.version job.reading job.is job.made_for passes in
      let time = s.group.tables.time.0 in
      dead_of x.vsn.0 m (greater now time) job.volume job.known
      (ready_later (greater job.reading.0 time) (greater now time) s.group.conf.hold (tip_in s.group.tips x.vsn.0 job.volume) job.volume.held
      (greater_low job.reading.0 now time low) job.ready)
      (λ n y at same. K.mounts.apart n m y job.mount at job.is (same ∙ sym (ap (λ (v : Vsn). v.0) job.same)))

  -- ---- a reuse in doubt

  doubt_dead_of : (m : ℕ) (r : GroupRecord) (vsn : Vsn) (epoch version : ℕ) (st : GroupStep) → st ≡ group_step.Reuse vsn epoch version
      → MayGroupStep s.group.tables st
      → GroupStepNeeds g j.daemon.tables.entries j.history.contents j.history.taken (deleted_in (map.get j.history.groups g)) s r.time.0 st
      → VolumeDead s vsn.0 m r.time.0
  doubt_dead_of m r vsn epoch version st is may needs =
      let may_reuse = subst (MayGroupStep s.group.tables) is may in
      let need =
      subst (GroupStepNeeds g j.daemon.tables.entries j.history.contents j.history.taken (deleted_in (map.get j.history.groups g)) s r.time.0) is needs in
      dead_of vsn.0 m r.time.0 may_reuse.volume may_reuse.is (need.ready may_reuse.volume may_reuse.is)
      (λ n x at same. absurd (need.unused.unmounted n x at same))

  doubt_dead : (m : ℕ) (r : GroupRecord) (vsn : Vsn) (epoch version : ℕ) (o : Option GroupRecord) → o ≡ Some r
      → r.step ≡ group_step.Reuse vsn epoch version
      → GroupMayLandIf g j.daemon.tables.entries j.history.contents j.history.taken (deleted_in (map.get j.history.groups g)) s o
      → VolumeDead s vsn.0 m r.time.0
  doubt_dead m r vsn epoch version None at is may = absurd (cc)
  doubt_dead m r vsn epoch version (Some q) at is may =
      let same : r ≡ q = same_Some r q (sym at) in
      let mine = subst (λ x. GroupMayLand g j.daemon.tables.entries j.history.contents j.history.taken (deleted_in (map.get j.history.groups g)) s x) (sym same) may in
      doubt_dead_of m r vsn epoch version r.step is mine.follow.step mine.needs

pub landed_dead : (j : Joint) → InvariantHolds j → LandedDead j
landed_dead j kept = λ w m g s r vsn epoch version later a side doubt is landed.
    doubt_dead j kept g.0 s side m r vsn epoch version s.group.doubt doubt is (kept.sides g.0 s side).doubt

-- the guards of a reuse whose job is open
relabel_held : (w now m : ℕ) (j : Joint) (g : GroupId) (s : Side) (x : Reusing) → map.get s.group.reuses m ≡ Some x
    → AllHold (guards_always (reuse g s.group m now (map.get s.group.reuses m)) (reuse_needs now (map.get s.mounts m)))
    → was_relabelled now (map.get s.mounts m) ≡ true
relabel_held w now m j g s x is hold =
    (subst (λ o. AllHold (guards_always (reuse g s.group m now o) (reuse_needs now (map.get s.mounts m)))) is hold).0

pub reused_dead : (j : Joint) → InvariantHolds j → ReusedDead j
reused_dead j kept = λ w m g now s x later side job is.
    let c = group_call.Reuse m now in
    let p = side_plan g c (map.get j.sides g.0) in
    let n = side_needs (map.get j.workers w) j.history g c (map.get j.sides g.0) in
    let legal = (outcome_is (illegal_call p n) (after_call w (prepared_plan p) j) later (prepared_plan p).answer answer.Reused is).0 in
    let hold = always_hold p n (refusal_of p) (all_hold (guards_of (refusal_of p) p n) legal) in
    let here =
    subst (λ o. AllHold (guards_always (side_plan g c o) (side_needs (map.get j.workers w) j.history g c o))) side hold in
    reuse_dead j kept g.0 s side m now.0 x job (relabel_held w now.0 m j g s x job here)
