-- Each event leaves the copies those that are asked for, whatever a read gives.
use Rattle.std.proofs.Common.{◌≡◌, ℕ, Bool, true, false, cond, ◌&&◌, Option, None, Some, option_map, List, [], ◌∷◌, ◌++◌, nat_cmp, refl, sym, ap, subst, ◌∙◌, ltb-false}
use Rattle.std.specs.FinMap as map
use Rattle.std.proofs.lemmas.Bool.{leb-true}
use Rattle.dm_base.specs.declared.identifier.Bfid.{Bfid}
use Rattle.dm_base.specs.declared.identifier.GroupId.{GroupId}
use Rattle.dm_base.specs.declared.serial.Vsn.{Vsn}
use Rattle.dm_tables.specs.Rows.{EachRow}
use Rattle.dm_tables.proofs.Adjusted.{each-map}
use Rattle.dm_tables.proofs.Orders.{numbers}
use Rattle.dm_tables.proofs.Rows.{each-empty}
use Rattle.dm_durable.specs.declared.daemon.Contents.{Contents}
use Rattle.dm_durable.specs.declared.daemon.Contents.TheVariants.{Regular, Making, Dual, Offline}
use Rattle.dm_base.specs.Limits.{number_limit}
use Rattle.dm_durable.specs.declared.daemon.Dump.{Dump}
use Rattle.dm_durable.specs.declared.daemon.DumpInode.{DumpInode}
use Rattle.dm_durable.specs.declared.daemon.Entry.{Entry}
use Rattle.dm_durable.specs.declared.daemon.DaemonRecord.{DaemonRecord}
use Rattle.dm_durable.specs.declared.group.GroupRecord.{GroupRecord}
use Rattle.dm_durable.specs.declared.daemon.DaemonStep.TheVariants.{Restart}
use Rattle.dm_durable.specs.declared.daemon.DaemonTables.{DaemonTables}
use Rattle.dm_durable.specs.Daemon.{after_record, after_stop, bfid_of}
use Rattle.dm_durable.specs.DaemonJournal.{IsGiven}
use Rattle.dm_durable.specs.Inodes.{has_making}
use Rattle.dm_durable.specs.Tables.{ByNumber}
use Rattle.dm_model.specs.declared.answer.Answer.{Answer}
use Rattle.dm_model.specs.declared.call.Call.{Call}
use Rattle.dm_model.specs.declared.call.Call.TheVariants as call
use Rattle.dm_model.specs.declared.call.Component.{Component}
use Rattle.dm_model.specs.declared.call.Component.TheVariants as component
use Rattle.dm_model.specs.declared.call.DaemonCall.{DaemonCall}
use Rattle.dm_model.specs.declared.call.DaemonCall.TheVariants as daemon_call
use Rattle.dm_model.specs.declared.call.Event.{Event}
use Rattle.dm_model.specs.declared.call.Event.TheVariants as event
use Rattle.dm_model.specs.declared.plan.Ending.{Ending}
use Rattle.dm_model.specs.declared.plan.Ending.TheVariants as ending
use Rattle.dm_model.specs.declared.plan.Opening.{Opening}
use Rattle.dm_model.specs.declared.plan.Opening.TheVariants as opening
use Rattle.dm_model.specs.declared.plan.Payload.{Payload}
use Rattle.dm_model.specs.declared.plan.Payload.TheVariants as payload
use Rattle.dm_model.specs.declared.plan.Prepared.{Prepared}
use Rattle.dm_model.specs.declared.state.Daemon.{Daemon}
use Rattle.dm_model.specs.declared.state.Joint.{Joint}
use Rattle.dm_model.specs.declared.state.OpenRequest.{OpenRequest}
use Rattle.dm_model.specs.declared.state.Side.{Side}
use Rattle.dm_model.specs.DaemonCalls.{attributes, begin_put, begin_recall, begin_recall_of, copy_stored, daemon_plan, drop_recall, dropped}
use Rattle.dm_model.specs.DaemonCalls.{end_put, end_recall, hard_delete_of, patch, put_refusals, release, remove, restore, restore_file, taken_at, time_at}
use Rattle.dm_model.specs.Files.{File, file_at, groups_of}
use Rattle.dm_model.specs.DaemonShare.{daemon_after_call, daemon_after_ending, daemon_after_opening, daemon_after_payload, daemon_doubting, daemon_without_doubt}
use Rattle.dm_model.specs.Effects.{after_ending, after_failed_mark, after_healing, after_mark, after_payload}
use Rattle.dm_model.specs.Guards.{AllHold, Guarded}
use Rattle.dm_model.specs.Plan.{Needs, Plan, guards_always, guards_of, guards_of_fault, if_accepted, illegal_call, illegal_fault, prepared_plan, refusal_of}
use Rattle.dm_model.specs.Step as machine
use Rattle.dm_model.specs.Step.{RunEntry, Run, Stepped, after_call, after_fault, after_landing, doubt_outcome, landing_outcome_in, needs_of, plan_of, side_plan, step, volume_plan_in}
use Rattle.dm_model.specs.declared.call.GroupCall.{GroupCall}
use Rattle.dm_model.specs.declared.call.VolumeCall.{VolumeCall}
use Rattle.dm_model.specs.GroupCalls.{group_plan}
use Rattle.dm_model.specs.SideShare.{side_after_stop}
use Rattle.dm_model.specs.VolumeCalls.{mount_in, volume_plan}
use Rattle.dm_model.proofs.PlansOf.{group_plan-of, prepared-of, volume_plan-of}
use Rattle.dm_model.proofs.Shares.{EndsOf, IsOfGroup, OpensOf, PaysOf}
use Rattle.dm_invariant.specs.Opened.{Opened}
use Rattle.dm_invariant.proofs.LookUps.{each_of_empty}
use Rattle.dm_effects.proofs.BeginningCalls.{front_holds, always_hold}
use Rattle.dm_shown.proofs.EventsShown.{all_hold, landed_is, look_is, outcome_is, payload_is}
use Rattle.dm_copies.specs.Asked.{CopiesAreAsked, CopyIsAsked, DoubtSpares}
use Rattle.dm_copies.proofs.PartsAsk.{EndsSpare, OpensSpare, PaysSpare, Stands, doubt_ended, doubted, ended, failed, marked, opened, paid, pays_ended, settled}
use Rattle.dm_copies.proofs.PlansAsk.{none_hold, spares_of}
use Rattle.dm_copies.proofs.TablesStay.{begun_entry}

-- ---- the parts of a call together

pub standing : (j : Joint) → CopiesAreAsked j → Stands j
standing j k = record { numbers = k.numbers; given = k.contents; copies = k.copies }

pub asked_of : (j : Joint) → Stands j → DoubtSpares j.daemon.tables j.daemon.requests j.daemon.doubt → CopiesAreAsked j
asked_of j k doubt = record { numbers = k.numbers; contents = k.given; copies = k.copies; doubt = doubt }

-- before anything is made
abbrev Served : ℕ → Prepared → Joint → Joint
Served w p j = after_mark w p.mark (after_payload p.payload (after_healing p.heals p.component (after_ending w p.ends j)))

pub healed_pays : (heals : Bool) (c : Component) (d : Daemon) (p : Option Payload) → PaysSpare d.tables d.requests p
    → PaysSpare (daemon_without_doubt heals c d).tables (daemon_without_doubt heals c d).requests p
healed_pays true component.Daemon d p spares = spares
healed_pays false component.Daemon d p spares = spares
healed_pays heals (component.Group g) d p spares = spares

module _ (w : ℕ) (p : Prepared) (j : Joint) (ends : EndsSpare j.daemon p.ends) (k : Stands j) where
  served_stands : PaysSpare j.daemon.tables j.daemon.requests p.payload → Stands (Served w p j)
  served_stands pays =
      let spent = after_ending w p.ends j in
      let healed = after_healing p.heals p.component spent in
      marked w p.mark (after_payload p.payload healed)
      (paid p.payload healed (healed_pays p.heals p.component spent.daemon p.payload (pays_ended p.ends j.daemon p.payload pays))
      (settled p.heals p.component spent (ended w p.ends j ends k)))

  called_stands : PaysSpare j.daemon.tables j.daemon.requests p.payload → OpensSpare (Served w p j).daemon p.opens → Stands (after_call w p j)
  called_stands pays opens = opened w p.opens (Served w p j) opens (served_stands pays)

  -- what a call that failed leaves in doubt is what it would have journalled, or what was in doubt before
  doubt_left : (far : Bool) (o : Option Payload) (d : Daemon) → PaysSpare d.tables d.requests o → DoubtSpares d.tables d.requests d.doubt
      → DoubtSpares (daemon_doubting (cond far o None) d).tables (daemon_doubting (cond far o None) d).requests (daemon_doubting (cond far o None) d).doubt
  doubt_left true None d pays doubt = doubt
  doubt_left true (Some (payload.Daemon r)) d pays doubt = pays
  doubt_left true (Some (payload.Group g r)) d pays doubt = doubt
  doubt_left false o d pays doubt = doubt

  doubt_same : (e : Ending) (d : Daemon) → (daemon_after_ending e d).doubt ≡ d.doubt
  doubt_same ending.Nothing d = refl
  doubt_same (ending.Put n b groups) d = refl
  doubt_same (ending.Recall n) d = refl
  doubt_same (ending.Reservation g n b) d = refl
  doubt_same (ending.Mount g m) d = refl
  doubt_same (ending.Move g job source target) d = refl

  failed_asked : (far : Bool) → PaysSpare j.daemon.tables j.daemon.requests p.payload → DoubtSpares j.daemon.tables j.daemon.requests j.daemon.doubt
      → CopiesAreAsked (after_fault w p far j)
  failed_asked far pays doubt =
      let spent = after_ending w p.ends j in
      let left = doubt_ended p.ends j.daemon j.daemon.doubt doubt in
      asked_of (after_fault w p far j)
      (doubted (cond far p.payload None) (after_failed_mark p.mark spent) (failed p.mark spent (ended w p.ends j ends k)))
      (doubt_left far p.payload spent.daemon (pays_ended p.ends j.daemon p.payload pays)
      (subst (λ o. DoubtSpares spent.daemon.tables spent.daemon.requests o) (sym (doubt_same p.ends j.daemon)) left))

-- ---- calls of the daemon

pays_if : (t : DaemonTables) (requests : ByNumber OpenRequest) (o : Option Answer) (q : Option Payload)
    → (o ≡ None → PaysSpare t requests q) → PaysSpare t requests (if_accepted o None q)
pays_if t requests None q pays = pays refl
pays_if t requests (Some refusal) q pays = tt

opened_doubt : (o : Opening) (d : Daemon) → (daemon_after_opening o d).doubt ≡ d.doubt
opened_doubt opening.Nothing d = refl
opened_doubt (opening.Put k r len groups) d = refl
opened_doubt (opening.Recall k r recall) d = refl
opened_doubt (opening.Reservation g n r) d = refl
opened_doubt (opening.Mount g m vsn epoch made) d = refl
opened_doubt (opening.Move g job x source_epoch target_epoch) d = refl
opened_doubt (opening.Reuse g m epoch x reading) d = refl

paid_doubt : (p : Option Payload) (d : Daemon) → (daemon_after_payload p d).doubt ≡ d.doubt
paid_doubt None d = refl
paid_doubt (Some (payload.Daemon r)) d = refl
paid_doubt (Some (payload.Group g r)) d = refl

-- a call of the daemon that heals leaves nothing in doubt
healed_doubt : (p : Prepared) (d : Daemon) → p.heals ≡ true → p.component ≡ component.Daemon → (daemon_after_call p d).doubt ≡ None
healed_doubt p d heals of =
    let spent = daemon_after_ending p.ends d in
    let healed = daemon_without_doubt p.heals p.component spent in
    opened_doubt p.opens (daemon_after_payload p.payload healed)
    ∙ paid_doubt p.payload healed
    ∙ ap (λ h. (daemon_without_doubt h p.component spent).doubt) heals
    ∙ ap (λ c. (daemon_without_doubt true c spent).doubt) of

-- what a call that heals nothing, journals nothing and makes nothing leaves in doubt is what was in doubt
idle_doubt : (d : Daemon) (e : Ending) → DoubtSpares d.tables d.requests d.doubt
    → DoubtSpares (daemon_after_ending e d).tables (daemon_after_ending e d).requests (daemon_after_ending e d).doubt
idle_doubt d ending.Nothing doubt = doubt
idle_doubt d (ending.Put k b groups) doubt = doubt_ended (ending.Put k b groups) d d.doubt doubt
idle_doubt d (ending.Recall k) doubt = doubt_ended (ending.Recall k) d d.doubt doubt
idle_doubt d (ending.Reservation g n b) doubt = doubt
idle_doubt d (ending.Mount g m) doubt = doubt
idle_doubt d (ending.Move g job source target) doubt = doubt

abbrev LeftInDoubt : Daemon → Type 0
LeftInDoubt d = DoubtSpares d.tables d.requests d.doubt

-- what a call of the daemon does to a step in doubt, and what it makes
record Settles (d : Daemon) (p : Plan) : Type 0 where
  pub doubt : LeftInDoubt d → LeftInDoubt (daemon_after_call (prepared_plan p) d)
  pub opens : refusal_of p ≡ None → AllHold p.making
      → OpensSpare (daemon_after_payload p.payload (daemon_without_doubt p.heals p.component (daemon_after_ending p.ends d))) p.opens

module _ (d : Daemon) where
  healing : (p : Plan) → p.heals ≡ true → p.component ≡ component.Daemon → LeftInDoubt d → LeftInDoubt (daemon_after_call (prepared_plan p) d)
  healing p heals of doubt =
      let after = daemon_after_call (prepared_plan p) d in
      subst (λ o. DoubtSpares after.tables after.requests o) (sym (healed_doubt (prepared_plan p) d heals of)) tt

  making_nothing : (p : Plan) → p.heals ≡ true → p.component ≡ component.Daemon → p.opens ≡ opening.Nothing → Settles d p
  making_nothing p heals of unmade = record {
    doubt = healing p heals of;
    opens = λ accepted hold.
        let before = daemon_after_payload p.payload (daemon_without_doubt p.heals p.component (daemon_after_ending p.ends d)) in
        subst (λ o. OpensSpare before o) (sym unmade) tt;
  }

  put_begins : (path : List ℕ) (asked : List (Option GroupId)) (now k : ℕ) → Settles d (begin_put d path asked now k (file_at d path))
  put_begins path asked now k = begins (file_at d path) refl
    where
      begins : (o : Option File) → file_at d path ≡ o → Settles d (begin_put d path asked now k o)
      begins None at = making_nothing (begin_put d path asked now k None) refl refl refl
      begins (Some f) at =
          let p = begin_put d path asked now k (Some f) in
          let b : Bfid = record { 0 = bfid_of d.tables.site d.tables.counter } in
          record {
            doubt = healing p refl refl;
            opens = λ accepted hold.
                let later : DaemonTables = record d.tables { time = record { 0 = time_at d now } } in
                let left = ltb-false number_limit d.tables.counter (none_hold (put_refusals d f) accepted).1.1.0 in
                let entry = begun_entry later b (groups_of asked) (map.get d.tables.names path) f at refl left in
                (leb-true d.next_request k hold.0, refl, entry.1, entry.0);
          }

  copy_is_stored : (g : GroupId) (now : ℕ) (o : Option OpenRequest) → Settles d (copy_stored d g now o)
  copy_is_stored g now None = making_nothing (copy_stored d g now None) refl refl refl
  copy_is_stored g now (Some r) = making_nothing (copy_stored d g now (Some r)) refl refl refl

  put_ends : (k now : ℕ) (o : Option OpenRequest) → Settles d (end_put d k now o)
  put_ends k now None = making_nothing (end_put d k now None) refl refl refl
  put_ends k now (Some r) = making_nothing (end_put d k now (Some r)) refl refl refl

  file_released : (path : List ℕ) (now : ℕ) (o : Option File) → Settles d (release d path now o)
  file_released path now None = making_nothing (release d path now None) refl refl refl
  file_released path now (Some f) = making_nothing (release d path now (Some f)) refl refl refl

  recall_begins_of : (k : ℕ) (f : File) (c : Contents) → Settles d (begin_recall_of d k f c)
  recall_begins_of k f (Regular bytes) = making_nothing (begin_recall_of d k f (Regular bytes)) refl refl refl
  recall_begins_of k f (Making bytes b) = making_nothing (begin_recall_of d k f (Making bytes b)) refl refl refl
  recall_begins_of k f (Dual bytes b) = making_nothing (begin_recall_of d k f (Dual bytes b)) refl refl refl
  recall_begins_of k f (Offline len b) =
      record { doubt = healing (begin_recall_of d k f (Offline len b)) refl refl; opens = λ accepted hold. leb-true d.next_request k hold.0 }

  recall_begins : (k : ℕ) (o : Option File) → Settles d (begin_recall d k o)
  recall_begins k None = making_nothing (begin_recall d k None) refl refl refl
  recall_begins k (Some f) = recall_begins_of k f f.inode.contents

  recall_ends : (k : ℕ) (bytes : List ℕ) (now : ℕ) (o : Option OpenRequest) → Settles d (end_recall d k bytes now o)
  recall_ends k bytes now None = making_nothing (end_recall d k bytes now None) refl refl refl
  recall_ends k bytes now (Some r) = making_nothing (end_recall d k bytes now (Some r)) refl refl refl

  recall_dropped : (k : ℕ) (o : Option OpenRequest) → Settles d (drop_recall d k o)
  recall_dropped k None = record { doubt = λ doubt. doubt; opens = λ accepted hold. tt }
  recall_dropped k (Some r) = record { doubt = idle_doubt d (ending.Recall k); opens = λ accepted hold. tt }

  file_patched : (path : List ℕ) (offset : ℕ) (bytes : List ℕ) (now : ℕ) (o : Option File) → Settles d (patch d path offset bytes now o)
  file_patched path offset bytes now None = making_nothing (patch d path offset bytes now None) refl refl refl
  file_patched path offset bytes now (Some f) = making_nothing (patch d path offset bytes now (Some f)) refl refl refl

  file_removed : (path : List ℕ) (now : ℕ) (o : Option File) → Settles d (remove d path now o)
  file_removed path now None = making_nothing (remove d path now None) refl refl refl
  file_removed path now (Some f) = making_nothing (remove d path now (Some f)) refl refl refl

  file_restored_in : (name path target : List ℕ) (now : ℕ) (dump : Dump) (o : Option DumpInode) → Settles d (restore_file d name path target now dump o)
  file_restored_in name path target now dump None = making_nothing (restore_file d name path target now dump None) refl refl refl
  file_restored_in name path target now dump (Some f) = making_nothing (restore_file d name path target now dump (Some f)) refl refl refl

  file_restored : (name path target : List ℕ) (now : ℕ) (o : Option Dump) → Settles d (restore d name path target now o)
  file_restored name path target now None = making_nothing (restore d name path target now None) refl refl refl
  file_restored name path target now (Some dump) = file_restored_in name path target now dump (map.get dump.files path)

  hard_deleted : (now : ℕ) (bs : List Bfid) → Settles d (hard_delete_of d now bs)
  hard_deleted now [] = making_nothing (hard_delete_of d now []) refl refl refl
  hard_deleted now (b ∷ bs) = making_nothing (hard_delete_of d now (b ∷ bs)) refl refl refl

  entry_dropped : (b : Bfid) (now : ℕ) (o : Option Entry) → Settles d (dropped d b now o)
  entry_dropped b now None = making_nothing (dropped d b now None) refl refl refl
  entry_dropped b now (Some e) = making_nothing (dropped d b now (Some e)) refl refl refl

  file_told : (path : List ℕ) (o : Option File) → Settles d (attributes d path o)
  file_told path None = making_nothing (attributes d path None) refl refl refl
  file_told path (Some f) = making_nothing (attributes d path (Some f)) refl refl refl

  settles_of : (c : DaemonCall) → Settles d (daemon_plan d c)
  settles_of (daemon_call.BeginPut path asked now k) = put_begins path asked now.0 k
  settles_of (daemon_call.CopyStored k group now) = copy_is_stored group now.0 (map.get d.requests k)
  settles_of (daemon_call.EndPut k now) = put_ends k now.0 (map.get d.requests k)
  settles_of (daemon_call.Release path now) = file_released path now.0 (file_at d path)
  settles_of (daemon_call.BeginRecall path k) = recall_begins k (file_at d path)
  settles_of (daemon_call.EndRecall k bytes now) = recall_ends k bytes now.0 (map.get d.requests k)
  settles_of (daemon_call.DropRecall k) = recall_dropped k (map.get d.requests k)
  settles_of (daemon_call.Write path bytes now) = making_nothing (daemon_plan d (daemon_call.Write path bytes now)) refl refl refl
  settles_of (daemon_call.Patch path offset bytes now) = file_patched path offset bytes now.0 (file_at d path)
  settles_of (daemon_call.Remove path now) = file_removed path now.0 (file_at d path)
  settles_of (daemon_call.MakeDump name now) = making_nothing (daemon_plan d (daemon_call.MakeDump name now)) refl refl refl
  settles_of (daemon_call.Undump name now) = making_nothing (daemon_plan d (daemon_call.Undump name now)) refl refl refl
  settles_of (daemon_call.Restore name path target now) = file_restored name path target now.0 (map.get d.tables.dumps name)
  settles_of (daemon_call.SetAge age now) = making_nothing (daemon_plan d (daemon_call.SetAge age now)) refl refl refl
  settles_of (daemon_call.HardDelete now) = hard_deleted now.0 (taken_at d (time_at d now.0))
  settles_of (daemon_call.NextDropping after) = record { doubt = λ doubt. doubt; opens = λ accepted hold. tt }
  settles_of (daemon_call.Dropped b now) = entry_dropped b now.0 (map.get d.tables.entries b.0)
  settles_of (daemon_call.Attributes path) = file_told path (file_at d path)
  settles_of daemon_call.List = making_nothing (daemon_plan d daemon_call.List) refl refl refl

-- ---- legal calls of the daemon

back_holds : (ts us : List Guarded) → AllHold (ts ++ us) → AllHold us
back_holds [] us hold = hold
back_holds (t ∷ ts) us hold = back_holds ts us hold.1

opens_if : (d : Daemon) (p : Plan) (n : Needs) (o : Option Answer) → refusal_of p ≡ o → AllHold (guards_of o p n) → Settles d p
    → OpensSpare (daemon_after_payload (if_accepted o None p.payload) (daemon_without_doubt p.heals p.component (daemon_after_ending p.ends d)))
    (if_accepted o opening.Nothing p.opens)
opens_if d p n None is hold settles = settles.opens is (back_holds (guards_always p n) p.making hold)
opens_if d p n (Some refusal) is hold settles = tt

own_holds : (p : Plan) (n : Needs) → AllHold (guards_always p n) → AllHold p.own
own_holds p n hold = front_holds p.own n.token (front_holds (p.own ++ n.token) n.lasting hold)

module _ (j : Joint) (k : CopiesAreAsked j) (w : ℕ) where
  daemon_called : (c : DaemonCall) → AllHold (guards_of (refusal_of (daemon_plan j.daemon c)) (daemon_plan j.daemon c) (needs_of j w (call.Daemon c)))
      → CopiesAreAsked (after_call w (prepared_plan (daemon_plan j.daemon c)) j)
  daemon_called c hold =
      let p = daemon_plan j.daemon c in
      let n = needs_of j w (call.Daemon c) in
      let spares = spares_of j c (own_holds p n (always_hold p n (refusal_of p) hold)) in
      let settles = settles_of j.daemon c in
      asked_of (after_call w (prepared_plan p) j)
      (called_stands w (prepared_plan p) j spares.ends (standing j k)
      (pays_if j.daemon.tables j.daemon.requests (refusal_of p) p.payload spares.pays)
      (opens_if j.daemon p n (refusal_of p) refl hold settles)) (settles.doubt k.doubt)

  daemon_failed : (c : DaemonCall) (far : Bool) → AllHold (guards_always (daemon_plan j.daemon c) (needs_of j w (call.Daemon c)))
      → CopiesAreAsked (after_fault w (prepared_plan (daemon_plan j.daemon c)) far j)
  daemon_failed c far hold =
      let p = daemon_plan j.daemon c in
      let spares = spares_of j c (own_holds p (needs_of j w (call.Daemon c)) hold) in
      failed_asked w (prepared_plan p) j spares.ends (standing j k) far
      (pays_if j.daemon.tables j.daemon.requests (refusal_of p) p.payload spares.pays) k.doubt

-- ---- calls of groups leave the daemon as it is

spent_daemon : (g : GroupId) (e : Ending) (d : Daemon) → EndsOf g e → daemon_after_ending e d ≡ d
spent_daemon g ending.Nothing d of = refl
spent_daemon g (ending.Put k b groups) d of = absurd of
spent_daemon g (ending.Recall k) d of = absurd of
spent_daemon g (ending.Reservation h n b) d of = refl
spent_daemon g (ending.Mount h m) d of = refl
spent_daemon g (ending.Move h job source target) d of = refl

healed_daemon : (g : GroupId) (heals : Bool) (c : Component) (d : Daemon) → c ≡ component.Group g → daemon_without_doubt heals c d ≡ d
healed_daemon g heals c d of = ap (λ x. daemon_without_doubt heals x d) of

paid_daemon : (g : GroupId) (p : Option Payload) (d : Daemon) → PaysOf g p → daemon_after_payload p d ≡ d
paid_daemon g None d of = refl
paid_daemon g (Some (payload.Daemon r)) d of = absurd of
paid_daemon g (Some (payload.Group h r)) d of = refl

made_daemon : (g : GroupId) (o : Opening) (d : Daemon) → OpensOf g o → daemon_after_opening o d ≡ d
made_daemon g opening.Nothing d of = refl
made_daemon g (opening.Put k r len groups) d of = absurd of
made_daemon g (opening.Recall k r recall) d of = absurd of
made_daemon g (opening.Reservation h n r) d of = refl
made_daemon g (opening.Mount h m vsn epoch made) d of = refl
made_daemon g (opening.Move h job x source_epoch target_epoch) d of = refl
made_daemon g (opening.Reuse h m epoch x reading) d of = refl

called_daemon : (g : GroupId) (p : Prepared) (d : Daemon) → IsOfGroup g p → daemon_after_call p d ≡ d
called_daemon g p d of =
    let spent = daemon_after_ending p.ends d in
    let healed = daemon_without_doubt p.heals p.component spent in
    made_daemon g p.opens (daemon_after_payload p.payload healed) of.opens
    ∙ paid_daemon g p.payload healed of.pays
    ∙ healed_daemon g p.heals p.component spent of.component
    ∙ spent_daemon g p.ends d of.ends

group_ends : (g : GroupId) (e : Ending) (d : Daemon) → EndsOf g e → EndsSpare d e
group_ends g ending.Nothing d of = tt
group_ends g (ending.Put k b groups) d of = absurd of
group_ends g (ending.Recall k) d of = absurd of
group_ends g (ending.Reservation h n b) d of = tt
group_ends g (ending.Mount h m) d of = tt
group_ends g (ending.Move h job source target) d of = tt

group_pays : (g : GroupId) (t : DaemonTables) (requests : ByNumber OpenRequest) (p : Option Payload) → PaysOf g p → PaysSpare t requests p
group_pays g t requests None of = tt
group_pays g t requests (Some (payload.Daemon r)) of = absurd of
group_pays g t requests (Some (payload.Group h r)) of = tt

group_opens : (g : GroupId) (d : Daemon) (o : Opening) → OpensOf g o → OpensSpare d o
group_opens g d opening.Nothing of = tt
group_opens g d (opening.Put k r len groups) of = absurd of
group_opens g d (opening.Recall k r recall) of = absurd of
group_opens g d (opening.Reservation h n r) of = tt
group_opens g d (opening.Mount h m vsn epoch made) of = tt
group_opens g d (opening.Move h job x source_epoch target_epoch) of = tt
group_opens g d (opening.Reuse h m epoch x reading) of = tt

side_of : (g : GroupId) (c : GroupCall) (o : Option Side) → IsOfGroup g (prepared_plan (side_plan g c o))
side_of g c None = record { component = refl; ends = tt; pays = tt; marks = tt; opens = tt }
side_of g c (Some s) = prepared-of g (group_plan g s.group c) (group_plan-of g s.group c)

volume_of : (g : GroupId) (vsn : Vsn) (c : VolumeCall) (o : Option Side) → IsOfGroup g (prepared_plan (volume_plan_in g vsn c o))
volume_of g vsn c None = record { component = refl; ends = tt; pays = tt; marks = tt; opens = tt }
volume_of g vsn c (Some s) =
    let image = map.get s.images vsn.0 in
    let mount = map.get s.mounts (mount_in c) in
    prepared-of g (volume_plan g vsn image mount c) (volume_plan-of g vsn image mount c)

module _ (j : Joint) (k : CopiesAreAsked j) (w : ℕ) where
  other_called : (g : GroupId) (p : Prepared) → IsOfGroup g p → CopiesAreAsked (after_call w p j)
  other_called g p of =
      asked_of (after_call w p j)
      (called_stands w p j (group_ends g p.ends j.daemon of.ends) (standing j k)
      (group_pays g j.daemon.tables j.daemon.requests p.payload of.pays) (group_opens g (Served w p j).daemon p.opens of.opens))
      (subst (λ (d : Daemon). LeftInDoubt d) (sym (called_daemon g p j.daemon of)) k.doubt)

  other_failed : (g : GroupId) (p : Prepared) (far : Bool) → IsOfGroup g p → CopiesAreAsked (after_fault w p far j)
  other_failed g p far of =
      failed_asked w p j (group_ends g p.ends j.daemon of.ends) (standing j k) far
      (group_pays g j.daemon.tables j.daemon.requests p.payload of.pays) k.doubt

-- what a legal call of whatever component spends and journals
pub record LegalSpares (d : Daemon) (p : Prepared) : Type 0 where
  pub ends : EndsSpare d p.ends
  pub pays : PaysSpare d.tables d.requests p.payload

group_spares : (g : GroupId) (d : Daemon) (p : Prepared) → IsOfGroup g p → LegalSpares d p
group_spares g d p of = record { ends = group_ends g p.ends d of.ends; pays = group_pays g d.tables d.requests p.payload of.pays }

pub call_spares : (j : Joint) (w : ℕ) (c : Call) → AllHold (guards_of (refusal_of (plan_of j c)) (plan_of j c) (needs_of j w c))
    → LegalSpares j.daemon (prepared_plan (plan_of j c))
call_spares j w (call.Daemon c) hold =
    let p = daemon_plan j.daemon c in
    let n = needs_of j w (call.Daemon c) in
    let spares = spares_of j c (own_holds p n (always_hold p n (refusal_of p) hold)) in
    record { ends = spares.ends; pays = pays_if j.daemon.tables j.daemon.requests (refusal_of p) p.payload spares.pays }
call_spares j w (call.Group g c) hold = group_spares g j.daemon (prepared_plan (plan_of j (call.Group g c))) (side_of g c (map.get j.sides g.0))
call_spares j w (call.Volume g vsn c) hold =
    group_spares g j.daemon (prepared_plan (plan_of j (call.Volume g vsn c))) (volume_of g vsn c (map.get j.sides g.0))

-- ---- events

module _ (j : Joint) (k : CopiesAreAsked j) (w : ℕ) where
  call_asks : (c : Call) (a : Answer) (i : Joint) → step j w (event.Call c) ≡ Stepped i a → CopiesAreAsked i
  call_asks c a i is =
      let p = plan_of j c in
      let n = needs_of j w c in
      let o = outcome_is (illegal_call p n) (after_call w (prepared_plan p) j) i (prepared_plan p).answer a is in
      subst CopiesAreAsked o.1 (asks c (all_hold (guards_of (refusal_of p) p n) o.0))
    where
      asks : (c : Call) → AllHold (guards_of (refusal_of (plan_of j c)) (plan_of j c) (needs_of j w c)) → CopiesAreAsked (after_call w (prepared_plan (plan_of j c)) j)
      asks (call.Daemon c) hold = daemon_called j k w c hold
      asks (call.Group g c) hold = other_called j k w g (prepared_plan (plan_of j (call.Group g c))) (side_of g c (map.get j.sides g.0))
      asks (call.Volume g vsn c) hold = other_called j k w g (prepared_plan (plan_of j (call.Volume g vsn c))) (volume_of g vsn c (map.get j.sides g.0))

  fault_asks : (c : Call) (healed checkpointed : Bool) (a : Answer) (i : Joint) → step j w (event.Fault c healed checkpointed) ≡ Stepped i a → CopiesAreAsked i
  fault_asks c healed checkpointed a i is =
      let p = plan_of j c in
      let n = needs_of j w c in
      let far = healed && checkpointed in
      let o = outcome_is (illegal_fault p n) (after_fault w (prepared_plan p) far j) i _ a is in
      subst CopiesAreAsked o.1 (asks c far (front_holds (guards_always p n) _ (all_hold (guards_of_fault p n) o.0)))
    where
      asks : (c : Call) (far : Bool) → AllHold (guards_always (plan_of j c) (needs_of j w c)) → CopiesAreAsked (after_fault w (prepared_plan (plan_of j c)) far j)
      asks (call.Daemon c) far hold = daemon_failed j k w c far hold
      asks (call.Group g c) far hold = other_failed j k w g (prepared_plan (plan_of j (call.Group g c))) far (side_of g c (map.get j.sides g.0))
      asks (call.Volume g vsn c) far hold = other_failed j k w g (prepared_plan (plan_of j (call.Volume g vsn c))) far (volume_of g vsn c (map.get j.sides g.0))

  landed_asks : (i : Joint) (a : Answer) (o : Option DaemonRecord) → DoubtSpares j.daemon.tables j.daemon.requests o
      → doubt_outcome j component.Daemon (option_map (λ r. payload.Daemon r) o) ≡ Stepped i a → CopiesAreAsked i
  landed_asks i a None spares is = absurd (cc)
  landed_asks i a (Some r) spares is =
      let l = landed_is j i component.Daemon (Some (payload.Daemon r)) a is in
      let same : after_landing component.Daemon (payload.Daemon r) j ≡ i =
      ap (λ p. after_landing component.Daemon p j) (payload_is (payload.Daemon r) l.0 l.1) ∙ l.2 in
      let healed = after_healing true component.Daemon j in
      subst CopiesAreAsked same
      (asked_of (after_landing component.Daemon (payload.Daemon r) j)
      (paid (Some (payload.Daemon r)) healed spares (settled true component.Daemon j (standing j k))) tt)

  group_landed_asks : (g : GroupId) (i : Joint) (a : Answer) (o : Option GroupRecord)
      → doubt_outcome j (component.Group g) (option_map (λ r. payload.Group g r) o) ≡ Stepped i a → CopiesAreAsked i
  group_landed_asks g i a None is = absurd (cc)
  group_landed_asks g i a (Some r) is =
      let l = landed_is j i (component.Group g) (Some (payload.Group g r)) a is in
      let same : after_landing (component.Group g) (payload.Group g r) j ≡ i =
      ap (λ p. after_landing (component.Group g) p j) (payload_is (payload.Group g r) l.0 l.1) ∙ l.2 in
      let healed = after_healing true (component.Group g) j in
      subst CopiesAreAsked same
      (asked_of (after_landing (component.Group g) (payload.Group g r) j)
      (paid (Some (payload.Group g r)) healed tt (settled true (component.Group g) j (standing j k))) k.doubt)

  side_landed_asks : (g : GroupId) (i : Joint) (a : Answer) (o : Option Side) → landing_outcome_in j g o ≡ Stepped i a → CopiesAreAsked i
  side_landed_asks g i a None is = absurd (cc)
  side_landed_asks g i a (Some s) is = group_landed_asks g i a s.group.doubt is

  -- at the end of the program nothing is open, and what was given is given
  stop_given : (o : Bool) → EachRow j.history.contents (λ b bytes.
      IsGiven (cond o (after_record j.daemon.tables (record { time = j.daemon.tables.time; step = Restart })) j.daemon.tables).site
      (cond o (after_record j.daemon.tables (record { time = j.daemon.tables.time; step = Restart })) j.daemon.tables).counter b)
  stop_given true = λ b bytes is. k.contents b bytes is
  stop_given false = k.contents

  stop_asks : CopiesAreAsked (machine.after_stop j)
  stop_asks = record {
    numbers = each-empty nat_cmp _;
    contents = stop_given (has_making j.daemon.tables.inodes);
    copies = each-map numbers (λ g s. EachRow s.copies (CopyIsAsked (after_stop j.daemon.tables) map.empty g)) (λ g. side_after_stop) j.sides
        (λ g s is. each-empty nat_cmp _);
    doubt = tt;
  }

  pub event_asks : (e : Event) (i : Joint) (a : Answer) → step j w e ≡ Stepped i a → CopiesAreAsked i
  event_asks (event.Call c) i a is = call_asks c a i is
  event_asks (event.Fault c healed checkpointed) i a is = fault_asks c healed checkpointed a i is
  event_asks (event.Landed component.Daemon) i a is = landed_asks i a j.daemon.doubt k.doubt is
  event_asks (event.Landed (component.Group g)) i a is = side_landed_asks g i a (map.get j.sides g.0) is
  event_asks (event.Look c) i a is = subst CopiesAreAsked (look_is j i c a is) k
  event_asks event.Stop i a is =
      let same : machine.after_stop j ≡ i = cc in
      subst CopiesAreAsked same stop_asks

-- as a run begins nothing is open
pub opened_asks : (j : Joint) → Opened j → CopiesAreAsked j
opened_asks j opened = record {
  numbers = each_of_empty nat_cmp _ j.daemon.requests opened.requests;
  contents = opened.sound.files.contents_given;
  copies = λ g s is. each_of_empty nat_cmp _ s.copies (opened.sides g s is).copies;
  doubt = subst (λ o. DoubtSpares j.daemon.tables j.daemon.requests o) (sym opened.doubt) tt;
}

pub run_asks : (j : Joint) (entries : List RunEntry) (i : Joint) → CopiesAreAsked j → Run j entries i → CopiesAreAsked i
run_asks j [] i asked run = subst CopiesAreAsked run asked
run_asks j (e ∷ es) i asked run = run_asks run.0 es i (event_asks j asked e.worker e.event run.0 e.answer run.1) run.2
