-- What was done stays done: by each part of a plan, by events and by runs.
use Rattle.std.proofs.Common.{◌≡◌, ℕ, Bool, true, ◌&&◌, Option, None, Some, is_some, IsSome, option_map, List, [], ◌∷◌, nat_cmp, refl, sym, ap, subst, ◌∙◌, inl, inr}
use Rattle.std.specs.FinMap as map
use Rattle.dm_base.specs.declared.identifier.Bfid.{Bfid}
use Rattle.dm_base.specs.declared.identifier.GroupId.{GroupId}
use Rattle.dm_tables.proofs.Orders.{numbers, same_or}
use Rattle.dm_tables.proofs.Rows.{get-beside, get-here}
use Rattle.dm_durable.specs.declared.daemon.DaemonRecord.{DaemonRecord}
use Rattle.dm_durable.specs.declared.daemon.DaemonStep.{DaemonStep}
use Rattle.dm_durable.specs.declared.daemon.DaemonStep.TheVariants.{Write, Remove, BeginPut, Stored, EndPut, Release, Taken, Dump, Undump, Restore, HardDelete, Dropped, Restart, Age}
use Rattle.dm_durable.specs.declared.group.GroupRecord.{GroupRecord}
use Rattle.dm_durable.specs.declared.group.GroupStep.{GroupStep}
use Rattle.dm_durable.specs.declared.group.GroupStep.TheVariants as group_step
use Rattle.dm_durable.specs.Inodes.{bytes_online}
use Rattle.dm_durable.specs.Tables.{ByNumber}
use Rattle.dm_model.specs.declared.answer.Answer.{Answer}
use Rattle.dm_model.specs.declared.call.Call.{Call}
use Rattle.dm_model.specs.declared.call.Component.{Component}
use Rattle.dm_model.specs.declared.call.Component.TheVariants as component
use Rattle.dm_model.specs.declared.call.Event.{Event}
use Rattle.dm_model.specs.declared.call.Event.TheVariants as event
use Rattle.dm_model.specs.declared.plan.Mark.{Mark}
use Rattle.dm_model.specs.declared.plan.Mark.TheVariants as mark
use Rattle.dm_model.specs.declared.plan.Payload.{Payload}
use Rattle.dm_model.specs.declared.plan.Payload.TheVariants as payload
use Rattle.dm_model.specs.declared.plan.Prepared.{Prepared}
use Rattle.dm_model.specs.declared.state.Daemon.{Daemon}
use Rattle.dm_model.specs.declared.state.GroupHistory.{GroupHistory}
use Rattle.dm_model.specs.declared.state.History.{History}
use Rattle.dm_model.specs.declared.state.Joint.{Joint}
use Rattle.dm_model.specs.declared.state.Side.{Side}
use Rattle.dm_model.specs.DaemonCalls.{committed_in, deleted_in}
use Rattle.dm_model.specs.Effects.{after_ending, after_healing, at_group_history, contents_with, group_history_or, history_after_group_step, history_after_mark, history_after_payload, history_after_step, with_committed, with_deleted, with_taken}
use Rattle.dm_model.specs.Files.{File, file_at}
use Rattle.dm_model.specs.Plan.{guards_of, illegal_call, illegal_fault, prepared_plan, refusal_of}
use Rattle.dm_model.specs.Step as machine
use Rattle.dm_model.specs.Step.{RunEntry, Run, Stepped, after_call, after_fault, after_landing, doubt_outcome, landing_outcome_in, needs_of, plan_of, step}
use Rattle.dm_model.proofs.Shares.{PaysOf}
use Rattle.dm_invariant.proofs.LookUps.{still_there}
use Rattle.dm_invariant.proofs.Options.{none_there}
use Rattle.dm_shown.proofs.EventsShown.{all_hold, landed_is, look_is, outcome_is, payload_is}
use Rattle.dm_copies.specs.Asked.{CopiesAreAsked, DoubtSpares}
use Rattle.dm_copies.specs.Done.{StaysDone}
use Rattle.dm_copies.proofs.EventsAsk.{LegalSpares, call_spares, event_asks, healed_pays, standing}
use Rattle.dm_copies.proofs.PartsAsk.{PaysSpare, Stands, ended, pays_ended, settled}
use Rattle.dm_copies.proofs.TablesStay.{contents_stay}

pub done_itself : (h : History) → StaysDone h h
done_itself h = record { contents = λ b bytes is. is; taken = λ b is. is; committed = λ g b is. is; deleted = λ g b is. is }

pub done_then : (h i l : History) → StaysDone h i → StaysDone i l → StaysDone h l
done_then h i l one two = record {
  contents = λ b bytes is. two.contents b bytes (one.contents b bytes is);
  taken = λ b is. two.taken b (one.taken b is);
  committed = λ g b is. two.committed g b (one.committed g b is);
  deleted = λ g b is. two.deleted g b (one.deleted g b is);
}

-- ---- what hard deletes took

abbrev pub Within : {X : Type 0} → ByNumber X → ByNumber X → Type 0
Within m n = (b : ℕ) → IsSome (map.get m b) → IsSome (map.get n b)

insert_within : {X : Type 0} (m n : ByNumber X) (b : ℕ) (v : X) → Within m n → Within (map.insert m b v) (map.insert n b v)
insert_within m n b v within = λ q is.
    elim (same_or numbers b q) [
      | inl same ↦ ap (λ x. is_some (map.get (map.insert n b v) x)) same ∙ ap is_some (get-here numbers n b v)
      | inr differ ↦
          ap is_some (get-beside numbers n b v q differ) ∙ within q (sym (ap is_some (get-beside numbers m b v q differ)) ∙ is)
    ]

taken_more : (bs : List Bfid) (taken : ByNumber (Unit {0})) → Within taken (with_taken bs taken)
taken_more [] taken = λ q is. is
taken_more (b ∷ bs) taken = λ q is. taken_more bs (map.insert taken b.0 tt) q (still_there numbers taken b.0 tt q is)

taken_within : (bs : List Bfid) (m n : ByNumber (Unit {0})) → Within m n → Within (with_taken bs m) (with_taken bs n)
taken_within [] m n within = within
taken_within (b ∷ bs) m n within = taken_within bs (map.insert m b.0 tt) (map.insert n b.0 tt) (insert_within m n b.0 tt within)

-- ---- what a group has done

pub record GroupWithin (h i : GroupHistory) : Type 0 where
  pub committed : Within h.committed i.committed
  pub deleted : Within h.deleted i.deleted

pub record GroupWithinIf (o p : Option GroupHistory) : Type 0 where
  pub committed : (b : ℕ) → committed_in o b ≡ true → committed_in p b ≡ true
  pub deleted : (b : ℕ) → deleted_in o b ≡ true → deleted_in p b ≡ true

with_or : (o : Option GroupHistory) (b : ℕ) → committed_in o b ≡ true → IsSome (map.get (group_history_or o).committed b)
with_or None b e = cc
with_or (Some h) b e = e

from_or : (o : Option GroupHistory) (b : ℕ) → IsSome (map.get (group_history_or o).committed b) → committed_in o b ≡ true
from_or None b e = absurd (none_there (map.get map.empty b) (map.get-empty {X = Unit {0}} nat_cmp b) e)
from_or (Some h) b e = e

with_or_deleted : (o : Option GroupHistory) (b : ℕ) → deleted_in o b ≡ true → IsSome (map.get (group_history_or o).deleted b)
with_or_deleted None b e = cc
with_or_deleted (Some h) b e = e

from_or_deleted : (o : Option GroupHistory) (b : ℕ) → IsSome (map.get (group_history_or o).deleted b) → deleted_in o b ≡ true
from_or_deleted None b e = absurd (none_there (map.get map.empty b) (map.get-empty {X = Unit {0}} nat_cmp b) e)
from_or_deleted (Some h) b e = e

within_or : (o p : Option GroupHistory) → GroupWithinIf o p → GroupWithin (group_history_or o) (group_history_or p)
within_or o p within = record {
  committed = λ b is. with_or p b (within.committed b (from_or o b is));
  deleted = λ b is. with_or_deleted p b (within.deleted b (from_or_deleted o b is));
}

within_some : (o : Option GroupHistory) (i : GroupHistory) → GroupWithin (group_history_or o) i → GroupWithinIf o (Some i)
within_some o i within =
    record { committed = λ b is. within.committed b (with_or o b is); deleted = λ b is. within.deleted b (with_or_deleted o b is) }

within_both : (h i : GroupHistory) → GroupWithin h i → GroupWithinIf (Some h) (Some i)
within_both h i within = record { committed = within.committed; deleted = within.deleted }

within_self : (o : Option GroupHistory) → GroupWithinIf o o
within_self o = record { committed = λ b is. is; deleted = λ b is. is }

-- a change that adds to what the group has done, and adds the same to any two
pub record Adds (f : GroupHistory → GroupHistory) : Type 0 where
  pub more : (h : GroupHistory) → GroupWithin h (f h)
  pub same : (h i : GroupHistory) → GroupWithin h i → GroupWithin (f h) (f i)

adds_committed : (b : ℕ) → Adds (with_committed b)
adds_committed b = record {
  more = λ h. record { committed = λ q is. still_there numbers h.committed b tt q is; deleted = λ q is. is };
  same = λ h i within. record { committed = insert_within h.committed i.committed b tt within.committed; deleted = within.deleted };
}

adds_deleted : (b : ℕ) → Adds (with_deleted b)
adds_deleted b = record {
  more = λ h. record { committed = λ q is. is; deleted = λ q is. still_there numbers h.deleted b tt q is };
  same = λ h i within. record { committed = within.committed; deleted = insert_within h.deleted i.deleted b tt within.deleted };
}

module _ (g : ℕ) (f : GroupHistory → GroupHistory) (adds : Adds f) where
  abbrev With : ByNumber GroupHistory → ByNumber GroupHistory
  With m = map.insert m g (f (group_history_or (map.get m g)))

  group_more : (m : ByNumber GroupHistory) (q : ℕ) → GroupWithinIf (map.get m q) (map.get (With m) q)
  group_more m q =
      elim (same_or numbers g q) [
        | inl same ↦
            subst (λ x. GroupWithinIf (map.get m x) (map.get (With m) x)) (sym same)
            (subst (λ o. GroupWithinIf (map.get m g) o) (sym (get-here numbers m g (f (group_history_or (map.get m g)))))
            (within_some (map.get m g) (f (group_history_or (map.get m g))) (adds.more (group_history_or (map.get m g)))))
        | inr differ ↦ subst (λ o. GroupWithinIf (map.get m q) o) (sym (get-beside numbers m g _ q differ)) (within_self (map.get m q))
      ]

  group_same : (m n : ByNumber GroupHistory) → ((q : ℕ) → GroupWithinIf (map.get m q) (map.get n q)) → (q : ℕ)
      → GroupWithinIf (map.get (With m) q) (map.get (With n) q)
  group_same m n within q =
      elim (same_or numbers g q) [
        | inl same ↦
            subst (λ x. GroupWithinIf (map.get (With m) x) (map.get (With n) x)) (sym same)
            (subst (λ o. GroupWithinIf o (map.get (With n) g)) (sym (get-here numbers m g (f (group_history_or (map.get m g)))))
            (subst (λ o. GroupWithinIf (Some (f (group_history_or (map.get m g)))) o) (sym (get-here numbers n g (f (group_history_or (map.get n g)))))
            (within_both (f (group_history_or (map.get m g))) (f (group_history_or (map.get n g)))
            (adds.same (group_history_or (map.get m g)) (group_history_or (map.get n g)) (within_or (map.get m g) (map.get n g) (within g))))))
        | inr differ ↦
            subst (λ o. GroupWithinIf o (map.get (With n) q)) (sym (get-beside numbers m g _ q differ))
            (subst (λ o. GroupWithinIf (map.get m q) o) (sym (get-beside numbers n g _ q differ)) (within q))
      ]

  pub adds_more : (h : History) → StaysDone h (at_group_history g f h)
  adds_more h = record {
    contents = λ b bytes is. is;
    taken = λ b is. is;
    committed = λ q b is. (group_more h.groups q).committed b is;
    deleted = λ q b is. (group_more h.groups q).deleted b is;
  }

  pub adds_same : (h i : History) → StaysDone h i → StaysDone (at_group_history g f h) (at_group_history g f i)
  adds_same h i done =
      let within : (q : ℕ) → GroupWithinIf (map.get h.groups q) (map.get i.groups q) = λ q. record { committed = done.committed q; deleted = done.deleted q } in
      record {
        contents = done.contents;
        taken = done.taken;
        committed = λ q b is. (group_same h.groups i.groups within q).committed b is;
        deleted = λ q b is. (group_same h.groups i.groups within q).deleted b is;
      }

-- ---- the parts of a plan

group_step_done : (g : ℕ) (s : GroupStep) (h : History) → StaysDone h (history_after_group_step g s h)
group_step_done g (group_step.Commit b len chunks) h = adds_more g (with_committed b.0) (adds_committed b.0) h
group_step_done g (group_step.Volume vsn slot version size) h = done_itself h
group_step_done g (group_step.Delete b) h = done_itself h
group_step_done g (group_step.Move b from to) h = done_itself h
group_step_done g (group_step.Free vsn) h = done_itself h
group_step_done g (group_step.Reuse vsn epoch version) h = done_itself h

group_step_same : (g : ℕ) (s : GroupStep) (h i : History) → StaysDone h i → StaysDone (history_after_group_step g s h) (history_after_group_step g s i)
group_step_same g (group_step.Commit b len chunks) h i done = adds_same g (with_committed b.0) (adds_committed b.0) h i done
group_step_same g (group_step.Volume vsn slot version size) h i done = done
group_step_same g (group_step.Delete b) h i done = done
group_step_same g (group_step.Move b from to) h i done = done
group_step_same g (group_step.Free vsn) h i done = done
group_step_same g (group_step.Reuse vsn epoch version) h i done = done

taken_after : (d : Daemon) (s : DaemonStep) (h : History) → Within h.taken (history_after_step d s h).taken
taken_after d (HardDelete bfids) h = taken_more bfids h.taken
taken_after d (BeginPut path b groups) h = λ q is. is
taken_after d (Write path change own) h = λ q is. is
taken_after d (Remove path change) h = λ q is. is
taken_after d (Stored b group) h = λ q is. is
taken_after d (EndPut n b dual) h = λ q is. is
taken_after d (Release path) h = λ q is. is
taken_after d (Taken n own) h = λ q is. is
taken_after d (Dump name) h = λ q is. is
taken_after d (Undump name) h = λ q is. is
taken_after d (Restore name path target change) h = λ q is. is
taken_after d (Dropped b) h = λ q is. is
taken_after d Restart h = λ q is. is
taken_after d (Age age) h = λ q is. is

groups_after : (d : Daemon) (s : DaemonStep) (h : History) → (history_after_step d s h).groups ≡ h.groups
groups_after d (HardDelete bfids) h = refl
groups_after d (BeginPut path b groups) h = refl
groups_after d (Write path change own) h = refl
groups_after d (Remove path change) h = refl
groups_after d (Stored b group) h = refl
groups_after d (EndPut n b dual) h = refl
groups_after d (Release path) h = refl
groups_after d (Taken n own) h = refl
groups_after d (Dump name) h = refl
groups_after d (Undump name) h = refl
groups_after d (Restore name path target change) h = refl
groups_after d (Dropped b) h = refl
groups_after d Restart h = refl
groups_after d (Age age) h = refl

pub paid_done : (p : Option Payload) (j : Joint) → PaysSpare j.daemon.tables j.daemon.requests p → Stands j
    → StaysDone j.history (history_after_payload j.daemon p j.history)
paid_done None j spares k = done_itself j.history
paid_done (Some (payload.Daemon r)) j spares k = record {
  contents = contents_stay j.daemon j.history k.given r.step spares;
  taken = taken_after j.daemon r.step j.history;
  committed = λ g b is. subst (λ m. committed_in (map.get m g) b ≡ true) (sym (groups_after j.daemon r.step j.history)) is;
  deleted = λ g b is. subst (λ m. deleted_in (map.get m g) b ≡ true) (sym (groups_after j.daemon r.step j.history)) is;
}
paid_done (Some (payload.Group g r)) j spares k = group_step_done g.0 r.step j.history

pub marked_done : (x : Mark) (h : History) → StaysDone h (history_after_mark x h)
marked_done (mark.Deleted g b) h = adds_more g.0 (with_deleted b.0) (adds_deleted b.0) h
marked_done mark.Nothing h = done_itself h
marked_done (mark.Zone g vsn place zone b index epoch) h = done_itself h
marked_done (mark.Target g vsn m place zone) h = done_itself h
marked_done (mark.Label g vsn m epoch version text) h = done_itself h
marked_done (mark.Read g b offset bytes) h = done_itself h
marked_done (mark.Source g m bytes) h = done_itself h

-- ---- the same part in two states, where one has all that the other has

contents_same : (b : ℕ) (o : Option File) (m n : ByNumber (List ℕ)) → ((q : ℕ) (bytes : List ℕ) → map.get m q ≡ Some bytes → map.get n q ≡ Some bytes)
    → (q : ℕ) (bytes : List ℕ) → map.get (contents_with b o m) q ≡ Some bytes → map.get (contents_with b o n) q ≡ Some bytes
contents_same b None m n within q bytes is = within q bytes is
contents_same b (Some f) m n within q bytes is =
    elim (same_or numbers b q) [
      | inl same ↦
          ap (map.get (map.insert n b (bytes_online f.inode.contents))) same
          ∙ get-here numbers n b (bytes_online f.inode.contents)
          ∙ sym (get-here numbers m b (bytes_online f.inode.contents))
          ∙ sym (ap (map.get (map.insert m b (bytes_online f.inode.contents))) same)
          ∙ is
      | inr differ ↦
          get-beside numbers n b (bytes_online f.inode.contents) q differ
          ∙ within q bytes (sym (get-beside numbers m b (bytes_online f.inode.contents) q differ) ∙ is)
    ]

step_same : (d : Daemon) (s : DaemonStep) (h i : History) → StaysDone h i → StaysDone (history_after_step d s h) (history_after_step d s i)
step_same d (BeginPut path b groups) h i done = record {
  contents = contents_same b.0 (file_at d path) h.contents i.contents done.contents;
  taken = done.taken;
  committed = done.committed;
  deleted = done.deleted;
}
step_same d (HardDelete bfids) h i done = record {
  contents = done.contents;
  taken = taken_within bfids h.taken i.taken done.taken;
  committed = done.committed;
  deleted = done.deleted;
}
step_same d (Write path change own) h i done = done
step_same d (Remove path change) h i done = done
step_same d (Stored b group) h i done = done
step_same d (EndPut n b dual) h i done = done
step_same d (Release path) h i done = done
step_same d (Taken n own) h i done = done
step_same d (Dump name) h i done = done
step_same d (Undump name) h i done = done
step_same d (Restore name path target change) h i done = done
step_same d (Dropped b) h i done = done
step_same d Restart h i done = done
step_same d (Age age) h i done = done

pub paid_same : (d : Daemon) (p : Option Payload) (h i : History) → StaysDone h i → StaysDone (history_after_payload d p h) (history_after_payload d p i)
paid_same d None h i done = done
paid_same d (Some (payload.Daemon r)) h i done = step_same d r.step h i done
paid_same d (Some (payload.Group g r)) h i done = group_step_same g.0 r.step h i done

pub marked_same : (x : Mark) (h i : History) → StaysDone h i → StaysDone (history_after_mark x h) (history_after_mark x i)
marked_same (mark.Deleted g b) h i done = adds_same g.0 (with_deleted b.0) (adds_deleted b.0) h i done
marked_same mark.Nothing h i done = done
marked_same (mark.Zone g vsn place zone b index epoch) h i done = done
marked_same (mark.Target g vsn m place zone) h i done = done
marked_same (mark.Label g vsn m epoch version text) h i done = done
marked_same (mark.Read g b offset bytes) h i done = done
marked_same (mark.Source g m bytes) h i done = done

-- what a group journals looks at nothing of the daemon
pub paid_beside : (g : GroupId) (d e : Daemon) (p : Option Payload) (h : History) → PaysOf g p → history_after_payload d p h ≡ history_after_payload e p h
paid_beside g d e None h of = refl
paid_beside g d e (Some (payload.Daemon r)) h of = absurd of
paid_beside g d e (Some (payload.Group k r)) h of = refl

-- ---- events

module _ (j : Joint) (k : CopiesAreAsked j) (w : ℕ) where
  called_done : (p : Prepared) → LegalSpares j.daemon p → StaysDone j.history (after_call w p j).history
  called_done p spares =
      let spent = after_ending w p.ends j in
      let healed = after_healing p.heals p.component spent in
      let before : Stands healed = settled p.heals p.component spent (ended w p.ends j spares.ends (standing j k)) in
      let pays = healed_pays p.heals p.component spent.daemon p.payload (pays_ended p.ends j.daemon p.payload spares.pays) in
      let paid = history_after_payload healed.daemon p.payload j.history in
      done_then j.history paid (history_after_mark p.mark paid) (paid_done p.payload healed pays before) (marked_done p.mark paid)

  call_done : (c : Call) (a : Answer) (i : Joint) → step j w (event.Call c) ≡ Stepped i a → StaysDone j.history i.history
  call_done c a i is =
      let p = plan_of j c in
      let n = needs_of j w c in
      let o = outcome_is (illegal_call p n) (after_call w (prepared_plan p) j) i (prepared_plan p).answer a is in
      subst (λ (x : Joint). StaysDone j.history x.history) o.1 (called_done (prepared_plan p) (call_spares j w c (all_hold (guards_of (refusal_of p) p n) o.0)))

  fault_done : (c : Call) (healed checkpointed : Bool) (a : Answer) (i : Joint) → step j w (event.Fault c healed checkpointed) ≡ Stepped i a
      → StaysDone j.history i.history
  fault_done c healed checkpointed a i is =
      let p = plan_of j c in
      let far = healed && checkpointed in
      let o = outcome_is (illegal_fault p (needs_of j w c)) (after_fault w (prepared_plan p) far j) i _ a is in
      subst (λ (x : Joint). StaysDone j.history x.history) o.1 (done_itself j.history)

  landed_done : (c : Component) (i : Joint) (a : Answer) (o : Option Payload) → PaysSpare j.daemon.tables j.daemon.requests o
      → doubt_outcome j c o ≡ Stepped i a → StaysDone j.history i.history
  landed_done c i a None spares is = absurd (cc)
  landed_done c i a (Some p) spares is =
      let l = landed_is j i c (Some p) a is in
      let same : after_landing c p j ≡ i = ap (λ q. after_landing c q j) (payload_is p l.0 l.1) ∙ l.2 in
      let healed = after_healing true c j in
      subst (λ (x : Joint). StaysDone j.history x.history) same
      (paid_done (Some p) healed (healed_pays true c j.daemon (Some p) spares) (settled true c j (standing j k)))

  daemon_doubt_pays : (o : Option DaemonRecord) → DoubtSpares j.daemon.tables j.daemon.requests o
      → PaysSpare j.daemon.tables j.daemon.requests (option_map (λ r. payload.Daemon r) o)
  daemon_doubt_pays None spares = tt
  daemon_doubt_pays (Some r) spares = spares

  group_doubt_pays : (g : GroupId) (o : Option GroupRecord) → PaysSpare j.daemon.tables j.daemon.requests (option_map (λ r. payload.Group g r) o)
  group_doubt_pays g None = tt
  group_doubt_pays g (Some r) = tt

  side_landed_done : (g : GroupId) (i : Joint) (a : Answer) (o : Option Side) → landing_outcome_in j g o ≡ Stepped i a → StaysDone j.history i.history
  side_landed_done g i a None is = absurd (cc)
  side_landed_done g i a (Some s) is = landed_done (component.Group g) i a _ (group_doubt_pays g s.group.doubt) is

  pub event_done : (e : Event) (i : Joint) (a : Answer) → step j w e ≡ Stepped i a → StaysDone j.history i.history
  event_done (event.Call c) i a is = call_done c a i is
  event_done (event.Fault c healed checkpointed) i a is = fault_done c healed checkpointed a i is
  event_done (event.Landed component.Daemon) i a is = landed_done component.Daemon i a _ (daemon_doubt_pays j.daemon.doubt k.doubt) is
  event_done (event.Landed (component.Group g)) i a is = side_landed_done g i a (map.get j.sides g.0) is
  event_done (event.Look c) i a is = subst (λ (x : Joint). StaysDone j.history x.history) (look_is j i c a is) (done_itself j.history)
  event_done event.Stop i a is =
      let same : machine.after_stop j ≡ i = cc in
      subst (λ (x : Joint). StaysDone j.history x.history) same (done_itself j.history)

pub run_done : (j : Joint) (entries : List RunEntry) (i : Joint) → CopiesAreAsked j → Run j entries i → StaysDone j.history i.history
run_done j [] i asked run = subst (λ (x : Joint). StaysDone j.history x.history) run (done_itself j.history)
run_done j (e ∷ es) i asked run =
    done_then j.history run.0.history i.history (event_done j asked e.worker e.event run.0 e.answer run.1)
    (run_done run.0 es i (event_asks j asked e.worker e.event run.0 e.answer run.1) run.2)
