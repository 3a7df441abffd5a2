-- What the parts of a plan leave of the tables and contents that a joint state shows.
use Rattle.std.proofs.Common.{◌≡◌, ℕ, Bool, true, false, cond, Some, None, Option, List, [], refl, ap, subst, ◌∙◌}
use Rattle.dm_base.specs.declared.identifier.GroupId.{GroupId}
use Rattle.dm_durable.specs.declared.daemon.DaemonRecord.{DaemonRecord}
use Rattle.dm_durable.specs.declared.daemon.DaemonStep.{DaemonStep}
use Rattle.dm_durable.specs.declared.daemon.DaemonStep.TheVariants.{Write, Remove, BeginPut, Stored, EndPut, Release, Taken, Dump, Undump, Restore, HardDelete, Dropped, Restart, Age}
use Rattle.dm_durable.specs.declared.daemon.DaemonTables.{DaemonTables}
use Rattle.dm_durable.specs.declared.group.GroupStep.{GroupStep}
use Rattle.dm_durable.specs.declared.group.GroupStep.TheVariants as group_step
use Rattle.dm_durable.specs.Daemon.{after_record}
use Rattle.dm_durable.specs.DaemonConditions.{MayFollow}
use Rattle.dm_durable.specs.Inodes.{has_making}
use Rattle.dm_durable.specs.Tables.{ByNumber}
use Rattle.dm_model.specs.declared.call.Component.{Component}
use Rattle.dm_model.specs.declared.call.Component.TheVariants as component
use Rattle.dm_model.specs.declared.plan.Ending.{Ending}
use Rattle.dm_model.specs.declared.plan.Ending.TheVariants as ending
use Rattle.dm_model.specs.declared.plan.Mark.{Mark}
use Rattle.dm_model.specs.declared.plan.Mark.TheVariants as mark
use Rattle.dm_model.specs.declared.plan.Opening.{Opening}
use Rattle.dm_model.specs.declared.plan.Opening.TheVariants as opening
use Rattle.dm_model.specs.declared.plan.Payload.{Payload}
use Rattle.dm_model.specs.declared.plan.Payload.TheVariants as payload
use Rattle.dm_model.specs.declared.plan.Prepared.{Prepared}
use Rattle.dm_model.specs.declared.state.Daemon.{Daemon}
use Rattle.dm_model.specs.declared.state.History.{History}
use Rattle.dm_model.specs.declared.state.Joint.{Joint}
use Rattle.dm_model.specs.Effects.{after_ending, after_failed_mark, after_healing, after_mark, after_opening, after_payload, joint_with_doubt}
use Rattle.dm_model.specs.Effects.{history_after_group_step, history_after_step}
use Rattle.dm_model.specs.Project.{plain_run, steps_of_record}
use Rattle.dm_model.specs.Step.{after_call, after_fault, after_landing, after_stop}
use Rattle.dm_model.proofs.Shares.{PaysOf}
use Rattle.dm_plain.specs.Namespace.{Namespace}
use Rattle.dm_plain.specs.declared.step.PlainStep.{PlainStep}
use Rattle.dm_invariant.specs.Doubts.{MayLand, StepNeeds}
use Rattle.dm_invariant.specs.Kept.{InvariantHolds}
use Rattle.dm_shown.proofs.NamespaceShown.{Agrees}
use Rattle.dm_shown.proofs.RecordsShown.{TakesRight, contents_after, record_shown, restart_shown}

-- ---- what a joint state has of files

abbrev pub Shown : Type 0
Shown = DaemonTables × ByNumber (List ℕ)

abbrev pub files_of : Joint → Shown
files_of j = (j.daemon.tables, j.history.contents)

-- a namespace agrees with them
abbrev pub AgreesWith : Shown → Namespace → Type 0
AgreesWith files ns = Agrees files.0 files.1 ns

abbrev files_after : DaemonRecord → Shown → Shown
files_after r files = (after_record files.0 r, contents_after files.0 files.1 r.step)

-- what a record needs so that it shows what it should
pub record Follows (files : Shown) (r : DaemonRecord) : Type 0 where
  pub may : MayFollow files.0 r
  pub right : TakesRight files.0.inodes files.1 r.step

-- a step that may land takes what is right
takes_right : (j : Joint) (s : DaemonStep) → StepNeeds j.daemon.tables j.daemon.requests j.history.contents j.daemon.cap j.sides s
    → TakesRight j.daemon.tables.inodes j.history.contents s
takes_right j (Write path change bytes) needs = tt
takes_right j (Remove path change) needs = tt
takes_right j (BeginPut path b groups) needs = tt
takes_right j (Stored b group) needs = tt
takes_right j (EndPut n b dual) needs = tt
takes_right j (Release path) needs = tt
takes_right j (Taken n bytes) needs = needs
takes_right j (Dump name) needs = tt
takes_right j (Undump name) needs = tt
takes_right j (Restore name path target change) needs = tt
takes_right j (HardDelete bfids) needs = tt
takes_right j (Dropped b) needs = tt
takes_right j Restart needs = tt
takes_right j (Age age) needs = tt

-- a record that may land has what it needs
pub follows : (j : Joint) (r : DaemonRecord) → MayLand j.daemon.tables j.daemon.requests j.history.contents j.daemon.cap j.sides r
    → Follows (files_of j) r
follows j r land = record { may = land.follow; right = takes_right j r.step land.needs }

-- the plain steps of a payload, by what its record says
abbrev pub payload_steps : Option Payload → List PlainStep
payload_steps None = []
payload_steps (Some (payload.Daemon r)) = steps_of_record r
payload_steps (Some (payload.Group g r)) = []

-- ---- what the parts of a plan leave of files

abbrev pub files_paid : Option Payload → Shown → Shown
files_paid None files = files
files_paid (Some (payload.Daemon r)) files = files_after r files
files_paid (Some (payload.Group g r)) files = files

ended_files : (w : ℕ) (j : Joint) (e : Ending) → files_of (after_ending w e j) ≡ files_of j
ended_files w j ending.Nothing = refl
ended_files w j (ending.Put k b groups) = refl
ended_files w j (ending.Recall k) = refl
ended_files w j (ending.Reservation g n b) = refl
ended_files w j (ending.Mount g m) = refl
ended_files w j (ending.Move g job source target) = refl

undoubted_files : (j : Joint) (heals : Bool) (c : Component) → files_of (after_healing heals c j) ≡ files_of j
undoubted_files j true component.Daemon = refl
undoubted_files j false component.Daemon = refl
undoubted_files j heals (component.Group g) = refl

contents_same : (d : Daemon) (h : History) (s : DaemonStep) → (history_after_step d s h).contents ≡ contents_after d.tables h.contents s
contents_same d h (Write path change bytes) = refl
contents_same d h (Remove path change) = refl
contents_same d h (BeginPut path b groups) = refl
contents_same d h (Stored b group) = refl
contents_same d h (EndPut n b dual) = refl
contents_same d h (Release path) = refl
contents_same d h (Taken n bytes) = refl
contents_same d h (Dump name) = refl
contents_same d h (Undump name) = refl
contents_same d h (Restore name path target change) = refl
contents_same d h (HardDelete bfids) = refl
contents_same d h (Dropped b) = refl
contents_same d h Restart = refl
contents_same d h (Age age) = refl

group_contents : (g : ℕ) (h : History) (s : GroupStep) → (history_after_group_step g s h).contents ≡ h.contents
group_contents g h (group_step.Volume vsn slot version size) = refl
group_contents g h (group_step.Commit b len chunks) = refl
group_contents g h (group_step.Delete b) = refl
group_contents g h (group_step.Move b from to) = refl
group_contents g h (group_step.Free vsn) = refl
group_contents g h (group_step.Reuse vsn epoch version) = refl

-- the files after a payload
paid_files : (j : Joint) (p : Option Payload) → files_of (after_payload p j) ≡ files_paid p (files_of j)
paid_files j None = refl
paid_files j (Some (payload.Daemon r)) =
    ap (λ contents. (after_record j.daemon.tables r, contents)) (contents_same j.daemon j.history r.step)
paid_files j (Some (payload.Group g r)) = ap (λ contents. (j.daemon.tables, contents)) (group_contents g.0 j.history r.step)

marked_files : (w : ℕ) (j : Joint) (m : Mark) → files_of (after_mark w m j) ≡ files_of j
marked_files w j mark.Nothing = refl
marked_files w j (mark.Zone g vsn place zone b index epoch) = refl
marked_files w j (mark.Target g vsn m place zone) = refl
marked_files w j (mark.Label g vsn m epoch version text) = refl
marked_files w j (mark.Read g b offset bytes) = refl
marked_files w j (mark.Source g m bytes) = refl
marked_files w j (mark.Deleted g b) = refl

doubted_files : (j : Joint) (p : Option Payload) → files_of (joint_with_doubt p j) ≡ files_of j
doubted_files j None = refl
doubted_files j (Some (payload.Daemon r)) = refl
doubted_files j (Some (payload.Group g r)) = refl

opened_files : (w : ℕ) (j : Joint) (o : Opening) → files_of (after_opening w o j) ≡ files_of j
opened_files w j opening.Nothing = refl
opened_files w j (opening.Put k r len groups) = refl
opened_files w j (opening.Recall k r recall) = refl
opened_files w j (opening.Reservation g n r) = refl
opened_files w j (opening.Mount g m vsn epoch made) = refl
opened_files w j (opening.Move g job moving source_epoch target_epoch) = refl
opened_files w j (opening.Reuse g m epoch reusing reading) = refl

-- and after a call that is answered
pub called_files : (w : ℕ) (j : Joint) (p : Prepared) → files_of (after_call w p j) ≡ files_paid p.payload (files_of j)
called_files w j p =
    let spent = after_ending w p.ends j in
    let settled = after_healing p.heals p.component spent in
    let journalled = after_payload p.payload settled in
    opened_files w (after_mark w p.mark journalled) p.opens ∙ marked_files w journalled p.mark ∙ paid_files settled p.payload
    ∙ ap (files_paid p.payload) (undoubted_files spent p.heals p.component ∙ ended_files w j p.ends)

-- a call that fails leaves the files as they were
pub failed_files : (w : ℕ) (j : Joint) (p : Prepared) (far : Bool) → files_of (after_fault w p far j) ≡ files_of j
failed_files w j p far =
    let spent = after_ending w p.ends j in
    doubted_files (after_failed_mark p.mark spent) (cond far p.payload None) ∙ ended_files w j p.ends

-- a step in doubt lands
pub landed_files : (j : Joint) (c : Component) (p : Payload) → files_of (after_landing c p j) ≡ files_paid (Some p) (files_of j)
landed_files j c p = paid_files (after_healing true c j) (Some p) ∙ ap (files_paid (Some p)) (undoubted_files j true c)

-- ---- what they leave of the namespace

-- a record that follows does its plain steps
pub record_agrees : (j : Joint) (ns : Namespace) (r : DaemonRecord) → InvariantHolds j → Follows (files_of j) r → AgreesWith (files_of j) ns
    → AgreesWith (files_paid (Some (payload.Daemon r)) (files_of j)) (plain_run (steps_of_record r) ns)
record_agrees j ns r kept follow a =
    record_shown j.daemon.tables j.history.contents j.daemon.cap ns r kept.files follow.may follow.right a

-- what is spent leaves what a record needs
pub still_follows : (w : ℕ) (j : Joint) (e : Ending) (r : DaemonRecord) → Follows (files_of (after_ending w e j)) r → Follows (files_of j) r
still_follows w j e r f = subst (λ files. Follows files r) (ended_files w j e) f

-- what a group does leaves all as it was
pub group_paid : (g : GroupId) (p : Option Payload) (files : Shown) → PaysOf g p → files_paid p files ≡ files
group_paid g None files of = refl
group_paid g (Some (payload.Daemon r)) files of = absurd of
group_paid g (Some (payload.Group h r)) files of = refl

-- ---- the end of the program

stopped_if : (t : DaemonTables) (contents : ByNumber (List ℕ)) (ns : Namespace) (making : Bool) → Agrees t contents ns
    → Agrees (cond making (after_record t (record { time = t.time; step = Restart })) t) contents ns
stopped_if t contents ns true a = restart_shown t contents t.time ns a
stopped_if t contents ns false a = a

pub stop_agrees : (j : Joint) (ns : Namespace) → AgreesWith (files_of j) ns → AgreesWith (files_of (after_stop j)) ns
stop_agrees j ns a = stopped_if j.daemon.tables j.history.contents ns (has_making j.daemon.tables.inodes) a
