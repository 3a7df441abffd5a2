-- What a run journals is never damage: each payload may be next, and the tables may be a state that a checkpoint writes.
use Rattle.std.specs.Prelude.{◌≡◌, ℕ, None, Some}
use Rattle.std.specs.FinMap as map
use Rattle.dm_tables.specs.Rows.{EachRow}
use Rattle.dm_durable.specs.declared.daemon.DaemonRecord.{DaemonRecord}
use Rattle.dm_durable.specs.declared.group.GroupRecord.{GroupRecord}
use Rattle.dm_durable.specs.DaemonConditions.{MayFollow}
use Rattle.dm_durable.specs.DaemonJournal.{MayBeState}
use Rattle.dm_durable.specs.GroupConditions.{MayGroupFollow}
use Rattle.dm_durable.specs.GroupJournal.{MayBeGroupState}
use Rattle.dm_model.specs.declared.call.Call.{Call}
use Rattle.dm_model.specs.declared.plan.Payload.{Payload}
use Rattle.dm_model.specs.declared.plan.Payload.TheVariants as payload
use Rattle.dm_model.specs.declared.state.Joint.{Joint}
use Rattle.dm_model.specs.declared.state.Side.{Side}
use Rattle.dm_model.specs.Plan.{illegal_call, illegal_fault, prepared_plan}
use Rattle.dm_model.specs.Step.{needs_of, plan_of}

-- a record may be next in the tables of its component
abbrev pub MayBeNext : Joint → Payload → Type 0
MayBeNext j (payload.Daemon r) = MayFollow j.daemon.tables r
MayBeNext j (payload.Group g r) = (s : Side) → map.get j.sides g.0 ≡ Some s → MayGroupFollow s.group.tables r

-- so is what each legal call journals, and what each that fails may have journalled
abbrev pub CallsMayJournal : Joint → Type 0
CallsMayJournal j =
    (w : ℕ) (c : Call) (p : Payload) → illegal_call (plan_of j c) (needs_of j w c) ≡ None → (prepared_plan (plan_of j c)).payload ≡ Some p → MayBeNext j p

abbrev pub FaultsMayJournal : Joint → Type 0
FaultsMayJournal j =
    (w : ℕ) (c : Call) (p : Payload) → illegal_fault (plan_of j c) (needs_of j w c) ≡ None → (prepared_plan (plan_of j c)).payload ≡ Some p → MayBeNext j p

-- and what is in doubt
pub record DoubtsMayLand (j : Joint) : Type 0 where
  pub daemon : (r : DaemonRecord) → j.daemon.doubt ≡ Some r → MayFollow j.daemon.tables r
  pub groups : (g : ℕ) (s : Side) (r : GroupRecord) → map.get j.sides g ≡ Some s → s.group.doubt ≡ Some r → MayGroupFollow s.group.tables r

-- the tables of each component may be a state that a checkpoint writes
pub record TablesMayBe (j : Joint) : Type 0 where
  pub daemon : MayBeState j.daemon.tables
  pub groups : EachRow j.sides (λ g s. MayBeGroupState s.group.tables)
