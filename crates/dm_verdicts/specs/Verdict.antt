-- A call with every test made.
use Rattle.dm_model.specs.Plan.{Plan, Needs, illegal_call, illegal_fault, prepared_plan}
use Rattle.dm_verdicts.specs.declared.verdict.Verdict.{Verdict}

-- the verdict on a call that comes to this plan and needs this of others
abbrev pub verdict_on : Plan → Needs → Verdict
verdict_on p n = record { illegal = illegal_call p n; illegal_fault = illegal_fault p n; prepared = prepared_plan p }
