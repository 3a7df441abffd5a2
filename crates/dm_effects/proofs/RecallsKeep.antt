-- A recall that opens or ends keeps the invariant, and so does a heal of the daemon that finds nothing journalled.
use Rattle.std.proofs.Common.{◌≡◌, ℕ, ◌+◌, true, false, Option, Some, None, List, sym, subst}
use Rattle.std.specs.FinMap as map
use Rattle.dm_tables.specs.Rows.{EachRow}
use Rattle.dm_durable.specs.Tables.{ByNumber}
use Rattle.dm_model.specs.declared.plan.Ending.TheVariants as ending
use Rattle.dm_model.specs.declared.plan.Opening.TheVariants as opening
use Rattle.dm_model.specs.declared.state.Joint.{Joint}
use Rattle.dm_model.specs.declared.state.OpenRequest.{OpenRequest}
use Rattle.dm_model.specs.declared.state.Recall.{Recall}
use Rattle.dm_model.specs.declared.state.Side.{Side}
use Rattle.dm_model.specs.declared.state.Worker.{Worker}
use Rattle.dm_model.specs.Effects.{after_ending, after_opening}
use Rattle.dm_model.specs.Files.{is_put, is_recall}
use Rattle.dm_invariant.specs.Doubts.{MayLandIf}
use Rattle.dm_invariant.specs.Kept.{committed_in, deleted_in, InvariantHolds}
use Rattle.dm_effects.proofs.RequestsEnded.{recall_no_put, requests_without, doubt_without, recalls_recall_ended}
use Rattle.dm_effects.proofs.RequestsOpened.{RequestOpens, RecallOpens, number_free, requests_with, recalls_recall_opened}
use Rattle.dm_effects.proofs.SidesRequests.{side_puts_stay, puts_stay_without, puts_stay_with}

-- a recall that a worker has ends
pub recall_ended : (j : Joint) → InvariantHolds j → (w k : ℕ) (r : OpenRequest) (x : Worker) (recall : Recall) → map.get j.daemon.requests k ≡ Some r
    → is_recall r.kind ≡ true → map.get j.workers w ≡ Some x → map.get x.recalls k ≡ Some recall → InvariantHolds (after_ending w (ending.Recall k) j)
recall_ended j kept w k r x recall is kind there has =
    let t = j.daemon.tables in
    let h = j.history in
    let later = map.remove j.daemon.requests k in
    record {
      files = kept.files;
      dumps = kept.dumps;
      taken = kept.taken;
      requests = requests_without j.daemon.requests j.daemon.next_request k t.inodes t.entries h.contents kept.requests;
      recalls = recalls_recall_ended j.workers j.daemon.requests w k x recall t.entries h.contents there has kept.recalls;
      configured = kept.configured;
      sides = λ g s at.
          let o = map.get h.groups g in
          side_puts_stay t.entries h.contents h.taken j.daemon.requests later g (committed_in o) (deleted_in o) s
          (puts_stay_without j.daemon.requests k r is (recall_no_put r.kind kind)) (kept.sides g s at);
      doubt = doubt_without t j.daemon.requests k h.contents j.daemon.cap j.sides j.daemon.doubt kept.doubt;
    }

-- and one opens, where no step of the daemon is in doubt
pub recall_opened : (j : Joint) → InvariantHolds j → j.daemon.doubt ≡ None → (w k : ℕ) (r : OpenRequest) (recall : Recall)
    → RequestOpens j.daemon.requests j.daemon.next_request j.daemon.tables.inodes j.daemon.tables.entries j.history.contents k r
    → RecallOpens j.daemon.tables.entries j.history.contents r recall → InvariantHolds (after_opening w (opening.Recall k r recall) j)
recall_opened j kept settled w k r recall opens recalls =
    let t = j.daemon.tables in
    let h = j.history in
    let later = map.insert j.daemon.requests k r in
    let free = number_free j.daemon.requests j.daemon.next_request k kept.requests.numbers opens.new in
    record {
      files = kept.files;
      dumps = kept.dumps;
      taken = kept.taken;
      requests = requests_with j.daemon.requests j.daemon.next_request k r t.inodes t.entries h.contents opens kept.requests;
      recalls = recalls_recall_opened j.workers j.daemon.requests t.entries h.contents w k r recall kept.recalls free recalls;
      configured = kept.configured;
      sides = λ g s at.
          let o = map.get h.groups g in
          side_puts_stay t.entries h.contents h.taken j.daemon.requests later g (committed_in o) (deleted_in o) s
          (puts_stay_with j.daemon.requests k r free) (kept.sides g s at);
      doubt = subst (λ o. MayLandIf t later h.contents j.daemon.cap j.sides o) (sym settled) tt;
    }
