-- What is answered of a file is what the namespace has of it.
use Rattle.std.proofs.Common.{◌≡◌, ℕ, true, Some, None, Option, List, refl, sym, ap, subst, ◌∙◌}
use Rattle.std.specs.FinMap as map
use Rattle.dm_base.specs.declared.identifier.Ino.{Ino}
use Rattle.dm_base.specs.declared.identifier.Secs.{Secs}
use Rattle.dm_durable.specs.declared.daemon.Contents.{Contents}
use Rattle.dm_durable.specs.declared.daemon.Contents.TheVariants.{Regular, Making, Dual, Offline}
use Rattle.dm_durable.specs.declared.daemon.Inode.{Inode}
use Rattle.dm_model.specs.declared.answer.Answer.TheVariants as answer
use Rattle.dm_model.specs.declared.call.Call.TheVariants as call
use Rattle.dm_model.specs.declared.call.DaemonCall.TheVariants as daemon_call
use Rattle.dm_model.specs.declared.call.Event.TheVariants as event
use Rattle.dm_model.specs.declared.plan.Ending.TheVariants as ending
use Rattle.dm_model.specs.declared.state.Joint.{Joint}
use Rattle.dm_model.specs.declared.state.OpenRequest.{OpenRequest}
use Rattle.dm_model.specs.DaemonCalls.{begin_recall, begin_recall_of, bytes_taken, changed_in, contents_of, daemon_needs, daemon_plan, end_recall, end_recall_needs, step_taken}
use Rattle.dm_model.specs.Effects.{after_ending}
use Rattle.dm_model.specs.Files.{File, file_at, is_recall}
use Rattle.dm_model.specs.Guards.{AllHold, first_true}
use Rattle.dm_model.specs.Plan.{answer_of, guards_always, guards_of, if_accepted, illegal_call, prepared_plan, refusal_of}
use Rattle.dm_model.specs.Step.{Stepped, after_call, step}
use Rattle.dm_plain.specs.Namespace.{Namespace, bytes_of}
use Rattle.dm_invariant.specs.Kept.{InvariantHolds}
use Rattle.dm_invariant.specs.StandsFor.{copy_or}
use Rattle.dm_landing.proofs.CallFiles.{contents_there}
use Rattle.dm_landing.proofs.CallsLanded.{PayloadLands, daemon_call_lands}
use Rattle.dm_effects.proofs.BeginningCalls.{always_hold}
use Rattle.dm_shown.specs.Reads.{OnlineRight, RecalledRight}
use Rattle.dm_shown.proofs.CallsShown.{bytes_of_file}
use Rattle.dm_shown.proofs.EventsShown.{all_hold, outcome_is}
use Rattle.dm_shown.proofs.FilesShown.{bytes_in, bytes_named, content_bytes, get-shown}
use Rattle.dm_shown.proofs.PlansShown.{AgreesWith, files_of}

-- the namespace has the bytes of the file that the name of a path leads to
pub holds_named : (j : Joint) (ns : Namespace) (path : List ℕ) → AgreesWith (files_of j) ns
    → bytes_of path ns ≡ bytes_named j.history.contents j.daemon.tables.inodes (map.get j.daemon.tables.names path)
unfolding bytes_of
holds_named j ns path a =
    ap (λ files. map.get files path) a.files ∙ get-shown j.daemon.tables.names j.daemon.tables.inodes j.history.contents path

-- ---- files whose bytes are on the disk

module _ (j : Joint) where
  online_of : (k : ℕ) (f : File) (c : Contents) (bytes : List ℕ) → (prepared_plan (begin_recall_of j.daemon k f c)).answer ≡ answer.Online bytes
      → content_bytes j.history.contents c ≡ bytes
  online_of k f (Regular own) bytes is = cc
  online_of k f (Making own b) bytes is = cc
  online_of k f (Dual own b) bytes is = cc
  online_of k f (Offline len b) bytes is = absurd (cc)

  online_at : (k : ℕ) (path bytes : List ℕ) (o : Option File) → file_at j.daemon path ≡ o
      → (prepared_plan (begin_recall j.daemon k o)).answer ≡ answer.Online bytes
      → bytes_named j.history.contents j.daemon.tables.inodes (map.get j.daemon.tables.names path) ≡ Some bytes
  online_at k path bytes None there is = absurd (cc)
  online_at k path bytes (Some f) there is =
      bytes_of_file j.history.contents j.daemon.tables.inodes (map.get j.daemon.tables.names path) f there
      ∙ ap (λ x. Some x) (online_of k f f.inode.contents bytes is)

  -- a file whose bytes are on the disk is answered as the namespace has it
  pub online_right : (ns : Namespace) → AgreesWith (files_of j) ns → OnlineRight j ns
  online_right ns a = λ w k path bytes later is.
      let p = daemon_plan j.daemon (daemon_call.BeginRecall path k) in
      let n = daemon_needs j.sides (map.get j.workers w) j.history j.daemon (daemon_call.BeginRecall path k) in
      let told = (outcome_is (illegal_call p n) (after_call w (prepared_plan p) j) later (prepared_plan p).answer (answer.Online bytes) is).2 in
      holds_named j ns path a ∙ online_at k path bytes (file_at j.daemon path) refl told

-- ---- files that were recalled

-- a recall that is answered found no change, and gives this
unchanged_answer : (r : OpenRequest) (found : Option ℕ) (mine given : List ℕ) → r.found ≡ found
    → answer_of (first_true (changed_in r)) (answer.Recalled mine) ≡ answer.Recalled given → (found ≡ None) × (mine ≡ given)
unchanged_answer r None mine given is told =
    let here = ap (λ o. answer_of (first_true (changed_in (record r { found = o }))) (answer.Recalled mine)) is in
    let same : answer.Recalled mine ≡ answer.Recalled given = sym here ∙ told in
    (refl, cc)
unchanged_answer r (Some n) mine given is told =
    let here = ap (λ o. answer_of (first_true (changed_in (record r { found = o }))) (answer.Recalled mine)) is in
    absurd (cc)

module _ (j : Joint) (ns : Namespace) (kept : InvariantHolds j) (a : AgreesWith (files_of j) ns) where
  -- what a recall takes is the content
  taken_content : (w k now n : ℕ) (bytes : List ℕ) (i : Inode) (c : Contents) → map.get j.daemon.tables.inodes n ≡ Some i → i.contents ≡ c
      → PayloadLands (after_ending w (ending.Recall k) j) (step_taken j.daemon now n bytes c)
      → content_bytes j.history.contents c ≡ bytes_taken bytes c
  taken_content w k now n bytes i (Regular own) is form lands = refl
  taken_content w k now n bytes i (Making own b) is form lands = refl
  taken_content w k now n bytes i (Dual own b) is form lands = refl
  taken_content w k now n bytes i (Offline len b) is form lands = ap copy_or (lands.needs i b len is form)

  -- the payload of a recall that found no change
  taken_payload : (w k now : ℕ) (bytes : List ℕ) (r : OpenRequest) (i : Inode) → r.found ≡ None
      → map.get j.daemon.tables.inodes r.ino.0 ≡ Some i
      → PayloadLands (after_ending w (ending.Recall k) j) (prepared_plan (end_recall j.daemon k bytes now (Some r))).payload
      → content_bytes j.history.contents i.contents ≡ bytes_taken bytes i.contents
  taken_payload w k now bytes r i unfound is lands =
      let whole = λ (o : Option ℕ) (c : Contents).
      if_accepted (first_true (changed_in (record r { found = o }))) None (step_taken j.daemon now r.ino.0 bytes c) in
      let same : (prepared_plan (end_recall j.daemon k bytes now (Some r))).payload ≡ step_taken j.daemon now r.ino.0 bytes i.contents =
      ap (λ o. whole o (contents_of (map.get j.daemon.tables.inodes r.ino.0))) unfound
      ∙ ap (whole None) (contents_there j.daemon.tables.inodes r.ino.0 i is) in
      taken_content w k now r.ino.0 bytes i i.contents is refl (subst (PayloadLands (after_ending w (ending.Recall k) j)) same lands)

  -- what is answered of the request's inode: it found no change, and each path of the inode has these bytes
  pub record Answered (r : OpenRequest) (given : List ℕ) : Type 0 where
    pub unfound : r.found ≡ None
    pub inode : Inode
    pub is : map.get j.daemon.tables.inodes r.ino.0 ≡ Some inode
    pub holds : (path : List ℕ) → map.get j.daemon.tables.names path ≡ Some r.ino → bytes_of path ns ≡ Some given

  recalled_file : (w k now : ℕ) (bytes given : List ℕ) (r : OpenRequest) → map.get j.daemon.requests k ≡ Some r
      → AllHold (guards_always (end_recall j.daemon k bytes now (Some r)) (end_recall_needs (map.get j.workers w) k bytes))
      → PayloadLands (after_ending w (ending.Recall k) j) (prepared_plan (end_recall j.daemon k bytes now (Some r))).payload
      → (prepared_plan (end_recall j.daemon k bytes now (Some r))).answer ≡ answer.Recalled given → Answered r given
  recalled_file w k now bytes given r at legal lands told =
      let inodes = j.daemon.tables.inodes in
      let kind : is_recall r.kind ≡ true = legal.0 in
      let calm = unchanged_answer r r.found (bytes_taken bytes (contents_of (map.get inodes r.ino.0))) given refl told in
      let live = kept.requests.recalls k r at kind calm.0 in
      let own = taken_payload w k now bytes r live.inode calm.0 live.is lands in
      let same : content_bytes j.history.contents live.inode.contents ≡ given =
      own ∙ ap (bytes_taken bytes) (sym (contents_there inodes r.ino.0 live.inode live.is)) ∙ calm.1 in
      record {
        unfound = calm.0;
        inode = live.inode;
        is = live.is;
        holds = λ path name.
            holds_named j ns path a ∙ ap (bytes_named j.history.contents inodes) name
            ∙ ap (λ o. Some (bytes_in j.history.contents o)) live.is ∙ ap (λ x. Some x) same;
      }

  -- what an end of a recall answers
  pub recalled_answered : (w k : ℕ) (bytes given : List ℕ) (now : Secs) (later : Joint)
      → step j w (event.Call (call.Daemon (daemon_call.EndRecall k bytes now))) ≡ Stepped later (answer.Recalled given)
      → (r : OpenRequest) → map.get j.daemon.requests k ≡ Some r → Answered r given
  recalled_answered w k bytes given now later is r there =
      let c = daemon_call.EndRecall k bytes now in
      let p = daemon_plan j.daemon c in
      let n = daemon_needs j.sides (map.get j.workers w) j.history j.daemon c in
      let came = outcome_is (illegal_call p n) (after_call w (prepared_plan p) j) later (prepared_plan p).answer (answer.Recalled given) is in
      let legal = always_hold p n (refusal_of p) (all_hold (guards_of (refusal_of p) p n) came.0) in
      let lands = daemon_call_lands j kept w c legal in
      recalled_file w k now.0 bytes given r there
      (subst (λ o. AllHold (guards_always (end_recall j.daemon k bytes now.0 o) (end_recall_needs (map.get j.workers w) k bytes))) there legal)
      (subst (λ o. PayloadLands (after_ending w (end_recall j.daemon k bytes now.0 o).ends j) (prepared_plan (end_recall j.daemon k bytes now.0 o)).payload) there lands)
      (subst (λ o. (prepared_plan (end_recall j.daemon k bytes now.0 o)).answer ≡ answer.Recalled given) there came.2)

  -- an inode that is there has a path
  named_by : (n : Ino) (i : Inode) → map.get j.daemon.tables.inodes n.0 ≡ Some i → (path : List ℕ) × (map.get j.daemon.tables.names path ≡ Some n)
  named_by n i is =
      let there = kept.files.state.named n.0 i is in
      (there.0, there.2 ∙ ap (λ m. Some (record { 0 = m })) there.3)

  -- a file that was recalled is answered as the namespace has it
  pub recalled_right : RecalledRight j ns
  recalled_right = λ w k bytes given now later is r there.
      let x = recalled_answered w k bytes given now later is r there in
      let name = named_by r.ino x.inode x.is in
      record { path = name.0; name = name.1; holds = x.holds name.0 name.1 }
