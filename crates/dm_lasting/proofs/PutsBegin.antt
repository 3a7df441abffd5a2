-- What the answer to a put that begins says.
use Rattle.std.proofs.Common.{◌≡◌, ◌<◌, ◌≤◌, ℕ, Bool, true, false, not, cond, nat_le, nat_lt, Option, None, Some, List, [], ◌∷◌, ◌++◌, refl, sym, ap, subst, ◌∙◌, arith}
use Rattle.std.specs.FinMap as map
use Rattle.std.proofs.lemmas.Bool.{leb-true}
use Rattle.dm_base.specs.declared.error.DaemonError.{DaemonError}
use Rattle.dm_base.specs.declared.error.DaemonError.TheVariants as error
use Rattle.dm_base.specs.declared.identifier.Bfid.{Bfid}
use Rattle.dm_base.specs.declared.identifier.GroupId.{GroupId}
use Rattle.dm_base.specs.declared.identifier.Secs.{Secs}
use Rattle.dm_base.specs.declared.reply.FileState.TheVariants as file_state
use Rattle.dm_base.specs.Limits.{entries_limit, number_limit}
use Rattle.dm_tables.proofs.Orders.{numbers}
use Rattle.dm_tables.proofs.Rows.{get-here}
use Rattle.dm_durable.specs.declared.daemon.Contents.{Contents}
use Rattle.dm_durable.specs.declared.daemon.Contents.TheVariants.{Regular, Making, Dual, Offline}
use Rattle.dm_durable.specs.Daemon.{bfid_of}
use Rattle.dm_durable.specs.DaemonConditions.{MayBeMade}
use Rattle.dm_durable.specs.Inodes.{bytes_online}
use Rattle.dm_durable.specs.Tables.{ByNumber}
use Rattle.dm_model.specs.declared.answer.Answer.{Answer}
use Rattle.dm_model.specs.declared.answer.Answer.TheVariants as answer
use Rattle.dm_model.specs.declared.call.Call.TheVariants as call
use Rattle.dm_model.specs.declared.call.DaemonCall.TheVariants as daemon_call
use Rattle.dm_model.specs.declared.call.Event.TheVariants as event
use Rattle.dm_model.specs.declared.plan.Opening.TheVariants as opening
use Rattle.dm_model.specs.declared.state.Joint.{Joint}
use Rattle.dm_model.specs.declared.state.OpenRequest.{OpenRequest}
use Rattle.dm_model.specs.declared.state.RequestKind.TheVariants as kind
use Rattle.dm_model.specs.DaemonCalls.{begin_put, begin_put_needs, daemon_refusal}
use Rattle.dm_model.specs.DaemonShare.{daemon_after_ending, daemon_after_opening, daemon_after_payload, daemon_without_doubt}
use Rattle.dm_model.specs.Effects.{contents_with}
use Rattle.dm_model.specs.Files.{File, file_at, has_open_recall, is_regular, state_of}
use Rattle.dm_model.specs.Guards.{AllHold, Guarded, first_true}
use Rattle.dm_model.specs.Plan.{Plan, Needs, answer_of, guards_always, guards_of, if_accepted, illegal_call, prepared_plan, refusal_of}
use Rattle.dm_model.specs.Step.{Stepped, after_call, outcome_of, step}
use Rattle.dm_invariant.specs.Kept.{InvariantHolds}
use Rattle.dm_landing.proofs.NamedRows.{next_not_given}
use Rattle.dm_shown.proofs.EventsShown.{all_hold, outcome_is}
use Rattle.dm_shown.proofs.PlansShown.{Shown, called_files, files_of, files_paid}
use Rattle.dm_lasting.specs.Begun.{PutBegins}

-- a call whose refusals are errors, and that is answered otherwise, isn't refused
accepted : (x y z : Bool) (e f g : DaemonError) (k n : ℕ) (b c : Bfid) (bytes own : List ℕ) (change was : ℕ)
    → answer_of (first_true ((x, daemon_refusal e) ∷ (y, daemon_refusal f) ∷ (z, daemon_refusal g) ∷ [])) (answer.PutBegun k b bytes change) ≡ answer.PutBegun n c own was
    → (first_true ((x, daemon_refusal e) ∷ (y, daemon_refusal f) ∷ (z, daemon_refusal g) ∷ []) ≡ None) × (x ≡ false)
accepted true y z e f g k n b c bytes own change was is = absurd (cc)
accepted false true z e f g k n b c bytes own change was is = absurd (cc)
accepted false false true e f g k n b c bytes own change was is = absurd (cc)
accepted false false false e f g k n b c bytes own change was is = (refl, refl)

number_is : (k n : ℕ) (b c : Bfid) (bytes own : List ℕ) (change was : ℕ) → answer.PutBegun k b bytes change ≡ answer.PutBegun n c own was
    → (k ≡ n) × (b ≡ c) × (bytes ≡ own)
number_is k n b c bytes own change was is = (cc, cc, cc)

-- a file that is away is not regular
away_not : (v : Bool) → not (is_regular (cond v file_state.Unmigrating file_state.Offline)) ≡ false → ⊥
away_not true is = cc
away_not false is = cc

-- a file that is regular has its bytes, and no bitfile
regular_may : (requests : ByNumber OpenRequest) (n : ℕ) (c : Contents) → not (is_regular (state_of requests n c)) ≡ false → MayBeMade c
regular_may requests n (Regular bytes) is = tt
regular_may requests n (Making bytes b) is = tt
regular_may requests n (Dual bytes b) is = absurd (cc)
regular_may requests n (Offline len b) is = away_not (has_open_recall requests n) is

-- what has no row but such as would be absurd has none
none_there : {X : Type 0} (o : Option X) → ((x : X) → o ≡ Some x → ⊥) → o ≡ None
none_there None differ = refl
none_there (Some x) differ = absurd (differ x refl)

back_holds : (ts us : List Guarded) → AllHold (ts ++ us) → AllHold us
back_holds [] us all = all
back_holds (t ∷ ts) us all = back_holds ts us all.1

-- what an accepted call makes is guarded
making_hold : (p : Plan) (n : Needs) (o : Option Answer) → o ≡ None → AllHold (guards_of o p n) → AllHold p.making
making_hold p n None none all = back_holds (guards_always p n) p.making all
making_hold p n (Some a) none all = absurd (cc)

module _ (j : Joint) (w : ℕ) (kept : InvariantHolds j) (path : List ℕ) (asked : List (Option GroupId)) (now k : ℕ) where
  abbrev Planned : Option File → Plan
  Planned o = begin_put j.daemon path asked now k o

  begins : (o : Option File) → file_at j.daemon path ≡ o → (n : ℕ) (b : Bfid) (bytes : List ℕ) (change : ℕ) (after : Joint)
      → outcome_of (illegal_call (Planned o) (begin_put_needs j.sides asked)) (after_call w (prepared_plan (Planned o)) j) (prepared_plan (Planned o)).answer
      ≡ Stepped after (answer.PutBegun n b bytes change)
      → PutBegins j after path n b.0 bytes
  begins None at n b bytes change after is =
      let p = Planned None in
      let o = outcome_is (illegal_call p (begin_put_needs j.sides asked)) (after_call w (prepared_plan p) j) after (prepared_plan p).answer
      (answer.PutBegun n b bytes change) is in
      let e = o.2 in
      absurd (cc)
  begins (Some f) at n b bytes change after is =
      let p = Planned (Some f) in
      let needs = begin_put_needs j.sides asked in
      let t = j.daemon.tables in
      let o = outcome_is (illegal_call p needs) (after_call w (prepared_plan p) j) after (prepared_plan p).answer (answer.PutBegun n b bytes change) is in
      let c : Bfid = record { 0 = bfid_of t.site t.counter } in
      let state = state_of j.daemon.requests f.number f.inode.contents in
      let a = accepted (not (is_regular state)) (nat_le entries_limit (map.len t.entries)) (nat_lt number_limit t.counter)
      (error.WrongState state) (error.TooMany entries_limit) (error.TooMany number_limit) k n c b (bytes_online f.inode.contents) bytes f.inode.change change o.2 in
      let same = number_is k n c b (bytes_online f.inode.contents) bytes f.inode.change change
      (subst (λ r. answer_of r p.answer ≡ answer.PutBegun n b bytes change) a.0 o.2) in
      let r : OpenRequest = record { ino = record { 0 = f.number }; bfid = c; was = f.inode.change; found = None; kind = kind.Put } in
      let opens : (prepared_plan p).opens ≡ p.opens = ap (λ q. if_accepted q opening.Nothing p.opens) a.0 in
      let pays : (prepared_plan p).payload ≡ p.payload = ap (λ q. if_accepted q None p.payload) a.0 in
      let before = daemon_after_payload (prepared_plan p).payload (daemon_without_doubt (prepared_plan p).heals (prepared_plan p).component (daemon_after_ending (prepared_plan p).ends j.daemon)) in
      let request : map.get (after_call w (prepared_plan p) j).daemon.requests k ≡ Some r =
      ap (λ q. map.get (daemon_after_opening q before).requests k) opens ∙ get-here numbers before.requests k r in
      let files = called_files w j (prepared_plan p) ∙ ap (λ q. files_paid q (files_of j)) pays in
      let content : map.get (after_call w (prepared_plan p) j).history.contents c.0 ≡ Some (bytes_online f.inode.contents) =
      ap (λ (q : Shown). map.get q.1 c.0) files
      ∙ ap (λ q. map.get (contents_with c.0 q j.history.contents) c.0) at
      ∙ get-here numbers j.history.contents c.0 (bytes_online f.inode.contents) in
      let next : j.daemon.next_request ≤ k = leb-true _ _ (making_hold p needs (refusal_of p) a.0 (all_hold (guards_of (refusal_of p) p needs) o.0)).0 in
      let bitfile : c.0 ≡ b.0 = ap (λ (x : Bfid). x.0) same.1 in
      record {
        file = f;
        is = at;
        form = regular_may j.daemon.requests f.number f.inode.contents a.1;
        online = same.2;
        content = subst (λ (i : Joint). map.get i.history.contents b.0 ≡ Some bytes) o.1
            (subst (λ v. map.get (after_call w (prepared_plan p) j).history.contents v ≡ Some bytes) bitfile (content ∙ ap (λ v. Some v) same.2));
        request = r;
        opened = subst (λ (i : Joint). map.get i.daemon.requests n ≡ Some r) o.1
            (subst (λ v. map.get (after_call w (prepared_plan p) j).daemon.requests v ≡ Some r) same.0 request);
        put = refl;
        made = bitfile;
        on = refl;
        new_request = none_there (map.get j.daemon.requests n)
            (λ q there. let low : n < j.daemon.next_request = kept.requests.numbers n q there in let e = same.0 in omega (arith, low, next, e));
        new_entry = none_there (map.get t.entries b.0)
            (λ q there. next_not_given t.site t.counter b.0 (sym bitfile) (kept.files.state.entries b.0 q there).given);
        new_content = none_there (map.get j.history.contents b.0)
            (λ q there. next_not_given t.site t.counter b.0 (sym bitfile) (kept.files.contents_given b.0 q there));
      }

pub put_begins : (j k : Joint) (w : ℕ) (path : List ℕ) (asked : List (Option GroupId)) (now : Secs) (m n : ℕ) (b : Bfid) (bytes : List ℕ) (change : ℕ) → InvariantHolds j
    → step j w (event.Call (call.Daemon (daemon_call.BeginPut path asked now m))) ≡ Stepped k (answer.PutBegun n b bytes change)
    → PutBegins j k path n b.0 bytes
put_begins j k w path asked now m n b bytes change kept is =
    begins j w kept path asked now.0 m (file_at j.daemon path) refl n b bytes change k is
