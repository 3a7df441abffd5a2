-- What a call needs of others stays true in a state that is alike at the names that the call is about, and has all that was done.
use Rattle.std.proofs.Common.{◌≡◌, ℕ, true, false, not, ◌&&◌, Option, None, Some, is_some, List, [], ◌∷◌, refl, sym, ap, subst, ◌∙◌, inl, inr}
use Rattle.std.specs.List.{list_all}
use Rattle.std.specs.FinMap as map
use Rattle.std.specs.Prelude as prelude
use Rattle.std.proofs.lemmas.Bool.{and_from, and_parts, not-true}
use Rattle.dm_base.specs.declared.identifier.Bfid.{Bfid}
use Rattle.dm_base.specs.declared.identifier.GroupId.{GroupId}
use Rattle.dm_base.specs.declared.serial.Vsn.{Vsn}
use Rattle.dm_tables.proofs.Any.{any-false, any-none}
use Rattle.dm_tables.proofs.Orders.{numbers}
use Rattle.dm_durable.specs.declared.daemon.Entry.{Entry}
use Rattle.dm_durable.specs.Entries.{groups_asked}
use Rattle.dm_durable.specs.Tables.{ByNumber}
use Rattle.dm_model.specs.declared.call.Call.{Call}
use Rattle.dm_model.specs.declared.call.Call.TheVariants as call
use Rattle.dm_model.specs.declared.call.DaemonCall.{DaemonCall}
use Rattle.dm_model.specs.declared.call.DaemonCall.TheVariants as daemon_call
use Rattle.dm_model.specs.declared.call.GroupCall.{GroupCall}
use Rattle.dm_model.specs.declared.call.GroupCall.TheVariants as group_call
use Rattle.dm_model.specs.declared.call.VolumeCall.{VolumeCall}
use Rattle.dm_model.specs.declared.entry.Name.{Name}
use Rattle.dm_model.specs.declared.entry.Name.TheVariants.{Daemon, Worker, Side}
use Rattle.dm_model.specs.declared.entry.Part.TheVariants as part
use Rattle.dm_model.specs.declared.state.CopyReservation.{CopyReservation}
use Rattle.dm_model.specs.declared.state.CopyState.{CopyState}
use Rattle.dm_model.specs.declared.state.Daemon.{Daemon as DaemonState}
use Rattle.dm_model.specs.declared.state.History.{History}
use Rattle.dm_model.specs.declared.state.Joint.{Joint}
use Rattle.dm_model.specs.declared.state.MountState.{MountState}
use Rattle.dm_model.specs.declared.state.Moving.{Moving}
use Rattle.dm_model.specs.declared.state.OpenRequest.{OpenRequest}
use Rattle.dm_model.specs.declared.state.Reserved.{Reserved}
use Rattle.dm_model.specs.declared.state.Side.{Side as SideState}
use Rattle.dm_model.specs.declared.state.Worker.{Worker as WorkerState}
use Rattle.dm_model.specs.declared.guard.Guard.TheVariants as guard
use Rattle.dm_model.specs.declared.state.Group.{Group}
use Rattle.dm_model.specs.DaemonCalls.{are_configured, copy_stored_needs, daemon_needs, deleted_in, drop_recall_needs, dropped_needs, end_put_needs, end_recall_needs, has_reservation, is_reserved}
use Rattle.dm_model.specs.Files.{asked_by, groups_of}
use Rattle.dm_model.specs.GroupCalls.{abort_needs, add_volume_needs, all_written, are_sums_of, commit_needs, commit_of, group_needs, is_unmounted, mount_chunk_needs, move_done_needs, of_tokens, reservation_in, reserve_needs, reuse_needs, unmount_needs, was_moved}
use Rattle.dm_model.specs.Guards.{AllHold}
use Rattle.dm_model.specs.Names.{copies_of_request, copy_name, copy_of_reservation, daemon_names, group_names, group_names_in, home_of_call, mount_and_owner, mount_and_owner_in, mount_name, mounts_of_move, names_of_call, owner_of}
use Rattle.dm_model.specs.Plan.{Needs, no_needs}
use Rattle.dm_model.specs.Step.{needs_of, side_needs, volume_needs_in}
use Rattle.dm_model.specs.VolumeCalls.{mount_in, volume_needs}
use Rattle.dm_invariant.proofs.AskedGroups.{NumberAmong, asked_among}
use Rattle.dm_invariant.specs.Among.{IsAmong}
use Rattle.dm_spine.specs.Past.{In}
use Rattle.dm_copies.specs.Asked.{CopiesAreAsked, CopyIsAsked}
use Rattle.dm_copies.specs.Done.{StaysDone}
use Rattle.dm_history.specs.Alike.{SameGroups, copy_of, library_of, mount_of}
use Rattle.dm_history.proofs.PartsGo.{AllAlike}
use Rattle.std.proofs.lemmas.Option.{same_Some}

-- what is needed of others holds of one and so of another
pub record NeedsKeep (n m : Needs) : Type 0 where
  pub token : AllHold n.token → AllHold m.token
  pub lasting : AllHold n.lasting → AllHold m.lasting

keep_itself : (n : Needs) → NeedsKeep n n
keep_itself n = record { token = λ h. h; lasting = λ h. h }

keep_same : (n m : Needs) → n ≡ m → NeedsKeep n m
keep_same n m same = subst (λ x. NeedsKeep n x) same (keep_itself n)

-- ---- the daemon

configured_same : (sides later : ByNumber SideState) → ((g : ℕ) → is_some (map.get sides g) ≡ is_some (map.get later g)) → (gs : List GroupId)
    → are_configured sides gs ≡ are_configured later gs
configured_same sides later keys [] = refl
configured_same sides later keys (g ∷ gs) =
    ap (λ b. b && are_configured sides gs) (keys g.0) ∙ ap (λ b. is_some (map.get later g.0) && b) (configured_same sides later keys gs)

stored_keep : (h i : History) → StaysDone h i → (g : GroupId) (o : Option OpenRequest) → NeedsKeep (copy_stored_needs h g o) (copy_stored_needs i g o)
stored_keep h i done g None = keep_itself (copy_stored_needs h g None)
stored_keep h i done g (Some r) = record { token = λ hold. hold; lasting = λ hold. (done.committed g.0 r.bfid.0 hold.0, tt) }

deleted_all : (h i : History) → StaysDone h i → (b : ℕ) (gs : List GroupId) → list_all (λ (g : GroupId). deleted_in (map.get h.groups g.0) b) gs ≡ true
    → list_all (λ (g : GroupId). deleted_in (map.get i.groups g.0) b) gs ≡ true
deleted_all h i done b [] all = refl
deleted_all h i done b (g ∷ gs) all =
    let parts = and_parts (deleted_in (map.get h.groups g.0) b) (list_all (λ (x : GroupId). deleted_in (map.get h.groups x.0) b) gs) all in
    and_from (deleted_in (map.get i.groups g.0) b) (list_all (λ (x : GroupId). deleted_in (map.get i.groups x.0) b) gs) (done.deleted g.0 b parts.0)
    (deleted_all h i done b gs parts.1)

dropped_keep : (h i : History) → StaysDone h i → (b : Bfid) (o : Option Entry) → NeedsKeep (dropped_needs h b o) (dropped_needs i b o)
dropped_keep h i done b None = keep_itself (dropped_needs h b None)
dropped_keep h i done b (Some e) =
    record { token = λ hold. hold; lasting = λ hold. (deleted_all h i done b.0 (groups_asked e) hold.0, tt) }

-- the copy of a group that is among those asked is told
told_copy : (g : ℕ) (b : Bfid) (gs : List GroupId) → NumberAmong g gs → In (copy_name (record { 0 = g }) b) (prelude.map (λ h. copy_name h b) gs)
told_copy g b gs among = told gs among.among
  where
    group_is : (n : ℕ) (x : GroupId) → x.0 ≡ n → record { 0 = n } ≡ x
    group_is n x same = ap (λ (k : ℕ). record { 0 = k }) (sym same)

    told : (hs : List GroupId) → IsAmong among.group hs → In (copy_name (record { 0 = g }) b) (prelude.map (λ h. copy_name h b) hs)
    told [] at = absurd at
    told (h ∷ hs) (inl same) = inl (ap (λ (x : GroupId). copy_name x b) (group_is g among.group among.same ∙ same))
    told (h ∷ hs) (inr after) = inr (told hs after)

-- no copy of the bitfile has a reservation, where the copies that its entry asks for are the same in both and there is no other
module _ (d : DaemonState) (sides later : ByNumber SideState) (requests : ByNumber OpenRequest)
    (keys : (g : ℕ) → is_some (map.get sides g) ≡ is_some (map.get later g))
    (asked : (g : ℕ) (t : SideState) → map.get later g ≡ Some t → (b : ℕ) (c : CopyState) → map.get t.copies b ≡ Some c → CopyIsAsked d.tables requests g b c)
    (r : OpenRequest)
    (alike : (g : GroupId) → In (copy_name g r.bfid) (copies_of_request d (Some r)) → copy_of r.bfid.0 (map.get sides g.0) ≡ copy_of r.bfid.0 (map.get later g.0)) where
  none_reserved : (g : ℕ) (t : SideState) → is_reserved sides r.bfid.0 ≡ false → map.get later g ≡ Some t → (o : Option CopyState)
      → map.get t.copies r.bfid.0 ≡ o → has_reservation o ≡ false
  none_reserved g t none at None is = refl
  none_reserved g t none at (Some c) is =
      let copy = asked g t at r.bfid.0 c is in
      let among : NumberAmong g (asked_by (map.get d.tables.entries r.bfid.0)) =
      subst (λ o. NumberAmong g (asked_by o)) (sym copy.is) (asked_among copy.entry g copy.asked) in
      let same = alike (record { 0 = g }) (told_copy g r.bfid (asked_by (map.get d.tables.entries r.bfid.0)) among) in
      let here : copy_of r.bfid.0 (map.get sides g) ≡ Some c = same ∙ ap (copy_of r.bfid.0) at ∙ is in
      side_reserved (map.get sides g) refl here
    where
      side_reserved : (o : Option SideState) → map.get sides g ≡ o → copy_of r.bfid.0 o ≡ Some c → has_reservation (Some c) ≡ false
      side_reserved None found here = cc
      side_reserved (Some s) found here =
          ap has_reservation (sym here) ∙ any-false numbers (λ x y. has_reservation (map.get y.copies r.bfid.0)) sides none g s found

  unreserved_still : not (is_reserved sides r.bfid.0) ≡ true → not (is_reserved later r.bfid.0) ≡ true
  unreserved_still hold =
      let none = not-true (is_reserved sides r.bfid.0) hold in
      ap not (any-none (λ x y. has_reservation (map.get y.copies r.bfid.0)) later
      (λ g t at. none_reserved g t none at (map.get t.copies r.bfid.0) refl))

module _ (j k : Joint) (w : ℕ) (keys : SameGroups j k) (done : StaysDone j.history k.history) (asked : CopiesAreAsked k) where
  put_ends_keep : (d : DaemonState) → k.daemon ≡ d → (o : Option OpenRequest) → AllAlike (copies_of_request d o) j k
      → NeedsKeep (end_put_needs j.sides o) (end_put_needs k.sides o)
  put_ends_keep d same None alike = keep_itself (end_put_needs j.sides None)
  put_ends_keep d same (Some r) alike =
      let P : DaemonState → Type 0 = λ (x : DaemonState). (g : ℕ) (t : SideState) → map.get k.sides g ≡ Some t → (b : ℕ) (c : CopyState) → map.get t.copies b ≡ Some c → CopyIsAsked x.tables x.requests g b c in
      let copies : P d = subst P same (λ g t at b c is. asked.copies g t at b c is) in
      record {
        token = λ hold. (unreserved_still d j.sides k.sides d.requests keys copies r (λ g told. alike (copy_name g r.bfid) told) hold.0, tt);
        lasting = λ hold. hold;
      }

  -- the needs of a call of the daemon
  daemon_keep : (d : DaemonState) → k.daemon ≡ d → (c : DaemonCall) → AllAlike (daemon_names d w c) j k
      → NeedsKeep (daemon_needs j.sides (map.get j.workers w) j.history d c) (daemon_needs k.sides (map.get k.workers w) k.history d c)
  daemon_keep d same (daemon_call.BeginPut path asked now n) alike = record {
    token = λ hold. hold;
    lasting = λ hold. (sym (configured_same j.sides k.sides keys (groups_of asked)) ∙ hold.0, tt);
  }
  daemon_keep d same (daemon_call.CopyStored n group now) alike = stored_keep j.history k.history done group (map.get d.requests n)
  daemon_keep d same (daemon_call.EndPut n now) alike = put_ends_keep d same (map.get d.requests n) (λ y h. alike y (inr h))
  daemon_keep d same (daemon_call.Release path now) alike = keep_itself no_needs
  daemon_keep d same (daemon_call.BeginRecall path n) alike = keep_itself no_needs
  daemon_keep d same (daemon_call.EndRecall n bytes now) alike =
      keep_same _ _ (ap (λ (o : Option WorkerState). end_recall_needs o n bytes) (alike (Worker w) (inl refl)))
  daemon_keep d same (daemon_call.DropRecall n) alike =
      keep_same _ _ (ap (λ (o : Option WorkerState). drop_recall_needs o n) (alike (Worker w) (inl refl)))
  daemon_keep d same (daemon_call.Write path bytes now) alike = keep_itself no_needs
  daemon_keep d same (daemon_call.Patch path offset bytes now) alike = keep_itself no_needs
  daemon_keep d same (daemon_call.Remove path now) alike = keep_itself no_needs
  daemon_keep d same (daemon_call.MakeDump name now) alike = keep_itself no_needs
  daemon_keep d same (daemon_call.Undump name now) alike = keep_itself no_needs
  daemon_keep d same (daemon_call.Restore name path target now) alike = keep_itself no_needs
  daemon_keep d same (daemon_call.SetAge age now) alike = keep_itself no_needs
  daemon_keep d same (daemon_call.HardDelete now) alike = keep_itself no_needs
  daemon_keep d same (daemon_call.NextDropping after) alike = keep_itself no_needs
  daemon_keep d same (daemon_call.Dropped b now) alike = dropped_keep j.history k.history done b (map.get d.tables.entries b.0)
  daemon_keep d same (daemon_call.Attributes path) alike = keep_itself no_needs
  daemon_keep d same daemon_call.List alike = keep_itself no_needs

-- ---- a group

-- what looks at the content of a bitfile needs one, and that is the same
written_still : (o p : Option (List ℕ)) → ((x : List ℕ) → o ≡ Some x → p ≡ Some x) → (r : Reserved) (copy : Option CopyReservation)
    → all_written o r copy ≡ true → all_written p r copy ≡ true
written_still None p same r copy hold = cc
written_still (Some x) p same r copy hold = subst (λ (q : Option (List ℕ)). all_written q r copy ≡ true) (sym (same x refl)) hold

sums_still : (o p : Option (List ℕ)) → ((x : List ℕ) → o ≡ Some x → p ≡ Some x) → (r : Reserved) (sums : List (List ℕ))
    → are_sums_of o r sums ≡ true → are_sums_of p r sums ≡ true
sums_still None p same r sums hold = cc
sums_still (Some x) p same r sums hold = subst (λ (q : Option (List ℕ)). are_sums_of q r sums ≡ true) (sym (same x refl)) hold

committed_keep : (h i : History) → StaysDone h i → (n : ℕ) (sums : List (List ℕ)) (r : Reserved) (copy : Option CopyState)
    → NeedsKeep (commit_of h.contents n sums r copy) (commit_of i.contents n sums r copy)
committed_keep h i done n sums r copy = record {
  token = λ hold. hold;
  lasting = λ hold. (
    written_still (map.get h.contents r.bfid.0) (map.get i.contents r.bfid.0) (λ x is. done.contents r.bfid.0 x is) r (reservation_in copy) hold.0,
    (sums_still (map.get h.contents r.bfid.0) (map.get i.contents r.bfid.0) (λ x is. done.contents r.bfid.0 x is) r sums hold.1.0, tt),
  );
}

module _ (w : ℕ) (h i : History) (done : StaysDone h i) (g : GroupId) (s t : SideState) (library : s.group ≡ t.group) where
  -- a name of a part of the side is alike in both
  abbrev Parts : List Name → Type 0
  Parts names = ((m : ℕ) → In (mount_name g m) names → map.get s.mounts m ≡ map.get t.mounts m)
      × ((b : Bfid) → In (copy_name g b) names → map.get s.copies b.0 ≡ map.get t.copies b.0)

  commits_keep : (n : ℕ) (sums : List (List ℕ)) (o : Option Reserved) → Parts (copy_of_reservation g o)
      → NeedsKeep (commit_needs h.contents s.copies n sums o) (commit_needs i.contents t.copies n sums o)
  commits_keep n sums None parts = keep_itself no_needs
  commits_keep n sums (Some r) parts =
      subst (λ o. NeedsKeep (commit_of h.contents n sums r (map.get s.copies r.bfid.0)) (commit_of i.contents n sums r o)) (parts.1 r.bfid (inl refl))
      (committed_keep h i done n sums r (map.get s.copies r.bfid.0))

  aborts_keep : (n : ℕ) (o : Option Reserved) → Parts (copy_of_reservation g o) → NeedsKeep (abort_needs s.copies n o) (abort_needs t.copies n o)
  aborts_keep n None parts = keep_itself no_needs
  aborts_keep n (Some r) parts =
      keep_same _ _ (ap (λ (c : Option CopyState). of_tokens ((is_unmounted n (reservation_in c), guard.PiecesUnmounted) ∷ [])) (parts.1 r.bfid (inl refl)))

  moved_keep : (sum : Option (List ℕ)) (o : Option Moving) → Parts (mounts_of_move g o) → NeedsKeep (move_done_needs s.mounts sum o) (move_done_needs t.mounts sum o)
  moved_keep sum None parts = keep_itself no_needs
  moved_keep sum (Some x) parts =
      keep_same _ _
      (ap (λ (y : Option MountState). of_tokens ((was_moved x sum y (map.get s.mounts x.target), guard.ChunkMoved) ∷ [])) (parts.0 x.source (inl refl))
      ∙ ap (λ (y : Option MountState). of_tokens ((was_moved x sum (map.get t.mounts x.source) y, guard.ChunkMoved) ∷ [])) (parts.0 x.target (inr (inl refl))))

  -- the needs of a call of a group
  group_keep : (x y : Option WorkerState) (c : GroupCall) → (In (Worker w) (group_names w g s c) → x ≡ y) → Parts (group_names w g s c)
      → NeedsKeep (group_needs x h g s c) (group_needs y i g t c)
  group_keep x y group_call.Missing worker parts = keep_itself no_needs
  group_keep x y (group_call.MountNew vsn m) worker parts = keep_itself no_needs
  group_keep x y (group_call.AddVolume m now) worker parts = keep_same _ _ (ap add_volume_needs (parts.0 m (inl refl)))
  group_keep x y (group_call.Reserve b len n) worker parts = keep_same _ _ (ap (λ (c : Option CopyState). reserve_needs c len) (parts.1 b (inl refl)))
  group_keep x y (group_call.MountPiece n i m) worker parts = keep_itself no_needs
  group_keep x y (group_call.MountChunk b offset m) worker parts = keep_same _ _ (ap (λ (o : Option WorkerState). mount_chunk_needs o g b) (worker (inl refl)))
  group_keep x y (group_call.Unmount m) worker parts = keep_same _ _ (ap unmount_needs (parts.0 m (inl refl)))
  group_keep x y (group_call.Commit n sums now) worker parts =
      subst (λ (z : Group). NeedsKeep (commit_needs h.contents s.copies n sums (map.get s.group.reservations n)) (commit_needs i.contents t.copies n sums (map.get z.reservations n)))
      library (commits_keep n sums (map.get s.group.reservations n) parts)
  group_keep x y (group_call.Abort n) worker parts =
      subst (λ (z : Group). NeedsKeep (abort_needs s.copies n (map.get s.group.reservations n)) (abort_needs t.copies n (map.get z.reservations n)))
      library (aborts_keep n (map.get s.group.reservations n) parts)
  group_keep x y (group_call.Delete b now) worker parts = record { token = λ hold. hold; lasting = λ hold. (done.taken b.0 hold.0, tt) }
  group_keep x y group_call.MergeList worker parts = keep_itself no_needs
  group_keep x y (group_call.MergeNext merged source job from to) worker parts = keep_itself no_needs
  group_keep x y (group_call.MoveDone job sum now) worker parts =
      subst (λ (z : Group). NeedsKeep (move_done_needs s.mounts sum (map.get s.group.moves job)) (move_done_needs t.mounts sum (map.get z.moves job)))
      library (moved_keep sum (map.get s.group.moves job) (λ m told. parts.0 m (inr told), λ b told. parts.1 b (inr told)))
  group_keep x y (group_call.DropMove job) worker parts = keep_itself no_needs
  group_keep x y (group_call.Free vsn now) worker parts = keep_itself no_needs
  group_keep x y (group_call.ReuseNext m now) worker parts = keep_itself no_needs
  group_keep x y (group_call.Reuse m now) worker parts = keep_same _ _ (ap (reuse_needs now.0) (parts.0 m (inl refl)))
  group_keep x y group_call.Rows worker parts = keep_itself no_needs
  group_keep x y group_call.Volumes worker parts = keep_itself no_needs

  -- and the names that it is about
  owner_same : (m : ℕ) → map.get s.mounts m ≡ map.get t.mounts m → mount_and_owner w g s.mounts m ≡ mount_and_owner w g t.mounts m
  owner_same m same = ap (λ (x : Option MountState). mount_name g m ∷ owner_of w g x ∷ []) same

  pub group_names_same : (c : GroupCall) → ((m : ℕ) → In (mount_name g m) (group_names w g s c) → map.get s.mounts m ≡ map.get t.mounts m)
      → group_names w g s c ≡ group_names w g t c
  group_names_same group_call.Missing mounts = refl
  group_names_same (group_call.MountNew vsn m) mounts = refl
  group_names_same (group_call.AddVolume m now) mounts = owner_same m (mounts m (inl refl))
  group_names_same (group_call.Reserve b len n) mounts = refl
  group_names_same (group_call.MountPiece n k m) mounts = ap (λ (z : Group). copy_of_reservation g (map.get z.reservations n)) library
  group_names_same (group_call.MountChunk b offset m) mounts = refl
  group_names_same (group_call.Unmount m) mounts = owner_same m (mounts m (inl refl))
  group_names_same (group_call.Commit n sums now) mounts = ap (λ (z : Group). copy_of_reservation g (map.get z.reservations n)) library
  group_names_same (group_call.Abort n) mounts = ap (λ (z : Group). copy_of_reservation g (map.get z.reservations n)) library
  group_names_same (group_call.Delete b now) mounts = refl
  group_names_same group_call.MergeList mounts = refl
  group_names_same (group_call.MergeNext merged source job from to) mounts = refl
  group_names_same (group_call.MoveDone job sum now) mounts = ap (λ (z : Group). Worker w ∷ mounts_of_move g (map.get z.moves job)) library
  group_names_same (group_call.DropMove job) mounts = ap (λ (z : Group). Worker w ∷ mounts_of_move g (map.get z.moves job)) library
  group_names_same (group_call.Free vsn now) mounts = refl
  group_names_same (group_call.ReuseNext m now) mounts = refl
  group_names_same (group_call.Reuse m now) mounts = owner_same m (mounts m (inl refl))
  group_names_same group_call.Rows mounts = refl
  group_names_same group_call.Volumes mounts = refl

-- ---- calls of whatever component

library_of_both : (s t : SideState) → library_of (Some s) ≡ library_of (Some t) → s.group ≡ t.group
library_of_both s t same = ap (λ (l : Group × List ℕ). l.0) (same_Some _ _ same)

module _ (j k : Joint) (w : ℕ) (keys : SameGroups j k) (done : StaysDone j.history k.history) (asked : CopiesAreAsked k) where
  side_parts : (g : GroupId) (names : List Name) (s t : SideState) → map.get j.sides g.0 ≡ Some s → map.get k.sides g.0 ≡ Some t → AllAlike names j k
      → ((m : ℕ) → In (mount_name g m) names → map.get s.mounts m ≡ map.get t.mounts m)
      × ((b : Bfid) → In (copy_name g b) names → map.get s.copies b.0 ≡ map.get t.copies b.0)
  side_parts g names s t is at alike = (
    λ m told. ap (mount_of m) (sym is) ∙ alike (mount_name g m) told ∙ ap (mount_of m) at,
    λ b told. ap (copy_of b.0) (sym is) ∙ alike (copy_name g b) told ∙ ap (copy_of b.0) at,
  )

  side_keep : (g : GroupId) (c : GroupCall) (o p : Option SideState) → map.get j.sides g.0 ≡ o → map.get k.sides g.0 ≡ p → is_some o ≡ is_some p
      → library_of o ≡ library_of p → AllAlike (group_names_in w g c o) j k
      → NeedsKeep (side_needs (map.get j.workers w) j.history g c o) (side_needs (map.get k.workers w) k.history g c p)
      × (group_names_in w g c o ≡ group_names_in w g c p)
  side_keep g c None None is at there library alike = (keep_itself no_needs, refl)
  side_keep g c None (Some t) is at there library alike = cc
  side_keep g c (Some s) None is at there library alike = cc
  side_keep g c (Some s) (Some t) is at there library alike =
      let same = library_of_both s t library in
      let parts = side_parts g (group_names w g s c) s t is at alike in (
        group_keep w j.history k.history done g s t same (map.get j.workers w) (map.get k.workers w) c (λ told. alike (Worker w) told) parts,
        group_names_same w j.history k.history done g s t same c parts.0,
      )

  volume_keep : (g : GroupId) (vsn : Vsn) (c : VolumeCall) (o p : Option SideState) → map.get j.sides g.0 ≡ o → map.get k.sides g.0 ≡ p
      → is_some o ≡ is_some p → AllAlike (mount_and_owner_in w g (mount_in c) o) j k
      → NeedsKeep (volume_needs_in vsn c o) (volume_needs_in vsn c p) × (mount_and_owner_in w g (mount_in c) o ≡ mount_and_owner_in w g (mount_in c) p)
  volume_keep g vsn c None None is at there alike = (keep_itself no_needs, refl)
  volume_keep g vsn c None (Some t) is at there alike = cc
  volume_keep g vsn c (Some s) None is at there alike = cc
  volume_keep g vsn c (Some s) (Some t) is at there alike =
      let same = (side_parts g (mount_and_owner w g s.mounts (mount_in c)) s t is at alike).0 (mount_in c) (inl refl) in (
        keep_same _ _ (ap (λ (x : Option MountState). volume_needs vsn x c) same),
        ap (λ (x : Option MountState). mount_name g (mount_in c) ∷ owner_of w g x ∷ []) same,
      )

  -- what a call needs of others in the first state it has in the second, and there it is about the same names
  pub call_keeps : (c : Call) → AllAlike (home_of_call c ∷ names_of_call j w c) j k
      → NeedsKeep (needs_of j w c) (needs_of k w c) × (names_of_call j w c ≡ names_of_call k w c)
  call_keeps (call.Daemon c) alike =
      let same : j.daemon ≡ k.daemon = alike Daemon (inl refl) in
      let told : AllAlike (daemon_names j.daemon w c) j k = λ y h. alike y (inr h) in (
        subst (λ (d : DaemonState). NeedsKeep (daemon_needs j.sides (map.get j.workers w) j.history j.daemon c) (daemon_needs k.sides (map.get k.workers w) k.history d c)) same
            (daemon_keep j k w keys done asked j.daemon (sym same) c told),
        ap (λ (d : DaemonState). daemon_names d w c) same,
      )
  call_keeps (call.Group g c) alike =
      side_keep g c (map.get j.sides g.0) (map.get k.sides g.0) refl refl (keys g.0) (alike (Side g part.Itself) (inl refl)) (λ y h. alike y (inr h))
  call_keeps (call.Volume g vsn c) alike =
      volume_keep g vsn c (map.get j.sides g.0) (map.get k.sides g.0) refl refl (keys g.0) (λ y h. alike y (inr h))
