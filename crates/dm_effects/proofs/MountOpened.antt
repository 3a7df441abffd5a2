-- A mount is made: a side is kept where the volume isn't mounted yet, a drive is free, and no step in doubt is about the volume.
use Rattle.std.proofs.Common.{◌≡◌, ◌≢◌, ℕ, suc, ◌+◌, ◌≤◌, ◌<◌, Bool, true, false, cond, Some, None, Option, option_map, List, arith, refl, sym, ap, ◌∙◌}
use Rattle.std.proofs.Common.{inl, inr}
use Rattle.std.specs.Cmp.{nat_cmp_total}
use Rattle.std.specs.FinMap as map
use Rattle.dm_base.specs.declared.identifier.GroupId.{GroupId}
use Rattle.dm_base.specs.declared.serial.Vsn.{Vsn}
use Rattle.dm_base.specs.declared.volume.Piece.{Piece}
use Rattle.dm_tables.specs.Rows.{EachRow}
use Rattle.dm_tables.proofs.Adjusted.{adjusted-here}
use Rattle.dm_tables.proofs.Orders.{numbers, same_or}
use Rattle.dm_tables.proofs.Rows.{each-beside, get-beside, get-here, inserted}
use Rattle.dm_durable.specs.declared.daemon.Entry.{Entry}
use Rattle.dm_durable.specs.declared.group.GroupRecord.{GroupRecord}
use Rattle.dm_durable.specs.declared.group.GroupStep.{GroupStep}
use Rattle.dm_durable.specs.declared.group.GroupStep.TheVariants.{Volume, Commit, Delete, Move, Free, Reuse}
use Rattle.dm_durable.specs.Tables.{ByNumber}
use Rattle.dm_durable.specs.Volumes.{epoch_or}
use Rattle.dm_model.specs.declared.plan.Opening.TheVariants as opening
use Rattle.dm_model.specs.declared.state.CopyReservation.{CopyReservation}
use Rattle.dm_model.specs.declared.state.CopyState.{CopyState}
use Rattle.dm_model.specs.declared.state.Mounted.{Mounted}
use Rattle.dm_model.specs.declared.state.MountState.{MountState}
use Rattle.dm_model.specs.declared.state.OpenRequest.{OpenRequest}
use Rattle.dm_model.specs.declared.state.Origin.{Origin}
use Rattle.dm_model.specs.declared.state.Origin.TheVariants as origin
use Rattle.dm_model.specs.declared.state.Reserved.{Reserved}
use Rattle.dm_model.specs.declared.state.Side.{Side}
use Rattle.dm_model.specs.GroupCalls.{piece_at}
use Rattle.dm_model.specs.SideShare.{copies_mounted, new_mount, reservation_by, side_after_opening, with_piece_mount}
use Rattle.dm_invariant.specs.Doubts.{GroupMayLandIf, GroupStepNeeds, IsUnused}
use Rattle.dm_invariant.specs.Kept.{SideKept}
use Rattle.dm_invariant.specs.Mounts.{MayRead, NewMount, OriginKept, mounted_of}
use Rattle.dm_invariant.specs.OnceLive.{MountOnce}
use Rattle.dm_effects.proofs.Copies.{CopiesBy, copies_same, copies_changed}
use Rattle.dm_effects.proofs.MountEnded.{HeldBeside, move_left, origin_beside, reservations_beside, reuse_left}
use Rattle.dm_effects.proofs.Uses.{IsOpen, open_of, with_open}

-- ---- what a mount needs

-- the piece of an open reservation, on its volume
pub record PieceOpens (s : Side) (b index : ℕ) (p : Piece) (chunk : ℕ) (vsn : Vsn) : Type 0 where
  pub copy : CopyState
  pub is : map.get s.copies b ≡ Some copy
  pub held : CopyReservation
  pub has : copy.reservation ≡ Some held
  pub reserved : Reserved
  pub there : map.get s.group.reservations held.number ≡ Some reserved
  pub same : reserved.bfid.0 ≡ b
  pub cut : reserved.chunk ≡ chunk
  pub piece : piece_at index reserved.pieces ≡ Some p
  pub volume : p.vsn ≡ vsn

abbrev pub OriginOpens : Side → Vsn → Origin → Type 0
OriginOpens s vsn (origin.New listed format) = NewMount s.group.conf format vsn
OriginOpens s vsn (origin.Piece b index p chunk) = PieceOpens s b.0 index p chunk vsn
OriginOpens s vsn (origin.Chunk b c) = c.vsn ≡ vsn
OriginOpens s vsn (origin.Source job b c) = ⊥
OriginOpens s vsn (origin.Target job b total c version) = ⊥
OriginOpens s vsn (origin.Reuse next_epoch version reading) = ⊥

-- the volume that a step labels or frees
abbrev pub Takes : List ℕ → GroupStep → Type 0
Takes q (Volume vsn slot version size) = vsn.0 ≡ q
Takes q (Commit b len chunks) = ⊥
Takes q (Delete b) = ⊥
Takes q (Move b from to) = ⊥
Takes q (Free vsn) = vsn.0 ≡ q
Takes q (Reuse vsn epoch version) = vsn.0 ≡ q

abbrev pub DoubtTakes : List ℕ → Option GroupRecord → Type 0
DoubtTakes q None = ⊥
DoubtTakes q (Some r) = Takes q r.step

pub record MountOpens (contents : ByNumber (List ℕ)) (s : Side) (m : ℕ) (vsn : Vsn) (epoch : ℕ) (made : Origin) : Type 0 where
  pub number : s.group.next_mount ≤ m
  pub epoch_is : epoch ≡ epoch_or (map.get s.group.tables.volumes vsn.0)
  pub unmounted : EachRow s.mounts (λ n x. x.vsn.0 ≡ vsn.0 → ⊥)
  pub drive : suc (map.len s.group.mounts) ≤ s.group.conf.drives
  pub fits : OriginOpens s vsn made
  pub reads : MayRead made (new_mount s vsn epoch made).bound
  pub once : MountOnce contents s.group.tables.volumes s.images s.group.reservations s.group.moves epoch made
  pub beside : DoubtTakes vsn.0 s.group.doubt → ⊥

-- ---- a number that is new

fresh_of : (o : Option MountState) (m next : ℕ) → ((x : MountState) → o ≡ Some x → m < next) → next ≤ m → o ≡ None
fresh_of None m next below new = refl
fresh_of (Some x) m next below new = let f = below x refl in absurd (omega (arith, f, new))

pub fresh : (mounts : ByNumber MountState) (m next : ℕ) → EachRow mounts (λ n x. n < next) → next ≤ m → map.get mounts m ≡ None
fresh mounts m next below new = fresh_of (map.get mounts m) m next (λ x is. below m x is) new

-- so another mount has another number
pub other_number : (mounts : ByNumber MountState) (m q next : ℕ) (x : MountState) → EachRow mounts (λ n x. n < next) → next ≤ m
    → map.get mounts q ≡ Some x → q ≢ m
other_number mounts m q next x below new is = λ same. let f = below q x is in absurd (omega (arith, f, new, same))

-- ---- a drive more is taken

more_by_one : (b : Bool) (n : ℕ) → cond b n (n + 1) ≤ n + 1
more_by_one true n = omega arith
more_by_one false n = omega arith

pub drive_taken : (mounts : ByNumber Mounted) (m : ℕ) (x : Mounted) (n : ℕ) → suc (map.len mounts) ≤ n → map.len (map.insert mounts m x) ≤ n
drive_taken mounts m x n few =
    let is = map.len-insert nat_cmp_total mounts m x in
    let more = more_by_one (map.contains_key mounts m) (map.len mounts) in
    omega (arith, is, more, few)

pub same_mounts_more : (group_mounts : ByNumber Mounted) (mounts : ByNumber MountState) (m q : ℕ) (x : MountState)
    → map.get group_mounts q ≡ option_map mounted_of (map.get mounts q)
    → map.get (map.insert group_mounts m (mounted_of x)) q ≡ option_map mounted_of (map.get (map.insert mounts m x) q)
same_mounts_more group_mounts mounts m q x same =
    elim (same_or numbers m q) [
      | inl here ↦ ap (map.get (map.insert group_mounts m (mounted_of x))) here ∙ get-here numbers group_mounts m (mounted_of x)
          ∙ sym (ap (option_map mounted_of) (ap (map.get (map.insert mounts m x)) here ∙ get-here numbers mounts m x))
      | inr beside ↦ get-beside numbers group_mounts m (mounted_of x) q beside ∙ same
          ∙ sym (ap (option_map mounted_of) (get-beside numbers mounts m x q beside))
    ]

pub apart_more : (mounts : ByNumber MountState) (m : ℕ) (x : MountState) → EachRow mounts (λ n y. y.vsn.0 ≡ x.vsn.0 → ⊥)
    → ((p q : ℕ) (y z : MountState) → map.get mounts p ≡ Some y → map.get mounts q ≡ Some z → y.vsn.0 ≡ z.vsn.0 → p ≡ q)
    → (p q : ℕ) (y z : MountState) → map.get (map.insert mounts m x) p ≡ Some y → map.get (map.insert mounts m x) q ≡ Some z
    → y.vsn.0 ≡ z.vsn.0 → p ≡ q
apart_more mounts m x none apart p q y z is at same =
    elim (inserted numbers mounts m x p y is) [
      | inl here ↦ elim (inserted numbers mounts m x q z at) [
        | inl there ↦ here.0 ∙ sym there.0
        | inr other ↦ absurd (none q z other.1 (sym same ∙ ap (λ (w : MountState). w.vsn.0) here.1))
      ]
      | inr beside ↦ elim (inserted numbers mounts m x q z at) [
        | inl there ↦ absurd (none p y beside.1 (same ∙ ap (λ (w : MountState). w.vsn.0) there.1))
        | inr other ↦ apart p q y z beside.1 other.1 same
      ]
    ]

-- ---- the copies

held_itself : (m : ℕ) (h : CopyReservation) → HeldBeside m h h
held_itself m h = record { number = refl; written = refl; mounts = λ q apart. refl }

put_in : (m index : ℕ) (h : CopyReservation) → HeldBeside m h (with_piece_mount m index h)
put_in m index h = record { number = refl; written = refl; mounts = λ q apart. get-beside numbers h.mounts m index q apart }

copies_with : (m : ℕ) (o : Origin) (copies : ByNumber CopyState) → CopiesBy (HeldBeside m) copies (copies_mounted m o copies)
copies_with m (origin.New listed format) copies = copies_same (HeldBeside m) (held_itself m) copies
copies_with m (origin.Piece b index piece chunk) copies =
    copies_changed (HeldBeside m) (held_itself m) b.0 (with_piece_mount m index) copies (put_in m index)
copies_with m (origin.Chunk b chunk) copies = copies_same (HeldBeside m) (held_itself m) copies
copies_with m (origin.Source job b chunk) copies = copies_same (HeldBeside m) (held_itself m) copies
copies_with m (origin.Target job b total chunk version) copies = copies_same (HeldBeside m) (held_itself m) copies
copies_with m (origin.Reuse next_epoch version reading) copies = copies_same (HeldBeside m) (held_itself m) copies

-- what the new mount was made for is there
origin_made : (s : Side) (m : ℕ) (vsn : Vsn) (o : Origin) → OriginOpens s vsn o
    → OriginKept s.group.conf s.group.reservations (copies_mounted m o s.copies) s.group.moves s.group.reuses m vsn o
origin_made s m vsn (origin.New listed format) k = k
origin_made s m vsn (origin.Piece b index p chunk) k = record {
  copy = reservation_by (with_piece_mount m index) k.copy;
  is = adjusted-here numbers s.copies b.0 (reservation_by (with_piece_mount m index))
      ∙ ap (option_map (reservation_by (with_piece_mount m index))) k.is;
  held = with_piece_mount m index k.held;
  has = ap (option_map (with_piece_mount m index)) k.has;
  mount = get-here numbers k.held.mounts m index;
  reserved = k.reserved;
  there = k.there;
  same = k.same;
  cut = k.cut;
  piece = k.piece;
  volume = k.volume;
}
origin_made s m vsn (origin.Chunk b c) k = k
origin_made s m vsn (origin.Source job b c) k = absurd k
origin_made s m vsn (origin.Target job b total c version) k = absurd k
origin_made s m vsn (origin.Reuse next_epoch version reading) k = absurd k

-- ---- a step in doubt

unmounted_more : (mounts : ByNumber MountState) (m : ℕ) (x : MountState) (vsn : List ℕ) → (vsn ≡ x.vsn.0 → ⊥)
    → EachRow mounts (λ n y. y.vsn.0 ≡ vsn → ⊥) → EachRow (map.insert mounts m x) (λ n y. y.vsn.0 ≡ vsn → ⊥)
unmounted_more mounts m x vsn differ none = λ n y is same.
    elim (inserted numbers mounts m x n y is) [
      | inl here ↦ differ (sym same ∙ ap (λ (w : MountState). w.vsn.0) here.1)
      | inr beside ↦ none n y beside.1 same
    ]

unused_more : (mounts : ByNumber MountState) (reservations : ByNumber Reserved) (m : ℕ) (x : MountState) (vsn : List ℕ) → (vsn ≡ x.vsn.0 → ⊥)
    → IsUnused mounts reservations vsn → IsUnused (map.insert mounts m x) reservations vsn
unused_more mounts reservations m x vsn differ u =
    record { unmounted = unmounted_more mounts m x vsn differ u.unmounted; unreserved = u.unreserved }

module _ (g : ℕ) (entries : ByNumber Entry) (contents : ByNumber (List ℕ)) (taken deleted : ByNumber (Unit {0})) (s : Side) (o : IsOpen)
    (m : ℕ) (x : MountState) where
  abbrev after : Side
  after = with_open (record o { mounts = map.insert s.mounts m x; reservations = s.group.reservations }) s

  needs_more : (now : ℕ) (step : GroupStep) → (Takes x.vsn.0 step → ⊥)
      → GroupStepNeeds g entries contents taken deleted s now step → GroupStepNeeds g entries contents taken deleted after now step
  needs_more now (Volume vsn slot version size) none n = record {
    configured = n.configured;
    sized = n.sized;
    unmounted = unmounted_more s.mounts m x vsn.0 none n.unmounted;
  }
  needs_more now (Commit b len chunks) none n = n
  needs_more now (Delete b) none n = n
  needs_more now (Move b from to) none n = n
  needs_more now (Free vsn) none n =
      record { unused = unused_more s.mounts s.group.reservations m x vsn.0 none n.unused; filled = n.filled }
  needs_more now (Reuse vsn epoch version) none n =
      record { unused = unused_more s.mounts s.group.reservations m x vsn.0 none n.unused; ready = n.ready }

  pub doubt_more : (doubt : Option GroupRecord) → (DoubtTakes x.vsn.0 doubt → ⊥)
      → GroupMayLandIf g entries contents taken deleted s doubt → GroupMayLandIf g entries contents taken deleted after doubt
  doubt_more None none d = tt
  doubt_more (Some r) none d = record { follow = d.follow; needs = needs_more r.time.0 r.step none d.needs }

-- ---- a mount is made

-- a mount that is made keeps the side
pub side_mount_opened : (entries : ByNumber Entry) (contents : ByNumber (List ℕ)) (taken : ByNumber (Unit {0})) (requests : ByNumber OpenRequest)
    (g : ℕ) (committed deleted : ByNumber (Unit {0})) (s : Side) (h : GroupId) (m : ℕ) (vsn : Vsn) (epoch : ℕ) (made : Origin)
    → MountOpens contents s m vsn epoch made
    → SideKept entries contents taken requests g committed deleted s
    → SideKept entries contents taken requests g committed deleted (side_after_opening (opening.Mount h m vsn epoch made) s)
side_mount_opened entries contents taken requests g committed deleted s h m vsn epoch made opens k =
    let t = s.group.tables in
    let conf = s.group.conf in
    let x = new_mount s vsn epoch made in
    let new = copies_mounted m made s.copies in
    let on = copies_with m made s.copies in
    let later = opens.number in
    let stays : (q : ℕ) (y : MountState) → map.get s.mounts q ≡ Some y → map.get (map.insert s.mounts m x) q ≡ Some y = λ q y is.
    get-beside numbers s.mounts m x q (other_number s.mounts m q s.group.next_mount y k.mounts.numbers later is) ∙ is in
    record {
      number = k.number;
      catalogue = k.catalogue;
      volumes = k.volumes;
      mounts = record {
        numbers = each-beside numbers (λ q y. q < m + 1) s.mounts m x (omega arith)
            (λ q y differ at. let f = k.mounts.numbers q y at in omega (arith, f, later));
        same = λ q. same_mounts_more s.group.mounts s.mounts m q x (k.mounts.same q);
        epoch = each-beside numbers (λ q y. y.epoch ≡ epoch_or (map.get t.volumes y.vsn.0)) s.mounts m x opens.epoch_is
            (λ q y differ at. k.mounts.epoch q y at);
        apart = apart_more s.mounts m x opens.unmounted k.mounts.apart;
        drives = drive_taken s.group.mounts m (mounted_of x) conf.drives opens.drive;
        reads = each-beside numbers (λ q y. MayRead y.origin y.bound) s.mounts m x opens.reads (λ q y differ at. k.mounts.reads q y at);
        origin = each-beside numbers
            (λ q y. OriginKept conf s.group.reservations new s.group.moves s.group.reuses q y.vsn y.origin) s.mounts m x
            (origin_made s m vsn made opens.fits)
            (λ q y differ at. origin_beside conf s.group.reservations s.copies new s.group.moves s.group.reuses m q y.vsn y.origin differ on
            (k.mounts.origin q y at));
      };
      once = each-beside numbers
          (λ q y. MountOnce contents t.volumes s.images s.group.reservations s.group.moves y.epoch y.origin) s.mounts m x opens.once
          (λ q y differ at. k.once q y at);
      reservations =
          reservations_beside g entries contents requests t.bitfiles t.volumes s.group.tips s.images s.group.reservations s.group.next_reservation
          s.copies new m on k.reservations;
      moves = record {
        numbers = k.moves.numbers;
        moving = λ job y is.
            let was = k.moves.moving job y is in
            move_left contents t.volumes s.group.tips s.images s.mounts (map.insert s.mounts m x) job y was
            (stays y.source was.source was.source_is) (stays y.target was.target was.target_is);
      };
      reuses = λ q y is.
          let kept = k.reuses q y is in
          reuse_left conf.hold t.time.0 t.volumes s.group.tips s.mounts (map.insert s.mounts m x) q y kept (stays q kept.mount kept.is);
      places = k.places;
      doubt = doubt_more g entries contents taken deleted s
          (record (open_of s) {
            copies = new;
            mounts = map.insert s.mounts m x;
            group_mounts = map.insert s.group.mounts m (mounted_of x);
            next_mount = m + 1;
          })
          m x s.group.doubt opens.beside k.doubt;
    }
