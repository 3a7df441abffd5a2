-- A bitfile of a group is deleted: every volume stays as it is.
use Rattle.std.proofs.Common.{◌≡◌, ℕ, ◌≤◌, false, List, Option, Some, None, IsSome, is_some, refl, sym, ap, ◌∙◌, inl, inr, arith}
use Rattle.std.specs.FinMap as map
use Rattle.dm_base.specs.declared.conf.GroupConf.{GroupConf}
use Rattle.dm_base.specs.declared.identifier.Bfid.{Bfid}
use Rattle.dm_base.specs.declared.identifier.Secs.{Secs}
use Rattle.dm_tables.specs.Rows.{EachRow}
use Rattle.dm_tables.proofs.Orders.{numbers, same_or}
use Rattle.dm_tables.proofs.Rows.{each-remove, removed, removed-beside, removed-here}
use Rattle.dm_durable.specs.declared.daemon.Entry.{Entry}
use Rattle.dm_durable.specs.declared.group.BitfileRow.{BitfileRow}
use Rattle.dm_durable.specs.declared.group.GroupRecord.{GroupRecord}
use Rattle.dm_durable.specs.declared.group.GroupStep.TheVariants.{Delete}
use Rattle.dm_durable.specs.declared.group.VolumeRow.{VolumeRow}
use Rattle.dm_durable.specs.Group.{group_after_record}
use Rattle.dm_durable.specs.Tables.{ByNumber, ByName}
use Rattle.dm_model.specs.declared.state.Image.{Image}
use Rattle.dm_model.specs.declared.state.Moving.{Moving}
use Rattle.dm_model.specs.declared.state.OpenRequest.{OpenRequest}
use Rattle.dm_model.specs.declared.state.Reserved.{Reserved}
use Rattle.dm_model.specs.declared.state.Side.{Side}
use Rattle.dm_invariant.specs.Catalogue.{BitfileKept}
use Rattle.dm_invariant.specs.Doubts.{GroupMayLand}
use Rattle.dm_invariant.specs.Kept.{SideKept}
use Rattle.dm_invariant.specs.Places.{HasPlace, Live, Reserving, Target, Doubted, Owner, PlacesKept}
use Rattle.dm_invariant.specs.Volumes.{VolumesKept}
use Rattle.dm_landing.proofs.GroupLanding.{landed_as, places_settled, side_as}
use Rattle.dm_landing.proofs.VolumeAdded.{all_origins_onward}
use Rattle.dm_landing.proofs.VolumeFreed.{volume_later}
use Rattle.dm_landing.proofs.VolumesOnward.{OnwardAt}

-- each volume stays where the tables of volumes do
pub stays_still : (volumes : ByName VolumeRow) (tips : ByName ℕ) (images : ByName Image) (q : List ℕ)
    → OnwardAt volumes volumes tips tips images images q
stays_still volumes tips images q = λ v is.
    (v, is, record { held = refl; version = refl; epoch = refl; low = omega arith; tip = refl; known = refl })

-- volumes are kept as time goes on
pub volumes_later : (conf : GroupConf) (before now : ℕ) (volumes : ByName VolumeRow) (tips : ByName ℕ) → before ≤ now
    → VolumesKept conf before volumes tips → VolumesKept conf now volumes tips
volumes_later conf before now volumes tips later k = record {
  fits = k.fits;
  volume = λ q v is. volume_later conf tips before now q v later (k.volume q v is);
  slots = k.slots;
}

-- what isn't there isn't there after another was taken out
pub still_away : (m : ByNumber BitfileRow) (b q : ℕ) → map.get m q ≡ None → map.get (map.remove m b) q ≡ None
still_away m b q away =
    elim (same_or numbers b q) [
      | inl same ↦ ap (map.get (map.remove m b)) same ∙ removed-here numbers m b
      | inr differ ↦ removed-beside numbers m b q differ ∙ away
    ]

-- who has a place had it before a bitfile was taken out
has_before : (bitfiles : ByNumber BitfileRow) (b : ℕ) (reservations : ByNumber Reserved) (moves : ByNumber Moving)
    (doubt : Option GroupRecord) (o : Owner) (vsn : List ℕ) (place : ℕ)
    → HasPlace (map.remove bitfiles b) reservations moves doubt o vsn place → HasPlace bitfiles reservations moves doubt o vsn place
has_before bitfiles b reservations moves doubt (Live c offset) vsn place has = record {
  row = has.row;
  is = (removed numbers bitfiles b c has.row has.is).1;
  chunk = has.chunk;
  among = has.among;
  at = has.at;
  covers = has.covers;
}
has_before bitfiles b reservations moves doubt (Reserving n offset) vsn place has = has
has_before bitfiles b reservations moves doubt (Target job) vsn place has = has
has_before bitfiles b reservations moves doubt (Doubted zone) vsn place has = has

-- the bitfile is dropping, since a hard delete took it: so no entry needs it
is_dropping : (entries : ByNumber Entry) (taken : ByNumber (Unit {0})) (b : ℕ) (e : Entry)
    → EachRow entries (λ b e. e.dropping ≡ is_some (map.get taken b)) → IsSome (map.get taken b) → map.get entries b ≡ Some e
    → e.dropping ≡ false → ⊥
is_dropping entries taken b e dropping took is lasting = let d = sym lasting ∙ dropping b e is ∙ took in cc

-- what an entry that isn't dropping needs is another one, and stays
still_needed : (entries : ByNumber Entry) (taken : ByNumber (Unit {0})) (bitfiles : ByNumber BitfileRow) (b q : ℕ) (e : Entry)
    → EachRow entries (λ b e. e.dropping ≡ is_some (map.get taken b)) → IsSome (map.get taken b) → map.get entries q ≡ Some e
    → e.dropping ≡ false → IsSome (map.get bitfiles q) → IsSome (map.get (map.remove bitfiles b) q)
still_needed entries taken bitfiles b q e dropping took is lasting there =
    elim (same_or numbers b q) [
      | inl same ↦ absurd (is_dropping entries taken b e dropping took (ap (map.get entries) (sym same) ∙ is) lasting)
      | inr differ ↦ ap is_some (removed-beside numbers bitfiles b q differ) ∙ there
    ]

-- the side keeps the invariant as a bitfile is deleted. What is dropping is what a hard delete took
pub bitfile_deleted : (entries : ByNumber Entry) (contents : ByNumber (List ℕ)) (taken : ByNumber (Unit {0})) (requests : ByNumber OpenRequest)
    (g : ℕ) (committed deleted : ByNumber (Unit {0})) (s : Side) (time : Secs) (b : Bfid)
    → EachRow entries (λ b e. e.dropping ≡ is_some (map.get taken b))
    → GroupMayLand g entries contents taken deleted s (record { time = time; step = Delete b })
    → PlacesKept s.group.tables.bitfiles s.group.reservations s.group.moves (Some (record { time = time; step = Delete b }))
    → SideKept entries contents taken requests g committed deleted s
    → SideKept entries contents taken requests g committed deleted
    (landed_as (group_after_record s.group.tables (record { time = time; step = Delete b })) s.group.tips s.images s)
bitfile_deleted entries contents taken requests g committed deleted s time b dropping may places k =
    let t = s.group.tables in
    let on = stays_still t.volumes s.group.tips s.images in
    let none = places_settled s (Some (record { time = time; step = Delete b })) places in
    let before = has_before t.bitfiles b.0 s.group.reservations s.group.moves None in
    side_as entries contents taken requests g committed committed deleted s
    (group_after_record t (record { time = time; step = Delete b })) s.group.tips s.images
    (record {
      number = refl;
      later = may.follow.time;
      epochs = λ m x is. refl;
      chunks = λ m x is. all_origins_onward t.volumes t.volumes s.group.tips s.group.tips s.images s.images on x.origin;
      pieces = λ n r is p among. on p.vsn.0;
      new = λ n r is. still_away t.bitfiles b.0 r.bfid.0 (k.reservations.reservation n r is).new;
      targets = λ job x is. on x.to.vsn.0;
      reused = λ m x is. on x.vsn.0;
    })
    k
    (record {
      bitfile = each-remove numbers (BitfileKept g entries contents t.volumes s.images) t.bitfiles b.0 k.catalogue.bitfile;
      stored = λ q e is lasting has.
          still_needed entries taken t.bitfiles b.0 q e dropping may.needs is lasting (k.catalogue.stored q e is lasting has);
      commits = λ q u is e there lasting.
          still_needed entries taken t.bitfiles b.0 q e dropping may.needs there lasting (k.catalogue.commits q u is e there lasting);
      commits_made = k.catalogue.commits_made;
      deletes = λ q u is. still_away t.bitfiles b.0 q (k.catalogue.deletes q u is);
      deletes_taken = k.catalogue.deletes_taken;
    })
    (volumes_later s.group.conf t.time.0 time.0 t.volumes s.group.tips may.follow.time k.volumes)
    (λ o p vsn place one two. none o p vsn place (before o vsn place one) (before p vsn place two))
