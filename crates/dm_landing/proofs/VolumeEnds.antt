-- Volumes whose ends are raised by chunks that lie before their tips.
use Rattle.std.proofs.Common.{◌≡◌, ℕ, ◌+◌, ◌≤◌, ◌<◌, ◌^◌, List, Option, Some, None, refl, sym, ap, subst, ◌∙◌, arith}
use Rattle.std.specs.FinMap as map
use Rattle.dm_base.specs.Limits.{epoch_limit, volumes_limit}
use Rattle.dm_base.specs.declared.conf.GroupConf.{GroupConf}
use Rattle.dm_base.specs.declared.volume.Chunk.{Chunk}
use Rattle.dm_rules.specs.Numbers.{as_word}
use Rattle.dm_rules.specs.Version.{IsVersion, has_sum}
use Rattle.dm_durable.specs.declared.group.VolumeRow.{VolumeRow}
use Rattle.dm_durable.specs.Group.{with_ends_behind}
use Rattle.dm_durable.specs.GroupConditions.{LiesOn}
use Rattle.dm_durable.specs.Limits.{IsPast}
use Rattle.dm_durable.specs.Tables.{ByName}
use Rattle.dm_durable.specs.Volumes.{tip_in, tip_or}
use Rattle.dm_model.specs.declared.state.Image.{Image}
use Rattle.dm_invariant.specs.Among.{IsAmong}
use Rattle.dm_invariant.specs.Catalogue.{LiesBefore}
use Rattle.dm_invariant.specs.Volumes.{VolumeKept, VolumesKept}
use Rattle.dm_invariant.proofs.Times.{still_past}
use Rattle.dm_landing.proofs.VolumeEndsRaised.{Raised, raised_by, raised_from}
use Rattle.dm_landing.proofs.VolumesOnward.{OnwardAt}

-- an end that was raised to the tip at most lies no higher than the tip
end_up : (tip : Option ℕ) (v w : VolumeRow) → w.end ≤ tip_or tip v → w.end ≤ tip_or tip w
end_up None v w up = omega arith
end_up (Some t) v w up = up

-- and leaves the tip where it is
tip_same : (tip : Option ℕ) (v w : VolumeRow) → v.end ≤ w.end → w.end ≤ tip_or tip v → tip_or tip w ≡ tip_or tip v
tip_same None v w low up = omega (arith, low, up)
tip_same (Some t) v w low up = refl

-- a place of 64 bits, as 64 bits hold it
narrow_small : (n size end : ℕ) → n ≤ size → size < 2 ^ 64 → as_word n ≤ end → n ≤ end
narrow_small n size end within small narrow = omega (arith, within, small, narrow)

-- the size of a configured volume is one
pub size_small : (conf : GroupConf) (before : ℕ) (volumes : ByName VolumeRow) (tips : ByName ℕ) → VolumesKept conf before volumes tips
    → conf.size < 2 ^ 64
size_small conf before volumes tips k = let most = k.fits.sized.most in omega (arith, most)

-- each chunk ends before the tip of its volume
abbrev pub Below : ByName VolumeRow → ByName ℕ → List Chunk → Type 0
Below volumes tips chunks =
    (c : Chunk) (v : VolumeRow) → IsAmong c chunks → map.get volumes c.vsn.0 ≡ Some v → c.place + c.len ≤ tip_in tips c.vsn.0 v

-- an end is raised up to the tip at most
end_below : (volumes : ByName VolumeRow) (tips : ByName ℕ) (chunks : List Chunk) (vsn : List ℕ) (v w : VolumeRow) → Below volumes tips chunks
    → map.get volumes vsn ≡ Some v
    → v.end ≤ tip_in tips vsn v → Raised chunks vsn v w → w.end ≤ tip_in tips vsn v
end_below volumes tips chunks vsn v w below is end r =
    r.below (tip_in tips vsn v) end (λ c among at.
    let low = below c v among (ap (map.get volumes) at ∙ is) in
    let there : c.place + c.len ≤ tip_in tips vsn v = subst (λ x. c.place + c.len ≤ tip_in tips x v) at low in
    omega (arith, there))

module _ (conf : GroupConf) (before : ℕ) (volumes : ByName VolumeRow) (tips : ByName ℕ) (images : ByName Image) (chunks : List Chunk)
    (below : Below volumes tips chunks) (k : VolumesKept conf before volumes tips) where
  abbrev raised : ByName VolumeRow
  raised = with_ends_behind chunks volumes

  -- each volume stays, but that it is written further
  pub stays_raised : (q : List ℕ) → OnwardAt volumes raised tips tips images images q
  stays_raised q = λ v is.
      let r = raised_by chunks volumes q v is in
      let up = end_below volumes tips chunks q v r.0 below is (k.volume q v is).end r.2 in (
        r.0,
        r.1,
        record {
          held = r.2.held;
          version = r.2.version;
          epoch = r.2.epoch;
          low = r.2.low;
          tip = tip_same (map.get tips q) v r.0 r.2.low up;
          known = refl;
        },
      )

  -- a chunk that raises ends lies before the one that it raised
  pub lies_raised : (c : Chunk) → IsAmong c chunks → LiesOn volumes c → LiesBefore raised c
  lies_raised c among l =
      let r = raised_by chunks volumes c.vsn.0 l.volume l.is in
      let sized = (k.volume c.vsn.0 l.volume l.is).size in
      let small = subst (λ n. n < 2 ^ 64) (sym sized) (size_small conf before volumes tips k) in
      record {
        volume = r.0;
        is = r.1;
        usable = r.2.held ∙ l.usable;
        behind = l.behind;
        within = narrow_small (c.place + c.len) l.volume.size r.0.end l.within small (r.2.reaches c among refl);
        sum = l.sum ∙ sym (ap has_sum r.2.version);
      }

  volume_raised : (now : ℕ) (vsn : List ℕ) (v w : VolumeRow) → before ≤ now → map.get volumes vsn ≡ Some v
      → Raised chunks vsn v w → VolumeKept conf tips before vsn v → VolumeKept conf tips now vsn w
  volume_raised now vsn v w later is r old =
      let up = end_below volumes tips chunks vsn v w below is old.end r in
      let same = tip_same (map.get tips vsn) v w r.low up in
      let tip = old.tip in
      let label = old.label in
      let low = r.low in
      let size = r.size in
      record {
        configured = old.configured;
        size = r.size ∙ old.size;
        slot = subst (λ n. n < volumes_limit) (sym r.slot) old.slot;
        version = subst (λ n. IsVersion n) (sym r.version) old.version;
        epoch = subst (λ n. 1 ≤ n) (sym r.epoch) old.epoch;
        last = subst (λ n. n ≤ epoch_limit) (sym r.epoch) old.last;
        label = omega (arith, label, low);
        end = end_up (map.get tips vsn) v w up;
        tip = omega (arith, same, tip, size);
        freed = subst (λ h. IsPast now h) (sym r.held) (still_past before now v.held later old.freed);
      }

  pub volumes_raised : (now : ℕ) → before ≤ now → VolumesKept conf now raised tips
  volumes_raised now later = record {
    fits = k.fits;
    volume = λ vsn w e.
        let r = raised_from chunks volumes vsn w e in
        volume_raised now vsn r.0 w later r.1 r.2 (k.volume vsn r.0 r.1);
    slots = λ v w x y e f same.
        let r = raised_from chunks volumes v x e in
        let q = raised_from chunks volumes w y f in
        k.slots v w r.0 q.0 r.1 q.1 (sym r.2.slot ∙ same ∙ q.2.slot);
  }
