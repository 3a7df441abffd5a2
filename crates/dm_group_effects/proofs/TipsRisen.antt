-- Tips of volumes rise: a side is kept where they stay within the volumes, and where those of volumes stay that are about to be
-- used again.
use Rattle.std.proofs.Common.{◌≡◌, ℕ, ◌≤◌, true, List, None, Some, refl, sym, subst, arith}
use Rattle.std.specs.FinMap as map
use Rattle.dm_base.specs.declared.conf.GroupConf.{GroupConf}
use Rattle.dm_base.specs.declared.volume.Piece.{Piece}
use Rattle.dm_rules.specs.Numbers.{greater}
use Rattle.dm_tables.proofs.Any.{any-some}
use Rattle.dm_tables.proofs.Orders.{numbers}
use Rattle.dm_durable.specs.declared.daemon.Entry.{Entry}
use Rattle.dm_durable.specs.declared.group.VolumeRow.{VolumeRow}
use Rattle.dm_durable.specs.Tables.{ByName, ByNumber, same_text}
use Rattle.dm_durable.specs.Volumes.{tip_in, tip_or}
use Rattle.dm_model.specs.declared.state.OpenRequest.{OpenRequest}
use Rattle.dm_model.specs.declared.state.Reusing.{Reusing}
use Rattle.dm_model.specs.declared.state.Side.{Side}
use Rattle.dm_model.specs.Volumes.{is_being_reused}
use Rattle.dm_invariant.specs.Kept.{SideKept}
use Rattle.dm_invariant.specs.Moves.{IsReadyAt}
use Rattle.dm_invariant.specs.Reservations.{ZoneInHand}
use Rattle.dm_invariant.specs.Volumes.{VolumeKept}
use Rattle.dm_invariant.proofs.Texts.{same_texts}
use Rattle.dm_effects.proofs.ReuseOpened.{nothing_in_doubt}

-- every tip stays or rises within its volume, and stays where a reuse is open
pub record TipsRise (volumes : ByName VolumeRow) (reuses : ByNumber Reusing) (old new : ByName ℕ) : Type 0 where
  pub grows : (vsn : List ℕ) (v : VolumeRow) → map.get volumes vsn ≡ Some v → tip_in old vsn v ≤ tip_in new vsn v
  pub within : (vsn : List ℕ) (v : VolumeRow) → map.get volumes vsn ≡ Some v → tip_in new vsn v ≤ v.size
  pub stays : (vsn : List ℕ) → is_being_reused reuses vsn ≡ true → map.get new vsn ≡ map.get old vsn

module _ (volumes : ByName VolumeRow) (reuses : ByNumber Reusing) (old new : ByName ℕ) (rise : TipsRise volumes reuses old new) where
  volume_onward : (conf : GroupConf) (now : ℕ) (vsn : List ℕ) (v : VolumeRow) → map.get volumes vsn ≡ Some v
      → VolumeKept conf old now vsn v → VolumeKept conf new now vsn v
  volume_onward conf now vsn v is k =
      let end = k.end in
      let grows = rise.grows vsn v is in
      record {
        configured = k.configured;
        size = k.size;
        slot = k.slot;
        version = k.version;
        epoch = k.epoch;
        last = k.last;
        label = k.label;
        end = omega (arith, end, grows);
        tip = rise.within vsn v is;
        freed = k.freed;
      }

  pub zone_onward : (chunk : ℕ) (p : Piece) → ZoneInHand volumes old chunk p → ZoneInHand volumes new chunk p
  zone_onward chunk p z =
      let more = rise.grows p.vsn.0 z.volume z.is in
      let within = z.within in
      record {
        volume = z.volume;
        is = z.is;
        usable = z.usable;
        version = z.version;
        behind = z.behind;
        within = omega (arith, more, within);
      }

  ready_still : (now hold : ℕ) (m : ℕ) (x : Reusing) (v : VolumeRow) → map.get reuses m ≡ Some x
      → IsReadyAt now hold (tip_in old x.vsn.0 v) v.held → IsReadyAt now hold (tip_in new x.vsn.0 v) v.held
  ready_still now hold m x v is ready =
      let reused = any-some numbers (λ k (y : Reusing). same_text y.vsn.0 x.vsn.0) reuses m x is (same_texts x.vsn.0 x.vsn.0 refl) in
      subst (λ o. IsReadyAt now hold (tip_or o v) v.held) (sym (rise.stays x.vsn.0 reused)) ready

-- the side with these tips
abbrev pub with_tips : ByName ℕ → Side → Side
with_tips tips s = record s { group = record s.group { tips = tips } }

pub side_tips_risen : (entries : ByNumber Entry) (contents : ByNumber (List ℕ)) (taken : ByNumber (Unit {0})) (requests : ByNumber OpenRequest)
    (g : ℕ) (committed deleted : ByNumber (Unit {0})) (s : Side) (new : ByName ℕ)
    → TipsRise s.group.tables.volumes s.group.reuses s.group.tips new → s.group.doubt ≡ None
    → SideKept entries contents taken requests g committed deleted s
    → SideKept entries contents taken requests g committed deleted (with_tips new s)
side_tips_risen entries contents taken requests g committed deleted s new rise settled k =
    let volumes = s.group.tables.volumes in
    let old = s.group.tips in
    record {
      number = k.number;
      catalogue = k.catalogue;
      volumes = record {
        fits = k.volumes.fits;
        volume = λ vsn v is. volume_onward volumes s.group.reuses old new rise s.group.conf s.group.tables.time.0 vsn v is (k.volumes.volume vsn v is);
        slots = k.volumes.slots;
      };
      mounts = k.mounts;
      once = k.once;
      reservations = record {
        numbers = k.reservations.numbers;
        reservation = λ n r is.
            let was = k.reservations.reservation n r is in
            record {
              copy = was.copy;
              is = was.is;
              held = was.held;
              has = was.has;
              number = was.number;
              len = was.len;
              new = was.new;
              some = was.some;
              joins = was.joins;
              zones = λ p among. zone_onward volumes s.group.reuses old new rise r.chunk p (was.zones p among);
              written = was.written;
            };
        copy = k.reservations.copy;
      };
      moves = record {
        numbers = k.moves.numbers;
        moving = λ job x is.
            let was = k.moves.moving job x is in
            let z = was.zone in
            let more = rise.grows x.to.vsn.0 z.volume z.is in
            let within = z.within in
            record {
              source = was.source;
              source_is = was.source_is;
              source_for = was.source_for;
              target = was.target;
              target_is = was.target_is;
              target_for = was.target_for;
              some = was.some;
              moved = was.moved;
              zone = record {
                volume = z.volume;
                is = z.is;
                usable = z.usable;
                same = z.same;
                behind = z.behind;
                within = omega (arith, more, within);
              };
              read = was.read;
              written = was.written;
            };
      };
      reuses = λ m x is.
          let was = k.reuses m x is in
          record {
            mount = was.mount;
            is = was.is;
            same = was.same;
            reading = was.reading;
            made_for = was.made_for;
            volume = was.volume;
            known = was.known;
            next = was.next;
            left = was.left;
            version = was.version;
            ready = ready_still volumes s.group.reuses old new rise (greater was.reading.0 s.group.tables.time.0) s.group.conf.hold m x was.volume is
                was.ready;
          };
      places = k.places;
      doubt = nothing_in_doubt g entries contents taken deleted (with_tips new s) s.group.doubt settled;
    }
