-- The tips of volumes as the pieces of a reservation are laid out, and as a moved chunk gets a zone.
use Rattle.std.proofs.Common.{◌≡◌, ◌≢◌, inl, inr, ℕ, ◌+◌, ◌<◌, ◌≤◌, Bool, true, false, cond, Some, None, List, [], ◌∷◌, refl, sym, ap, subst, ◌∙◌, arith}
use Rattle.std.specs.FinMap as map
use Rattle.dm_base.specs.declared.volume.Piece.{Piece}
use Rattle.dm_rules.specs.declared.space.Space.{Space}
use Rattle.dm_rules.specs.Numbers.{last_u64, as_word}
use Rattle.dm_rules.specs.Plan.{pieces_of, zone_end}
use Rattle.dm_rules.specs.Room.{room}
use Rattle.dm_rules.specs.Zone.{weight, zone_length}
use Rattle.dm_tables.specs.Rows.{EachRow}
use Rattle.dm_tables.proofs.Orders.{paths, same_or}
use Rattle.dm_tables.proofs.Rows.{one_row, get-here, get-beside}
use Rattle.dm_durable.specs.Tables.{ByName, ByNumber}
use Rattle.dm_durable.specs.declared.group.VolumeRow.{VolumeRow}
use Rattle.dm_durable.specs.Volumes.{Usage, spaces, tip_in, tip_or}
use Rattle.dm_model.specs.declared.state.Group.{Group}
use Rattle.dm_model.specs.declared.state.Reusing.{Reusing}
use Rattle.dm_model.specs.GroupShare.{tips_behind}
use Rattle.dm_model.specs.Volumes.{usage_of}
use Rattle.dm_invariant.specs.Among.{IsAmong}
use Rattle.dm_invariant.specs.Volumes.{VolumesKept}
use Rattle.dm_group_effects.proofs.Spaces.{PieceFrom, SpaceOf, one_on_volume, pieces_from, spaces_apart, spaces_are, zone_fits, zone_longer}
use Rattle.dm_group_effects.proofs.TipsRisen.{TipsRise}

-- ---- a zone from the tip of a volume

-- bytes for which there is room
room_taken : (reused : Bool) (n r : ℕ) → 0 < n → n ≤ cond reused 0 r → (reused ≡ false) × (n ≤ r)
room_taken true n r some fits = absurd (omega (arith, some, fits))
room_taken false n r some fits = (refl, fits)

-- a zone that is laid out on a volume that isn't held, nor about to be used again: from its tip, within its size
pub record NewZone (u : Usage) (volumes : ByName VolumeRow) (vsn : List ℕ) (version zone end : ℕ) : Type 0 where
  pub volume : VolumeRow
  pub is : map.get volumes vsn ≡ Some volume
  pub usable : volume.held ≡ None
  pub same : version ≡ volume.version
  pub from : zone ≡ tip_in u.tips vsn volume
  pub longer : zone ≤ end
  pub within : end ≤ volume.size
  pub free : u.reused vsn ≡ false

-- the bounds of tips
abbrev pub TipsFit : ByName VolumeRow → ByName ℕ → Type 0
TipsFit volumes tips = (vsn : List ℕ) (v : VolumeRow) → map.get volumes vsn ≡ Some v → tip_in tips vsn v ≤ v.size

-- one on a space for which that has room
pub new_zone : (u : Usage) (volumes : ByName VolumeRow) (sp : Space) (n : ℕ) → 0 < u.chunk → TipsFit volumes u.tips → SpaceOf u volumes sp → 0 < n
    → n ≤ sp.room → NewZone u volumes sp.vsn.0 sp.version sp.tip (sp.tip + zone_length sp.version u.chunk n)
new_zone u volumes sp n positive bound of some room_for =
    let v = of.volume in
    let taken =
    room_taken (u.reused sp.vsn.0) n (room v.version v.size (tip_in u.tips sp.vsn.0 v) u.chunk) some (subst (λ r. n ≤ r) of.fits room_for) in
    let len : n ≤ room v.version v.size sp.tip u.chunk = subst (λ t. n ≤ room v.version v.size t u.chunk) (sym of.tip) taken.1 in
    let bounded = bound sp.vsn.0 v of.is in
    let tip = of.tip in
    let fits : sp.tip + zone_length v.version u.chunk n ≤ v.size =
    zone_fits v.version v.size sp.tip u.chunk n positive (omega (arith, tip, bounded)) some len in
    record {
      volume = v;
      is = of.is;
      usable = of.usable;
      same = of.version;
      from = of.tip;
      longer = omega arith;
      within = subst (λ x. sp.tip + zone_length x u.chunk n ≤ v.size) (sym of.version) fits;
      free = taken.0;
    }

-- so is the zone of a chunk alone
pub new_target : (u : Usage) (volumes : ByName VolumeRow) (sp : Space) (n : ℕ) → 0 < u.chunk → TipsFit volumes u.tips → SpaceOf u volumes sp → 0 < n
    → n ≤ sp.room → NewZone u volumes sp.vsn.0 sp.version sp.tip (sp.tip + weight sp.version n)
new_target u volumes sp n positive bound of some room_for =
    let z = new_zone u volumes sp n positive bound of some room_for in
    let less = zone_longer sp.version u.chunk n positive some in
    let within = z.within in
    record {
      volume = z.volume;
      is = z.is;
      usable = z.usable;
      same = z.same;
      from = z.from;
      longer = omega arith;
      within = omega (arith, less, within);
      free = z.free;
    }

-- the zone of a piece
abbrev pub NewPiece : Usage → ByName VolumeRow → Piece → Type 0
NewPiece u volumes p = NewZone u volumes p.vsn.0 p.version p.zone (zone_end u.chunk p)

new_piece : (u : Usage) (volumes : ByName VolumeRow) (sps : List Space) (p : Piece) → 0 < u.chunk → TipsFit volumes u.tips → (f : PieceFrom sps p)
    → SpaceOf u volumes f.space → NewPiece u volumes p
new_piece u volumes sps p positive bound f of =
    let z = new_zone u volumes f.space p.len positive bound of f.some f.fits in
    let at : f.space.vsn.0 ≡ p.vsn.0 = sym (ap (λ v. v.0) f.vsn) in
    let one = subst (λ q. NewZone u volumes q f.space.version f.space.tip (f.space.tip + zone_length f.space.version u.chunk p.len)) at z in
    let two = subst (λ t. NewZone u volumes p.vsn.0 f.space.version t (t + zone_length f.space.version u.chunk p.len)) (sym f.zone) one in
    subst (λ x. NewZone u volumes p.vsn.0 x p.zone (p.zone + zone_length x u.chunk p.len)) (sym f.version) two

-- ---- tips

-- the tip of a volume after pieces have moved the tips: behind the zone of one of the pieces on it, or as before
data Moved (chunk : ℕ) (ps : List Piece) (tips : ByName ℕ) (vsn : List ℕ) : Type 0 where
  Behind : (p : Piece) → IsAmong p ps → p.vsn.0 ≡ vsn → map.get (tips_behind chunk ps tips) vsn ≡ Some (as_word (zone_end chunk p))
      → Moved chunk ps tips vsn
  Unmoved : ((p : Piece) → IsAmong p ps → p.vsn.0 ≡ vsn → ⊥) → map.get (tips_behind chunk ps tips) vsn ≡ map.get tips vsn → Moved chunk ps tips vsn

none_of_two : (q : Piece) (ps : List Piece) (vsn : List ℕ) → vsn ≢ q.vsn.0 → ((p : Piece) → IsAmong p ps → p.vsn.0 ≡ vsn → ⊥) → (p : Piece)
    → IsAmong p (q ∷ ps) → p.vsn.0 ≡ vsn → ⊥
none_of_two q ps vsn differ none p (inl same) at = differ (sym at ∙ ap (λ (x : Piece). x.vsn.0) same)
none_of_two q ps vsn differ none p (inr a) at = none p a at

-- which of the two it is
moved : (chunk : ℕ) (ps : List Piece) (tips : ByName ℕ) (vsn : List ℕ) → Moved chunk ps tips vsn
moved chunk [] tips vsn = Unmoved (λ p a at. a) refl
moved chunk (q ∷ ps) tips vsn =
    let e = as_word (zone_end chunk q) in
    elim (moved chunk ps (map.insert tips q.vsn.0 e) vsn) [
      | Behind p a at is ↦ Behind p (inr a) at is
      | Unmoved none is ↦ elim (same_or paths q.vsn.0 vsn) [
        | inl same ↦ Behind q (inl refl) (sym same) (is ∙ ap (map.get (map.insert tips q.vsn.0 e)) same ∙ get-here paths tips q.vsn.0 e)
        | inr differ ↦ Unmoved (none_of_two q ps vsn differ none) (is ∙ get-beside paths tips q.vsn.0 e vsn differ)
      ]
    ]

-- where pieces were laid out: each has a zone from the old tip of its volume up to the new one, no two are on one volume,
-- and tips rise
pub record LaidOut (u : Usage) (volumes : ByName VolumeRow) (reuses : ByNumber Reusing) (new : ByName ℕ) (ps : List Piece) : Type 0 where
  pub zones : (p : Piece) → IsAmong p ps → NewPiece u volumes p
  pub reserved : (p : Piece) (v : VolumeRow) → IsAmong p ps → map.get volumes p.vsn.0 ≡ Some v → zone_end u.chunk p ≤ tip_in new p.vsn.0 v
  pub apart : (p q : Piece) → IsAmong p ps → IsAmong q ps → p.vsn.0 ≡ q.vsn.0 → p ≡ q
  pub rise : TipsRise volumes reuses u.tips new

-- a tip that is put behind a new zone
pub record TipBehind (u : Usage) (new : ByName ℕ) (vsn : List ℕ) (end : ℕ) (v : VolumeRow) : Type 0 where
  pub tip : tip_in new vsn v ≡ end
  pub grows : tip_in u.tips vsn v ≤ tip_in new vsn v
  pub within : tip_in new vsn v ≤ v.size

pub tip_behind : (u : Usage) (volumes : ByName VolumeRow) (new : ByName ℕ) (vsn : List ℕ) (version zone end : ℕ) (v : VolumeRow)
    → map.get volumes vsn ≡ Some v → v.size ≤ last_u64 → NewZone u volumes vsn version zone end → map.get new vsn ≡ Some (as_word end)
    → TipBehind u new vsn end v
tip_behind u volumes new vsn version zone end v e small z is =
    let same : z.volume ≡ v = one_row volumes vsn vsn z.volume v refl z.is e in
    let size : z.volume.size ≡ v.size = ap (λ (w : VolumeRow). w.size) same in
    let from : zone ≡ tip_in u.tips vsn v = z.from ∙ ap (λ (w : VolumeRow). tip_in u.tips vsn w) same in
    let longer = z.longer in
    let within = z.within in
    let put : tip_in new vsn v ≡ as_word end = ap (λ t. tip_or t v) is in
    let tip : tip_in new vsn v ≡ end = omega (arith, put, within, size, small) in
    record { tip = tip; grows = omega (arith, tip, from, longer); within = omega (arith, tip, within, size) }

module _ (u : Usage) (volumes : ByName VolumeRow) (ps : List Piece) (small : EachRow volumes (λ vsn v. v.size ≤ last_u64))
    (bound : TipsFit volumes u.tips) (zones : (p : Piece) → IsAmong p ps → NewPiece u volumes p)
    (apart : (p q : Piece) → IsAmong p ps → IsAmong q ps → p.vsn.0 ≡ q.vsn.0 → p ≡ q) where
  abbrev new_tips : ByName ℕ
  new_tips = tips_behind u.chunk ps u.tips

  piece_behind : (p : Piece) (vsn : List ℕ) (v : VolumeRow) → map.get volumes vsn ≡ Some v → IsAmong p ps → p.vsn.0 ≡ vsn
      → map.get new_tips vsn ≡ Some (as_word (zone_end u.chunk p)) → TipBehind u new_tips vsn (zone_end u.chunk p) v
  piece_behind p vsn v e among at is =
      tip_behind u volumes new_tips vsn p.version p.zone (zone_end u.chunk p) v e (small vsn v e)
      (subst (λ q. NewZone u volumes q p.version p.zone (zone_end u.chunk p)) at (zones p among)) is

  grown : (vsn : List ℕ) (v : VolumeRow) → map.get volumes vsn ≡ Some v → Moved u.chunk ps u.tips vsn → tip_in u.tips vsn v ≤ tip_in new_tips vsn v
  grown vsn v e (Behind p a at is) = (piece_behind p vsn v e a at is).grows
  grown vsn v e (Unmoved none is) =
      let same : tip_in new_tips vsn v ≡ tip_in u.tips vsn v = ap (λ t. tip_or t v) is in omega (arith, same)

  bounded : (vsn : List ℕ) (v : VolumeRow) → map.get volumes vsn ≡ Some v → Moved u.chunk ps u.tips vsn → tip_in new_tips vsn v ≤ v.size
  bounded vsn v e (Behind p a at is) = (piece_behind p vsn v e a at is).within
  bounded vsn v e (Unmoved none is) =
      let same : tip_in new_tips vsn v ≡ tip_in u.tips vsn v = ap (λ t. tip_or t v) is in
      let low = bound vsn v e in
      omega (arith, same, low)

  stayed : (vsn : List ℕ) → u.reused vsn ≡ true → Moved u.chunk ps u.tips vsn → map.get new_tips vsn ≡ map.get u.tips vsn
  stayed vsn reused (Behind p a at is) =
      let free = ap u.reused (sym at) ∙ (zones p a).free in
      absurd (cc)
  stayed vsn reused (Unmoved none is) = is

  -- the tip of a volume on which a piece was laid out lies behind its zone
  reaches : (p : Piece) (v : VolumeRow) → IsAmong p ps → map.get volumes p.vsn.0 ≡ Some v → Moved u.chunk ps u.tips p.vsn.0
      → zone_end u.chunk p ≤ tip_in new_tips p.vsn.0 v
  reaches p v among e (Behind q a at is) =
      let tip = (piece_behind q p.vsn.0 v e a at is).tip in
      let same : zone_end u.chunk q ≡ zone_end u.chunk p = ap (zone_end u.chunk) (apart q p a among at) in
      omega (arith, tip, same)
  reaches p v among e (Unmoved none is) = absurd (none p among refl)

-- the pieces of a bitfile on the spaces of a group are laid out
pub laid_out : (group : Group) (time : ℕ) (len : ℕ) → VolumesKept group.conf time group.tables.volumes group.tips
    → LaidOut (usage_of group) group.tables.volumes group.reuses
    (tips_behind group.conf.chunk (pieces_of (spaces (usage_of group) group.tables.volumes) 0 len) group.tips)
    (pieces_of (spaces (usage_of group) group.tables.volumes) 0 len)
laid_out group time len kept =
    let u = usage_of group in
    let volumes = group.tables.volumes in
    let sps = spaces u volumes in
    let ps = pieces_of sps 0 len in
    let size = kept.fits.sized.most in
    let small : EachRow volumes (λ vsn v. v.size ≤ last_u64) = λ vsn v e. let same = (kept.volume vsn v e).size in omega (arith, same, size) in
    let bound : TipsFit volumes u.tips = λ vsn v e. (kept.volume vsn v e).tip in
    let zones : (p : Piece) → IsAmong p ps → NewPiece u volumes p = λ p a.
    let f = pieces_from sps 0 len p a in
    new_piece u volumes sps p kept.fits.chunk bound f (spaces_are u volumes f.space f.among) in
    let apart : (p q : Piece) → IsAmong p ps → IsAmong q ps → p.vsn.0 ≡ q.vsn.0 → p ≡ q = λ p q a b same.
    one_on_volume sps 0 len p q (spaces_apart u volumes) a b same in
    record {
      zones = zones;
      reserved = λ p v a e. reaches u volumes ps small bound zones apart p v a e (moved u.chunk ps u.tips p.vsn.0);
      apart = apart;
      rise = record {
        grows = λ vsn v e. grown u volumes ps small bound zones apart vsn v e (moved u.chunk ps u.tips vsn);
        within = λ vsn v e. bounded u volumes ps small bound zones apart vsn v e (moved u.chunk ps u.tips vsn);
        stays = λ vsn reused. stayed u volumes ps small bound zones apart vsn reused (moved u.chunk ps u.tips vsn);
      };
    }

-- ---- the tip behind one zone

-- a tip that rises behind one new zone
pub one_risen : (group : Group) (time : ℕ) (vsn : List ℕ) (version zone end : ℕ) → VolumesKept group.conf time group.tables.volumes group.tips
    → NewZone (usage_of group) group.tables.volumes vsn version zone end
    → TipsRise group.tables.volumes group.reuses group.tips (map.insert group.tips vsn (as_word end))
one_risen group time vsn version zone end kept z =
    let u = usage_of group in
    let volumes = group.tables.volumes in
    let new = map.insert group.tips vsn (as_word end) in
    let size = kept.fits.sized.most in
    let here = get-here paths group.tips vsn (as_word end) in
    let behind : (v : VolumeRow) → map.get volumes vsn ≡ Some v → TipBehind u new vsn end v = λ v e.
    let same = (kept.volume vsn v e).size in
    tip_behind u volumes new vsn version zone end v e (omega (arith, same, size)) z here in
    record {
      grows = λ q v e. elim (same_or paths vsn q) [
        | inl at ↦ subst (λ k. tip_in group.tips k v ≤ tip_in new k v) (sym at) (behind v (ap (map.get volumes) (sym at) ∙ e)).grows
        | inr differ ↦
            let same : tip_in new q v ≡ tip_in group.tips q v = ap (λ t. tip_or t v) (get-beside paths group.tips vsn (as_word end) q differ) in
            omega (arith, same)
      ];
      within = λ q v e. elim (same_or paths vsn q) [
        | inl at ↦ subst (λ k. tip_in new k v ≤ v.size) (sym at) (behind v (ap (map.get volumes) (sym at) ∙ e)).within
        | inr differ ↦
            let same : tip_in new q v ≡ tip_in group.tips q v = ap (λ t. tip_or t v) (get-beside paths group.tips vsn (as_word end) q differ) in
            let low = (kept.volume q v e).tip in
            omega (arith, same, low)
      ];
      stays = λ q reused. get-beside paths group.tips vsn (as_word end) q (λ at. let free = ap u.reused at ∙ z.free in absurd (cc));
    }

-- and reaches it
pub one_reaches : (group : Group) (time : ℕ) (vsn : List ℕ) (version zone end : ℕ) → VolumesKept group.conf time group.tables.volumes group.tips
    → (z : NewZone (usage_of group) group.tables.volumes vsn version zone end)
    → end ≤ tip_in (map.insert group.tips vsn (as_word end)) vsn z.volume
one_reaches group time vsn version zone end kept z =
    let size = kept.fits.sized.most in
    let same = (kept.volume vsn z.volume z.is).size in
    let b = tip_behind (usage_of group) group.tables.volumes (map.insert group.tips vsn (as_word end)) vsn version zone end z.volume z.is
    (omega (arith, same, size)) z (get-here paths group.tips vsn (as_word end)) in
    let tip = b.tip in
    omega (arith, tip)
