-- What each part of a plan keeps of a group's side is kept of all sides by each event.
use Rattle.std.proofs.Common.{◌≡◌, ℕ, Bool, true, cond, Option, None, Some, []}
use Rattle.std.specs.FinMap as map
use Rattle.dm_base.specs.declared.identifier.GroupId.{GroupId}
use Rattle.dm_tables.specs.Rows.{EachRow, adjust}
use Rattle.dm_tables.proofs.Orders.{numbers}
use Rattle.dm_tables.proofs.Adjusted.{each-adjust, each-map}
use Rattle.dm_durable.specs.declared.group.GroupRecord.{GroupRecord}
use Rattle.dm_model.specs.declared.call.Component.{Component}
use Rattle.dm_model.specs.declared.plan.Ending.{Ending}
use Rattle.dm_model.specs.declared.plan.Mark.{Mark}
use Rattle.dm_model.specs.declared.plan.Mark.TheVariants as mark
use Rattle.dm_model.specs.declared.plan.Opening.{Opening}
use Rattle.dm_model.specs.declared.plan.Opening.TheVariants as opening
use Rattle.dm_model.specs.declared.plan.Payload.{Payload}
use Rattle.dm_model.specs.declared.plan.Payload.TheVariants as payload
use Rattle.dm_model.specs.declared.plan.Prepared.{Prepared}
use Rattle.dm_model.specs.declared.state.Joint.{Joint}
use Rattle.dm_model.specs.declared.state.Side.{Side}
use Rattle.dm_model.specs.Effects.{after_ending, after_failed_mark, after_healing, after_mark, after_opening, after_payload, joint_with_doubt}
use Rattle.dm_model.specs.Effects.{groups_of_component, groups_of_ending}
use Rattle.dm_model.specs.SideShare.{side_after_ending, side_after_failed_mark, side_after_mark, side_after_opening, side_after_payload, side_after_stop}
use Rattle.dm_model.specs.SideShare.{side_doubting, side_without_doubt}
use Rattle.dm_model.specs.Step.{after_call, after_fault, after_landing, after_stop}
use Rattle.dm_effects.proofs.PutEnded.{each_at_each}

-- what is kept of a side; and what a record that is journalled, a mark that is left or fails, and what is made need for that
module _ (P : ℕ → Side → Type 0) (Pays : ℕ → Side → GroupRecord → Type 0) (Marks : ℕ → Side → Mark → Type 0) (Opens : ℕ → Side → Opening → Type 0)
    (ended : (g : ℕ) (s : Side) (e : Ending) → P g s → P g (side_after_ending e s))
    (settled : (g : ℕ) (s : Side) (heals : Bool) → P g s → P g (side_without_doubt heals s))
    (paid : (g : GroupId) (s : Side) (r : GroupRecord) → Pays g.0 s r → P g.0 s → P g.0 (side_after_payload (Some (payload.Group g r)) s))
    (doubted : (g : GroupId) (s : Side) (r : GroupRecord) → P g.0 s → P g.0 (side_doubting (Some (payload.Group g r)) s))
    (marked : (g : ℕ) (s : Side) (x : Mark) → Marks g s x → P g s → P g (side_after_mark x s))
    (failed : (g : ℕ) (s : Side) (x : Mark) → Marks g s x → P g s → P g (side_after_failed_mark x s))
    (opened : (g : ℕ) (s : Side) (o : Opening) → Opens g s o → P g s → P g (side_after_opening o s)) where
  abbrev pub All : Joint → Type 0
  All j = EachRow j.sides P

  all_ended : (w : ℕ) (e : Ending) (j : Joint) → All j → All (after_ending w e j)
  all_ended w e j all = each_at_each P (side_after_ending e) (groups_of_ending e) j.sides (λ g s p. ended g s e p) all

  all_settled : (heals : Bool) (c : Component) (j : Joint) → All j → All (after_healing heals c j)
  all_settled heals c j all =
      each_at_each P (side_without_doubt heals) (cond heals (groups_of_component c) []) j.sides (λ g s p. settled g s heals p) all

  -- what a payload needs of the side that it is of, and a mark and what is made of theirs
  abbrev pub PaysIf : Joint → Option Payload → Type 0
  PaysIf j None = Unit {0}
  PaysIf j (Some (payload.Daemon r)) = Unit {0}
  PaysIf j (Some (payload.Group g r)) = (s : Side) → map.get j.sides g.0 ≡ Some s → Pays g.0 s r

  abbrev pub MarksIf : Joint → Mark → Type 0
  MarksIf j mark.Nothing = Unit {0}
  MarksIf j (mark.Zone g vsn place zone b index epoch) =
      (s : Side) → map.get j.sides g.0 ≡ Some s → Marks g.0 s (mark.Zone g vsn place zone b index epoch)
  MarksIf j (mark.Target g vsn m place zone) = (s : Side) → map.get j.sides g.0 ≡ Some s → Marks g.0 s (mark.Target g vsn m place zone)
  MarksIf j (mark.Label g vsn m epoch version text) =
      (s : Side) → map.get j.sides g.0 ≡ Some s → Marks g.0 s (mark.Label g vsn m epoch version text)
  MarksIf j (mark.Read g b offset bytes) = Unit {0}
  MarksIf j (mark.Source g m bytes) = (s : Side) → map.get j.sides g.0 ≡ Some s → Marks g.0 s (mark.Source g m bytes)
  MarksIf j (mark.Deleted g b) = Unit {0}

  abbrev pub OpensIf : Joint → Opening → Type 0
  OpensIf j opening.Nothing = Unit {0}
  OpensIf j (opening.Put k r len groups) = (g : ℕ) (s : Side) → Opens g s (opening.Put k r len groups)
  OpensIf j (opening.Recall k r recall) = Unit {0}
  OpensIf j (opening.Reservation g n r) = (s : Side) → map.get j.sides g.0 ≡ Some s → P g.0 s → Opens g.0 s (opening.Reservation g n r)
  OpensIf j (opening.Mount g m vsn epoch made) =
      (s : Side) → map.get j.sides g.0 ≡ Some s → P g.0 s → Opens g.0 s (opening.Mount g m vsn epoch made)
  OpensIf j (opening.Move g job x source_epoch target_epoch) =
      (s : Side) → map.get j.sides g.0 ≡ Some s → P g.0 s → Opens g.0 s (opening.Move g job x source_epoch target_epoch)
  OpensIf j (opening.Reuse g m epoch x reading) =
      (s : Side) → map.get j.sides g.0 ≡ Some s → P g.0 s → Opens g.0 s (opening.Reuse g m epoch x reading)

  all_paid : (j : Joint) (p : Option Payload) → PaysIf j p → All j → All (after_payload p j)
  all_paid j None pays all = all
  all_paid j (Some (payload.Daemon r)) pays all = all
  all_paid j (Some (payload.Group g r)) pays all =
      each-adjust numbers P j.sides g.0 (side_after_payload (Some (payload.Group g r))) (λ s is. paid g s r (pays s is) (all g.0 s is)) all

  mark_at : (j : Joint) (g : GroupId) (x : Mark) → ((s : Side) → map.get j.sides g.0 ≡ Some s → Marks g.0 s x) → All j
      → EachRow (adjust j.sides g.0 (side_after_mark x)) P
  mark_at j g x marks all = each-adjust numbers P j.sides g.0 (side_after_mark x) (λ s is. marked g.0 s x (marks s is) (all g.0 s is)) all

  all_marked : (w : ℕ) (x : Mark) (j : Joint) → MarksIf j x → All j → All (after_mark w x j)
  all_marked w mark.Nothing j marks all = all
  all_marked w (mark.Zone g vsn place zone b index epoch) j marks all = mark_at j g (mark.Zone g vsn place zone b index epoch) marks all
  all_marked w (mark.Target g vsn m place zone) j marks all = mark_at j g (mark.Target g vsn m place zone) marks all
  all_marked w (mark.Label g vsn m epoch version text) j marks all = mark_at j g (mark.Label g vsn m epoch version text) marks all
  all_marked w (mark.Read g b offset bytes) j marks all = all
  all_marked w (mark.Source g m bytes) j marks all = mark_at j g (mark.Source g m bytes) marks all
  all_marked w (mark.Deleted g b) j marks all = all

  fail_at : (j : Joint) (g : GroupId) (x : Mark) → ((s : Side) → map.get j.sides g.0 ≡ Some s → Marks g.0 s x) → All j
      → EachRow (adjust j.sides g.0 (side_after_failed_mark x)) P
  fail_at j g x marks all = each-adjust numbers P j.sides g.0 (side_after_failed_mark x) (λ s is. failed g.0 s x (marks s is) (all g.0 s is)) all

  all_failed : (x : Mark) (j : Joint) → MarksIf j x → All j → All (after_failed_mark x j)
  all_failed mark.Nothing j marks all = all
  all_failed (mark.Zone g vsn place zone b index epoch) j marks all = fail_at j g (mark.Zone g vsn place zone b index epoch) marks all
  all_failed (mark.Target g vsn m place zone) j marks all = fail_at j g (mark.Target g vsn m place zone) marks all
  all_failed (mark.Label g vsn m epoch version text) j marks all = fail_at j g (mark.Label g vsn m epoch version text) marks all
  all_failed (mark.Read g b offset bytes) j marks all = all
  all_failed (mark.Source g m bytes) j marks all = fail_at j g (mark.Source g m bytes) marks all
  all_failed (mark.Deleted g b) j marks all = all

  open_at : (j : Joint) (g : GroupId) (o : Opening) → ((s : Side) → map.get j.sides g.0 ≡ Some s → P g.0 s → Opens g.0 s o) → All j
      → EachRow (adjust j.sides g.0 (side_after_opening o)) P
  open_at j g o opens all =
      each-adjust numbers P j.sides g.0 (side_after_opening o) (λ s is. opened g.0 s o (opens s is (all g.0 s is)) (all g.0 s is)) all

  all_opened : (w : ℕ) (o : Opening) (j : Joint) → OpensIf j o → All j → All (after_opening w o j)
  all_opened w opening.Nothing j opens all = all
  all_opened w (opening.Put k r len groups) j opens all =
      each_at_each P (side_after_opening (opening.Put k r len groups)) groups j.sides
      (λ g s p. opened g s (opening.Put k r len groups) (opens g s) p) all
  all_opened w (opening.Recall k r recall) j opens all = all
  all_opened w (opening.Reservation g n r) j opens all = open_at j g (opening.Reservation g n r) opens all
  all_opened w (opening.Mount g m vsn epoch made) j opens all = open_at j g (opening.Mount g m vsn epoch made) opens all
  all_opened w (opening.Move g job x source_epoch target_epoch) j opens all = open_at j g (opening.Move g job x source_epoch target_epoch) opens all
  all_opened w (opening.Reuse g m epoch x reading) j opens all = open_at j g (opening.Reuse g m epoch x reading) opens all

  all_doubted : (j : Joint) (p : Option Payload) → All j → All (joint_with_doubt p j)
  all_doubted j None all = all
  all_doubted j (Some (payload.Daemon r)) all = all
  all_doubted j (Some (payload.Group g r)) all =
      each-adjust numbers P j.sides g.0 (side_doubting (Some (payload.Group g r))) (λ s is. doubted g s r (all g.0 s is)) all

  -- a call that is answered, one that fails, and a step in doubt that lands
  pub all_called : (w : ℕ) (p : Prepared) (j : Joint) → PaysIf (after_healing p.heals p.component (after_ending w p.ends j)) p.payload
      → MarksIf (after_payload p.payload (after_healing p.heals p.component (after_ending w p.ends j))) p.mark
      → OpensIf (after_mark w p.mark (after_payload p.payload (after_healing p.heals p.component (after_ending w p.ends j)))) p.opens
      → All j → All (after_call w p j)
  all_called w p j pays marks opens all =
      let healed = after_healing p.heals p.component (after_ending w p.ends j) in
      all_opened w p.opens (after_mark w p.mark (after_payload p.payload healed)) opens
      (all_marked w p.mark (after_payload p.payload healed) marks
      (all_paid healed p.payload pays (all_settled p.heals p.component (after_ending w p.ends j) (all_ended w p.ends j all))))

  pub all_faulted : (w : ℕ) (p : Prepared) (far : Bool) (j : Joint) → MarksIf (after_ending w p.ends j) p.mark → All j → All (after_fault w p far j)
  all_faulted w p far j marks all =
      all_doubted (after_failed_mark p.mark (after_ending w p.ends j)) (cond far p.payload None)
      (all_failed p.mark (after_ending w p.ends j) marks (all_ended w p.ends j all))

  pub all_landed : (c : Component) (p : Payload) (j : Joint) → PaysIf (after_healing true c j) (Some p) → All j → All (after_landing c p j)
  all_landed c p j pays all = all_paid (after_healing true c j) (Some p) pays (all_settled true c j all)

  -- a stop
  pub all_stopped : (j : Joint) → ((g : ℕ) (s : Side) → P g s → P g (side_after_stop s)) → All j → All (after_stop j)
  all_stopped j stops all = each-map numbers P (λ g. side_after_stop) j.sides (λ g s is. stops g s (all g s is))
