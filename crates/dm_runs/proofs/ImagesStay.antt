-- No part of a plan changes the size of an image or a group's configuration.
use Rattle.std.proofs.Common.{◌≡◌, ℕ, Bool, true, false, cond, Option, None, Some, List, length, refl, sym, ap, ◌∙◌, inl, inr}
use Rattle.std.specs.FinMap as map
use Rattle.dm_base.specs.declared.conf.GroupConf.{GroupConf}
use Rattle.dm_tables.specs.Rows.{adjust}
use Rattle.dm_tables.proofs.Adjusted.{adjusted-beside, adjusted_row}
use Rattle.dm_tables.proofs.Orders.{paths, same_or}
use Rattle.dm_durable.specs.declared.group.GroupStep.{GroupStep}
use Rattle.dm_durable.specs.declared.group.GroupStep.TheVariants as step
use Rattle.dm_durable.specs.declared.group.VolumeRow.{VolumeRow}
use Rattle.dm_durable.specs.Tables.{ByName}
use Rattle.dm_model.specs.declared.plan.Ending.{Ending}
use Rattle.dm_model.specs.declared.plan.Ending.TheVariants as ending
use Rattle.dm_model.specs.declared.plan.Mark.{Mark}
use Rattle.dm_model.specs.declared.plan.Mark.TheVariants as mark
use Rattle.dm_model.specs.declared.plan.Opening.{Opening}
use Rattle.dm_model.specs.declared.plan.Opening.TheVariants as opening
use Rattle.dm_model.specs.declared.plan.Payload.{Payload}
use Rattle.dm_model.specs.declared.plan.Payload.TheVariants as payload
use Rattle.dm_model.specs.declared.state.Image.{Image}
use Rattle.dm_model.specs.declared.state.Side.{Side}
use Rattle.dm_model.specs.SideShare.{images_relabelled, images_after_step, known_by, without_known}
use Rattle.dm_model.specs.SideShare.{side_after_ending, side_after_failed_mark, side_after_mark, side_after_opening, side_after_payload, side_after_stop, side_doubting, side_without_doubt}
use Rattle.dm_rules.specs.Known.{known_without_range, known_with_write}
use Rattle.dm_invariant.specs.Volumes.{ImagesFit}

-- ---- images

-- an image that changes and keeps its size
changed_fits : (conf : GroupConf) (images : ByName Image) (vsn : List ℕ) (f : Image → Image) → ((i : Image) → (f i).size ≡ i.size)
    → ImagesFit conf images → ImagesFit conf (adjust images vsn f)
changed_fits conf images vsn f same fits q listed =
    let old = fits q listed in
    elim (same_or paths vsn q) [
      | inl here ↦ record {
        image = f old.image;
        is = ap (map.get (adjust images vsn f)) here ∙ adjusted_row paths images vsn f old.image (ap (map.get images) (sym here) ∙ old.is);
        sized = same old.image ∙ old.sized;
      }
      | inr differ ↦ record { image = old.image; is = adjusted-beside paths images vsn f q differ ∙ old.is; sized = old.sized }
    ]

forgotten_if : (v : Bool) (conf : GroupConf) (images : ByName Image) (vsn : List ℕ) → ImagesFit conf images
    → ImagesFit conf (cond v (adjust images vsn without_known) images)
forgotten_if true conf images vsn fits = changed_fits conf images vsn without_known (λ i. refl) fits
forgotten_if false conf images vsn fits = fits

relabelled_fits : (conf : GroupConf) (faithful : List ℕ) (version : ℕ) (vsn : List ℕ) (o : Option VolumeRow) (images : ByName Image)
    → ImagesFit conf images → ImagesFit conf (images_relabelled faithful version vsn o images)
relabelled_fits conf faithful version vsn None images fits = fits
relabelled_fits conf faithful version vsn (Some v) images fits = forgotten_if _ conf images vsn fits

step_fits : (s : Side) (x : GroupStep) → ImagesFit s.group.conf s.images → ImagesFit s.group.conf (images_after_step s x)
step_fits s (step.Volume vsn slot version size) fits = forgotten_if _ s.group.conf s.images vsn.0 fits
step_fits s (step.Commit b len chunks) fits = fits
step_fits s (step.Delete b) fits = fits
step_fits s (step.Move b from to) fits = fits
step_fits s (step.Free vsn) fits = fits
step_fits s (step.Reuse vsn epoch version) fits =
    relabelled_fits s.group.conf s.faithful version vsn.0 (map.get s.group.tables.volumes vsn.0) s.images fits

-- ---- parts of a plan

-- a side whose images fit its configuration
abbrev pub SideImaged : Side → Type 0
SideImaged s = ImagesFit s.group.conf s.images

pub ending_fits : (e : Ending) (s : Side) → SideImaged s → SideImaged (side_after_ending e s)
ending_fits ending.Nothing s fits = fits
ending_fits (ending.Put k b groups) s fits = fits
ending_fits (ending.Recall k) s fits = fits
ending_fits (ending.Reservation g n b) s fits = fits
ending_fits (ending.Mount g m) s fits = fits
ending_fits (ending.Move g job source target) s fits = fits

pub healing_fits : (heals : Bool) (s : Side) → SideImaged s → SideImaged (side_without_doubt heals s)
healing_fits true s fits = fits
healing_fits false s fits = fits

pub doubting_fits : (p : Option Payload) (s : Side) → SideImaged s → SideImaged (side_doubting p s)
doubting_fits None s fits = fits
doubting_fits (Some (payload.Daemon r)) s fits = fits
doubting_fits (Some (payload.Group g r)) s fits = fits

pub payload_fits : (p : Option Payload) (s : Side) → SideImaged s → SideImaged (side_after_payload p s)
payload_fits None s fits = fits
payload_fits (Some (payload.Daemon r)) s fits = fits
payload_fits (Some (payload.Group g r)) s fits = step_fits s r.step fits

pub mark_fits : (x : Mark) (s : Side) → SideImaged s → SideImaged (side_after_mark x s)
mark_fits mark.Nothing s fits = fits
mark_fits (mark.Zone g vsn place zone b index epoch) s fits =
    changed_fits s.group.conf s.images vsn.0 (known_by (known_with_write place zone)) (λ i. refl) fits
mark_fits (mark.Target g vsn m place zone) s fits =
    changed_fits s.group.conf s.images vsn.0 (known_by (known_with_write place zone)) (λ i. refl) fits
mark_fits (mark.Label g vsn m epoch version text) s fits =
    changed_fits s.group.conf s.images vsn.0 (known_by (known_with_write 0 text)) (λ i. refl) fits
mark_fits (mark.Read g b offset bytes) s fits = fits
mark_fits (mark.Source g m bytes) s fits = fits
mark_fits (mark.Deleted g b) s fits = fits

pub failed_mark_fits : (x : Mark) (s : Side) → SideImaged s → SideImaged (side_after_failed_mark x s)
failed_mark_fits mark.Nothing s fits = fits
failed_mark_fits (mark.Zone g vsn place zone b index epoch) s fits =
    changed_fits s.group.conf s.images vsn.0 (known_by (known_without_range place (length zone))) (λ i. refl) fits
failed_mark_fits (mark.Target g vsn m place zone) s fits =
    changed_fits s.group.conf s.images vsn.0 (known_by (known_without_range place (length zone))) (λ i. refl) fits
failed_mark_fits (mark.Label g vsn m epoch version text) s fits =
    changed_fits s.group.conf s.images vsn.0 (known_by (known_without_range 0 (length text))) (λ i. refl) fits
failed_mark_fits (mark.Read g b offset bytes) s fits = fits
failed_mark_fits (mark.Source g m bytes) s fits = fits
failed_mark_fits (mark.Deleted g b) s fits = fits

pub opening_fits : (o : Opening) (s : Side) → SideImaged s → SideImaged (side_after_opening o s)
opening_fits opening.Nothing s fits = fits
opening_fits (opening.Put k r len groups) s fits = fits
opening_fits (opening.Recall k r recall) s fits = fits
opening_fits (opening.Reservation g n r) s fits = fits
opening_fits (opening.Mount g m vsn epoch made) s fits = fits
opening_fits (opening.Move g job moving source_epoch target_epoch) s fits = fits
opening_fits (opening.Reuse g m epoch reusing reading) s fits = fits

pub stop_fits : (s : Side) → SideImaged s → SideImaged (side_after_stop s)
stop_fits s fits = fits
