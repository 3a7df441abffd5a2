use Rattle.std.proofs.Common.{◌≤◌, ◌^◌, ℕ, List, length, sym, ap, ◌∙◌, subst}
use Rattle.dm_host.specs.Past.{contents}
use Rattle.dm_host.specs.Rot.{Rot, rotted, is_unnamed}
use Rattle.dm_host.proofs.Rotting.{rotted_still, length-rotted, alike_shown, alike_stays, alike_works}
use Rattle.dm_host.proofs.memory_bay.MemBay.begin_call.Goals as goal

pub invariant_of-self : goal.invariant_of-self
invariant_of-self c = record {
  bounded = λ g.
      subst (λ (n : ℕ). n ≤ 2 ^ 62)
      (sym (ap length (c.rot_all.ensures g) ∙ length-rotted c.deref.result.now c.saturating_add-self.result g (contents c.args.self.now.files.items g)))
      (c.args.self.now.bounded g);
}

pub returns-clause-seen : goal.returns-clause-seen
returns-clause-seen c =
    alike_shown (is_unnamed c.args.self.now.rot.items) _ _ (λ g is. c.rot_all.ensures g
    ∙ ap (λ (rot : List Rot). rotted rot c.saturating_add-self.result g (contents c.args.self.now.files.items g)) c.deref.ensures.value
    ∙ rotted_still c.args.self.now.rot.items c.saturating_add-self.result g (contents c.args.self.now.files.items g) is)

pub returns-clause-leaves : goal.returns-clause-leaves
returns-clause-leaves c =
    alike_stays (is_unnamed c.args.self.now.rot.items) _ _ _ (λ g is. c.rot_all.ensures g
    ∙ ap (λ (rot : List Rot). rotted rot c.saturating_add-self.result g (contents c.args.self.now.files.items g)) c.deref.ensures.value
    ∙ rotted_still c.args.self.now.rot.items c.saturating_add-self.result g (contents c.args.self.now.files.items g) is)

pub returns-clause-works : goal.returns-clause-works
returns-clause-works c =
    alike_works (is_unnamed c.args.self.now.rot.items) _ _ _ (λ g is. c.rot_all.ensures g
    ∙ ap (λ (rot : List Rot). rotted rot c.saturating_add-self.result g (contents c.args.self.now.files.items g)) c.deref.ensures.value
    ∙ rotted_still c.args.self.now.rot.items c.saturating_add-self.result g (contents c.args.self.now.files.items g) is)
