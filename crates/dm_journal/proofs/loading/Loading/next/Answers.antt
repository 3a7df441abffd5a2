use Rattle.std.proofs.Common.{◌≡◌, ◌+◌, ◌<◌, ◌≤◌, ℕ, List, IfSome, Some, None, sym, [], ◌∷◌, ◌++◌, length, Option, refl, ◌∙◌, ap, subst, rules, arith}
use Rattle.dm_host.specs.Disk.{Same}
use Rattle.dm_host.specs.Works.{Works, File, Follows}
use Rattle.dm_journal.specs.Grammar.{Fits}
use Rattle.dm_journal.specs.State.{Keeps, settled_at}
use Rattle.dm_journal.specs.Load.{LoadAt, Reading, IsDamage, Advances, moved, loading_at}
use Rattle.dm_journal.proofs.Unique.{found_whole}
use Rattle.dm_journal.proofs.Lending.{from_here, lent}
use Rattle.dm_journal.proofs.loading.Loading.next.Goals as goal

pub returns-in-None : goal.returns-in-None
returns-in-None g c =
    let d0 = g.B.Bay.disk c.args.bay.now in
    let d1 = g.B.Bay.disk c.advance.new.bay in
    let at = loading_at c.self.inside.file c.self.inside.place 0 c.self.inside.end in
    let same : d1.seen c.args.self.now.file ≡ d0.seen c.args.self.now.file = subst (λ (j : LoadAt). d1.seen j.file ≡ d0.seen j.file) c.self.view_is c.advance.ensures.same in
    let found : (ps : List (List ℕ)) → Reading d0 c.args.self.now ps → Keeps d1 (settled_at c.args.self.now.file c.args.self.now.place) ps = λ ps.
    subst (λ (j : LoadAt). Reading d0 j ps → Keeps d1 (settled_at j.file j.place) ps) c.self.view_is
    (λ r. subst (λ (o : Option ℕ). Advances d1 at ps c.advance.new.buffer.items o) c.in-None.is (c.in_ok-advance.ensures.found ps (from_here d0 _ ps r))) in (
      (refl, λ _. tt, c.self.view_is),
      record {
        after_borrow = tt;
        found = found;
        whole = λ ps r damage. absurd (found_whole d1 c.args.self.now ps None (found ps r) (subst (λ (l : List ℕ). IsDamage ps l) (sym same) damage));
        damaged = search rules;
        place = search rules;
        within = tt;
        memory = search rules;
        conf = search rules;
        same = same;
        any_moment = subst (λ (j : LoadAt). Works (File j.file) d0 d1 (Follows Same j.file d0)) c.self.view_is c.advance.ensures.works;
        cause = record { kept = c.advance.ensures.cause.kept; none = search rules; rose = search rules };
      },
    )

pub returns-in-Some : goal.returns-in-Some
returns-in-Some g c =
    let d0 = g.B.Bay.disk c.args.bay.now in
    let d1 = g.B.Bay.disk c.advance.new.bay in
    let at = loading_at c.self.inside.file c.self.inside.place 0 c.self.inside.end in
    let payload = c.deref.result.now in
    let room : c.self.inside.place + (c.in-Some.n + 6) ≤ c.self.inside.end =
    subst (λ (o : Option ℕ). IfSome o (λ n. c.self.inside.place + (n + 6) ≤ c.self.inside.end)) c.in-Some.is c.in_ok-advance.ensures.range in
    let size : c.in-Some.n ≡ length payload = search rules in
    let same : d1.seen c.args.self.now.file ≡ d0.seen c.args.self.now.file = subst (λ (j : LoadAt). d1.seen j.file ≡ d0.seen j.file) c.self.view_is c.advance.ensures.same in
    let found : (ps : List (List ℕ)) → Reading d0 c.args.self.now ps → Fits payload × Reading d1 (moved c.args.self.now (length payload)) (ps ++ payload ∷ []) = λ ps.
    subst (λ (j : LoadAt). Reading d0 j ps → Fits payload × Reading d1 (moved j (length payload)) (ps ++ payload ∷ [])) c.self.view_is
    (λ r. lent d1 at ps c.advance.new.buffer.items payload c.in-Some.n c.deref.ensures.value
    (subst (λ (o : Option ℕ). Advances d1 at ps c.advance.new.buffer.items o) c.in-Some.is (c.in_ok-advance.ensures.found ps (from_here d0 _ ps r)))) in (
      (refl, λ _. tt, ap (λ (j : LoadAt). moved j c.in-Some.n) c.self.view_is ∙ ap (λ (n : ℕ). moved c.args.self.now n) size),
      record {
        after_borrow = tt;
        found = found;
        whole = λ ps r damage. absurd (found_whole d1 c.args.self.now ps (Some c.deref.result) (found ps r) (subst (λ (l : List ℕ). IsDamage ps l) (sym same) damage));
        damaged = search rules;
        place = search rules;
        within = subst (λ (j : LoadAt). j.place + (5 + length payload) < j.end) c.self.view_is (omega (arith, room, size));
        memory = search rules;
        conf = search rules;
        same = same;
        any_moment = subst (λ (j : LoadAt). Works (File j.file) d0 d1 (Follows Same j.file d0)) c.self.view_is c.advance.ensures.works;
        cause = record { kept = c.advance.ensures.cause.kept; none = search rules; rose = search rules };
      },
    )
