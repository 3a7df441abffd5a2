use Rattle.std.proofs.Common.{◌≡◌, ◌+◌, ◌<◌, ◌≤◌, ℕ, List, [], ◌∷◌, ◌++◌, length, vec_len, Option, Some, None, IfSome, Ok, Err, IsErr, IsErrOf, rules, refl, sym, ◌∙◌, ap, subst}
use Rattle.dm_base.specs.declared.error.LoadError.{LoadError}
use Rattle.dm_base.specs.declared.error.LoadError.TheVariants.{Failed, Conf, Damaged, NoMemory}
use Rattle.std.specs.Borrow.{Bor}
use Rattle.dm_journal.specs.Grammar.{Fits}
use Rattle.dm_ckpt.specs.Files.{area_file, log_file, Unchanged}
use Rattle.dm_ckpt.specs.State.{Keeps, Stands}
use Rattle.dm_ckpt.specs.Load.{LoadAt, Reading, IsDamagedLog, LoadStands, Steps, StepStands, loading, moved, ready_at}
use Rattle.dm_ckpt.proofs.Outcome.{other_err}
use Rattle.dm_ckpt.proofs.Meaning.{kept_before}
use Rattle.dm_ckpt.proofs.Rowing.{lent, spot_within}
use Rattle.dm_ckpt.proofs.loading.StoreLoading.next.Goals as goal

pub returns-in-Err : goal.returns-in-Err
returns-in-Err g c =
    let a = g.B.Bay.disk c.args.bay.now in
    let b = g.B.Bay.disk c.step.new.bay in
    let i = c.self.inside in
    let l = loading i.component i.index i.has_area i.generation i.row i.row_end i.place i.end i.file i.last in
    let u = subst (λ (s : LoadAt). Unchanged s.component a b) c.self.view_is c.step.ensures.unchanged in
    let e = c.in-Err.error in (
      (refl, λ _. tt, c.self.view_is),
      record {
        after_borrow = tt;
        found = λ ps r. tt;
        all = λ ps qs r stands. tt;
        damaged = λ ps. subst (λ (s : LoadAt). Reading a s ps → (x y : ℕ) → IsErrOf {T = Option (Bor (List ℕ))} (Err e) (Damaged x y) → (s.row_end ≤ s.row) × IsDamagedLog s a.seen) c.self.view_is
            (λ r x y is. c.in-Err.ensures.damaged i.has_area i.generation i.file i.last ps r x y (other_err e (Damaged x y) is));
        whole = λ ps r past damaged. refl;
        row_place = subst (λ (s : LoadAt). s.row < s.row_end → (x y : ℕ) → IsErrOf {T = Option (Bor (List ℕ))} (Err e) (Damaged x y) → (x ≡ area_file s.component s.index) × (y ≡ 0)) c.self.view_is
            (λ less x y is. c.in-Err.ensures.row_place less x y (other_err e (Damaged x y) is));
        log_place = subst (λ (s : LoadAt). s.row_end ≤ s.row → (x y : ℕ) → IsErrOf {T = Option (Bor (List ℕ))} (Err e) (Damaged x y) → (x ≡ log_file s.component s.index) × (y ≡ s.place)) c.self.view_is
            (λ past x y is. c.in-Err.ensures.log_place past x y (other_err e (Damaged x y) is));
        memory = λ is. c.in-Err.ensures.memory (other_err e NoMemory is);
        conf = λ key is. c.in-Err.ensures.conf key (other_err e (Conf key) is);
        unchanged = u;
        stands = λ stands. tt;
        cause = record {
          kept = c.step.ensures.cause.kept;
          none = λ not. c.in-Err.ensures.cause.none (λ is. not (other_err e Failed is));
          rose = λ is. c.in-Err.ensures.cause.rose (other_err e Failed is);
        };
      },
    )

pub returns-in-Ok-None : goal.returns-in-Ok-None
returns-in-Ok-None g c =
    let a = g.B.Bay.disk c.args.bay.now in
    let b = g.B.Bay.disk c.step.new.bay in
    let i = c.self.inside in
    let l = loading i.component i.index i.has_area i.generation i.row i.row_end i.place i.end i.file i.last in
    let u = subst (λ (s : LoadAt). Unchanged s.component a b) c.self.view_is c.step.ensures.unchanged in
    let found : (ps : List (List ℕ)) → Reading a c.args.self.now ps → Keeps b (ready_at c.args.self.now) ps = λ ps.
    subst (λ (s : LoadAt). Reading a s ps → Keeps b (ready_at s) ps) c.self.view_is (λ r. subst (λ (o : Option ℕ). Steps b l ps c.step.new.buffer.items o) c.in-Ok-None.field-0-is (c.in-Ok-None.ensures.found i.has_area i.generation i.file i.last ps r)) in (
      (refl, λ _. tt, c.self.view_is),
      record {
        after_borrow = tt;
        found = found;
        all = λ ps qs r stands. kept_before a b c.args.self.now ps qs u (found ps r) stands;
        damaged = search rules;
        whole = λ ps. subst (λ (s : LoadAt). Reading a s ps → s.row_end ≤ s.row → IsDamagedLog s a.seen → IsErr {T = Option (Bor (List ℕ))} {E = LoadError} (Ok None)) c.self.view_is
            (λ r past damaged. c.in-Ok-None.ensures.whole i.has_area i.generation i.file i.last ps r past damaged);
        row_place = search rules;
        log_place = search rules;
        memory = search rules;
        conf = search rules;
        unchanged = u;
        stands = subst (λ (s : LoadAt). LoadStands a s → Stands b (ready_at s)) c.self.view_is (λ stands. subst (λ (o : Option ℕ). StepStands b l o) c.in-Ok-None.field-0-is (c.in-Ok-None.ensures.stands i.has_area i.generation i.file i.last stands));
        cause = record { kept = c.step.ensures.cause.kept; none = search rules; rose = search rules };
      },
    )

pub returns-in-Ok-Some : goal.returns-in-Ok-Some
returns-in-Ok-Some g c =
    let a = g.B.Bay.disk c.args.bay.now in
    let b = g.B.Bay.disk c.step.new.bay in
    let i = c.self.inside in
    let l = loading i.component i.index i.has_area i.generation i.row i.row_end i.place i.end i.file i.last in
    let u = subst (λ (s : LoadAt). Unchanged s.component a b) c.self.view_is c.step.ensures.unchanged in
    let payload = c.deref.result.now in
    let n = c.in-Ok-Some.n in
    let len : n ≡ vec_len c.step.new.buffer = subst (λ (o : Option ℕ). IfSome o (λ m. m ≡ vec_len c.step.new.buffer)) c.in-Ok-Some.field-0-is c.in-Ok-Some.ensures.len in
    let size : n ≡ length payload = len ∙ sym c.deref.ensures.len in
    let found : (ps : List (List ℕ)) → Reading a c.args.self.now ps → Fits payload × Reading b (moved c.args.self.now (length payload)) (ps ++ payload ∷ []) = λ ps.
    subst (λ (s : LoadAt). Reading a s ps → Fits payload × Reading b (moved s (length payload)) (ps ++ payload ∷ [])) c.self.view_is
    (λ r. lent b l ps c.step.new.buffer.items payload n c.deref.ensures.value
    (subst (λ (o : Option ℕ). Steps b l ps c.step.new.buffer.items o) c.in-Ok-Some.field-0-is (c.in-Ok-Some.ensures.found i.has_area i.generation i.file i.last ps r))) in (
      (
        refl,
        λ _. tt,
        sym (c.spot_behind-spot.ensures.behind i.has_area i.generation i.end i.file i.last) ∙ ap (λ (s : LoadAt). moved s n) c.self.view_is ∙ ap (λ (k : ℕ). moved c.args.self.now k) size,
      ),
      record {
        after_borrow = tt;
        found = found;
        all = λ ps qs r stands. tt;
        damaged = search rules;
        whole = λ ps. subst (λ (s : LoadAt). Reading a s ps → s.row_end ≤ s.row → IsDamagedLog s a.seen → IsErr {T = Option (Bor (List ℕ))} {E = LoadError} (Ok (Some c.deref.result))) c.self.view_is
            (λ r past damaged. c.in-Ok-Some.ensures.whole i.has_area i.generation i.file i.last ps r past damaged);
        row_place = search rules;
        log_place = search rules;
        memory = search rules;
        conf = search rules;
        unchanged = u;
        stands = subst (λ (s : LoadAt). LoadStands a s → LoadStands b (moved s (length payload))) c.self.view_is
            (λ stands. subst (λ (k : ℕ). LoadStands b (moved l k)) size
            (subst (λ (o : Option ℕ). StepStands b l o) c.in-Ok-Some.field-0-is (c.in-Ok-Some.ensures.stands i.has_area i.generation i.file i.last stands)));
        cause = record { kept = c.step.ensures.cause.kept; none = search rules; rose = search rules };
      },
    )

pub invariant_of-self-in-Ok-Some : goal.invariant_of-self-in-Ok-Some
invariant_of-self-in-Ok-Some g c =
    let i = c.self.inside in (
      c.self.invariant.0,
      c.self.invariant.1,
      spot_within i.row i.row_end i.place c.in-Ok-Some.n i.end _ c.self.invariant.2 c.spot_behind-spot.ensures.row_case c.spot_behind-spot.ensures.log_case
          (λ past. subst (λ (o : Option ℕ). IfSome o (λ m. i.place + (m + 6) ≤ i.end)) c.in-Ok-Some.field-0-is (c.in-Ok-Some.ensures.log_range past)),
      c.self.invariant.3,
      c.step.ensures.room,
    )
