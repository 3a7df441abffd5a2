use Rattle.std.proofs.Common.{◌≡◌, ◌/◌, inl, inr, ⊎_elim, ℕ, Bool, true, IsTrue, List, length, take, if◌then◌else◌, ap, subst, ◌∙◌, rules, arith}
use Rattle.std.proofs.lemmas.List.{take_all}
use Rattle.std.proofs.lemmas.Result.{on_ok_weaker}
use Rattle.dm_host.specs.Disk.{Image, Torn, Written}
use Rattle.dm_host.specs.Past.{contents}
use Rattle.dm_host.specs.MemoryBay.{fails_next}
use Rattle.dm_host.specs.Rot.{is_unnamed}
use Rattle.dm_host.proofs.Either.{either, at_err, at_ok, both_err, from_err, ok_both}
use Rattle.dm_host.proofs.Moments.{same_before, torn_still}
use Rattle.dm_host.proofs.memory_bay.MemBayBay.write.Goals as goal

pub returns-clause-half : goal.returns-clause-half
returns-clause-half c = λ failing.
    let new = contents c.put_front-put.new.files.items c.args.file in
    let is : c.fails-failing.result ≡ true = search rules in
    let n : c.front_of-n.result ≡ length c.args.bytes.now / 2 =
    c.front_of-n.ensures ∙ ap (λ (b : Bool). if b then length c.args.bytes.now / 2 else length c.args.bytes.now) is in
    ⊎_elim (λ done. inl done) (λ same. inr (record { files = same.0 ∙ c.begin_call.ensures.held; log = same.1 ∙ c.begin_call.ensures.log }))
    (either c.put_front-put.result
    (on_ok_weaker c.put_front-put.result
    (λ done. subst (λ (image : Image). Written c.args.place (take (length c.args.bytes.now / 2) c.args.bytes.now) (image c.args.file) new) c.begin_call.ensures.held
    (subst (λ (k : ℕ). Written c.args.place (take k c.args.bytes.now) (contents c.begin_call.new.self.files.items c.args.file) new) n done))
    c.put_front-put.ensures.written)
    (both_err _ _ c.put_front-put.result c.put_front-put.ensures.files c.put_front-put.ensures.log))

pub returns-clause-untouched : goal.returns-clause-untouched
returns-clause-untouched c = from_err _ c.answer.result (λ failed. ⊎_elim
    (λ failing. let is : IsTrue (fails_next c.args.self.now) = search rules in inl is)
    (λ refused. inr (record {
      files = at_err c.put_front-put.result refused c.put_front-put.ensures.files ∙ c.begin_call.ensures.held;
      log = at_err c.put_front-put.result refused c.put_front-put.ensures.log ∙ c.begin_call.ensures.log;
    }))
    (c.answer.ensures.err.0 failed))

pub returns-clause-works : goal.returns-clause-works
returns-clause-works c =
    same_before (Torn c.args.place (length c.args.bytes.now)) (torn_still c.args.place (length c.args.bytes.now)) c.args.file _ _ _
    (c.begin_call.ensures.works c.args.file) (c.put_front-put.ensures.works (is_unnamed c.begin_call.new.self.rot.items))

pub returns-clause-held : goal.returns-clause-held
returns-clause-held c =
    ok_both _ _ _ c.answer.result c.answer.ensures.put c.answer.ensures.failing (λ done not.
    let new = contents c.put_front-put.new.files.items c.args.file in
    let bytes = c.args.bytes.now in
    let n : c.front_of-n.result ≡ length bytes = c.front_of-n.ensures ∙ ap (λ (b : Bool). if b then length bytes / 2 else length bytes) not in
    let all : take c.front_of-n.result bytes ≡ bytes = ap (λ (k : ℕ). take k bytes) n ∙ take_all (length bytes) bytes (omega arith) in
    subst (λ (image : Image). Written c.args.place bytes (image c.args.file) new) c.begin_call.ensures.held
    (subst (λ (l : List ℕ). Written c.args.place l (contents c.begin_call.new.self.files.items c.args.file) new) all
    (at_ok c.put_front-put.result done c.put_front-put.ensures.written)))
