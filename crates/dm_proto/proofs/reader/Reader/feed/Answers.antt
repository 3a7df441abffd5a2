use Rattle.std.proofs.Common.{◌≡◌, ◌∙◌, ◌++◌, None, Option, ℕ, List, [], length, take, drop, sym, ap, subst, arith}
use Rattle.std.proofs.lemmas.List.{length-drop}
use Rattle.std.proofs.lemmas.Result.{err_from_is_err_and}
use Rattle.std.specs.Option.{option_to_list}
use Rattle.dm_proto.specs.Stream.{Consumes, Ends, TooLong}
use Rattle.dm_proto.specs.Reading.{Reading, MayBegin}
use Rattle.dm_proto.specs.declared.heard.Heard.{Heard}
use Rattle.dm_proto.specs.declared.heard.InputError.TheVariants.{LongLine}
use Rattle.dm_proto.proofs.Steps.{ready_none, err_same, step_on, long_on, may_begin}
use Rattle.dm_proto.proofs.reader.Reader.feed.Goals as goal

pub returns-in_err-taken-clause-long : goal.returns-in_err-taken-clause-long
returns-in_err-taken-clause-long c e =
    let begun = c.args.self.now.begun in
    let bytes = c.args.bytes.now in
    let none : c.pieces.self.ready ≡ None = sym (ap (λ (r : Reading). r.ready) c.self.view_is) ∙ ready_none c.self.inside.ready c.is_none.result c.is_none.ensures c.pieces-test.true in
    let so_far : Consumes (begun ++ take c.pieces.taken bytes) [] c.pieces.self.begun =
    subst (λ (o : Option Heard). Consumes (begun ++ take c.pieces.taken bytes) (option_to_list o) c.pieces.self.begun) none c.pieces.invariant.heard
    in
    let p = err_from_is_err_and c.from_residual.result c.from_residual.ensures.1 in
    let same = err_same ℕ c.from_residual.result p.0 c.in_err-taken.field-0.0 LongLine p.1 p.2 e in
    long_on begun bytes c.pieces.self.begun c.pieces.taken so_far
    (subst (λ (x : List ℕ). (rest : List ℕ) → Ends ((c.pieces.self.begun ++ x) ++ rest) TooLong) c.split_at.ensures.back (c.in_err-taken.ensures.long same))

pub pieces-preserved : goal.pieces-preserved
pieces-preserved c =
    let begun = c.args.self.now.begun in
    let bytes = c.args.bytes.now in
    let more = c.in_ok-taken.field-0 in
    let none : c.pieces.self.ready ≡ None = sym (ap (λ (r : Reading). r.ready) c.self.view_is) ∙ ready_none c.self.inside.ready c.is_none.result c.is_none.ensures c.pieces-test.true in
    let so_far : Consumes (begun ++ take c.pieces.taken bytes) [] c.pieces.self.begun =
    subst (λ (o : Option Heard). Consumes (begun ++ take c.pieces.taken bytes) (option_to_list o) c.pieces.self.begun) none c.pieces.invariant.heard
    in
    let left : length c.split_at.result.1.now ≡ length (drop c.pieces.taken bytes) = ap length c.split_at.ensures.back in
    record {
      bounded = omega (arith, c.in_ok-taken.ensures.fits, left, length-drop c.pieces.taken bytes);
      none = λ z. absurd (omega (arith, z, c.in_ok-taken.ensures.goes, left, length-drop c.pieces.taken bytes, c.if-taken-bytes.true));
      heard = step_on begun bytes c.pieces.self.begun c.step.new.self.begun c.pieces.taken more (option_to_list c.step.new.self.ready) so_far
          (subst (λ (x : List ℕ). Consumes (c.pieces.self.begun ++ take more x) (option_to_list c.step.new.self.ready) c.step.new.self.begun) c.split_at.ensures.back c.in_ok-taken.ensures.heard);
    }

pub returns-else-taken-bytes-clause-begun : goal.returns-else-taken-bytes-clause-begun
returns-else-taken-bytes-clause-begun c =
    subst MayBegin (ap (λ (r : Reading). r.begun) c.self.view_is) (may_begin c.self.inside.line.items c.self.inside.payload c.self.invariant.held)
