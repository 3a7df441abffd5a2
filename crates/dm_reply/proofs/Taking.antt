-- What a sink took in one write after another.
use Rattle.std.proofs.Common.{◌≡◌, ℕ, ◌+◌, List, [], ◌++◌, take, drop, Option, Some, None, Result, Ok, Err, OnErr, refl, ap, sym, subst, ◌∙◌, arith, append_assoc, length-append}
use Rattle.std.proofs.lemmas.List.{append-nil}
use Rattle.std.proofs.Math.Seq.{take-add}
use Rattle.dm_host.specs.Count.{Rose}
use Rattle.dm_host.specs.Stream.{Takes}
use Rattle.dm_reply.specs.Took.{Took, TookPart}
use Rattle.dm_reply.specs.Sends.{GoesOut}

pub took_none : (before : Option (List ℕ)) → Took before before []
took_none None = refl
took_none (Some taken) = ap (λ xs. Some xs) (sym (append-nil taken))

-- one piece and then another
pub took_more : (a b c : Option (List ℕ)) (xs ys : List ℕ) → Took a b xs → Took b c ys → Took a c (xs ++ ys)
took_more None b c xs ys h k = let P : Option (List ℕ) → Type 0 = λ o. Took o c ys in subst P h k
took_more (Some taken) b c xs ys h k =
    let P : Option (List ℕ) → Type 0 = λ o. Took o c ys in
    let all : c ≡ Some ((taken ++ xs) ++ ys) = subst P h k in
    all ∙ ap (λ zs. Some zs) (append_assoc taken xs ys)

pub takes_front : (b c : Option (List ℕ)) (bytes : List ℕ) (n : ℕ) → Takes b c bytes (Ok n) → Took b c (take n bytes)
takes_front None c bytes n h = h
takes_front (Some taken) c bytes n h = h

-- the bytes sent so far, and the front of the rest that was taken
pub sent_more : (a b c : Option (List ℕ)) (bytes : List ℕ) (sent n : ℕ) → Took a b (take sent bytes) → Takes b c (drop sent bytes) (Ok n) → Took a c (take (sent + n) bytes)
sent_more a b c bytes sent n h k =
    let P : List ℕ → Type 0 = λ xs. Took a c xs in
    subst P (sym (take-add sent n bytes)) (took_more a b c (take sent bytes) (take n (drop sent bytes)) h (takes_front b c (drop sent bytes) n k))

-- a part of what begins a text is a part of the text
pub part_of_front : (a b : Option (List ℕ)) (text rest : List ℕ) → TookPart a b text → TookPart a b (text ++ rest)
part_of_front a b text rest p = record {
  part = p.part;
  more = p.more ++ rest;
  split = ap (λ xs. xs ++ rest) p.split ∙ append_assoc p.part p.more rest;
  some = omega (arith, p.some, length-append p.more rest);
  took = p.took;
}

-- what begins a text, and then a part of the rest
pub part_of_rest : (a b c : Option (List ℕ)) (front text : List ℕ) → Took a b front → TookPart b c text → TookPart a c (front ++ text)
part_of_rest a b c front text h p = record {
  part = front ++ p.part;
  more = p.more;
  split = ap (λ xs. front ++ xs) p.split ∙ sym (append_assoc front p.part p.more);
  some = p.some;
  took = took_more a b c front p.part h p.took;
}

-- a count that rose where it was the same before
pub rose_later : (a b c : ℕ) → b ≡ a → Rose b c → Rose a c
rose_later a b c same rose = rw (← same) rose

-- what an error says, whatever the error
pub on_err : {T E P : Type 0} (r : Result T E) → P → OnErr r P
on_err (Ok x) p = tt
on_err (Err e) p = p

pub on_err_map : {T E P Q : Type 0} (r : Result T E) → (P → Q) → OnErr r P → OnErr r Q
on_err_map (Ok x) f p = tt
on_err_map (Err e) f p = f p

-- nothing went out, and all of the text is held back
pub all_held : (old : Option (List ℕ)) (held : List ℕ) → GoesOut old old held held
all_held old held = record { front = []; took = took_none old; split = refl }

-- all of the text went out
pub none_held : (old new : Option (List ℕ)) (text : List ℕ) → Took old new text → GoesOut old new text []
none_held old new text h = record { front = text; took = h; split = sym (append-nil text) }

-- more text behind it, which is held back too
pub held_more : (old new : Option (List ℕ)) (text held more : List ℕ) → GoesOut old new text held → GoesOut old new (text ++ more) (held ++ more)
held_more old new text held more h = record { front = h.front; took = h.took; split = ap (λ xs. xs ++ more) h.split ∙ append_assoc h.front held more }

-- what was held back and more goes out in part
pub out_then : (old mid new : Option (List ℕ)) (text held more last : List ℕ) → GoesOut old mid text held → GoesOut mid new (held ++ more) last → GoesOut old new (text ++ more) last
out_then old mid new text held more last h k = record {
  front = h.front ++ k.front;
  took = took_more old mid new h.front k.front h.took k.took;
  split = ap (λ xs. xs ++ more) h.split ∙ append_assoc h.front held more ∙ ap (λ xs. h.front ++ xs) k.split ∙ sym (append_assoc h.front k.front last);
}

-- what was held back goes out
pub out_all : (old mid new : Option (List ℕ)) (text held : List ℕ) → GoesOut old mid text held → Took mid new held → Took old new text
out_all old mid new text held h k =
    let P : List ℕ → Type 0 = λ xs. Took old new xs in
    subst P (sym h.split) (took_more old mid new h.front held h.took k)

-- or a part of it and of what follows
pub out_part : (old mid new : Option (List ℕ)) (text held more rest : List ℕ) → GoesOut old mid text held → TookPart mid new (held ++ more) → TookPart old new (text ++ more ++ rest)
out_part old mid new text held more rest h k =
    let P : List ℕ → Type 0 = λ xs. TookPart old new (xs ++ rest) in
    let e : h.front ++ (held ++ more) ≡ text ++ more = sym (ap (λ xs. xs ++ more) h.split ∙ append_assoc h.front held more) in
    subst P e (part_of_front old new (h.front ++ (held ++ more)) rest (part_of_rest old mid new h.front (held ++ more) h.took k))
