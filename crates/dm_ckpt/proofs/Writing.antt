-- What writes behind a gate leave of a file.
use Rattle.std.proofs.Common.{◌≡◌, inl, ℕ, ◌+◌, ◌<◌, ◌≤◌, List, [], ◌∷◌, ◌++◌, length, take, drop, get_or, refl, sym, ◌∙◌, ap, subst, arith, length-append, take-append-drop}
use Rattle.std.proofs.lemmas.List.{append_assoc, append-nil, take_at}
use Rattle.dm_host.specs.Disk.{Disk, Torn, Written, Same}
use Rattle.dm_host.specs.Works.{Works, File, Follows}
use Rattle.dm_host.proofs.Moments.{weaker, and_then}
use Rattle.dm_host.proofs.Outside.{torn_below}
use Rattle.dm_host.specs.Disk.{Tells}
use Rattle.dm_ckpt.specs.Area.{Begins}
use Rattle.dm_host.proofs.Moments.{still_told}
use Rattle.dm_ckpt.proofs.Told.{was_told}
use Rattle.dm_ckpt.specs.Writing.{KeepsGate, WritesBehind, Gathers}

-- steps of a kind that follow one another are one step of it
pub follows_then : (step : List ℕ → List ℕ → Type 0) → ((x y z : List ℕ) → step x y → step y z → step x z) → (f : ℕ) (a b c : Disk)
    → Works (File f) a b (Follows step f a) → Works (File f) b c (Follows step f b) → Works (File f) a c (Follows step f a)
follows_then step join f a b c first second =
    and_then (File f) a b c (Follows step f a) first (weaker (File f) b c (Follows step f b) (Follows step f a) second (λ x follows.
    let was : Follows step f a (λ g. follows.0) = first.now (λ g. follows.0) (λ g is. subst (λ (h : ℕ). b.may_leave h follows.0) (sym is) follows.1) in
    (was.0, was.1, join was.0 follows.0 (x f) was.2 follows.2)))

keeps_join : (x y z : List ℕ) → KeepsGate x y → KeepsGate y z → KeepsGate x z
keeps_join x y z first second long = let one = first long in let two = second one.0 in (two.0, two.1 ∙ one.1)

keeps_torn : (place n : ℕ) (old new : List ℕ) → 1 ≤ place → Torn place n old new → KeepsGate old new
keeps_torn place n old new behind torn long = (omega (arith, long, torn.no_shorter), torn_below place n old new torn 0 (omega (arith, behind)) long)

keeps_same : (old new : List ℕ) → new ≡ old → KeepsGate old new
keeps_same old new is long = (subst (λ (l : List ℕ). 0 < length l) (sym is) long, ap (λ (l : List ℕ). get_or l 0 0) is)

-- a write behind the gate, cut short or not
pub writes_torn : (f place n : ℕ) (a b : Disk) → 1 ≤ place → Works (File f) a b (Follows (Torn place n) f a)
    → (Tells a f → Torn place n (a.seen f) (b.seen f)) → WritesBehind f a b
writes_torn f place n a b behind w seen = record {
  works = weaker (File f) a b (Follows (Torn place n) f a) (Follows KeepsGate f a) w
      (λ x follows. (follows.0, follows.1, keeps_torn place n follows.0 (x f) behind follows.2));
  seen = λ told. keeps_torn place n (a.seen f) (b.seen f) behind (seen told);
}

-- a call that writes nothing
pub writes_same : (f : ℕ) (a b : Disk) → Works (File f) a b (Follows Same f a) → b.seen f ≡ a.seen f → WritesBehind f a b
writes_same f a b w same = record {
  works = weaker (File f) a b (Follows Same f a) (Follows KeepsGate f a) w (λ x follows. (follows.0, follows.1, keeps_same follows.0 (x f) follows.2));
  seen = λ told. keeps_same (a.seen f) (b.seen f) same;
}

-- no call
pub writes_none : (f : ℕ) (a : Disk) → WritesBehind f a a
writes_none f a = record {
  works = record {
    told = refl;
    others = λ g not. record { seen = refl; fewer = λ c left. left; more = λ c left. left };
    now = λ x here. (x f, here f refl, keeps_same (x f) (x f) refl);
    later = omega arith;
    moments = λ t x le left. inl left;
    keeps = λ t x le left. left;
  };
  seen = λ told. keeps_same (a.seen f) (a.seen f) refl;
}

pub writes_then : (f : ℕ) (a b c : Disk) → WritesBehind f a b → WritesBehind f b c → WritesBehind f a c
writes_then f a b c first second = record {
  works = follows_then KeepsGate keeps_join f a b c first.works second.works;
  seen = λ told. keeps_join (a.seen f) (b.seen f) (c.seen f) (first.seen told)
      (second.seen (still_told (File f) a b (Follows KeepsGate f a) first.works f told));
}

pub writes_told : (f : ℕ) (a b : Disk) → WritesBehind f a b → Tells a f → Tells b f
writes_told f a b w told = still_told (File f) a b (Follows KeepsGate f a) w.works f told

pub writes_was_told : (f : ℕ) (a b : Disk) → WritesBehind f a b → Tells b f → Tells a f
writes_was_told f a b w told = was_told (File f) a b (Follows KeepsGate f a) w.works f told

-- the bytes that were written stand behind those before
begins_more : (gate : ℕ) (front bytes old new : List ℕ) (place : ℕ) → Begins gate front old → place ≡ 1 + length front → Written place bytes old new
    → Begins gate (front ++ bytes) new
begins_more gate front bytes old new place b at w =
    let tail = drop place new in
    let size : length (gate ∷ front) ≡ place = omega (arith, at) in
    let reaches : place ≤ length old = omega (arith, at, ap (λ (l : List ℕ). length l) b.is, length-append front b.junk) in
    let start : take place new ≡ gate ∷ front =
    w.torn.before reaches ∙ ap (λ (l : List ℕ). take place l) b.is ∙ take_at (gate ∷ front) b.junk place size in
    let after = drop (length bytes) tail in
    record {
      junk = after;
      is =
          sym (take-append-drop place new)
          ∙ ap (λ (l : List ℕ). l ++ tail) start
          ∙ ap (λ (l : List ℕ). gate ∷ (front ++ l)) (sym (take-append-drop (length bytes) tail) ∙ ap (λ (l : List ℕ). l ++ after) w.there)
          ∙ ap (λ (l : List ℕ). gate ∷ l) (sym (append_assoc front bytes after));
    }

pub gathers_reach : (d : Disk) (f place : ℕ) (buffer : List ℕ) (gate : ℕ) (bytes : List ℕ) → Gathers d f place buffer gate bytes → place ≤ length (d.seen f)
gathers_reach d f place buffer gate bytes g = omega (arith, g.reached, ap (λ (l : List ℕ). length l) g.begins.is, length-append g.written g.begins.junk)

pub gathers_written : (a b : Disk) (f place next : ℕ) (buffer : List ℕ) (gate : ℕ) (bytes : List ℕ) → Gathers a f place buffer gate bytes
    → Written place buffer (a.seen f) (b.seen f) → next ≡ place + length buffer → Gathers b f next [] gate bytes
gathers_written a b f place next buffer gate bytes g w at = record {
  written = g.written ++ buffer;
  begins = begins_more gate g.written buffer (a.seen f) (b.seen f) place g.begins g.reached w;
  reached = omega (arith, at, g.reached, length-append g.written buffer);
  whole = append-nil (g.written ++ buffer) ∙ g.whole;
}

-- what the buffer takes up
pub gathers_more : (d : Disk) (f place : ℕ) (buffer more : List ℕ) (next : List ℕ) (gate : ℕ) (bytes : List ℕ) → Gathers d f place buffer gate bytes
    → next ≡ buffer ++ more → Gathers d f place next gate (bytes ++ more)
gathers_more d f place buffer more next gate bytes g is = record {
  written = g.written;
  begins = g.begins;
  reached = g.reached;
  whole = ap (λ (l : List ℕ). g.written ++ l) is ∙ sym (append_assoc g.written buffer more) ∙ ap (λ (l : List ℕ). l ++ more) g.whole;
}

pub gathers_start : (d : Disk) (f gate : ℕ) (buffer : List ℕ) → Begins gate [] (d.seen f) → Gathers d f 1 buffer gate buffer
gathers_start d f gate buffer b = record { written = []; begins = b; reached = refl; whole = refl }

pub gathers_end : (d : Disk) (f place gate : ℕ) (bytes : List ℕ) → Gathers d f place [] gate bytes → Begins gate bytes (d.seen f)
gathers_end d f place gate bytes g = subst (λ (l : List ℕ). Begins gate l (d.seen f)) (sym (append-nil g.written) ∙ g.whole) g.begins

-- a file that isn't empty begins with its gate
pub begins_of : (file : List ℕ) → 0 < length file → Begins (get_or file 0 0) [] file
begins_of [] long = absurd (omega arith)
begins_of (gate ∷ rest) long = record { junk = rest; is = refl }

pub reads_none : (f : ℕ) (a : Disk) → Works (File f) a a (Follows Same f a)
reads_none f a = record {
  told = refl;
  others = λ g not. record { seen = refl; fewer = λ c left. left; more = λ c left. left };
  now = λ x here. (x f, here f refl, refl);
  later = omega arith;
  moments = λ t x le left. inl left;
  keeps = λ t x le left. left;
}
