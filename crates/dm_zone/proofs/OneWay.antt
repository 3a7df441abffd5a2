-- Bytes are one zone at most, or their first wrong field stands at one place.
use Rattle.std.proofs.Common.{◌≡◌, ◌⊎◌, inl, inr, ℕ, zero, suc, ◌+◌, ◌≤◌, List, [], ◌∷◌, ◌++◌, length, drop, Result, Ok, Err, refl, sym, ap, subst, ◌∙◌, arith, append_assoc}
use Rattle.std.specs.Prelude.{IfOk, MatchResult}
use Rattle.std.specs.List.{flat_map, AllByRecursion}
use Rattle.std.proofs.lemmas.List.{append-nil, drop_at}
use Rattle.dm_rules.specs.Zone.{SpelledChunk, chunk_text, zone, zone_front}
use Rattle.dm_zone.specs.declared.contents.Zone.{Zone}
use Rattle.dm_zone.specs.declared.error.ZoneError.{ZoneError}
use Rattle.dm_zone.specs.declared.error.ZoneError.TheVariants.{BadZone, NoMemory}
use Rattle.dm_zone.specs.Fields.{zone_fields, chunk_fields, AllRight, FirstWrong}
use Rattle.dm_zone.specs.Grammar.{IsChunk, IsZone}
use Rattle.dm_zone.specs.Reading.{Begins, IsHeader, SomeZone, Spells, WrongAt, WrongBehind, WrongNext, entries}
use Rattle.dm_zone.proofs.Headers.{chunk_again, none_wrong, one_wrong, zone_right, zone_spelled}
use Rattle.dm_zone.proofs.Cuts.{length-zone_front}

-- ---- the header

begins_right : (version : ℕ) (bytes rest : List ℕ) (epoch count whole : ℕ) (chunks : List SpelledChunk) → Begins version bytes epoch count whole chunks rest → AllRight zone_fields bytes
begins_right version bytes rest epoch count whole chunks b = subst (AllRight zone_fields) (sym b.spelled) (zone_right epoch count whole (flat_map chunk_text chunks ++ rest) b.epoch_fits b.some b.count_fits b.whole_fits)

begins_header : (version : ℕ) (bytes rest : List ℕ) (epoch count whole : ℕ) (chunks : List SpelledChunk) → Begins version bytes epoch count whole chunks rest → IsHeader count epoch whole bytes
begins_header version bytes rest epoch count whole chunks b = subst (IsHeader count epoch whole) (sym b.spelled) (zone_spelled epoch count whole (flat_map chunk_text chunks ++ rest) b.epoch_fits b.count_fits b.whole_fits)

begins_behind : (version : ℕ) (bytes rest : List ℕ) (epoch count whole : ℕ) (chunks : List SpelledChunk) → Begins version bytes epoch count whole chunks rest → drop 32 bytes ≡ flat_map chunk_text chunks ++ rest
begins_behind version bytes rest epoch count whole chunks b = ap (drop 32) b.spelled ∙ drop_at (zone_front epoch count whole) (flat_map chunk_text chunks ++ rest) 32 (length-zone_front epoch count whole)

-- ---- the chunks

-- behind these chunks no chunk is read: all are there, or the next is wrong
abbrev Stop : ℕ → ℕ → List SpelledChunk → List ℕ → Type 0
Stop version n cs rest = (length cs ≡ n) ⊎ ((p : ℕ) × FirstWrong (chunk_fields version) rest p)

stop_less : (version : ℕ) (n : ℕ) (c : SpelledChunk) (cs : List SpelledChunk) (rest : List ℕ) → Stop version (suc n) (c ∷ cs) rest → Stop version n cs rest
stop_less version n c cs rest (inl all) = inl (omega arith)
stop_less version n c cs rest (inr wrong) = inr wrong

no_more : (version : ℕ) (n : ℕ) (c : SpelledChunk) (cs : List SpelledChunk) (rest others : List ℕ) → IsChunk version c → rest ≡ flat_map chunk_text (c ∷ cs) ++ others → length (c ∷ cs) ≤ n → Stop version n [] rest → ⊥
no_more version n c cs rest others is parts more (inl all) = omega arith
no_more version n c cs rest others is parts more (inr wrong) =
    none_wrong (chunk_fields version) rest wrong.0 (chunk_again version c (flat_map chunk_text cs ++ others) rest is (parts ∙ append_assoc (chunk_text c) (flat_map chunk_text cs) others)).right wrong.1

same_chunks : (version : ℕ) (n : ℕ) (cs ds : List SpelledChunk) (rest others : List ℕ) → AllByRecursion (IsChunk version) cs → AllByRecursion (IsChunk version) ds → flat_map chunk_text cs ++ rest ≡ flat_map chunk_text ds ++ others → length cs ≤ n → length ds ≤ n → Stop version n cs rest → Stop version n ds others → (cs ≡ ds) × (rest ≡ others)
same_chunks version n [] [] rest others each_c each_d same few_c few_d stop_c stop_d = (refl, same)
same_chunks version n [] (d ∷ ds) rest others each_c each_d same few_c few_d stop_c stop_d = absurd (no_more version n d ds rest others each_d.0 same few_d stop_c)
same_chunks version n (c ∷ cs) [] rest others each_c each_d same few_c few_d stop_c stop_d = absurd (no_more version n c cs others rest each_c.0 (sym same) few_c stop_d)
same_chunks version zero (c ∷ cs) (d ∷ ds) rest others each_c each_d same few_c few_d stop_c stop_d = absurd (omega arith)
same_chunks version (suc n) (c ∷ cs) (d ∷ ds) rest others each_c each_d same few_c few_d stop_c stop_d =
    let text = flat_map chunk_text (c ∷ cs) ++ rest in
    let a = chunk_again version c (flat_map chunk_text cs ++ rest) text each_c.0 (append_assoc (chunk_text c) (flat_map chunk_text cs) rest) in
    let b = chunk_again version d (flat_map chunk_text ds ++ others) text each_d.0 (same ∙ append_assoc (chunk_text d) (flat_map chunk_text ds) others) in
    let first : c ≡ d = sym a.chunk_is ∙ b.chunk_is in
    let later = same_chunks version n cs ds rest others each_c.1 each_d.1 (sym a.rest_is ∙ b.rest_is) (omega arith) (omega arith) (stop_less version n c cs rest stop_c) (stop_less version n d ds others stop_d) in
    ((λ i. first i ∷ later.0 i), later.1)

-- ---- two readings

pub record Same (epoch other count number whole length' : ℕ) (chunks others : List SpelledChunk) (rest left : List ℕ) : Type 0 where
  pub epoch_is : epoch ≡ other
  pub count_is : count ≡ number
  pub whole_is : whole ≡ length'
  pub chunks_are : chunks ≡ others
  pub rest_is : rest ≡ left

same_reading : (version : ℕ) (bytes rest left : List ℕ) (epoch other count number whole length' : ℕ) (chunks others : List SpelledChunk) → Begins version bytes epoch count whole chunks rest → Begins version bytes other number length' others left → length chunks ≤ count → length others ≤ number → Stop version count chunks rest → Stop version number others left
    → Same epoch other count number whole length' chunks others rest left
same_reading version bytes rest left epoch other count number whole length' chunks others a b few_a few_b stop_a stop_b =
    let h = begins_header version bytes rest epoch count whole chunks a in
    let k = begins_header version bytes left other number length' others b in
    let counts : count ≡ number = h.count_is ∙ sym k.count_is in
    let behind = sym (begins_behind version bytes rest epoch count whole chunks a) ∙ begins_behind version bytes left other number length' others b in
    let s = same_chunks version count chunks others rest left a.each b.each behind few_a (omega (arith, few_b, counts)) stop_a (subst (λ (n : ℕ). Stop version n others left) (sym counts) stop_b) in
    record { epoch_is = h.epoch_is ∙ sym k.epoch_is; count_is = counts; whole_is = h.whole_is ∙ sym k.whole_is; chunks_are = s.0; rest_is = s.1 }

zone_begins : (version : ℕ) (bytes : List ℕ) (epoch : ℕ) (chunks : List SpelledChunk) → IsZone version epoch chunks → bytes ≡ zone epoch chunks → Begins version bytes epoch (length chunks) (32 + length (flat_map chunk_text chunks)) chunks []
zone_begins version bytes epoch chunks is spelled = record {
  spelled = spelled ∙ ap (λ t. zone_front epoch (length chunks) (32 + length (flat_map chunk_text chunks)) ++ t) (sym (append-nil (flat_map chunk_text chunks)));
  epoch_fits = is.epoch_fits;
  some = is.some;
  count_fits = is.count_fits;
  whole_fits = is.whole_fits;
  each = is.each;
}

next_stops : (version : ℕ) (count whole place : ℕ) (chunks : List SpelledChunk) (rest : List ℕ) → WrongNext version count whole chunks rest place → Stop version count chunks rest
next_stops version count whole place chunks rest (inl w) = inr (w.at, w.wrong)
next_stops version count whole place chunks rest (inr (inl w)) = inl w.all
next_stops version count whole place chunks rest (inr (inr w)) = inl w.all

next_few : (version : ℕ) (count whole place : ℕ) (chunks : List SpelledChunk) (rest : List ℕ) → WrongNext version count whole chunks rest place → length chunks ≤ count
next_few version count whole place chunks rest (inl w) = omega (arith, w.fewer)
next_few version count whole place chunks rest (inr (inl w)) = omega (arith, w.all)
next_few version count whole place chunks rest (inr (inr w)) = omega (arith, w.all)

-- ---- the laws

pub one_zone : (version : ℕ) (bytes : List ℕ) (epoch other : ℕ) (chunks others : List SpelledChunk) → IsZone version epoch chunks → IsZone version other others → bytes ≡ zone epoch chunks → bytes ≡ zone other others → (epoch ≡ other) × (chunks ≡ others)
one_zone version bytes epoch other chunks others is_a is_b a b =
    let s = same_reading version bytes [] [] epoch other _ _ _ _ chunks others (zone_begins version bytes epoch chunks is_a a) (zone_begins version bytes other others is_b b) (omega arith) (omega arith) (inl refl) (inl refl) in
    (s.epoch_is, s.chunks_are)

nothing_wrong : (version : ℕ) (chunks : List SpelledChunk) (place : ℕ) → WrongNext version (length chunks) (32 + length (flat_map chunk_text chunks)) chunks [] place → ⊥
nothing_wrong version chunks place (inl w) = omega (arith, w.fewer)
nothing_wrong version chunks place (inr (inl w)) = w.differs refl
nothing_wrong version chunks place (inr (inr w)) = omega (arith, w.left)

pub zone_not_wrong : (version : ℕ) (bytes : List ℕ) (epoch place : ℕ) (chunks : List SpelledChunk) → IsZone version epoch chunks → bytes ≡ zone epoch chunks → WrongAt version bytes place → ⊥
zone_not_wrong version bytes epoch place chunks is spelled (inl first) =
    none_wrong zone_fields bytes place (begins_right version bytes [] epoch _ _ chunks (zone_begins version bytes epoch chunks is spelled)) first
zone_not_wrong version bytes epoch place chunks is spelled (inr w) =
    let s = same_reading version bytes w.rest [] w.epoch epoch w.count _ w.whole _ w.chunks chunks w.begins (zone_begins version bytes epoch chunks is spelled) (next_few version w.count w.whole place w.chunks w.rest w.wrong) (omega arith) (next_stops version w.count w.whole place w.chunks w.rest w.wrong) (inl refl) in
    let a = subst (λ (n : ℕ). WrongNext version n w.whole w.chunks w.rest place) s.count_is w.wrong in
    let b = subst (λ (n : ℕ). WrongNext version (length chunks) n w.chunks w.rest place) s.whole_is a in
    let d = subst (λ (cs : List SpelledChunk). WrongNext version (length chunks) (32 + length (flat_map chunk_text chunks)) cs w.rest place) s.chunks_are b in
    nothing_wrong version chunks place (subst (λ (t : List ℕ). WrongNext version (length chunks) (32 + length (flat_map chunk_text chunks)) chunks t place) s.rest_is d)

one_next : (version : ℕ) (count whole p q : ℕ) (chunks : List SpelledChunk) (rest : List ℕ) → WrongNext version count whole chunks rest p → WrongNext version count whole chunks rest q → p ≡ q
one_next version count whole p q chunks rest (inl a) (inl b) = omega (arith, a.place_is, b.place_is, one_wrong (chunk_fields version) rest a.at b.at a.wrong b.wrong)
one_next version count whole p q chunks rest (inl a) (inr (inl b)) = absurd (omega (arith, a.fewer, b.all))
one_next version count whole p q chunks rest (inl a) (inr (inr b)) = absurd (omega (arith, a.fewer, b.all))
one_next version count whole p q chunks rest (inr (inl a)) (inl b) = absurd (omega (arith, a.all, b.fewer))
one_next version count whole p q chunks rest (inr (inl a)) (inr (inl b)) = a.place_is ∙ sym b.place_is
one_next version count whole p q chunks rest (inr (inl a)) (inr (inr b)) = absurd (a.differs b.whole_is)
one_next version count whole p q chunks rest (inr (inr a)) (inl b) = absurd (omega (arith, a.all, b.fewer))
one_next version count whole p q chunks rest (inr (inr a)) (inr (inl b)) = absurd (b.differs a.whole_is)
one_next version count whole p q chunks rest (inr (inr a)) (inr (inr b)) = a.place_is ∙ sym b.place_is

one_behind : (version : ℕ) (bytes : List ℕ) (p q : ℕ) → WrongBehind version bytes p → WrongBehind version bytes q → p ≡ q
one_behind version bytes p q v w =
    let s = same_reading version bytes w.rest v.rest w.epoch v.epoch w.count v.count w.whole v.whole w.chunks v.chunks w.begins v.begins (next_few version w.count w.whole q w.chunks w.rest w.wrong) (next_few version v.count v.whole p v.chunks v.rest v.wrong) (next_stops version w.count w.whole q w.chunks w.rest w.wrong) (next_stops version v.count v.whole p v.chunks v.rest v.wrong) in
    let a = subst (λ (n : ℕ). WrongNext version n w.whole w.chunks w.rest q) s.count_is w.wrong in
    let b = subst (λ (n : ℕ). WrongNext version v.count n w.chunks w.rest q) s.whole_is a in
    let d = subst (λ (cs : List SpelledChunk). WrongNext version v.count v.whole cs w.rest q) s.chunks_are b in
    one_next version v.count v.whole p q v.chunks v.rest v.wrong (subst (λ (t : List ℕ). WrongNext version v.count v.whole v.chunks t q) s.rest_is d)

pub one_place : (version : ℕ) (bytes : List ℕ) (p q : ℕ) → WrongAt version bytes p → WrongAt version bytes q → p ≡ q
one_place version bytes p q (inl a) (inl b) = one_wrong zone_fields bytes p q a b
one_place version bytes p q (inl a) (inr b) = absurd (none_wrong zone_fields bytes p (begins_right version bytes b.rest b.epoch b.count b.whole b.chunks b.begins) a)
one_place version bytes p q (inr a) (inl b) = absurd (none_wrong zone_fields bytes q (begins_right version bytes a.rest a.epoch a.count a.whole a.chunks a.begins) b)
one_place version bytes p q (inr a) (inr b) = one_behind version bytes p q a b

-- ---- what a reader answers

pub all_read : (version : ℕ) (r : Result Zone ZoneError) (bytes : List ℕ) → IfOk r (λ z. (chunks : List SpelledChunk) × Spells version bytes z.epoch z.chunks chunks) → ((place : ℕ) → r ≡ Err (BadZone place) → WrongAt version bytes place)
    → (epoch : ℕ) (chunks : List SpelledChunk) → IsZone version epoch chunks → bytes ≡ zone epoch chunks → MatchResult r (λ z. (z.epoch ≡ epoch) × (z.chunks ≡ entries version 32 chunks)) (λ e. e ≡ NoMemory)
all_read version (Ok z) bytes read wrong epoch chunks is spelled =
    let s = read.1 in
    let one = one_zone version bytes z.epoch epoch read.0 chunks s.is_zone is s.spelled spelled in
    (one.0, s.told_is ∙ ap (entries version 32) one.1)
all_read version (Err (BadZone place)) bytes read wrong epoch chunks is spelled = absurd (zone_not_wrong version bytes epoch place chunks is spelled (wrong place refl))
all_read version (Err NoMemory) bytes read wrong epoch chunks is spelled = refl

pub place_told : (version : ℕ) (r : Result Zone ZoneError) (bytes : List ℕ) → IfOk r (λ z. (chunks : List SpelledChunk) × Spells version bytes z.epoch z.chunks chunks) → ((place : ℕ) → r ≡ Err (BadZone place) → WrongAt version bytes place)
    → (r ≡ Err NoMemory → SomeZone version bytes) → (place : ℕ) → WrongAt version bytes place → r ≡ Err (BadZone place)
place_told version (Ok z) bytes read wrong memory place w = absurd (zone_not_wrong version bytes z.epoch place read.0 read.1.is_zone read.1.spelled w)
place_told version (Err (BadZone other)) bytes read wrong memory place w = ap (λ p. Err (BadZone p)) (one_place version bytes other place (wrong other refl) w)
place_told version (Err NoMemory) bytes read wrong memory place w = let s = memory refl in absurd (zone_not_wrong version bytes s.0 place s.1 s.2 s.3 w)
