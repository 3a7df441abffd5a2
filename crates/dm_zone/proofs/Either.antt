-- Bytes are a zone, or have a first wrong field.
use Rattle.std.proofs.Common.{◌≡◌, ◌⊎◌, inl, inr, ℕ, zero, suc, ◌+◌, ◌≤◌, Bool, true, false, List, [], ◌∷◌, ◌++◌, length, drop, refl, sym, ap, ◌∙◌, arith, append_assoc}
use Rattle.std.specs.Prelude.{not}
use Rattle.std.specs.Int.{w32, w64}
use Rattle.std.specs.List.{flat_map, AllByRecursion}
use Rattle.std.proofs.lemmas.Bool.{cases_eq, cases_lt}
use Rattle.dm_rules.specs.Version.{chunk_header}
use Rattle.dm_rules.specs.Zone.{SpelledChunk, chunk_text, zone}
use Rattle.dm_zone.specs.Fields.{Field, number_at, chunk_fields, zone_fields, AllRight, FirstWrong}
use Rattle.dm_zone.specs.Grammar.{IsChunk, IsZone}
use Rattle.dm_zone.specs.Reading.{IsHeader, Read, Stops, WrongAt, entries}
use Rattle.dm_zone.proofs.Wide.{IsBytes, IsBytes-drop}
use Rattle.dm_zone.proofs.Headers.{chunk_at, chunk_parts}
use Rattle.dm_zone.proofs.Chunks.{wrong_in_chunk, wrong_length, left_over, spells}

-- all fields are right, or one is the first wrong
abbrev Known : List Field → List ℕ → Type 0
Known fs bytes = AllRight fs bytes ⊎ ((p : ℕ) × FirstWrong fs bytes p)

known_more : (f : Field) (fs : List Field) (bytes : List ℕ) → f.place + f.width bytes ≤ length bytes → (allowed : Bool) → f.allows bytes ≡ allowed → Known fs bytes → Known (f ∷ fs) bytes
known_more f fs bytes there true is (inl right) = inl (record { there = there; allowed = is }, right)
known_more f fs bytes there true is (inr wrong) = inr (wrong.0, inr (inr (record { there = there; allowed = is }, wrong.1)))
known_more f fs bytes there false is later = inr (f.place, inr (inl (record { there = there; refused = ap not is; place_is = refl })))

known : (fs : List Field) (bytes : List ℕ) → Known fs bytes
known [] bytes = inl tt
known (f ∷ fs) bytes =
    elim (cases_lt (length bytes) (f.place + f.width bytes)) [
      | inl cut ↦ inr (length bytes, inl (record { ends = cut; place_is = refl }))
      | inr there ↦ known_more f fs bytes there (f.allows bytes) refl (known fs bytes)
    ]

-- n chunks stand there, or the next is wrong before
pub record Stand (version : ℕ) (text : List ℕ) (n : ℕ) : Type 0 where
  pub chunks : List SpelledChunk
  pub rest : List ℕ
  pub spelled : text ≡ flat_map chunk_text chunks ++ rest
  pub each : AllByRecursion (IsChunk version) chunks
  pub count : length chunks ≡ n

stand_more : (version : ℕ) (text : List ℕ) (n : ℕ) → IsBytes text → AllRight (chunk_fields version) text → Stand version (drop (chunk_header version + number_at w64 32 text) text) n → Stand version text (suc n)
stand_more version text n fits right s =
    let p = chunk_parts version text fits right in
    record {
      chunks = chunk_at version text ∷ s.chunks;
      rest = s.rest;
      spelled = p.parts ∙ ap (λ t. chunk_text (chunk_at version text) ++ t) s.spelled ∙ sym (append_assoc (chunk_text (chunk_at version text)) (flat_map chunk_text s.chunks) s.rest);
      each = (p.is_chunk, s.each);
      count = ap suc s.count;
    }

stops_more : (version : ℕ) (text : List ℕ) (n place : ℕ) → IsBytes text → AllRight (chunk_fields version) text → Stops version (drop (chunk_header version + number_at w64 32 text) text) n place → (later : ℕ) × Stops version text (suc n) later
stops_more version text n place fits right s =
    let p = chunk_parts version text fits right in (
      32 + length (flat_map chunk_text (chunk_at version text ∷ s.chunks)) + s.wrong.at,
      record {
        chunks = chunk_at version text ∷ s.chunks;
        rest = s.rest;
        spelled = p.parts ∙ ap (λ t. chunk_text (chunk_at version text) ++ t) s.spelled ∙ sym (append_assoc (chunk_text (chunk_at version text)) (flat_map chunk_text s.chunks) s.rest);
        each = (p.is_chunk, s.each);
        wrong = record { fewer = omega (arith, s.wrong.fewer); at = s.wrong.at; wrong = s.wrong.wrong; place_is = refl };
      },
    )

stands : (version : ℕ) (n : ℕ) (text : List ℕ) → IsBytes text → Stand version text n ⊎ ((place : ℕ) × Stops version text n place)
stands version zero text fits = inl (record { chunks = []; rest = text; spelled = refl; each = tt; count = refl })
stands version (suc n) text fits =
    elim (known (chunk_fields version) text) [
      | inr w ↦ inr (
        32 + 0 + w.0,
        record { chunks = []; rest = text; spelled = refl; each = tt; wrong = record { fewer = omega arith; at = w.0; wrong = w.1; place_is = refl } },
      )
      | inl right ↦
          elim (stands version n (drop (chunk_header version + number_at w64 32 text) text) (IsBytes-drop (chunk_header version + number_at w64 32 text) text fits)) [
            | inl s ↦ inl (stand_more version text n fits right s)
            | inr s ↦ inr (stops_more version text n s.0 fits right s.1)
          ]
    ]

abbrev Answer : ℕ → List ℕ → Type 0
Answer version bytes = ((epoch : ℕ) × (chunks : List SpelledChunk) × IsZone version epoch chunks × (bytes ≡ zone epoch chunks)) ⊎ ((place : ℕ) × WrongAt version bytes place)

answer_of : (version : ℕ) (bytes : List ℕ) (count epoch whole : ℕ) → IsBytes bytes → AllRight zone_fields bytes → IsHeader count epoch whole bytes → Stand version (drop 32 bytes) count → Answer version bytes
answer_of version bytes count epoch whole fits right h s =
    let end : ℕ = 32 + length (flat_map chunk_text s.chunks) in
    let r : Read version (drop 32 bytes) count (entries version 32 s.chunks) end s.rest = record { chunks = s.chunks; spelled = s.spelled; each = s.each; count = s.count; told_is = refl; place_is = refl } in
    elim (cases_eq whole end) [
      | inr differs ↦ inr (16, wrong_length version bytes s.rest count epoch whole end (entries version 32 s.chunks) fits right h r differs)
      | inl same ↦
          elim (cases_lt 0 (length s.rest)) [
            | inl left ↦ inr (end, left_over version bytes s.rest count epoch whole end (entries version 32 s.chunks) fits right h r same left)
            | inr none ↦
                let z = spells version bytes s.rest count epoch whole end (entries version 32 s.chunks) fits right h r same (omega arith) in
                inl (epoch, z.0, z.1.is_zone, z.1.spelled)
          ]
    ]

pub either : (version : ℕ) (bytes : List ℕ) → IsBytes bytes → Answer version bytes
either version bytes fits =
    elim (known zone_fields bytes) [
      | inr w ↦ inr (w.0, inl w.1)
      | inl right ↦
          let h : IsHeader (number_at w32 4 bytes) (number_at w64 8 bytes) (number_at w64 16 bytes) bytes = record { count_is = refl; epoch_is = refl; whole_is = refl } in
          elim (stands version (number_at w32 4 bytes) (drop 32 bytes) (IsBytes-drop 32 bytes fits)) [
            | inl s ↦ answer_of version bytes _ _ _ fits right h s
            | inr s ↦ inr (s.0, wrong_in_chunk version bytes _ _ _ s.0 fits right h s.1)
          ]
    ]
