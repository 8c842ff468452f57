-- What reading answers is what a line says, and the laws of lines. Assumes nothing.
use Rattle.std.proofs.Common.{◌≡◌, ◌≢◌, refl, subst, sym, ap, ◌∙◌, ◌⊎◌, inl, inr, Bool, true, false, if◌then◌else◌, ◌==◌, List, [], ℕ, ◌%◌, Option, Some, None, Result, Ok, Err, sum, arith}
use Rattle.std.proofs.lemmas.Grind.{common_steps}
use Rattle.std.proofs.lemmas.Option.{same_Some}
use Rattle.common.specs.Refusals.{number}
use Rattle.common.specs.declared.refusal.Refusal.{Refusal}
use Rattle.common.specs.declared.refusal.Refusal.TheVariants.{BadSum}
use Rattle.file.proofs.Found.{line_is_parts, parts_are_line}
use Rattle.file.proofs.Coding.{closed-zero, decoded-encoded, encoded-bytes, encoded-decoded, encoded-some}
use Rattle.file.specs.Frames.{Frame, body, decoded, encoded}
use Rattle.file.specs.Readings.{OneSaying, Reading, Refused, Said, Says, bad_frame, bad_sum, not_a_line, of_frame, reading, of_parts}
use Rattle.file.specs.Again.{DecodedOnly, OneReading, ReadBack}
use Rattle.file.specs.Lines.{IsLine, Parts, line_of, parts}

-- What reading answers is what the line says.

framed_said : (line : List ℕ) (p : Parts) (o : Option Frame) → IsLine line p.frame p.note → sum p.frame % 256 ≡ 0 → decoded p.frame ≡ o → Said line (of_frame p.note o)
unfolding Said
framed_said line p None is closes found =
    bad_frame p.frame p.note is closes (λ f fits same. absurd (grind (arith, found, ap decoded same, decoded-encoded f fits)))
framed_said line p (Some f) is closes found =
    let k = encoded-decoded p.frame is.bytes closes f found in
    (k.0, subst (λ b. IsLine line b p.note) (sym k.1) is)

spoken_said : (line : List ℕ) (p : Parts) → IsLine line p.frame p.note → Said line (of_parts (Some p))
unfolding Said
spoken_said line p is = choose (sum p.frame % 256 == 0) refl
  where
    choose : (b : Bool) → (sum p.frame % 256 == 0) ≡ b → Said line (if b then of_frame p.note (decoded p.frame) else Err BadSum)
    choose true closes = framed_said line p (decoded p.frame) is (grind (arith, common_steps)) refl
    choose false open_ = bad_sum p.frame p.note is (λ closes. grind (arith, common_steps))

parts_said : (line : List ℕ) (o : Option Parts) → parts line ≡ o → Said line (of_parts o)
unfolding Said
parts_said line None found = not_a_line (λ bytes note is. absurd (grind (arith, found, line_is_parts line bytes note is)))
parts_said line (Some p) found = spoken_said line p (parts_are_line line p found)

pub said : (line : List ℕ) (r : Result Reading Refusal) → r ≡ reading line → Said line r
said line r is = subst (Said line) (sym is) (parts_said line (parts line) refl)

frame_in : Option Parts → List ℕ
frame_in None = []
frame_in (Some p) = p.frame

note_of : Option Parts → Option (List ℕ)
note_of None = None
note_of (Some p) = p.note

pub one_reading : OneReading
unfolding frame_in note_of
one_reading line f g m n is also =
    let e = sym (line_is_parts line f m is) ∙ line_is_parts line g n also in
    (ap frame_in e, ap note_of e)

pub decoded_only : DecodedOnly
decoded_only bytes f small closes = encoded-decoded bytes small closes f

pub read_back : ReadBack
read_back f note_is fits are =
    let found = line_is_parts (line_of (encoded f) note_is) (encoded f) note_is (record { some = encoded-some f; bytes = encoded-bytes f fits; prints = are; made = refl }) in
    rw (found, closed-zero (body f), decoded-encoded f fits) refl

-- ---- a line says one thing, or one refusal fits it

something : (line : List ℕ) (r : Result Reading Refusal) → Said line r → ((r : Reading) × Says line r) ⊎ ((n : ℕ) × Refused line n)
unfolding Said
something line (Ok r) says = inl (r, says)
something line (Err e) fits = inr (number e, fits)

one : (line : List ℕ) (r s : Reading) → Says line r → Says line s → r ≡ s
one line r s says also =
    let (bytes, note) = one_reading line (encoded r.frame) (encoded s.frame) r.note s.note says.1 also.1 in
    let frame = same_Some r.frame s.frame (sym (decoded-encoded r.frame says.0) ∙ ap decoded bytes ∙ decoded-encoded s.frame also.0) in
    λ i. record { frame = frame i; note = note i }

-- the bytes of a line, with the sum and without
two_sums : (line f g : List ℕ) (m n : Option (List ℕ)) → IsLine line f m → IsLine line g n → sum f % 256 ≡ 0 → sum g % 256 ≢ 0 → ⊥
two_sums line f g m n is also closes open_ = open_ (ap (λ bytes. sum bytes % 256) (sym (one_reading line f g m n is also).0) ∙ closes)

apart : (line : List ℕ) (r : Reading) (n : ℕ) → Says line r → Refused line n → ⊥
apart line r _ says (not_a_line none) = none (encoded r.frame) r.note says.1
apart line r _ says (bad_sum f m is open_) = two_sums line (encoded r.frame) f r.note m says.1 is (closed-zero (body r.frame)) open_
apart line r _ says (bad_frame f m is _ unfit) = unfit r.frame says.0 (one_reading line (encoded r.frame) f r.note m says.1 is).0

refusal : (line : List ℕ) (m n : ℕ) → Refused line m → Refused line n → m ≡ n
refusal line _ _ (not_a_line _) (not_a_line _) = refl
refusal line _ _ (not_a_line none) (bad_sum f m is _) = absurd (none f m is)
refusal line _ _ (not_a_line none) (bad_frame f m is _ _) = absurd (none f m is)
refusal line _ _ (bad_sum f m is _) (not_a_line none) = absurd (none f m is)
refusal line _ _ (bad_sum _ _ _ _) (bad_sum _ _ _ _) = refl
refusal line _ _ (bad_sum f m is open_) (bad_frame g n also closes _) = absurd (two_sums line g f n m also is closes open_)
refusal line _ _ (bad_frame f m is _ _) (not_a_line none) = absurd (none f m is)
refusal line _ _ (bad_frame f m is closes _) (bad_sum g n also open_) = absurd (two_sums line f g m n is also closes open_)
refusal line _ _ (bad_frame _ _ _ _ _) (bad_frame _ _ _ _ _) = refl

among : (line : List ℕ) (n : ℕ) → Refused line n → (n ≡ 11) ⊎ (n ≡ 12) ⊎ (n ≡ 13)
among line _ (not_a_line _) = inl refl
among line _ (bad_sum _ _ _ _) = inr (inl refl)
among line _ (bad_frame _ _ _ _ _) = inr (inr refl)

pub one_saying : (line : List ℕ) → OneSaying line
one_saying line =
    record { some = something line (reading line) (said line (reading line) refl); apart = apart line; one = one line; refusal = refusal line; among = among line }
