-- What a name is, and that it is a part of the sheet file or of the names file. Assumes nothing.
use Rattle.std.proofs.Common.{◌≡◌, ◌≢◌, refl, sym, ap, subst, ◌∙◌, Bool, true, false, if◌then◌else◌, ◌==◌, ◌&&◌, List, [], ◌∷◌, ◌++◌, ℕ, zero, suc, ◌<◌, IfSome, Option, Some, None, arith, drop, filter_map, length, length-append, replicate, slice_index_or, unwrap_or}
use Rattle.std.proofs.lemmas.Grind.{common_steps}
use Rattle.std.proofs.lemmas.List.{append-nil, append_assoc, nil_from_length}
use Rattle.std.proofs.lemmas.List.Splits.{join_with_byte-slice_split}
use Rattle.std.specs.List.{cons_option, concat, join_with_byte, slice_split}
use Rattle.file.proofs.Found.{line_is_parts, parts_are_line}
use Rattle.file.proofs.Cuts.{pieces_are}
use Rattle.file.specs.Lines.{IsLine, Parts, pairs, parts, pieces}
use Rattle.file.specs.Names.{Counted, IsName, IsTaskLine, Named, NoteOf, PartOf, Trimmed, first, later, listed, names_line, noted, other, task_note, task_notes, trimmed}

nothing : (xs : List ℕ) → PartOf [] xs
nothing xs = ([], xs, refl)

within : (xs ys zs : List ℕ) → PartOf xs ys → PartOf ys zs → PartOf xs zs
within xs ys zs (a, b, inner) (c, d, outer) =
    (c ++ a, b ++ d, outer ∙ rw inner (simp append_assoc))

-- ---- blanks at an end

trimmed_front : (xs : List ℕ) → (behind : List ℕ) × (xs ≡ trimmed xs ++ behind)
unfolding trimmed
trimmed_front [] = ([], refl)
trimmed_front (b ∷ bs) = cut (b == 32 && length (trimmed bs) == 0) (trimmed_front bs)
  where
    cut : (t : Bool) → (behind : List ℕ) × (bs ≡ trimmed bs ++ behind) → (behind : List ℕ) × (b ∷ bs ≡ (if t then [] else b ∷ trimmed bs) ++ behind)
    cut true more = (b ∷ bs, refl)
    cut false more = (more.0, ap (λ xs. b ∷ xs) more.1)

trimmed_part : (xs : List ℕ) → PartOf (trimmed xs) xs
trimmed_part xs = let more = trimmed_front xs in ([], more.0, more.1)

nothing_ends : (front : List ℕ) → [] ≢ front ++ 32 ∷ []
nothing_ends front same = absurd (omega (arith, ap length same, length-append front (32 ∷ [])))

ends_behind : (b : ℕ) (xs : List ℕ) → (b ≡ 32 → xs ≡ [] → ⊥) → ((front : List ℕ) → xs ≢ front ++ 32 ∷ []) → (front : List ℕ) → b ∷ xs ≢ front ++ 32 ∷ []
ends_behind b xs one more [] same = one (cc) (ap (drop 1) same)
ends_behind b xs one more (f ∷ front) same = more front (ap (drop 1) same)

trimmed_is : (xs : List ℕ) → Trimmed xs (trimmed xs)
unfolding trimmed
trimmed_is [] = record { blanks = 0; made = refl; none = nothing_ends }
trimmed_is (b ∷ bs) = cut (b == 32 && length (trimmed bs) == 0) refl (trimmed_is bs)
  where
    cut : (t : Bool) → (b == 32 && length (trimmed bs) == 0) ≡ t → Trimmed bs (trimmed bs) → Trimmed (b ∷ bs) (if t then [] else b ∷ trimmed bs)
    cut true is more =
        let blank : b ≡ 32 = grind (arith, common_steps) in
        let none : length (trimmed bs) ≡ 0 = grind (arith, common_steps) in
        record {
          blanks = suc more.blanks;
          made = ap (λ c. c ∷ bs) blank ∙ ap (λ xs. 32 ∷ xs) (more.made ∙ ap (λ xs. xs ++ replicate more.blanks 32) (nil_from_length (trimmed bs) none));
          none = nothing_ends;
        }
    cut false isnt more =
        record {
          blanks = more.blanks;
          made = ap (λ xs. b ∷ xs) more.made;
          none = ends_behind b (trimmed bs) (λ blank nil. let none = ap length nil in absurd (grind (arith, common_steps))) more.none;
        }

trimmed_none : trimmed [] ≡ []
unfolding trimmed
trimmed_none = refl

-- ---- lines of the names

joined_part : (c : ℕ) (xs : List (List ℕ)) (k : ℕ) → PartOf (slice_index_or xs k []) (join_with_byte c xs)
joined_part c [] k = nothing _
joined_part c (x ∷ []) zero = ([], [], sym (append-nil x))
joined_part c (x ∷ []) (suc k) = nothing _
joined_part c (x ∷ y ∷ xs) zero = ([], c ∷ join_with_byte c (y ∷ xs), refl)
joined_part c (x ∷ y ∷ xs) (suc k) =
    within _ (join_with_byte c (y ∷ xs)) _ (joined_part c (y ∷ xs) k) (x ++ c ∷ [], [], rw append-nil (sym (append_assoc x (c ∷ []) (join_with_byte c (y ∷ xs)))))

names_part : (names : List ℕ) (k : ℕ) → PartOf (names_line names k) names
names_part names k = subst (PartOf (names_line names k)) (join_with_byte-slice_split 10 names) (joined_part 10 (slice_split (λ b. b == 10) names) k)

-- ---- notes

note_of_line : (piece frame : List ℕ) (found : Option (List ℕ)) → IsLine piece frame found → PartOf (unwrap_or found []) piece
note_of_line piece frame None is = nothing piece
note_of_line piece frame (Some n) is = (pairs frame ++ 32 ∷ [], 10 ∷ [], is.made ∙ sym (append_assoc (pairs frame) (32 ∷ []) (n ++ 10 ∷ [])))

note_part : (piece n : List ℕ) (o : Option Parts) → parts piece ≡ o → task_note o ≡ Some n → PartOf n piece
note_part piece n None is found = absurd (grind (arith, found))
note_part piece n (Some p) is found =
    let same : unwrap_or p.note [] ≡ n = grind (arith, common_steps) in
    subst (λ xs. PartOf xs piece) same (note_of_line piece p.frame p.note (parts_are_line piece p is))

-- ---- task lines

of_task_line : (piece : List ℕ) (own : Option (List ℕ)) → IsTaskLine piece own → task_note (parts piece) ≡ Some (unwrap_or own [])
of_task_line piece own is = ap task_note (line_is_parts piece is.frame own is.line) ∙ rw is.begins refl

task_line : (piece n : List ℕ) (o : Option Parts) → parts piece ≡ o → task_note o ≡ Some n → (own : Option (List ℕ)) × IsTaskLine piece own × (unwrap_or own [] ≡ n)
task_line piece n None is found = absurd (grind (arith, found))
task_line piece n (Some p) is found = (p.note, record { frame = p.frame; line = parts_are_line piece p is; begins = grind (arith, common_steps) }, grind (arith, common_steps))

abbrev pub notes_in : List (List ℕ) → List (List ℕ)
notes_in ps = filter_map (λ piece. task_note (parts piece)) ps

behind_front : (xs ys : List ℕ) → PartOf ys (xs ++ ys)
behind_front xs ys = (xs, [], rw append-nil refl)

notes_part : (ps : List (List ℕ)) (k : ℕ) → k < length (notes_in ps) → PartOf (slice_index_or (notes_in ps) k []) (concat ps)
notes_part [] k lt = absurd (omega (arith, lt))
notes_part (p ∷ ps) k lt = choose (task_note (parts p)) refl (notes_part ps) k lt
  where
    choose : (o : Option (List ℕ)) → task_note (parts p) ≡ o → ((j : ℕ) → j < length (notes_in ps) → PartOf (slice_index_or (notes_in ps) j []) (concat ps)) → (j : ℕ) → j < length (cons_option o (notes_in ps)) → PartOf (slice_index_or (cons_option o (notes_in ps)) j []) (p ++ concat ps)
    choose None is more j low = within _ (concat ps) _ (more j low) (behind_front p (concat ps))
    choose (Some n) is more zero low = within n p _ (note_part p n (parts p) refl is) ([], concat ps, refl)
    choose (Some n) is more (suc j) low = within _ (concat ps) _ (more j (omega (arith, low))) (behind_front p (concat ps))

note_at : (ps : List (List ℕ)) (k : ℕ) → k < length (notes_in ps) → (note : Option (List ℕ)) × NoteOf note k ps × (unwrap_or note [] ≡ slice_index_or (notes_in ps) k [])
note_at [] k lt = absurd (omega (arith, lt))
note_at (p ∷ ps) k lt = choose (task_note (parts p)) refl (note_at ps) k lt
  where
    choose : (o : Option (List ℕ)) → task_note (parts p) ≡ o → ((j : ℕ) → j < length (notes_in ps) → (note : Option (List ℕ)) × NoteOf note j ps × (unwrap_or note [] ≡ slice_index_or (notes_in ps) j []))
        → (j : ℕ) → j < length (cons_option o (notes_in ps)) → (note : Option (List ℕ)) × NoteOf note j (p ∷ ps) × (unwrap_or note [] ≡ slice_index_or (cons_option o (notes_in ps)) j [])
    choose None is more j low =
        let (note, of, same) = more j low in
        (note, other p j ps (λ own line. absurd (grind (arith, is, of_task_line p own line))) of, same)
    choose (Some n) is more zero low =
        let (note, line, same) = task_line p n (parts p) refl is in
        (note, first p ps line, same)
    choose (Some n) is more (suc j) low =
        let (own, line, e) = task_line p n (parts p) refl is in
        let (note, of, same) = more j (omega (arith, low)) in
        (note, later p own j ps line of, same)

counted_in : {note : Option (List ℕ)} {k : ℕ} {ps : List (List ℕ)} → NoteOf note k ps → k < length (notes_in ps)
counted_in {note = note} (first p ps line) = rw (of_task_line p note line) (omega arith)
counted_in (later p own k ps line of) = let more = counted_in of in rw (of_task_line p own line) (omega (arith, more))
counted_in (other p k ps isnt of) = choose (task_note (parts p)) (counted_in of)
  where
    choose : (o : Option (List ℕ)) → k < length (notes_in ps) → k < length (cons_option o (notes_in ps))
    choose None low = low
    choose (Some n) low = omega (arith, low)

pub counted : Counted
counted file k own of = counted_in of

-- ---- names

blank : (note : Option (List ℕ)) (n : List ℕ) → unwrap_or note [] ≡ n → trimmed n ≡ [] → IfSome note (λ n. Trimmed n [])
blank None n same none = tt
blank (Some m) n same none = subst (Trimmed m) (ap trimmed same ∙ none) (trimmed_is m)

by_note : (file names : List ℕ) (k : ℕ) (note : Option (List ℕ)) (n : List ℕ) → NoteOf note k (pieces file) → unwrap_or note [] ≡ n → trimmed n ≢ [] → PartOf (trimmed n) file → IsName file names k (trimmed n)
by_note file names k None n of same some part = absurd (some (ap trimmed (sym same) ∙ trimmed_none))
by_note file names k (Some m) n of same some part = noted m of (subst (Trimmed m) (ap trimmed same) (trimmed_is m)) some part

pub named : Named
named file names k lt = choose (length own == 0) refl
  where
    n : List ℕ
    n = slice_index_or (task_notes file) k []

    own : List ℕ
    own = trimmed n

    choose : (t : Bool) → (length own == 0) ≡ t → IsName file names k (if t then trimmed (names_line names k) else own)
    choose true is =
        let (note, of, same) = note_at (pieces file) k lt in
        let none : length own ≡ 0 = grind (arith, common_steps) in
        let listed_part = within _ (names_line names k) _ (trimmed_part (names_line names k)) (names_part names k) in
        listed note of (blank note n same (nil_from_length own none)) (trimmed_is (names_line names k)) listed_part
    choose false isnt =
        let (note, of, same) = note_at (pieces file) k lt in
        let part = within own n _ (trimmed_part n) (subst (PartOf n) (pieces_are file).whole (notes_part (pieces file) k lt)) in
        by_note file names k note n of same (λ nil. let none = ap length nil in absurd (grind (arith, common_steps))) part
